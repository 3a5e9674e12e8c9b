-- What the code keeps between records as the rules have it, and what a call gives, written from numbers and what is kept.
use Rattle.std.specs.Prelude.{ℕ}
use Rattle.rules.specs.State.{State, state}
use Rattle.rules.specs.Replay.{Session, Answered}
use Rattle.replay_answers.specs.declared.Core.{Core}
use Rattle.replay_answers.specs.declared.Session as Code

-- the sixteen regions
abbrev pub state_of : Core → State
state_of c =
    state c.config c.clocks c.words c.stamps c.blocks c.headers c.present c.since
    c.pubkeys c.offer c.chain c.numbers c.heldkey c.waiting c.sets c.arrivals

abbrev pub session_of : Code.Session → Session
session_of s = record { core = state_of s.core; area = s.area; started = s.started }

-- the two answers, the count of tag records, and what is left
abbrev pub gave : ℕ → ℕ → ℕ → Session → Answered
gave first second count next = record { first = first; second = second; count = count; next = next }
