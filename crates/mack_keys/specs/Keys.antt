-- What the check of a section's keys hands back, against what the rules say (rules/specs/Mack.antt): a number and a slot by value, and
-- the highest key proved in the first bytes of the lent key. And which keys are kept on the way; that changes no answer.
use Rattle.std.specs.Prelude.{ℕ, ◌≤◌, ◌<◌, ◌^◌, ◌≡◌, true, cond, List, take, replicate}
use Rattle.laws.specs.Lists.{splice}
use Rattle.rules.specs.Chain.{Held, held, key_fits, higher, sent_slot}
use Rattle.rules.specs.Mack as S
use Rattle.rules.specs.Mack.{Proved}
use Rattle.rules.specs.Received.{key_came, block_received}
use Rattle.rules.specs.Refusals.{refusal_number}
use Rattle.rules.specs.declared.Chain.{Chain}
use Rattle.rules.specs.declared.Refusal.{Refusal}
use Rattle.chain.specs.declared.Way.{Way}
use Rattle.chain.specs.Sound.{OnWay}
use Rattle.mack_keys.specs.declared.Highest.{Highest}
use Rattle.mack_keys.specs.declared.Section.{Section}

pub record Hands (p : Proved) (code slot : ℕ) (before after : List ℕ) : Type 0 where
  pub code_is : code ≡ p.code
  pub slot_is : slot ≡ p.held.slot
  pub key_is : after ≡ splice before 0 p.held.key

-- what the check of one key gives: it fits the highest key so far, or 12
unfoldable pub checked : Chain → Held → ℕ → List ℕ → Proved
checked c h slot k = cond (key_fits c h slot k) (record { code = 0; held = higher h slot k }) (record { code = 12; held = h })

-- the key of slot `via` is kept where it lies between slot `low` and slot `high`
abbrev pub Keeps : ℕ → ℕ → ℕ → Way → Type 0
Keeps low via high w = low ≤ via → via ≤ high → w.near ≡ via

-- block 1's sent key, of slot `own`, is kept, and the key of slot `via` where it lies between that and slot `high`
pub record KeepsOwn (own via high : ℕ) (w : Way) : Type 0 where
  pub own_is : w.low ≡ own
  pub passed : Keeps own via high w

-- block b gives this number and a highest key of this slot, where `sent` and `spare` are its key and its spare bits
abbrev pub Gives : Section → ℕ → List ℕ → ℕ → Highest → List ℕ → List ℕ → ℕ → ℕ → Type 0
Gives s b sent spare top before after code slot =
    (m : List ℕ) → sent ≡ splice (replicate 32 0) 0 (S.block_key s.c m b) → spare ≡ S.spare_bits s.c m b
    → Hands (block_received s.c s.time s.prn s.first m s.marks (held top.slot (take s.c.width before)) b) code slot before after

-- Block b is taken after the highest key `top`, which had the bytes `before`: the highest key is now `new`, of the bytes `after`.
pub record Takes (s : Section) (b : ℕ) (sent : List ℕ) (spare : ℕ) (top : Highest) (before after : List ℕ) (new : Highest) : Type 0 where
  pub gives : Gives s b sent spare top before after 0 new.slot
  pub slot_high : new.slot < 2 ^ 34
  pub on_way : OnWay s.c (held top.slot (take s.c.width before)) top.way → OnWay s.c (held new.slot (take s.c.width after)) new.way
  pub keeps : (low : ℕ) → Keeps low s.via top.slot top.way → Keeps low s.via new.slot new.way
  pub own : b ≡ 1 → key_came s.c s.marks b ≡ true → KeepsOwn (sent_slot s.c s.time b s.prn) s.via new.slot new.way
  pub own_stays : (b ≡ 1 → ⊥) → new.way.low ≡ top.way.low

-- it is refused, and the highest key stays
pub record Refuses (s : Section) (b : ℕ) (sent : List ℕ) (spare : ℕ) (top : Highest) (before after : List ℕ) (e : Refusal) : Type 0 where
  pub gives : Gives s b sent spare top before after (refusal_number e) top.slot
  pub is_refused : 1 ≤ refusal_number e
  pub key_stays : after ≡ before
