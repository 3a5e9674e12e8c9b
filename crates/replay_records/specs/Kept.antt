-- What the program keeps between records, as the rules have it.
use Rattle.rules.specs.Replay.{Replay}
use Rattle.replay_answers.specs.Answers.{session_of}
use Rattle.replay_records.specs.declared.Replay as Code

abbrev pub replay_of : Code.Replay → Replay
replay_of r = record { session = session_of r.session; place = r.place }
