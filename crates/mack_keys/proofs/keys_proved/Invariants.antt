-- `mack_keys::keys_proved` meets its contract: after some turns it has what so many blocks give, keys met from the highest of them, and the cursor
use Rattle.mack_keys.proofs.Judged.{Blocks}
use Rattle.mack_keys.proofs.keys_proved.Given as goal

abbrev pub invariant-loop-done : goal.invariant-loop-done
invariant-loop-done l = Blocks l.c l.g l.prn l.marks l.slot l.via l.m l.initial.key l.key l.done l.top l.k.used
