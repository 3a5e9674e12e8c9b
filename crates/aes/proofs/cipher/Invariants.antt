-- `aes::cipher` meets its contract: before turn i the state is that after i - 1 rounds.
use mathlib.Core.Path.{◌≡◌}
use Prim.Native.Nat.{◌-◌}
use Rattle.aes.specs.Aes as S
use Rattle.aes.specs.Steps as C
use Rattle.aes.proofs.cipher.Given as goal

abbrev pub invariant-loop-i : goal.invariant-loop-i
invariant-loop-i l = C.bytes_of l.s ≡ S.rounds l.w (C.bytes_of l.initial.s) (l.i - 1)
