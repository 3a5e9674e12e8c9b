-- `aes::expand_key` meets its contract: before turn i the words below i stand, and zeros after them; x is the last of those words.
use mathlib.Core.Path.{◌≡◌}
use Prim.Native.Nat.{◌*◌, ◌-◌}
use Rattle.laws.specs.Lists.{part}
use Rattle.laws.specs.Bytes.{be4}
use Rattle.aes.specs.Aes as S
use Rattle.aes.specs.Steps as C
use Rattle.aes.proofs.expand_key.Given as goal

abbrev pub invariant-loop-i : goal.invariant-loop-i
invariant-loop-i l = (l.w ≡ C.filled l.nk (S.key_bytes l.key) (l.i - l.nk)) × (be4 l.x ≡ part l.w (4 * (l.i - 1)) 4)
