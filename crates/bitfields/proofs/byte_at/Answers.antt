-- `bitfields::byte_at` meets its contract: the byte is a whole byte, or the middle of two.
use mathlib.Core.Path.{◌≡◌}
use Prim.Native.Nat.{◌+◌, ◌*◌}
use native.Mathlib.Omega.{arith}
use lib.ListN.{get_or}
use Rattle.bitfields.proofs.Fields.{byte_whole, byte_pair}
use Rattle.bitfields.proofs.byte_at.Goals as goal

pub returns-then-r-eq0 : goal.returns-then-r-eq0
returns-then-r-eq0 c =
    let g = c.args in
    byte_whole g.s.now g.k g.r c.if-r-eq0.true (omega (arith, c.type_inv.s g.k))

pub returns : goal.returns
returns c =
    let g = c.args in
    let e : c.from_be_bytes-pair.result ≡ get_or g.s.now g.k 0 * 256 + get_or g.s.now (g.k + 1) 0 = c.from_be_bytes-pair.ensures in
    rw e (byte_pair g.s.now g.k g.r (omega arith) (omega (arith, c.type_inv.s g.k)) (omega (arith, c.type_inv.s (g.k + 1))))
