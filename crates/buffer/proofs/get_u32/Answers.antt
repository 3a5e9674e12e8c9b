-- `buffer::get_u32` meets its contract: the number of four bytes, the first the highest.
use Rattle.laws.specs.Bytes.{u32at}
use native.Mathlib.Omega.{arith}
use Rattle.buffer.proofs.get_u32.Goals as goal

pub returns : goal.returns
unfolding u32at
returns c = omega (arith, c.from_be_bytes.ensures)
