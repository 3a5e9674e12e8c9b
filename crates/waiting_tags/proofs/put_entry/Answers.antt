-- `waiting_tags::put_entry` meets its contract: 15 bytes and the set, one right after the other.
use Prim.Native.Nat.{◌*◌}
use native.Mathlib.Omega.{arith}
use Rattle.waiting_tags.proofs.Entries.{entry_spliced}
use Rattle.rules.specs.State.{entry_length}
use Rattle.waiting_tags.proofs.put_entry.Goals as goal

pub returns : goal.returns
returns c =
    let g = c.args in
    rw (c.copy_at-2.ensures, c.copy_at.ensures, c.to_be_bytes-time.ensures, c.to_be_bytes-bits.ensures)
    (entry_spliced g.waiting.now (g.k * entry_length) g.t g.set.now (omega arith) (omega arith))
