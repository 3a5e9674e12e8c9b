-- `mack::next_key` meets its contract: a block's key and spare bits stand at the places that the rules compute.
use mathlib.Core.Path.{◌≡◌}
use mathlib.Core.List.{List}
use Prim.Native.Nat.{ℕ, ◌+◌, ◌≤◌}
use native.Mathlib.Omega.{arith}
use lib.ListN.{replicate}
use Rattle.laws.specs.Lists.{splice}
use Rattle.rules.specs.Kroot.{block_bits}
use Rattle.rules.specs.Mack as S
use Rattle.rules.specs.declared.Chain.{Chain}
use Rattle.mack.specs.Read.{block_read}
use Rattle.mack.proofs.Places.{bits_high, block_inside, block_follows}
use Rattle.mack.proofs.next_key.Goals as goal
use Rattle.mack.proofs.next_key.Goals.{Start}

pub overflow_mul-fields : goal.overflow_mul-fields
overflow_mul-fields c =
    omega (arith, c.requires.0.fields.fields_fit, bits_high c.args.c.nmack)

-- the block ends inside the section
inside : (c : Start) → c.args.k.used + block_bits c.args.c.nmack ≤ 480
inside c = rw c.requires.1.0 (block_inside c.args.c c.requires.0.fields c.args.b c.requires.1.1.0 c.requires.1.1.1)

pub take_block-t-requires : goal.take_block-t-requires
take_block-t-requires c =
    let f = c.requires.0 in
    let e = c.rest_bits.ensures in
    (omega (arith, inside (goal.at.take_block-t-requires c).Start, f.fields.fields_fit, f.key_fits, e), (f.width_high, omega (arith, f.few_spare, e)))

-- a block is read when its three parts are
parts : (c : Chain) (m key : List ℕ) (b spare used : ℕ) → key ≡ splice (replicate 32 0) 0 (S.block_key c m b) → spare ≡ S.spare_bits c m b → used ≡ S.block_at c (b + 1)
    → record { key = key; spare = spare; next = record { used = used } } ≡ block_read c m b
parts c m key b spare used e f g = rw (e, f, g)

pub returns : goal.returns
unfolding S.block_key S.key_at S.spare_bits
returns c =
    let g = c.args in
    let f = c.requires.0 in
    let t = c.take_block-t.ensures in
    let r = c.rest_bits.ensures in
    parts g.c g.m.now _ g.b _ _
    (rw (t, c.requires.1.0))
    (rw (t, r, c.requires.1.0))
    (rw (t, r, c.requires.1.0, block_follows g.c g.b c.requires.1.1.0) (omega (arith, f.fields.fields_fit, f.key_fits)))
