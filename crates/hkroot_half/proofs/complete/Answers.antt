-- `hkroot_half::complete` meets its contract: the DSM stands in the lent blocks, and its ID says how it is judged.
use Prim.Native.Nat.{◌*◌}
use mathlib.Core.Path.{refl}
use borrow.Author.Tests.{le-leb, lt-leb}
use Rattle.std.proofs.Common.{Ok, Err}
use Rattle.std.proofs.lemmas.Result.{err_from_is_err_and}
use Rattle.hkroot_half.specs.declared.Half.TheVariants.{Goes}
use Rattle.laws.proofs.Splice.{range_part}
use Rattle.hkroot_half.proofs.Halves.{kroot_done_lem, pkr_done_lem}
use Rattle.hkroot_half.proofs.complete.Goals as goal

pub returns-in_err-kroot_judge : goal.returns-in_err-kroot_judge
returns-in_err-kroot_judge c =
    let p = err_from_is_err_and c.from_residual.result c.from_residual.ensures.1 in (
      λ s left ec ek eo.
          let g = c.args in
          rw (
            p.1,
            p.2,
            ← c.dsm_id_of-id.ensures.0,
            le-leb c.dsm_id_of-id.result 11 c.if-id-le11.true,
            ← (range_part g.blocks.now (c.dsm_id_of-id.result * 208) g.n),
            ← c.header_of.ensures,
          )
          (kroot_done_lem s left _ _ _ _ _ _ (Err c.in_err-kroot_judge.field-0.0) ec ek eo refl c.in_err-kroot_judge.ensures),
      rw (← c.dsm_id_of-id.ensures.0) c.dsm_id_of-id.ensures.1,
    )

pub returns-then-id-le11 : goal.returns-then-id-le11
returns-then-id-le11 c = (
  λ s left ec ek eo.
      let g = c.args in
      rw (
        ← c.dsm_id_of-id.ensures.0,
        le-leb c.dsm_id_of-id.result 11 c.if-id-le11.true,
        ← (range_part g.blocks.now (c.dsm_id_of-id.result * 208) g.n),
        ← c.header_of.ensures,
      )
      (kroot_done_lem s left _ _ _ _ _ _ (Ok Goes) ec ek eo refl c.in_ok-kroot_judge.ensures),
  rw (← c.dsm_id_of-id.ensures.0) c.dsm_id_of-id.ensures.1,
)

pub returns : goal.returns
returns c = (
  λ s left ec ek eo.
      let g = c.args in
      let e = c.renewed.ensures in
      rw (
        ← c.dsm_id_of-id.ensures.0,
        lt-leb c.dsm_id_of-id.result 11 c.if-id-le11.false,
        ← (range_part g.blocks.now (c.dsm_id_of-id.result * 208) g.n),
      )
      (pkr_done_lem s left _ _ _ _ _ _ _ ec ek eo e.0.0 e.0.1 e.1.0 e.1.1),
  rw (← c.dsm_id_of-id.ensures.0) c.dsm_id_of-id.ensures.1,
)
