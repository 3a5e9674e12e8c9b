-- `kroot::store_offer` meets its contract: the parts follow one another.
use mathlib.Core.Path.{◌≡◌, ◌∙◌}
use Prim.Native.Nat.{◌+◌}
use lib.ListN.{length, length-set}
use native.Mathlib.Omega.{arith}
use Rattle.laws.specs.Lists.{part}
use Rattle.laws.proofs.Splice.{length_part}
use Rattle.rules.specs.State.{offer_length}
use Rattle.kroot.proofs.Judged.{first_three, stored}
use Rattle.kroot.proofs.store_offer.Goals as goal
use Rattle.kroot.proofs.store_offer.Goals.{After-copy_part, After-copy_part-2, After-fill}

-- the region is as long as it was
long1 : (c : After-copy_part) → length c.copy_part.new.dst ≡ offer_length
long1 c = c.copy_part.auto.dst ∙ simp length-set (omega arith)

long2 : (c : After-fill) → length c.fill.new.dst ≡ offer_length
long2 c = c.fill.auto.dst ∙ c.copy_part.auto.dst ∙ simp length-set (omega arith)

long3 : (c : After-copy_part-2) → length c.copy_part-2.new.dst ≡ offer_length
long3 c = c.copy_part-2.auto.dst ∙ c.fill.auto.dst ∙ c.copy_part.auto.dst ∙ simp length-set (omega arith)

pub copy_part-requires : goal.copy_part-requires
copy_part-requires c = (simp length-set (omega arith), omega arith)

pub fill-requires : goal.fill-requires
fill-requires c = omega (arith, long1 (goal.at.fill-requires c).After-copy_part)

pub copy_part-requires-2 : goal.copy_part-requires-2
copy_part-requires-2 c = (omega (arith, long2 (goal.at.copy_part-requires-2 c).After-fill), omega arith)

pub fill-requires-2 : goal.fill-requires-2
fill-requires-2 c = omega (arith, long3 (goal.at.fill-requires-2 c).After-copy_part-2)

pub returns : goal.returns
returns c =
    let g = c.args in
    let p = part g.d.now 1 (12 + g.width) in
    let s = part g.d.now (13 + g.width) g.signed in
    let lo : length g.offer.now ≡ offer_length = omega arith in
    let lp : length p ≡ 12 + g.width = length_part g.d.now 1 (12 + g.width) (omega arith) in
    let ls : length s ≡ g.signed = length_part g.d.now (13 + g.width) g.signed (omega arith) in
    rw (c.fill-2.ensures, c.copy_part-2.ensures, c.fill.ensures, c.copy_part.ensures, first_three g.offer.now g.id g.header g.width g.signed p s lo lp ls (omega arith) (omega arith))
    (stored g.offer.now g.id g.header g.width g.signed p s lo lp ls (omega arith) (omega arith))
