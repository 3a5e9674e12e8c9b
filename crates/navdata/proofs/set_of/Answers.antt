-- `navdata::set_of` meets its contract: all of the array is replaced.
use Rattle.rules.specs.Navdata.{set_of}
use Rattle.rules.proofs.Parts.{length-set_of}
use Rattle.laws.proofs.Splice.{splice_whole}
use Rattle.navdata.proofs.set_of.Goals as goal

pub returns : goal.returns
returns c =
    let g = c.args in
    rw c.set_bytes.ensures (splice_whole _ (set_of g.words.now g.prn) (length-set_of g.words.now g.prn))
