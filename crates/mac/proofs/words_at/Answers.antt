-- `mac::words_at` meets its contract: each word is read at its place.
use Rattle.mac.proofs.HmacBytes.{eight}
use Rattle.mac.proofs.words_at.Goals as goal

pub returns : goal.returns
returns c =
    let g = c.args in
    eight g.kept.now g.at c.get_u32.ensures c.get_u32-2.ensures c.get_u32-3.ensures c.get_u32-4.ensures c.get_u32-5.ensures c.get_u32-6.ensures c.get_u32-7.ensures c.get_u32-8.ensures
