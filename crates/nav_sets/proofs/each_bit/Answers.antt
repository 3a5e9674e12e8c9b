-- `nav_sets::each_bit` carries the table of a set's bits in its contract. Assumes nothing.
use Rattle.nav_sets.proofs.EachBit.{each_bit, table_ends}
use Rattle.nav_sets.proofs.each_bit.Goals as goal

pub returns : goal.returns
returns c = record { each_bit = each_bit; table_ends = table_ends }
