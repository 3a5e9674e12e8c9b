-- `tag_codes::macseq_message` meets its contract: after j turns the front is the message of the first j fields.
use mathlib.Core.Path.{◌≡◌}
use Prim.Native.Nat.{◌+◌, ◌*◌, ◌≤◌}
use lib.ListN.{length, take}
use Rattle.rules.specs.Mack.{field_at}
use Rattle.rules.specs.Tags.{macseq_message}
use Rattle.tags.specs.Layout.{section}
use Rattle.tag_codes.proofs.macseq_message.Given as goal

abbrev pub invariant-loop-j : goal.invariant-loop-j
invariant-loop-j l = record {
  whole : length l.out ≡ 33;
  place : l.k.used ≡ field_at l.c l.j;
  room : l.n ≤ 5 + 2 * l.j;
  front : take l.n l.out ≡ macseq_message l.config l.c (section l.prn l.time 0 l.mack) l.j;
}
