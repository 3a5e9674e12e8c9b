-- `chain::walk` meets its contract: the hash is the one that HF names.
use native.Mathlib.Omega.{arith}
use borrow.Author.Rules.{rules}
use Rattle.chain.proofs.Hashes.{by_compress, sponge_224, sponge_256}
use Rattle.chain.proofs.walk.Goals as goal

pub walk_by-requires : goal.walk_by-requires
walk_by-requires c = ((c.requires.0, (sponge_224 c.args.c c.in-1.is c.requires.0.width_fits).hashes), search rules)

pub walk_by-requires-in-2 : goal.walk_by-requires-in-2
walk_by-requires-in-2 c = ((c.requires.0, (sponge_256 c.args.c c.in-2.is c.requires.0.width_fits).hashes), search rules)

pub walk_by-requires-in_default : goal.walk_by-requires-in_default
walk_by-requires-in_default c = ((c.requires.0, by_compress c.args.c (λ e. omega arith) (λ e. omega arith) c.requires.0.width_fits), search rules)
