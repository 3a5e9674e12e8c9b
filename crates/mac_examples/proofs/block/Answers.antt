-- `mac_examples::block` is safe: a key has at most 14 rounds, whose keys are 240 bytes.
use lib.ListN.{length}
use native.Mathlib.Omega.{arith}
use Rattle.aes.proofs.Lengths.{rounds_range}
use Rattle.mac_examples.proofs.block.Goals as goal

pub cipher-requires : goal.cipher-requires
cipher-requires g c =
    let n = rounds_range (length c.args.key.now) in
    let e = c.rounds_of.ensures in
    (omega arith, omega arith)
