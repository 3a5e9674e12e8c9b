-- The steps with SHA3, computed. Assumes nothing.
use mathlib.Core.Path.{refl}
use Rattle.laws.specs.Bytes as Bytes
use Rattle.laws.specs.Lists as Lists
use Rattle.sha3.specs.Sha3 as S
use Rattle.rules.specs.Chain as Chain
use Rattle.rules.specs.Times as Times
use Rattle.rules_examples.specs.Sha3Steps.{Sha3Steps}

pub sha3_steps : Sha3Steps
unfolding Times.gst Times.gst_of Times.slot_seconds Chain.slot_time Chain.chain_hash Chain.key_step Bytes.be4 Lists.part S.sha3_224 S.sha3_256 S.sponge S.squeezed S.absorbed S.absorb S.block S.padded S.padding S.added S.lanes S.lane_at S.bytes S.lane_bytes S.keccak_f S.rounds S.round S.steps S.ι S.RC S.constant_bits S.rc S.register S.χ S.inverted S.π S.ρ S.offsets S.visited S.θ S.applied S.effects S.columns S.rotl S.state S.at S.up_to
sha3_steps = record { step_224 = refl; step_96 = refl }
