-- SHA-3's definitions at published messages, computed. Assumes nothing.
use mathlib.Core.Path.{◌≡◌, refl}
use mathlib.Core.List.{[], ◌∷◌}
use lib.ListN.{replicate}
use Rattle.laws.specs.Lists.{part}
use Rattle.sha3.specs.Sha3 as S
use Rattle.hash_vectors.specs.Sha3.{Sha3Examples}

abc : S.sha3_224 (0x61 ∷ 0x62 ∷ 0x63 ∷ []) ≡ 0xe6 ∷ 0x42 ∷ 0x82 ∷ 0x4c ∷ 0x3f ∷ 0x8c ∷ 0xf2 ∷ 0x4a ∷ 0xd0 ∷ 0x92 ∷ 0x34 ∷ 0xee ∷ 0x7d ∷ 0x3c ∷ 0x76 ∷ 0x6f ∷ 0xc9 ∷ 0xa3 ∷ 0xa5 ∷ 0x16 ∷ 0x8d ∷ 0x0c ∷ 0x94 ∷ 0xad ∷ 0x73 ∷ 0xb4 ∷ 0x6f ∷ 0xdf ∷ []
unfolding S.sha3_224 S.sponge S.padded S.padding S.squeezed S.absorbed S.absorb S.block S.added S.lanes S.lane_at S.bytes S.lane_bytes S.keccak_f S.rounds S.round S.steps S.ι S.χ S.π S.ρ S.θ S.applied S.effects S.columns S.offsets S.visited S.rotl S.inverted S.state S.at S.up_to S.RC S.constant_bits S.rc S.register part
abc = refl

two_blocks : S.sha3_256 (replicate 200 0xa3) ≡ 0x79 ∷ 0xf3 ∷ 0x8a ∷ 0xde ∷ 0xc5 ∷ 0xc2 ∷ 0x03 ∷ 0x07 ∷ 0xa9 ∷ 0x8e ∷ 0xf7 ∷ 0x6e ∷ 0x83 ∷ 0x24 ∷ 0xaf ∷ 0xbf ∷ 0xd4 ∷ 0x6c ∷ 0xfd ∷ 0x81 ∷ 0xb2 ∷ 0x2e ∷ 0x39 ∷ 0x73 ∷ 0xc6 ∷ 0x5f ∷ 0xa1 ∷ 0xbd ∷ 0x9d ∷ 0xe3 ∷ 0x17 ∷ 0x87 ∷ []
unfolding S.sha3_256 S.sponge S.padded S.padding S.squeezed S.absorbed S.absorb S.block S.added S.lanes S.lane_at S.bytes S.lane_bytes S.keccak_f S.rounds S.round S.steps S.ι S.χ S.π S.ρ S.θ S.applied S.effects S.columns S.offsets S.visited S.rotl S.inverted S.state S.at S.up_to S.RC S.constant_bits S.rc S.register part
two_blocks = refl

pub sha3_examples : Sha3Examples
sha3_examples = record { abc = abc; two_blocks = two_blocks }
