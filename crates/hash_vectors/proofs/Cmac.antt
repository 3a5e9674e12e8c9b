-- CMAC's definition at a published message, computed. Assumes nothing.
use mathlib.Core.Path.{◌≡◌, refl}
use mathlib.Core.List.{[], ◌∷◌}
use Rattle.laws.specs.Lists.{part}
use Rattle.aes.specs.Aes as A
use Rattle.cmac.specs.Cmac as M
use Rattle.hash_vectors.specs.Cmac.{CmacExamples, key, message}

example_3 : M.cmac key message ≡ 0xdf ∷ 0xa6 ∷ 0x67 ∷ 0x47 ∷ 0xde ∷ 0x9a ∷ 0xe6 ∷ 0x30 ∷ 0x30 ∷ 0xca ∷ 0x32 ∷ 0x61 ∷ 0x14 ∷ 0x97 ∷ 0xc8 ∷ 0x27 ∷ []
unfolding M.cmac M.mac M.chained M.block M.last_block M.padded M.rest M.blocks M.K1 M.K2 M.doubled M.R128 M.zero_block M.bit M.shifted A.aes A.cipher A.rounds A.round A.add_round_key A.mix_columns A.mix_column A.shift_rows A.at A.sub_bytes A.sub_byte A.affine A.affine_bits A.affine_bit A.bit A.inverse A.times A.times_bits A.xtime A.xored A.expanded A.key_schedule A.key_bytes A.key_words A.next_word A.temp A.rcon A.x_power A.rot_word A.word A.rounds_of A.nk_of part
example_3 = refl

pub cmac_examples : CmacExamples
cmac_examples = record { example_3 = example_3 }
