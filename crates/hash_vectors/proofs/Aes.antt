-- AES's definition at a published block, computed. Assumes nothing.
use mathlib.Core.Path.{◌≡◌, refl}
use mathlib.Core.List.{[], ◌∷◌}
use Rattle.laws.specs.Lists.{part}
use Rattle.aes.specs.Aes as A
use Rattle.hash_vectors.specs.Aes.{AesExamples, key, plaintext}

c_1 : A.aes key plaintext ≡ 0x69 ∷ 0xc4 ∷ 0xe0 ∷ 0xd8 ∷ 0x6a ∷ 0x7b ∷ 0x04 ∷ 0x30 ∷ 0xd8 ∷ 0xcd ∷ 0xb7 ∷ 0x80 ∷ 0x70 ∷ 0xb4 ∷ 0xc5 ∷ 0x5a ∷ []
unfolding A.aes A.cipher A.rounds A.round A.add_round_key A.mix_columns A.mix_column A.shift_rows A.at A.sub_bytes A.sub_byte A.affine A.affine_bits A.affine_bit A.bit A.inverse A.times A.times_bits A.xtime A.xored A.expanded A.key_schedule A.key_bytes A.key_words A.next_word A.temp A.rcon A.x_power A.rot_word A.word A.rounds_of A.nk_of part
c_1 = refl

pub aes_examples : AesExamples
aes_examples = record { c_1 = c_1 }
