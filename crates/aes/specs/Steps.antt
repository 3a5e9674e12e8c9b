-- A state by its columns, each the number of its four bytes, and how far a key's expansion has come.
use Rattle.std.specs.Prelude.{List, ◌++◌, map, ℕ, ◌-◌, length, get_or, replicate}
use Rattle.laws.specs.Bytes.{be4}
use Rattle.aes.specs.Aes as S

-- the bytes of a state, of its columns s
unfoldable pub bytes_of : List ℕ → List ℕ
bytes_of s = be4 (get_or s 0 0) ++ (be4 (get_or s 1 0) ++ (be4 (get_or s 2 0) ++ be4 (get_or s 3 0)))

-- each byte times x
unfoldable pub doubled : List ℕ → List ℕ
doubled b = map S.xtime b

-- MixColumns of the column whose bytes are b
unfoldable pub mixed : List ℕ → List ℕ
mixed b = S.mix_column (get_or b 0 0) (get_or b 1 0) (get_or b 2 0) (get_or b 3 0)

-- the key's words k, n words more, and zeros to 240 bytes
unfoldable pub filled : ℕ → List ℕ → ℕ → List ℕ
filled nk k n = let w = S.key_words nk k n in w ++ replicate (240 - length w) 0
