-- The exported calls: an answer and what is then in the memory that was lent. Each call is total: where a length is not as it must be
-- it answers 1 and leaves everything as it was; otherwise it answers 0.
use Rattle.std.specs.Prelude.{Bool, ◌&&◌, List, [], ◌∷◌, ℕ, length}
use Rattle.laws.specs.Refusal.{Check, refuse, first_refusal, unless, neb}
use Rattle.aes.specs.Aes.{rounds_of, expanded, cipher}
use Rattle.cmac.specs.Cmac.{cmac, kept_of, cmac_with}

-- an answer, and what the lent memory then holds
pub record Answer : Type 0 where
  pub code : ℕ
  pub now : List ℕ

abbrev pub answer : ℕ → List ℕ → Answer
answer n l = record { code = n; now = l }

-- the answer of a call whose checks are cs, which writes `new` over `old`
abbrev pub answered : List Check → List ℕ → List ℕ → Answer
answered cs new old = answer (first_refusal cs) (unless (first_refusal cs) new old)

-- a key is 16, 24 or 32 bytes
unfoldable pub not_key : ℕ → Bool
not_key n = neb n 16 && (neb n 24 && neb n 32)

-- a block and a code are 16 bytes
abbrev pub not_block : List ℕ → Bool
not_block out = neb (length out) 16

unfoldable pub expand_call : List ℕ → List ℕ → Answer
expand_call key out = answered (refuse (not_key (length key)) 1 ∷ refuse (neb (length out) 240) 1 ∷ []) (expanded key) out

-- n is the number of bytes of the key whose round keys are w
unfoldable pub encrypt_call : ℕ → List ℕ → List ℕ → List ℕ → Answer
encrypt_call n w block out =
    answered
    (refuse (not_key n) 1 ∷ refuse (neb (length w) 240) 1 ∷ refuse (not_block out) 1 ∷ [])
    (cipher (rounds_of n) w block)
    out

unfoldable pub cmac_call : List ℕ → List ℕ → List ℕ → Answer
cmac_call key m out = answered (refuse (not_key (length key)) 1 ∷ refuse (not_block out) 1 ∷ []) (cmac key m) out

unfoldable pub cmac_key_call : List ℕ → List ℕ → Answer
cmac_key_call key kept = answered (refuse (not_key (length key)) 1 ∷ []) (kept_of key) kept

unfoldable pub cmac_with_call : List ℕ → List ℕ → List ℕ → Answer
cmac_with_call kept m out = answered (refuse (not_block out) 1 ∷ []) (cmac_with kept m) out
