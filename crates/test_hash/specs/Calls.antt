-- The exported calls: an answer and what is then in the memory that was lent. Each call is total: where a length is not as it must be
-- it answers 1 and leaves everything as it was; otherwise it answers 0.
use Rattle.std.specs.Prelude.{Bool, List, [], ◌∷◌, ◌++◌, ℕ, ◌+◌, ◌-◌, ◌^◌, leb, length}
use Rattle.laws.specs.Lists.{part}
use Rattle.laws.specs.Refusal.{Check, refuse, first_refusal, unless, neb}
use Rattle.sha256.specs.Sha256.{sha256}
use Rattle.hmac.specs.declared.HmacKey.{HmacKey}
use Rattle.hmac.specs.Hmac.{hmac, key_of, hmac_with}

-- an answer, and what the lent memory then holds
pub record Answer : Type 0 where
  pub code : ℕ
  pub now : List ℕ

abbrev pub answer : ℕ → List ℕ → Answer
answer n l = record { code = n; now = l }

-- the answer of a call whose checks are cs, which writes `new` over `old`
abbrev pub answered : List Check → List ℕ → List ℕ → Answer
answered cs new old = answer (first_refusal cs) (unless (first_refusal cs) new old)

-- SHA-256 takes messages of fewer than 2 ^ 61 bytes (FIPS 180-4, 1)
abbrev pub too_long : ℕ → Bool
too_long n = leb (2 ^ 61) n

-- a digest is 32 bytes
abbrev pub not_digest : List ℕ → Bool
not_digest out = neb (length out) 32

unfoldable pub sha256_call : List ℕ → List ℕ → Answer
sha256_call m out = answered (refuse (not_digest out) 1 ∷ refuse (too_long (length m)) 1 ∷ []) (sha256 m) out

unfoldable pub sha256_of_two_call : List ℕ → List ℕ → List ℕ → Answer
sha256_of_two_call a b out =
    answered
    (refuse (not_digest out) 1 ∷ refuse (too_long (length a)) 1 ∷ refuse (too_long (length b)) 1 ∷ refuse (too_long (length a + length b)) 1 ∷ [])
    (sha256 (a ++ b))
    out

-- the digest d, of n bytes, of a hash that takes messages of any length
unfoldable pub digest_call : ℕ → List ℕ → List ℕ → Answer
digest_call n d out = answered (refuse (neb (length out) n) 1 ∷ []) d out

unfoldable pub hmac_call : List ℕ → List ℕ → List ℕ → Answer
hmac_call k m out =
    answered
    (refuse (not_digest out) 1 ∷ refuse (too_long (length k)) 1 ∷ refuse (leb (2 ^ 61 - 64) (length m)) 1 ∷ [])
    (hmac k m)
    out

-- a kept key is sixteen words: the inner hash value, and then the outer
unfoldable pub words : HmacKey → List ℕ
words k = k.inner ++ k.outer

unfoldable pub key_in : List ℕ → HmacKey
key_in s = record { inner = part s 0 8; outer = part s 8 8 }

unfoldable pub hmac_key_call : List ℕ → List ℕ → Answer
hmac_key_call k state = answered (refuse (neb (length state) 16) 1 ∷ refuse (too_long (length k)) 1 ∷ []) (words (key_of k)) state

unfoldable pub hmac_with_call : List ℕ → List ℕ → List ℕ → Answer
hmac_with_call state m out =
    answered
    (refuse (neb (length state) 16) 1 ∷ refuse (not_digest out) 1 ∷ refuse (leb (2 ^ 61 - 64) (length m)) 1 ∷ [])
    (hmac_with (key_in state) m)
    out
