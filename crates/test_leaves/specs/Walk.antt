-- A walk down a key chain as one call for C and Rust: what is out of range is refused with 1 and leaves the key as it was.
use Rattle.std.specs.Prelude.{ℕ, ◌+◌, ◌^◌, cond, not, List, [], ◌∷◌, leb, ltb, take}
use Rattle.laws.specs.Lists.{splice}
use Rattle.laws.specs.Refusal.{Check, refuse, first_refusal, unless}
use Rattle.rules.specs.Bits.{within}
use Rattle.rules.specs.Chain.{hash_bytes, walk}
use Rattle.rules.specs.declared.Chain.{Chain}

-- the number, and the 32 bytes of the key
pub record Walked : Type 0 where
  pub code : ℕ
  pub key : List ℕ

abbrev pub gave : ℕ → List ℕ → Walked
gave code key = record { code = code; key = key }

-- bytes of the longest key: a digest's, by HF; none for HF 3 or more
unfoldable pub longest_key : ℕ → ℕ
longest_key hf = cond (ltb 2 hf) 0 (hash_bytes hf)

-- NS 1 to 36, NMACK 1 to 3, keys from 12 bytes to the longest, a root before 2 ^ 33 seconds, slots up to 2 ^ 34
unfoldable pub walk_checks : ℕ → ℕ → ℕ → ℕ → ℕ → ℕ → ℕ → List Check
walk_checks hf ns nmack root width n m =
    refuse (not (within 1 36 ns)) 1
    ∷ refuse (not (within 1 3 nmack)) 1
    ∷ refuse (not (within 12 (longest_key hf) width)) 1
    ∷ refuse (leb (2 ^ 33) root) 1
    ∷ refuse (not (leb (m + n) (2 ^ 34))) 1
    ∷ []

unfoldable pub osnma_walk : Chain → ℕ → ℕ → List ℕ → Walked
osnma_walk c n m key =
    let code = first_refusal (walk_checks c.hf c.ns c.nmack c.root c.width n m) in
    gave code (unless code (splice key 0 (walk c n m (take c.width key))) key)
