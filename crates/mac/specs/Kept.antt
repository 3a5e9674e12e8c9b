-- What is kept of a key, so that each further message under it costs no work on the key: 273 bytes for both functions.
-- The code itself is the rules' `mac_code` (rules/specs/Tags.antt).
use Rattle.std.specs.Prelude.{ℕ, ◌+◌, cond, List, [], ◌∷◌, ◌++◌, eqb}
use Rattle.laws.specs.Bytes.{u32at}
use Rattle.sha256.specs.Sha256.{bytes}
use Rattle.hmac.specs.Hmac.{key_of}
use Rattle.hmac.specs.declared.HmacKey.{HmacKey}
use Rattle.cmac.specs.Cmac as Cmac
use Rattle.rules.specs.Bits.{filled}

-- HMAC's two hash values as bytes, then zeros
unfoldable pub hmac_kept : HmacKey → List ℕ
hmac_kept h = filled 273 (bytes h.inner ++ bytes h.outer)

-- what is kept of a key by the function that MF names
unfoldable pub kept_of : ℕ → List ℕ → List ℕ
kept_of mf k = cond (eqb mf 1) (Cmac.kept_of k) (hmac_kept (key_of k))

-- the eight words from place a
unfoldable pub words_at : List ℕ → ℕ → List ℕ
words_at d a =
    u32at d a
    ∷ u32at d (a + 4)
    ∷ u32at d (a + 8)
    ∷ u32at d (a + 12)
    ∷ u32at d (a + 16)
    ∷ u32at d (a + 20)
    ∷ u32at d (a + 24)
    ∷ u32at d (a + 28)
    ∷ []
