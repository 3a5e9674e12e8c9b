-- The three tags that are told before the slow tag match, computed once for SlowTagRun and SlowTagFour, and what they share once for all three. Assumes
-- nothing.
use Prim.Native.Nat.{ℕ}
use mathlib.Core.Path.{◌≡◌, refl, sym, ap, ◌∙◌}
use mathlib.Core.List.{List, [], ◌∷◌}
use lib.ListN.{get_or}
use Rattle.hmac.proofs.Kept.{kept}
use Rattle.hmac.specs.Hmac.{key_of, hmac_with}
use Rattle.hmac.specs.declared.HmacKey.{HmacKey}
use Rattle.rules.specs.Bits.{bits}
use Rattle.rules.specs.Claim.{Counted, Each}
use Rattle.rules.specs.Tags.{mac_bits, mac_code, tag_message}
use Rattle.rules.specs.declared.Tag.{Tag}
use Rattle.rules_examples.proofs.Opened.{opened}
use Rattle.rules_examples.specs.SlowTag.{key1, first_three, old_set}

-- under a kept key
abbrev macs_under : HmacKey → List ℕ → List Counted → List ℕ
macs_under k navdata [] = []
macs_under k navdata (c ∷ cs) = bits (hmac_with k (tag_message c.tag navdata)) 0 12 ∷ macs_under k navdata cs

abbrev bits_of : List Counted → List ℕ
bits_of [] = []
bits_of (c ∷ cs) = c.tag.bits ∷ bits_of cs

all_right : macs_under (key_of key1) old_set first_three ≡ bits_of first_three
unfolding opened
all_right = refl

mac : (t : Tag) → bits (hmac_with (key_of key1) (tag_message t old_set)) 0 12 ≡ t.bits → mac_bits 0 12 key1 (tag_message t old_set) ≡ t.bits
unfolding mac_bits mac_code
mac t right = ap (λ (code : List ℕ). bits code 0 12) (sym (kept key1 (tag_message t old_set))) ∙ right

pub macs : Each (λ (c : Counted). mac_bits 0 12 key1 (tag_message c.tag old_set) ≡ c.tag.bits) first_three
macs = (mac _ (place 0), (mac _ (place 1), (mac _ (place 2), tt)))
  where
    place : (i : ℕ) → get_or (macs_under (key_of key1) old_set first_three) i 0 ≡ get_or (bits_of first_three) i 0
    place i = ap (λ (l : List ℕ). get_or l i 0) all_right
