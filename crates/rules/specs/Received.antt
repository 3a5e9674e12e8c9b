-- Sub-frames of which fields are missing (02, P3): which fields came, which items of a MACK section, and what becomes of keys and tags of which a bit
-- is lost. The rules of 01 stand in Mack.antt and Tags.antt, and are asked where every bit came.
use Rattle.std.specs.Prelude.{ℕ, zero, suc, ◌+◌, ◌-◌, ◌*◌, ◌/◌, ◌%◌, ◌^◌, Bool, true, cond, not, ◌&&◌, ◌||◌, List, [], ◌∷◌, ◌++◌, leb, eqb, replicate}
use Rattle.laws.specs.Lists.{part}
use Rattle.laws.specs.Refusal.{refuse, first_refusal, unless, neb}
use Rattle.rules.specs.Bits.{bits, any_of}
use Rattle.rules.specs.Chain.{Held}
use Rattle.rules.specs.Mack.{field_at, key_at, spare_bits, Proved, block_proved}
use Rattle.rules.specs.State.{Nav}
use Rattle.rules.specs.Tags.{Section, Work, flexible, told, own_judged}
use Rattle.rules.specs.declared.Chain.{Chain}
use Rattle.rules.specs.declared.Tag.{Tag}

-- ---- the fields of a sub-frame

-- "fifteen marks, one a field, 1 for received", as sixteen bits: field 0 has the first, and the last is not read (B12). There is no field 15 to miss.
unfoldable pub field_came : ℕ → ℕ → Bool
field_came marks k = leb 15 k || eqb (marks / 2 ^ (15 - k) % 2) 1

-- how many of the first n fields came
unfoldable pub fields_came : ℕ → ℕ → ℕ
fields_came marks zero = 0
fields_came marks (suc n) = fields_came marks n + cond (field_came marks n) 1 0

-- the first n fields as they came: zero bytes stand for a field that did not, whatever was lent for it (B11). So "a lost spare bit is not judged".
unfoldable pub received : ℕ → List ℕ → ℕ → List ℕ
received marks f zero = []
received marks f (suc n) = received marks f n ++ cond (field_came marks n) (part f (5 * n) 5) (replicate 5 0)

-- ---- the items of a MACK section

-- every one of the n bits from bit `at` of the section on came: a field brings 32 of them
unfoldable pub bits_came : ℕ → ℕ → ℕ → Bool
bits_came marks at zero = true
bits_came marks at (suc n) = bits_came marks at n && field_came marks ((at + n) / 32)

-- their number, or 0 where one of them is lost
unfoldable pub shown : List ℕ → ℕ → ℕ → ℕ → ℕ
shown m marks at n = cond (bits_came marks at n) (bits m at n) 0

-- block b's key (blocks from 1)
unfoldable pub key_came : Chain → ℕ → ℕ → Bool
key_came c marks b = bits_came marks (key_at c b) (8 * c.width)

-- field j's tag, and its PRN, ADKD and IOD (000, 4.1.4)
unfoldable pub tag_came : Chain → ℕ → ℕ → Bool
tag_came c marks j = bits_came marks (field_at c j) c.ms

unfoldable pub info_came : Chain → ℕ → ℕ → Bool
info_came c marks j = bits_came marks (field_at c j + c.ms) 16

-- the MAC-Info of the flexible ones of the first n fields
unfoldable pub flexible_came : List ℕ → Chain → ℕ → ℕ → ℕ → Bool
flexible_came config c time marks zero = true
flexible_came config c time marks (suc j) = flexible_came config c time marks j && (not (flexible config time j) || info_came c marks j)

-- MACSEQ and all that it is made of
unfoldable pub macseq_came : List ℕ → Chain → ℕ → ℕ → Bool
macseq_came config c time marks = bits_came marks c.ms 12 && flexible_came config c time marks (c.nmack * c.fields)

-- ---- the keys of a section

-- "A missing key .. leaves that block's key unchecked, by 13 too." Spare bits that came are judged (B7)
unfoldable pub block_received : Chain → ℕ → ℕ → ℕ → List ℕ → ℕ → Held → ℕ → Proved
block_received c g prn first m marks h b =
    cond (key_came c marks b)
    (block_proved c g prn first m h b)
    (record { code = first_refusal (refuse (neb (spare_bits c m b) 0) 12 ∷ []); held = h })

-- the first n blocks, as `keys_proved`
unfoldable pub keys_received : Chain → ℕ → ℕ → List ℕ → ℕ → Held → ℕ → Proved
keys_received c g prn m marks h zero = record { code = 0; held = h }
keys_received c g prn m marks h (suc b) =
    let p = keys_received c g prn m marks h b in
    unless p.code (block_received c g prn h.slot m marks p.held (suc b)) p

-- ---- the section's own tags

-- "A missing key makes all tags of its block outcome 8"; "A missing tag, or missing MAC-Info of a fixed field but the first, is outcome 8. A missing
-- MACSEQ or flexible MAC-Info makes all flexible tags outcome 8."
unfoldable pub field_lost : List ℕ → Chain → ℕ → ℕ → ℕ → Bool
field_lost config c time marks j =
    any_of
    (not (key_came c marks (j / c.fields + 1))
    ∷ not (tag_came c marks j)
    ∷ cond (flexible config time j) (not (macseq_came config c time marks)) (not (eqb j 0) && not (info_came c marks j))
    ∷ [])

-- what the record of outcome 8 says of field j: "0 for a PRN or ADKD with a lost bit"; tag0 is the sender's own, ADKD 0. It has no tag bits.
unfoldable pub lost_tag : Chain → Section → ℕ → ℕ → Tag
lost_tag c x marks j =
    record {
      sender = x.prn;
      prn = cond (eqb j 0) x.prn (shown x.mack marks (field_at c j + c.ms) 8);
      adkd = cond (eqb j 0) 0 (shown x.mack marks (field_at c j + c.ms + 8) 4);
      block = j / c.fields + 1;
      position = j % c.fields + 1;
      time = x.time;
      status = x.status;
      bits = 0;
    }

-- field j of the section: "Outcome 8 stands before the others and carries IODnav 0"
unfoldable pub field_judged : List ℕ → Nav → Chain → Held → Section → ℕ → ℕ → Work → Work
field_judged config nav c h x marks j w =
    cond (field_lost config c x.time marks j) (told c.ms 8 (lost_tag c x marks j) [] w) (own_judged config nav c h x j w)

-- the first n fields, in order, as `owns_judged`
unfoldable pub fields_judged : List ℕ → Nav → Chain → Held → Section → ℕ → ℕ → Work → Work
fields_judged config nav c h x marks zero w = w
fields_judged config nav c h x marks (suc j) w = field_judged config nav c h x marks j (fields_judged config nav c h x marks j w)
