-- What is shown of the rules beside the claim; functions of this crate have it as their contracts.
use Rattle.std.specs.Prelude.{ℕ, ◌+◌, ◌-◌, ◌≤◌, ◌<◌, ◌≡◌, List}
use Rattle.cmac.specs.Cmac.{truncated}
use Rattle.rules.specs.Bits.{bits}
use Rattle.rules.specs.Chain.{Held, held, sent_slot, walk}
use Rattle.rules.specs.Mack.{block_key, spare_bits, block_proved}
use Rattle.rules.specs.Orders.{orders}
use Rattle.rules.specs.Points.{points, Right, All}
use Rattle.rules.specs.Tags.{mac_code, mac_bits}
use Rattle.rules.specs.declared.Chain.{Chain}

-- 01's "Known points": the two tables, and of the gap between keys what no table can compute, a walk of 1,000,000 steps
pub record KnownPoints : Type 0 where
  pub points : All Right points
  pub orders : All Right orders
  -- "P gap 1,000,000 taken": of any chain, with any key held when the section came (`first` is its slot) and any proved since. The key of block b is
  -- above it by whatever it takes to stay in the gap, hashes down to it, and has no spare bit: it is taken
  pub gap_taken : (c : Chain) (g prn first : ℕ) (m : List ℕ) (h : Held) (b : ℕ) → h.slot < sent_slot c g b prn → sent_slot c g b prn ≤ first + 1000000 → walk c (sent_slot c g b prn - h.slot) h.slot (block_key c m b) ≡ h.key → spare_bits c m b ≡ 0 → block_proved c g prn first m h b ≡ record { code = 0; held = held (sent_slot c g b prn) (block_key c m b) }
  -- "P 1,000,001 is 13.": and nothing changes, whatever the key
  pub gap_refused : (c : Chain) (g prn first : ℕ) (m : List ℕ) (h : Held) (b : ℕ) → first + 1000000 < sent_slot c g b prn → block_proved c g prn first m h b ≡ record { code = 13; held = h }

-- 02, P1: "truncation for a tag of any size": what a tag or MACSEQ is compared with are the bits that SP 800-38B's truncation (6.2, step 7) leaves of the
-- code, for either function, any key, message and number of bits; cmac's Shown.antt says what it leaves
pub record TagTruncation : Type 0 where
  pub tag_bits : (mf n : ℕ) (key message : List ℕ) → mac_bits mf n key message ≡ bits (truncated n (mac_code mf key message)) 0 n
