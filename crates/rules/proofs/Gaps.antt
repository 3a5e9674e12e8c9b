-- A key in the gap that hashes down to the held one is taken, and one past it is not, whatever chain, section and key. Assumes nothing.
use Prim.Native.Nat.{ℕ, ◌+◌, ◌-◌, ◌≤◌, ◌<◌}
use mathlib.Core.Path.{◌≡◌}
use mathlib.Core.List.{List}
use borrow.Author.Tests.{lt-ltb, le-ltb}
use Rattle.laws.proofs.Same.{same_equal}
use Rattle.rules.specs.Chain.{Held, held, sent_slot, walk, key_fits, higher}
use Rattle.rules.specs.Mack.{Proved, block_key, spare_bits, too_far, block_checks, block_proved}
use Rattle.rules.specs.declared.Chain.{Chain}

pub gap_taken : (c : Chain) (g prn first : ℕ) (m : List ℕ) (h : Held) (b : ℕ) → h.slot < sent_slot c g b prn → sent_slot c g b prn ≤ first + 1000000 → walk c (sent_slot c g b prn - h.slot) h.slot (block_key c m b) ≡ h.key → spare_bits c m b ≡ 0 → block_proved c g prn first m h b ≡ record { code = 0; held = held (sent_slot c g b prn) (block_key c m b) }
unfolding block_proved block_checks too_far key_fits higher
gap_taken c g prn first m h b above near fits spare =
    let slot = sent_slot c g b prn in
    rw (le-ltb (first + 1000000) slot near, lt-ltb h.slot slot above, same_equal (walk c (slot - h.slot) h.slot (block_key c m b)) h.key fits, spare)

pub gap_refused : (c : Chain) (g prn first : ℕ) (m : List ℕ) (h : Held) (b : ℕ) → first + 1000000 < sent_slot c g b prn → block_proved c g prn first m h b ≡ record { code = 13; held = h }
unfolding block_proved block_checks too_far
gap_refused c g prn first m h b far = rw (lt-ltb (first + 1000000) (sent_slot c g b prn) far)
