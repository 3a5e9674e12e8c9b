-- The replay program at worked inputs, computed over the rules: the example of 01 ("The replay program"), the numbers that the program gives
-- itself, and a tag record's line. Assumes nothing.
use Prim.Native.Nat.{ℕ, ◌+◌}
use mathlib.Core.Path.{◌≡◌, refl}
use mathlib.Core.List.{List, [], ◌∷◌, ◌++◌}
use lib.ListN.{take, replicate}
use Rattle.laws.specs.Bytes.{be4, u32at}
use Rattle.laws.specs.Lists.{part, splice, same}
use Rattle.rules.specs.Bits.{bit, bits, filled}
use Rattle.rules.specs.Calls.{mark_valid, marks_valid, start_unfit, start_lengths, start_checks, fresh, start_call, word_unfit, word_checks, word_call, subframe_checks, subframe_call}
use Rattle.rules.specs.Kroot.{no_offer}
use Rattle.rules.specs.Navdata.{word_type, svid_of}
use Rattle.rules.specs.PublicKeys.{key_length, with_key}
use Rattle.rules.specs.Replay as Replay
use Rattle.rules.specs.Replay.{replay, record_length}
use Rattle.rules.specs.Received.{field_came, fields_came, received}
use Rattle.rules.specs.State.{shaped, word_shaped, stopped, last_subframe, last_subframe_of, last_word_of, prn_valid}
use Rattle.rules.specs.Times.{gst, week_of, second_of, time_valid, stamp_of}

-- "Short parts are filled with zeros"
abbrev whole : List ℕ → List ℕ
whole l = filled record_length l

abbrev start36 : List ℕ
start36 = whole (1 ∷ 36 ∷ [])

abbrev word_for : ℕ → List ℕ
word_for prn = whole (2 ∷ prn ∷ be4 (gst 947 432000))

abbrev zeros_from : ℕ → List ℕ
zeros_from prn = whole (3 ∷ prn ∷ be4 (gst 947 432000))

-- a line of single digits
abbrev line : ℕ → ℕ → ℕ → List ℕ
line place first second = (48 + place) ∷ 32 ∷ (48 + first) ∷ 32 ∷ (48 + second) ∷ 32 ∷ 48 ∷ 10 ∷ []

-- "A good start, a word for PRN 37, and 75 zero bytes from PRN 18 at 947/432000 print: 1 0 0 0, 2 2 0 0, 3 5 5 0"
pub example : replay (start36 ++ (word_for 37 ++ zeros_from 18)) ≡ line 1 0 0 ++ (line 2 2 0 ++ line 3 5 5)
unfolding be4 u32at part splice same bit bits filled mark_valid marks_valid start_unfit start_lengths start_checks start_call word_unfit word_checks word_call subframe_checks subframe_call field_came fields_came received word_type svid_of shaped word_shaped stopped last_subframe last_subframe_of last_word_of prn_valid gst week_of second_of time_valid stamp_of fresh key_length with_key no_offer replay Replay.kind_of Replay.start_of Replay.word_of Replay.marks_of Replay.subframe_of Replay.start_answered Replay.word_answered Replay.subframe_answered Replay.answered Replay.digit Replay.digits_of Replay.decimal Replay.ended Replay.answer_line Replay.record_lines Replay.lines_of Replay.replayed Replay.replayed_up_to Replay.record_count Replay.blank_core Replay.unread
example = refl

-- before a start: a word, a sub-frame, a verdict, kinds 0 and 5; then a start of which one byte is missing
abbrev unstarted : List ℕ
unstarted = word_for 18 ++ (zeros_from 18 ++ (whole (4 ∷ []) ++ (whole [] ++ (whole (5 ∷ []) ++ take 255 start36))))

-- "A last record under 256 bytes is 1 and 0, another kind 2, anything of kinds 2 to 4 before a start 11 (twice for a sub-frame)."
pub own_numbers : replay unstarted
    ≡ (49 ∷ 32 ∷ 49 ∷ 49 ∷ 32 ∷ 48 ∷ 32 ∷ 48 ∷ 10 ∷ [])
    ++ ((50 ∷ 32 ∷ 49 ∷ 49 ∷ 32 ∷ 49 ∷ 49 ∷ 32 ∷ 48 ∷ 10 ∷ [])
    ++ ((51 ∷ 32 ∷ 49 ∷ 49 ∷ 32 ∷ 48 ∷ 32 ∷ 48 ∷ 10 ∷ [])
    ++ (line 4 2 0 ++ (line 5 2 0 ++ line 6 1 0))))
unfolding be4 part filled gst replay Replay.kind_of Replay.word_answered Replay.subframe_answered Replay.verdict_answered Replay.answered Replay.digit Replay.digits_of Replay.decimal Replay.ended Replay.answer_line Replay.record_lines Replay.lines_of Replay.replayed Replay.replayed_up_to Replay.record_count Replay.blank_core Replay.unread
own_numbers = refl

-- "each tag record .. as 24 hexadecimal digits in capitals": the second record of an area
pub record_line : Replay.record_line (replicate 12 0 ++ (1 ∷ 18 ∷ 36 ∷ 12 ∷ 2 ∷ 4 ∷ 0 ∷ 0xAB ∷ 0x3B ∷ 0x36 ∷ 0x97 ∷ 0xEF ∷ [])) 1
    ≡ 48 ∷ 49 ∷ 49 ∷ 50 ∷ 50 ∷ 52 ∷ 48 ∷ 67 ∷ 48 ∷ 50 ∷ 48 ∷ 52 ∷ 48 ∷ 48 ∷ 65 ∷ 66 ∷ 51 ∷ 66 ∷ 51 ∷ 54 ∷ 57 ∷ 55 ∷ 69 ∷ 70 ∷ 10 ∷ []
unfolding part Replay.digit Replay.hexadecimal Replay.record_line
record_line = refl
