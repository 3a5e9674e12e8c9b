-- The points that 01 marks P ("Known points") and some beside them: what the rules give, and what 01 or 02 says. One table; proofs/Points.antt shows that it is right.
use Rattle.std.specs.Prelude.{ℕ, zero, suc, ◌+◌, ◌-◌, ◌*◌, ◌≡◌, List, [], ◌∷◌, ◌++◌, get_or, take, replicate}
use Rattle.laws.specs.Refusal.{first_refusal}
use Rattle.rules.specs.Calls.{Start, fresh, subframe_checks, four_read, progress_read}
use Rattle.rules.specs.Candidates.{SetPair, Agreement, agreed}
use Rattle.rules.specs.Chain.{held, sent_slot}
use Rattle.rules.specs.Four.{age_at, recent_count}
use Rattle.rules.specs.Gather.{blocks_for, gathered}
use Rattle.rules.specs.Kroot.{fields_for, kroot_checks}
use Rattle.rules.specs.Mack.{block_checks}
use Rattle.rules.specs.State.{blocks_length, dsm_ids, arrivals_length, copy_length, area_length, four_lent, progress_lent}
use Rattle.rules.specs.Times.{stamp_of, gst, gst_of, slot_of, slot_seconds, hour_seconds, tag_slot}
use Rattle.rules.specs.declared.Chain.{Chain}

-- a point: what a rule gives at some arguments, and what 01 says that it is
pub record Point : Type 0 where
  pub rule : ℕ
  pub says : ℕ

abbrev pub point : ℕ → ℕ → Point
point rule says = record { rule = rule; says = says }

-- the slot of the key that E`prn` sends, with NS 36 and NMACK 2
abbrev pub slot36 : ℕ → ℕ → ℕ → ℕ
slot36 s b prn = slot_of 36 2 s b prn

-- a start with nothing in it
abbrev pub blank_start : Start
blank_start = record { ns = 36; id = 0; type = 0; maclt = 0; marks = replicate 28 0; root = replicate 32 0; key = replicate 67 0 }

-- the number for a sub-frame at this second of week 947, to a core that has just started
abbrev pub number_at_second : ℕ → ℕ
number_at_second second =
    first_refusal (subframe_checks (fresh blank_start) (replicate area_length 0) (record { prn = 18; time = gst 947 second; marks = 65535; bytes = replicate 75 1 }))

-- the number for a first block 0 with this NB
abbrev pub number_for_blocks : ℕ → ℕ
number_for_blocks nb =
    (gathered (record { blocks = replicate blocks_length 0; headers = replicate dsm_ids 0; present = replicate dsm_ids 0; since = replicate dsm_ids 0 }) (gst 947 432000) (0x52 ∷ 0 ∷ nb * 16 ∷ replicate 12 0)).code

-- the number for a DSM-KROOT of KS 128, NMACK 3 and this MS code, under a held key of type 0: 7 blocks, the rest zeros
abbrev pub number_for_tag_size : ℕ → ℕ
number_for_tag_size ms =
    first_refusal (kroot_checks (1 ∷ []) [] (0x10 ∷ 0x30 ∷ (4 * 16 + ms) ∷ 0 ∷ 0x03 ∷ 0xB3 ∷ 0x78 ∷ replicate 84 0))

-- the number that the first two checks (7, 8) of a DSM-KROOT give, with this MF and KS code, NMACK 1, MS 10, the rest zeros
abbrev pub number_for_function : ℕ → ℕ → ℕ
number_for_function mf ks =
    first_refusal (take 2 (kroot_checks (1 ∷ []) [] (0x10 ∷ (0x10 + mf) ∷ (ks * 16) ∷ 0 ∷ 0x03 ∷ 0xB3 ∷ 0x78 ∷ replicate 84 0)))

-- the same with this HF and KS code
abbrev pub number_for_hash : ℕ → ℕ → ℕ
number_for_hash hf ks =
    first_refusal (take 2 (kroot_checks (1 ∷ []) [] (0x10 ∷ (0x10 + 4 * hf) ∷ (ks * 16) ∷ 0 ∷ 0x03 ∷ 0xB3 ∷ 0x78 ∷ replicate 84 0)))

-- a chain with NS 36, NMACK 2 and the root of week 1 hour 0
abbrev pub gap_chain : Chain
gap_chain = record { ns = 36; nmack = 2; root = hour_seconds 1 0; alpha = replicate 6 0; hf = 0; mf = 0; width = 16; ms = 12; fields = 4 }

-- the slot of the key in block 2 of E`prn` at 1/416640
abbrev pub slot_for_gap : ℕ → ℕ
slot_for_gap prn = sent_slot gap_chain (gst 1 416640) 2 prn

-- the number that this block's own list gives by its first check, where the root is held. That its key is then taken is `gap_taken` of Known.antt
abbrev pub number_for_gap : ℕ → ℕ
number_for_gap prn = first_refusal (take 1 (block_checks gap_chain (gst 1 416640) prn 0 (replicate 60 0) (held 0 (replicate 16 0)) 2))

-- the GST_SF of a slot, with NS 36, NMACK 2 and the root of week 947 hour 120
abbrev pub time_of_slot : ℕ → ℕ
time_of_slot m = gst_of (slot_seconds 36 2 (hour_seconds 947 120) m)

-- a satellite whose authentic set is of 7s with a tag of time 100, and whose candidate is of 8s with this time of its latest tag and this total; a tag
-- of so many bits and this time agrees with a set of `fill`s
abbrev pub after_tag : ℕ → ℕ → ℕ → ℕ → ℕ → Agreement
after_tag ms time fill latest total =
    agreed ms (stamp_of time) (replicate copy_length fill)
    (record { set = replicate copy_length 7; stamp = stamp_of 100; candidate = replicate copy_length 8; latest = stamp_of latest; total = total })

-- the first byte of the authentic set then, and of the candidate
abbrev pub set_after_tag : ℕ → ℕ → ℕ → ℕ → ℕ → ℕ
set_after_tag ms time fill latest total = get_or (after_tag ms time fill latest total).pair.set 0 0

abbrev pub candidate_after_tag : ℕ → ℕ → ℕ → ℕ → ℕ → ℕ
candidate_after_tag ms time fill latest total = get_or (after_tag ms time fill latest total).pair.candidate 0 0

-- a satellite that has neither set nor candidate, and what n tags of so many bits leave that agree with one set of 9s, and what the next one is told
abbrev pub after_tags : ℕ → ℕ → SetPair
after_tags ms zero = record { set = replicate copy_length 0; stamp = 0; candidate = replicate copy_length 0; latest = 0; total = 0 }
after_tags ms (suc n) = (agreed ms (stamp_of 100) (replicate copy_length 9) (after_tags ms n)).pair

abbrev pub outcome_after : ℕ → ℕ → ℕ
outcome_after ms n = (agreed ms (stamp_of 100) (replicate copy_length 9) (after_tags ms n)).outcome

-- how many of five satellites are recent at limit 2, with the clock at second 60 of week 1: their tags came at 1/60, 1/30, 1/0, 0/604770, and never
abbrev pub recent_of_five : ℕ
recent_of_five = recent_count (stamp_of (gst 1 60)) 2 (stamp_of (gst 1 60) ∷ stamp_of (gst 1 30) ∷ stamp_of (gst 1 0) ∷ stamp_of (gst 0 604770) ∷ 0 ∷ []) 5

-- the answer at limit 0 with this clock, where the first n satellites have a set of 1/0 and all 36 a candidate of 1/0
abbrev pub four_of : ℕ → ℕ → ℕ
four_of clock n =
    let s = fresh blank_start in
    (four_read (four_lent s (clock ∷ replicate 72 0) (replicate n (stamp_of (gst 1 0)) ++ (replicate (36 - n) 0 ++ replicate 72 (stamp_of (gst 1 0))))) 0).yes

-- what is said of these DSM IDs: of 0 blocks 0, 1 and 2 are held, of 16 (NB 10); of 1 block 3; of 2 none; of 3 block 0, of 7 (NB 1); of 4 block 15 too, of
-- a reserved NB, which no start leads to
abbrev pub progress_of_five : List ℕ
progress_of_five =
    let blocks : List ℕ = 0xA0 ∷ (replicate 623 0 ++ (0x10 ∷ (replicate 207 0 ++ (0xB0 ∷ replicate 2495 0)))) in
    (progress_read (progress_lent (fresh blank_start) blocks (7 ∷ 8 ∷ 0 ∷ 1 ∷ 0x8001 ∷ replicate 11 0)) (replicate 32 9)).out

abbrev pub points : List Point
points =
    -- "NS 36, NMACK 2: P E02 in sub-frame 0, block 1 is slot 2; P E36 block 2, 72; P E18 in sub-frame 1, 90, its tag key 73."
    point (slot36 0 1 2) 2
    ∷ point (slot36 0 2 36) 72
    ∷ point (slot36 1 1 18) 90
    ∷ point (tag_slot 36 2 (hour_seconds 947 120) (gst 947 432030) 1 0) 73
    -- "P KS 128, MS 12, NMACK 2: 4 fields."
    ∷ point (fields_for 2 128 12) 4
    -- "P KS 128, NMACK 3: MS 16 gives 1 field, P MS 18 is 8."
    ∷ point (fields_for 3 128 16) 1
    ∷ point (number_for_tag_size 3) 0
    ∷ point (number_for_tag_size 4) 8
    -- "P KS 96, MS 10, NMACK 1: 14."
    ∷ point (fields_for 1 96 10) 14
    -- "P second 604770 taken, P 604800 is 2."
    ∷ point (number_at_second 604770) 0
    ∷ point (number_at_second 604800) 2
    -- "P NB 10 is 16 blocks, P NB 11 is 6."
    ∷ point (blocks_for 10) 16
    ∷ point (number_for_blocks 10) 0
    ∷ point (number_for_blocks 11) 6
    -- "P gap 1,000,000 taken, P 1,000,001 is 13."
    ∷ point (slot_for_gap 28) 1000000
    ∷ point (number_for_gap 28) 0
    ∷ point (slot_for_gap 29) 1000001
    ∷ point (number_for_gap 29) 13
    -- "P 947/431970 is 3B369762 hexadecimal."
    ∷ point (gst 947 431970) 0x3B36_9762
    -- beside them: "The root is slot 0, its time 30 s before sub-frame 0."; the last slot of sub-frame 0, the first of sub-frame 1
    ∷ point (time_of_slot 0) 0x3B36_9762
    ∷ point (time_of_slot 72) (gst 947 432000)
    ∷ point (time_of_slot 73) (gst 947 432030)
    -- "unless that set's tag came later": an older tag, one of the same time, a newer one, of 40 bits each
    ∷ point (set_after_tag 40 70 9 0 0) 7
    ∷ point (set_after_tag 40 100 9 0 0) 9
    ∷ point (set_after_tag 40 130 9 0 0) 9
    -- 02, P4: "A set is called authentic at 40 bits; until then a matching tag is outcome 9"
    ∷ point (after_tag 12 130 8 130 24).outcome 9
    ∷ point (after_tag 12 130 8 130 24).pair.total 36
    ∷ point (after_tag 12 130 8 130 36).outcome 1
    ∷ point (set_after_tag 12 130 8 130 36) 8
    ∷ point (after_tag 12 130 8 130 36).pair.latest 0
    -- the tags of one size that it takes: four of 10 or 12 bits, three of 14, 16 or 18, two of 20, 24, 28 or 32, one of 40
    ∷ point (outcome_after 10 2) 9
    ∷ point (outcome_after 10 3) 1
    ∷ point (outcome_after 12 2) 9
    ∷ point (outcome_after 12 3) 1
    ∷ point (outcome_after 14 1) 9
    ∷ point (outcome_after 14 2) 1
    ∷ point (outcome_after 16 1) 9
    ∷ point (outcome_after 16 2) 1
    ∷ point (outcome_after 18 1) 9
    ∷ point (outcome_after 18 2) 1
    ∷ point (outcome_after 20 0) 9
    ∷ point (outcome_after 20 1) 1
    ∷ point (outcome_after 24 0) 9
    ∷ point (outcome_after 24 1) 1
    ∷ point (outcome_after 28 0) 9
    ∷ point (outcome_after 28 1) 1
    ∷ point (outcome_after 32 0) 9
    ∷ point (outcome_after 32 1) 1
    ∷ point (outcome_after 40 0) 1
    -- "with its latest tag as the set's", also where an older tag brings the fortieth bit; "or goes if the old set's tag came later than that one"
    ∷ point (after_tag 12 70 8 130 36).pair.stamp (stamp_of 130)
    ∷ point (after_tag 12 70 8 70 36).outcome 1
    ∷ point (set_after_tag 12 70 8 70 36) 7
    ∷ point (after_tag 12 70 8 70 36).pair.latest 0
    -- "One on bits of neither replaces the candidate and begins its total anew, unless the candidate's latest tag came later."
    ∷ point (after_tag 12 130 9 130 36).outcome 9
    ∷ point (after_tag 12 130 9 130 36).pair.total 12
    ∷ point (candidate_after_tag 12 130 9 130 36) 9
    ∷ point (after_tag 12 70 9 130 36).outcome 9
    ∷ point (after_tag 12 70 9 130 36).pair.total 36
    ∷ point (candidate_after_tag 12 70 9 130 36) 8
    -- "A match on the authentic set's bits is outcome 1 and touches no candidate."
    ∷ point (after_tag 12 130 7 130 36).outcome 1
    ∷ point (after_tag 12 130 7 130 36).pair.stamp (stamp_of 130)
    ∷ point (after_tag 12 130 7 130 36).pair.total 36
    ∷ point (after_tag 12 130 7 130 36).pair.latest (stamp_of 130)
    ∷ point (candidate_after_tag 12 130 7 130 36) 8
    -- 02, P1: "KS must then be 128, 192 or 256 bits; any other KS with MF 1 is answered 8."; MF 0 has every KS, MF 2 and 3 none
    ∷ point (number_for_function 1 4) 0
    ∷ point (number_for_function 1 6) 0
    ∷ point (number_for_function 1 8) 0
    ∷ point (number_for_function 1 0) 8
    ∷ point (number_for_function 1 5) 8
    ∷ point (number_for_function 1 7) 8
    ∷ point (number_for_function 0 0) 0
    ∷ point (number_for_function 2 4) 8
    ∷ point (number_for_function 3 4) 8
    -- 02, P5: "An age equal to the limit counts."; over the end of a week; a tag later than the clock
    ∷ point recent_of_five 3
    ∷ point (age_at (gst 1 60) (gst 0 604770)) 3
    ∷ point (age_at (gst 1 0) (gst 1 60)) 0
    -- three; four; all; four before any time is noted
    ∷ point (four_of (stamp_of (gst 1 0)) 3) 0
    ∷ point (four_of (stamp_of (gst 1 0)) 4) 1
    ∷ point (four_of (stamp_of (gst 1 0)) 36) 1
    ∷ point (four_of 0 4) 0
    -- 02, P6: "HF 1 (SHA3-224) and HF 2 (SHA3-256)"; "KS 256 with HF 1 is answered 8."; KS 224 with HF 1 is the whole digest, HF 3 has no KS
    ∷ point (number_for_hash 0 8) 0
    ∷ point (number_for_hash 1 0) 0
    ∷ point (number_for_hash 1 7) 0
    ∷ point (number_for_hash 1 8) 8
    ∷ point (number_for_hash 2 0) 0
    ∷ point (number_for_hash 2 8) 0
    ∷ point (number_for_hash 3 0) 8
    ∷ point (number_for_hash 3 4) 8
    -- 02, P9: held and missing; "Without block 0 the total is called unknown."; nothing held; one block; a total that is too low
    ∷ point (get_or progress_of_five 0 0) 3
    ∷ point (get_or progress_of_five 1 0) 13
    ∷ point (get_or progress_of_five 2 0) 1
    ∷ point (get_or progress_of_five 3 0) 255
    ∷ point (get_or progress_of_five 4 0) 0
    ∷ point (get_or progress_of_five 5 0) 255
    ∷ point (get_or progress_of_five 6 0) 1
    ∷ point (get_or progress_of_five 7 0) 6
    ∷ point (get_or progress_of_five 8 0) 2
    ∷ point (get_or progress_of_five 9 0) 0
    ∷ []

abbrev pub Right : Point → Type 0
Right p = p.rule ≡ p.says

abbrev pub All : (Point → Type 0) → List Point → Type 0
All P [] = Unit {0}
All P (x ∷ xs) = P x × All P xs
