-- The order of the checks ("Checks go 1, 2, 4, 3, 5; complete KROOT 7, 8, 6; PKR 6, 10, 9; section 11, then block by block 13, 12; verdict 1, 2, 4, 14,
-- 15, 11, 9"; 02, P3: "17, after 5"): places where two conditions hold, and the number that is first. One table; proofs/Points.antt shows that it is right.
use Rattle.std.specs.Prelude.{ℕ, ◌+◌, ◌*◌, List, [], ◌∷◌, ◌++◌, replicate, set}
use Rattle.laws.specs.Refusal.{first_refusal}
use Rattle.rules.specs.Calls.{fresh, start_checks, word_checks, subframe_checks, verdict_checks, section_proved, set_read_checks, offer_read_checks, four_read_checks, progress_read_checks}
use Rattle.rules.specs.Chain.{held}
use Rattle.rules.specs.Kroot.{kroot_checks, offered}
use Rattle.rules.specs.Mack.{block_checks}
use Rattle.rules.specs.Pkr.{pkr_checks}
use Rattle.rules.specs.Points.{Point, point, blank_start}
use Rattle.rules.specs.State.{State, with_config, with_clocks, with_offer, with_chain, stopped_at, four_lent, progress_lent, clocks_length, blocks_length, dsm_ids, offer_length, arrivals_length, area_length}
use Rattle.rules.specs.Times.{gst}

-- nothing waits
abbrev pub nothing : List ℕ
nothing = replicate offer_length 0

-- contents with this first byte (CIDKR, NMACK, HF, MF), KS 128, MS 12, MACLT 0, this week and hour 1
abbrev pub contents : ℕ → ℕ → List ℕ
contents first week = first ∷ 0x41 ∷ 0 ∷ 0 ∷ week ∷ 1 ∷ replicate 38 0

-- a core that has heard E01 at second 600 of week 1 (sub-frame and word); stopped where the mark is 1; a root of week 2 was put in force and dropped
-- where `root` is 2, none was where it is 0
abbrev pub core : ℕ → ℕ → List ℕ → State
core stop root offer =
    let s = fresh blank_start in
    with_chain
    (with_offer
    (with_clocks (with_config s (set s.config stopped_at stop)) (set (set (set s.clocks 0 (gst 1 600 + 1)) 1 (gst 1 600 + 1)) 37 (gst 1 600 + 1)))
    offer)
    (root ∷ contents 0x20 2)

-- the number for a start with this NS, whose tree root has this length
abbrev pub start_number : ℕ → ℕ → ℕ
start_number ns len =
    first_refusal (start_checks (core 0 0 nothing) (record { ns = ns; id = 0; type = 0; maclt = 0; marks = replicate 28 0; root = replicate len 0; key = replicate 67 0 }))

abbrev pub subframe_number : ℕ → ℕ → ℕ → ℕ → ℕ → ℕ
subframe_number stop len prn second fill =
    first_refusal (subframe_checks (core stop 0 nothing) (replicate len 0) (record { prn = prn; time = gst 1 second; marks = 65535; bytes = replicate 75 fill }))

-- a sub-frame of E02 with these marks, of which only field 0 has a byte that is not 0
abbrev pub missing_number : ℕ → ℕ
missing_number marks =
    first_refusal (subframe_checks (core 0 0 nothing) (replicate area_length 0) (record { prn = 2; time = gst 1 600; marks = marks; bytes = 1 ∷ replicate 74 0 }))

abbrev pub word_number : ℕ → ℕ → ℕ → ℕ → ℕ → ℕ
word_number stop len prn second type =
    first_refusal (word_checks (core stop 0 nothing) (record { prn = prn; time = gst 1 second; bytes = type * 4 ∷ replicate len 0 }))

-- a verdict on what waits: what waits and what is named are the header, then the contents
abbrev pub verdict_number : ℕ → ℕ → List ℕ → List ℕ → ℕ → ℕ
verdict_number stop root waits named good =
    first_refusal
    (verdict_checks (core stop root (offered 0 waits (replicate 132 7))) (record { good = good; id = 0; message = named; signature = replicate 132 7 }))

-- block 1 of a section of E01, of which every bit is 1, at this second of week 1; the root of week 1 hour 0 is held
abbrev pub block_number : ℕ → ℕ
block_number second =
    first_refusal
    (block_checks
    (record { ns = 36; nmack = 2; root = 604800; alpha = replicate 6 0; hf = 0; mf = 0; width = 16; ms = 12; fields = 4 })
    (gst 1 second) 1 0 (replicate 60 255) (held 0 (replicate 16 0)) 1)

-- such a section with these marks at this second of week 4; a root of week 2 hour 1 is in force where `root` is 1, dropped where it is 2
abbrev pub section_number : ℕ → ℕ → ℕ → ℕ
section_number marks root second = (section_proved (core 0 root nothing) 1 (gst 4 second) marks 0x42 (replicate 60 255)).code

-- a DSM-PKR of 13 blocks with a new key of type 1 and ID 0, which the core holds with other bytes; this root is installed
abbrev pub pkr_number : List ℕ → ℕ
pkr_number root = first_refusal (pkr_checks (fresh blank_start).pubkeys root (0x70 ∷ (replicate 128 0 ++ (0x10 ∷ replicate 39 0))))

abbrev pub orders : List Point
orders =
    -- sub-frame: a wrong length and PRN 37; PRN 37 and stopped; stopped and earlier; earlier and all zero; all zero alone
    point (subframe_number 0 3239 37 630 1) 1
    ∷ point (subframe_number 1 3240 37 630 1) 2
    ∷ point (subframe_number 1 3240 1 570 1) 4
    ∷ point (subframe_number 0 3240 1 570 0) 3
    ∷ point (subframe_number 0 3240 1 600 1) 3
    ∷ point (subframe_number 0 3240 2 600 0) 5
    -- sub-frame with missing fields: the one that is not zero is missing; it came; nothing came
    ∷ point (missing_number 0x7fff) 5
    ∷ point (missing_number 0x8000) 0
    ∷ point (missing_number 0x0001) 0
    -- start: a wrong length and NS 37; NS 37; neither
    ∷ point (start_number 37 31) 1
    ∷ point (start_number 37 32) 2
    ∷ point (start_number 36 32) 0
    -- word: a wrong length and PRN 37; wrong SVID and stopped; stopped and earlier; type 6 earlier; none
    ∷ point (word_number 0 14 37 600 1) 1
    ∷ point (word_number 1 15 1 600 4) 2
    ∷ point (word_number 1 15 1 570 1) 4
    ∷ point (word_number 0 15 1 570 6) 3
    ∷ point (word_number 0 15 1 600 1) 0
    -- KROOT: no key and bad parameters (HF 3); bad parameters and a wrong size; a wrong size; a wrong size with HF 1, which was 8 before 02's P6
    ∷ point (first_refusal (kroot_checks [] [] (0x20 ∷ (contents 0x2C 1 ++ replicate 59 0)))) 7
    ∷ point (first_refusal (kroot_checks (1 ∷ []) [] (0x20 ∷ (contents 0x2C 1 ++ replicate 59 0)))) 8
    ∷ point (first_refusal (kroot_checks (1 ∷ []) [] (0x20 ∷ (contents 0x20 1 ++ replicate 59 0)))) 6
    ∷ point (first_refusal (kroot_checks (1 ∷ []) [] (0x20 ∷ (contents 0x24 1 ++ replicate 59 0)))) 6
    -- PKR: a wrong size, and nodes that do not give the root; nodes that do not give the root, and an ID not above all held
    ∷ point (first_refusal (pkr_checks [] [] (replicate 91 0))) 6
    ∷ point (pkr_number []) 10
    -- verdict: a wrong length and verdict 2; verdict 2 and stopped; stopped and other bytes; other bytes and bad; bad and status 0; status 0; status 1
    -- with CIDKR not CID, and a root that is not later; that root; status 1
    ∷ point (verdict_number 0 0 (0x42 ∷ contents 0x20 1) (contents 0x20 1) 2) 1
    ∷ point (verdict_number 1 0 (0x42 ∷ contents 0x20 1) (0x42 ∷ contents 0x20 2) 2) 2
    ∷ point (verdict_number 1 0 (0x42 ∷ contents 0x20 1) (0x42 ∷ contents 0x20 2) 1) 4
    ∷ point (verdict_number 0 0 (0x42 ∷ contents 0x20 1) (0x42 ∷ contents 0x20 2) 0) 14
    ∷ point (verdict_number 0 0 (0x02 ∷ contents 0x20 1) (0x02 ∷ contents 0x20 1) 0) 15
    ∷ point (verdict_number 0 0 (0x02 ∷ contents 0x20 1) (0x02 ∷ contents 0x20 1) 1) 11
    ∷ point (verdict_number 0 2 (0x52 ∷ contents 0x20 1) (0x52 ∷ contents 0x20 1) 1) 11
    ∷ point (verdict_number 0 2 (0x42 ∷ contents 0x20 1) (0x42 ∷ contents 0x20 1) 1) 9
    ∷ point (verdict_number 0 0 (0x42 ∷ contents 0x20 1) (0x42 ∷ contents 0x20 1) 1) 0
    -- section: its first field is missing, and no chain; no chain and too far; too far; a block that is too far, with a key that fails and spare bits
    -- that are not 0
    ∷ point (section_number 0x7fff 2 0) 17
    ∷ point (section_number 0xffff 2 0) 11
    ∷ point (section_number 0xffff 1 0) 13
    ∷ point (block_number 600000) 13
    -- read of a set: a wrong length and PRN 37; PRN 37 without a set; no set
    ∷ point (first_refusal (set_read_checks (core 0 0 nothing) 37 [])) 1
    ∷ point (first_refusal (set_read_checks (core 0 0 nothing) 37 (replicate 69 0))) 2
    ∷ point (first_refusal (set_read_checks (core 1 0 nothing) 36 (replicate 69 0))) 16
    -- read of what waits: a wrong length and nothing waits; nothing waits
    ∷ point (first_refusal (offer_read_checks (core 0 0 nothing) (replicate 44 0) (replicate 132 0) (replicate 67 0))) 1
    ∷ point (first_refusal (offer_read_checks (core 0 0 nothing) (replicate 45 0) (replicate 132 0) (replicate 67 0))) 14
    -- four satellites (02, P5): no clocks; no arrivals; both, in a stopped core
    ∷ point (first_refusal (four_read_checks (four_lent (core 0 0 nothing) [] (replicate arrivals_length 0)))) 1
    ∷ point (first_refusal (four_read_checks (four_lent (core 0 0 nothing) (replicate clocks_length 0) []))) 1
    ∷ point (first_refusal (four_read_checks (core 1 0 nothing))) 0
    -- progress (02, P9): no blocks; no marks; a byte too few for the pairs; all, in a stopped core
    ∷ point (first_refusal (progress_read_checks (progress_lent (core 0 0 nothing) [] (replicate dsm_ids 0)) (replicate 32 0))) 1
    ∷ point (first_refusal (progress_read_checks (progress_lent (core 0 0 nothing) (replicate blocks_length 0) []) (replicate 32 0))) 1
    ∷ point (first_refusal (progress_read_checks (core 0 0 nothing) (replicate 31 0))) 1
    ∷ point (first_refusal (progress_read_checks (core 1 0 nothing) (replicate 32 0))) 0
    ∷ []
