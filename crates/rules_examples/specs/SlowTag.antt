-- A worked run over the rules with real SHA-256 and HMAC: a slow tag and three others of its satellite arrive, the satellite's words change, the slow
-- tag's key comes. The three are told 9 where they come; the slow tag brings the fortieth bit and is told 1. It marks the bits that were the satellite's
-- set when the tags came, and a read gives those. It is the fault that started this: see 00; and 02, P4.
-- NS 1, NMACK 1, KS 256, MS 12: one key a sub-frame, eight fields a section.
use Rattle.std.specs.Prelude.{ℕ, zero, suc, ◌+◌, ◌*◌, ◌≡◌, List, [], ◌∷◌, ◌++◌, replicate}
use Rattle.laws.specs.Lists.{part}
use Rattle.rules.specs.Calls.{Start, Word, Subframe, fresh}
use Rattle.rules.specs.Claim.{Counted, sizes, Marked, SetBacked}
use Rattle.rules.specs.Log.{Call, word, subframe, verdict, ask, set, Entry, Log, Reply, plain, nothing, ran_from}
use Rattle.rules.specs.Navdata.{set_bytes}
use Rattle.rules.specs.State.{State, area_length}
use Rattle.rules.specs.Verdict.{Verdict}
use Rattle.rules.specs.declared.Tag.{Tag}

-- ---- the signal

-- keys of slots 2, 1 and 0
abbrev pub key2 : List ℕ
key2 = replicate 32 0x42

abbrev pub key1 : List ℕ
key1 = 0x74 ∷ 0x84 ∷ 0x01 ∷ 0xB4 ∷ 0x88 ∷ 0x01 ∷ 0x51 ∷ 0x18 ∷ 0xE3 ∷ 0x2A ∷ 0xB2 ∷ 0x54 ∷ 0xCC ∷ 0x39 ∷ 0x54 ∷ 0x10 ∷ 0x07 ∷ 0x48 ∷ 0xB2 ∷ 0xFC ∷ 0xB2 ∷ 0xE0 ∷ 0xDC ∷ 0xAC ∷ 0x80 ∷ 0x9D ∷ 0x2F ∷ 0x03 ∷ 0x0C ∷ 0xC7 ∷ 0xBF ∷ 0x9B ∷ []

abbrev pub key0 : List ℕ
key0 = 0x43 ∷ 0xC3 ∷ 0x68 ∷ 0xC2 ∷ 0x5D ∷ 0x89 ∷ 0x8E ∷ 0x80 ∷ 0x4D ∷ 0x12 ∷ 0x63 ∷ 0x39 ∷ 0xEB ∷ 0xB9 ∷ 0x8C ∷ 0x22 ∷ 0x9E ∷ 0x2D ∷ 0x03 ∷ 0xCC ∷ 0x97 ∷ 0xC2 ∷ 0xEB ∷ 0x07 ∷ 0xA7 ∷ 0xE3 ∷ 0xC5 ∷ 0x65 ∷ 0x77 ∷ 0xBC ∷ 0x77 ∷ 0x6E ∷ []

-- week 1: sub-frame 0 is at second 3600, the first of hour 1
abbrev pub at : ℕ → ℕ
at second = 0x10_0000 + second

-- NMA status 1, CID 0, CPKS 1
abbrev pub header : ℕ
header = 0x42

-- CIDKR 0, NMACK 1, HF 0, MF 0, KS code 8, MS code 1, MACLT 7, MO 0, week 1, hour 1, α, root
abbrev pub contents : List ℕ
contents = 0x10 ∷ 0x81 ∷ 7 ∷ 0x00 ∷ 0x01 ∷ 0x01 ∷ 0xF1 ∷ 0xCA ∷ 0x38 ∷ 0x56 ∷ 0xA9 ∷ 0x75 ∷ key0

abbrev pub signature : List ℕ
signature = replicate 56 0x5A

-- eight blocks
abbrev pub dsm : List ℕ
dsm = 0x20 ∷ (contents ++ (signature ++ replicate 3 0))

-- fields of five bytes: one of HKROOT, four of MACK
abbrev pub fields : List ℕ → List ℕ → List ℕ
fields [] m = []
fields (h ∷ hs) [] = []
fields (h ∷ hs) (a ∷ []) = []
fields (h ∷ hs) (a ∷ b ∷ []) = []
fields (h ∷ hs) (a ∷ b ∷ c ∷ []) = []
fields (h ∷ hs) (a ∷ b ∷ c ∷ d ∷ m) = h ∷ a ∷ b ∷ c ∷ d ∷ fields hs m

abbrev pub area : List ℕ
area = replicate area_length 0

-- block k of the DSM, from satellite k + 1
abbrev pub block_of : ℕ → Subframe
block_of k = record { prn = k + 1; time = at 3540; marks = 65535; bytes = fields (header ∷ k ∷ part dsm (13 * k) 13) (replicate 60 0) }

-- the chip's word on the message
abbrev pub said : Verdict
said = record { good = 1; id = 0; message = header ∷ contents; signature = signature ++ replicate 76 0 }

-- a section of E02: eight fields of 28 bits, of which the first is tag0, then the key
abbrev pub section_of : ℕ → List ℕ → List ℕ → Subframe
section_of second eight key = record { prn = 2; time = at second; marks = 65535; bytes = fields (header ∷ 0x11 ∷ replicate 13 0) (eight ++ key) }

-- words of E01: the type, IODnav, and a byte that fills the rest; word 4 has SVID 1
abbrev pub word_of : ℕ → ℕ → ℕ → List ℕ
word_of kind issue fill = kind * 4 ∷ issue ∷ replicate 14 fill

abbrev pub word_four : ℕ → ℕ → List ℕ
word_four issue fill = 16 ∷ issue ∷ 4 ∷ replicate 13 fill

abbrev pub word_at : ℕ → List ℕ → Word
word_at second bytes = record { prn = 1; time = at second; bytes = bytes }

-- marks: tag0, ADKD 11, three of ADKD 0, and fields that nothing fits
abbrev pub marks : List ℕ
marks = 0 ∷ 11 ∷ 0 ∷ 0 ∷ 0 ∷ replicate 9 1

abbrev pub begin : Start
begin = record { ns = 1; id = 0; type = 0; maclt = 7; marks = marks ++ marks; root = replicate 32 0; key = replicate 67 3 }

-- the eight fields, two a line: tag0 is zeros; the slow tag is for E01, ADKD 11, made with the key of slot 2; three for E01, ADKD 0, made with the key of
-- slot 1; zeros
abbrev pub tag_fields : List ℕ
tag_fields =
    0x00 ∷ 0x00 ∷ 0x00 ∷ 0x06 ∷ 0x7C ∷ 0x01 ∷ 0xB0
    ∷ 0xE3 ∷ 0xD0 ∷ 0x10 ∷ 0x0F ∷ 0xD1 ∷ 0x01 ∷ 0x00
    ∷ 0x39 ∷ 0xD0 ∷ 0x10 ∷ 0x00 ∷ 0x00 ∷ 0x00 ∷ 0x00
    ∷ replicate 7 0

-- the section with the tags, and the one with the slow tag's key
abbrev pub tag_section : Subframe
tag_section = section_of 3600 tag_fields key1

abbrev pub key_section : Subframe
key_section = section_of 3630 (replicate 28 0) key2

-- the set that the tags authenticate
abbrev pub old_set : List ℕ
old_set = set_bytes (word_of 1 5 0x11) (word_of 2 5 0x11) (word_of 3 5 0x11) (word_four 5 0x11) (word_of 5 5 0x11)

-- ---- the log: each call with the reply that it gets, newest first

-- a tag record of E02 at second 0x0E00 + low of week 1: outcome, PRN, ADKD, position, IODnav
abbrev pub record_of : ℕ → ℕ → ℕ → ℕ → ℕ → ℕ → List ℕ
record_of low outcome prn adkd position issue = outcome ∷ 2 ∷ prn ∷ adkd ∷ 1 ∷ position ∷ 0 ∷ issue ∷ 0 ∷ 0x10 ∷ 0x0E ∷ low ∷ []

-- n fields of zeros from a position on, which nothing fits
abbrev pub unfit : ℕ → ℕ → ℕ → List ℕ
unfit low position zero = []
unfit low position (suc n) = record_of low 4 0 0 position 0 ++ unfit low (suc position) n

abbrev pub replied_with : ℕ → List ℕ → Reply
replied_with mack records = record { code = 0; mack = mack; records = records; out = []; issue = 0; time = 0; handed = nothing; yes = 0 }

abbrev pub block_entry : ℕ → Entry
block_entry k = record { call = subframe area (block_of k); reply = replied_with 11 [] }

abbrev pub word_entry : ℕ → List ℕ → Entry
word_entry second bytes = record { call = word (word_at second bytes); reply = plain 0 }

-- the blocks of the message, from all satellites: no chain is in force yet
abbrev pub gathered : Log
gathered = block_entry 7 ∷ block_entry 6 ∷ block_entry 5 ∷ block_entry 4 ∷ block_entry 3 ∷ block_entry 2 ∷ block_entry 1 ∷ block_entry 0 ∷ []

abbrev pub verdict_entry : Entry
verdict_entry = record { call = verdict said; reply = plain 0 }

-- the verdict, and the words of the old set
abbrev pub before_tag : Log
before_tag =
    word_entry 3540 (word_of 5 5 0x11) ∷ word_entry 3540 (word_four 5 0x11) ∷ word_entry 3540 (word_of 3 5 0x11) ∷ word_entry 3540 (word_of 2 5 0x11) ∷ word_entry 3540 (word_of 1 5 0x11)
    ∷ verdict_entry
    ∷ gathered

-- the section with the tags: tag0 has no set (3), the slow tag waits (5), the three agree, with 12, 24 and 36 bits (9)
abbrev pub tag_records : List ℕ
tag_records =
    record_of 0x10 3 2 0 1 0 ++ (record_of 0x10 5 1 11 2 5 ++ (record_of 0x10 9 1 0 3 5 ++ (record_of 0x10 9 1 0 4 5 ++ (record_of 0x10 9 1 0 5 5 ++ unfit 0x10 6 3))))

abbrev pub tag_entry : Entry
tag_entry = record { call = subframe area tag_section; reply = replied_with 0 tag_records }

-- then the words of the new set
abbrev pub new_words : Log
new_words =
    word_entry 3600 (word_of 5 6 0x22) ∷ word_entry 3600 (word_four 6 0x22) ∷ word_entry 3600 (word_of 3 6 0x22) ∷ word_entry 3600 (word_of 2 6 0x22) ∷ word_entry 3600 (word_of 1 6 0x22) ∷ []

abbrev pub before_key : Log
before_key = new_words ++ (tag_entry ∷ before_tag)

-- the section with its key: the slow tag makes 48 bits and is authentic (1), with the old IODnav and the time of its arrival; then the section's own
abbrev pub key_entry : Entry
key_entry = record { call = subframe area key_section; reply = replied_with 0 (record_of 0x10 1 1 11 2 5 ++ (record_of 0x2E 3 2 0 1 0 ++ unfit 0x2E 2 7)) }

-- a read of E01's set: the old bits, with the time of the tags' arrival
abbrev pub read_entry : Entry
read_entry = record { call = ask (set 1 (replicate 69 0)); reply = record { code = 0; mack = 0; records = []; out = old_set; issue = 5; time = at 3600; handed = nothing; yes = 0 } }

abbrev pub log : Log
log = read_entry ∷ key_entry ∷ before_key

-- ---- the calls of the log, oldest first, give that log

abbrev pub calls_of : Log → List Call → List Call
calls_of [] cs = cs
calls_of (x ∷ l) cs = calls_of l (x.call ∷ cs)

abbrev pub calls : List Call
calls = calls_of log []

-- ---- what is shown of it: the contract of `slow_tag_run` has it

-- the state that the start left
abbrev pub began : State
began = fresh begin

-- E02 sent these for E01 in block 1 of the section of second 3600: position, ADKD, bits
abbrev pub tag_for : ℕ → ℕ → ℕ → Tag
tag_for position adkd bits = record { sender = 2; prn = 1; adkd = adkd; block = 1; position = position; time = at 3600; status = 1; bits = bits }

abbrev pub slow_tag : Tag
slow_tag = tag_for 2 11 0x67C

-- each counts 12 bits
abbrev pub counted : Tag → Counted
counted t = record { tag = t; size = 12 }

-- the three told before it, and all four
abbrev pub first_three : List Counted
first_three = counted (tag_for 3 0 0xE3D) ∷ counted (tag_for 4 0 0xFD1) ∷ counted (tag_for 5 0 0x39D) ∷ []

abbrev pub all_four : List Counted
all_four = counted slow_tag ∷ first_three

pub record SlowTagRun : Type 0 where
  -- the calls give that log
  pub log_is : (ran_from began begin calls).history.log ≡ log
  -- where the slow tag's record of outcome 1 stands, the four things of demand 3 hold of the OLD set, and it has its forty bits
  pub marked : Marked begin began 0 slow_tag old_set key_entry before_key
  -- they are those of the four tags
  pub tags_are : marked.forty.tags ≡ all_four
  pub bits_are : sizes all_four ≡ 48
  -- and the set read is that one
  pub old_set_backed : SetBacked begin began 1 read_entry.reply.time read_entry.reply.out (key_entry ∷ before_key)
