-- The state of the core: one list for each region that the caller lends, and what the regions mean.
-- Every definition is total: it gives an answer for any contents, also for ones that no start ever leaves. Such contents are read by a
-- stated value (a number of satellites outside 1 to 36 as 1, and so on), so that every call has a stated effect.
use Rattle.std.specs.Prelude.{ℕ, ◌+◌, Bool, cond, not, ◌&&◌, List, [], ◌∷◌, leb, ltb, eqb, length, get_or}
use Rattle.laws.specs.Lists.{part}
use Rattle.rules.specs.Bits.{all_of, within}

-- I/NAV words 1 to 5 of 36 satellites, 16 bytes each, and the stamp of each word's sub-frame
pub record Nav : Type 0 where
  pub words : List ℕ
  pub stamps : List ℕ

-- DSM blocks by DSM ID: 16 places of 13 bytes, the NMA header they came with, the blocks present in sixteen bits (block k is worth
-- 2 ^ k), and the GST_SF of the block that came first
pub record Store : Type 0 where
  pub blocks : List ℕ
  pub headers : List ℕ
  pub present : List ℕ
  pub since : List ℕ

-- the held TESLA key and the waiting tags: numbers are the held key's slot and the count of waiting tags
pub record Tesla : Type 0 where
  pub numbers : List ℕ
  pub key : List ℕ
  pub waiting : List ℕ

-- the authentic set of each satellite, 69 bytes, then the candidate of each (02, P4); the stamp of each authentic set's tag's arrival, then that of
-- each candidate's latest tag, then the tag bits summed on each candidate
pub record Auth : Type 0 where
  pub sets : List ℕ
  pub arrivals : List ℕ

pub record State : Type 0 where
  -- NS, MACLT, 14 + 14 marks, tree root 32, and 1 where the core is stopped
  pub config : List ℕ
  -- stamps: the last sub-frame, the last sub-frame of each PRN, the last word of each PRN
  pub clocks : List ℕ
  pub nav : Nav
  pub store : Store
  -- public keys by key ID: the type plus 1 (0 where none is held), and the key in 67 bytes
  pub pubkeys : List ℕ
  -- the message that waits for a verdict: 1 (0 where none waits), key ID, message 45, signature 132
  pub offer : List ℕ
  -- 1 in force, 2 dropped, 0 where there was none; then the contents that were put in force last (44)
  pub chain : List ℕ
  pub tesla : Tesla
  pub auth : Auth

-- the state as its sixteen regions
abbrev pub state : List ℕ → List ℕ → List ℕ → List ℕ → List ℕ → List ℕ → List ℕ → List ℕ → List ℕ → List ℕ → List ℕ → List ℕ → List ℕ → List ℕ → List ℕ → List ℕ → State
state config clocks words stamps blocks headers present since pubkeys offer chain numbers key waiting sets arrivals =
    record {
      config = config;
      clocks = clocks;
      nav = record { words = words; stamps = stamps };
      store = record { blocks = blocks; headers = headers; present = present; since = since };
      pubkeys = pubkeys;
      offer = offer;
      chain = chain;
      tesla = record { numbers = numbers; key = key; waiting = waiting };
      auth = record { sets = sets; arrivals = arrivals };
    }

-- ---- the state with one part replaced

abbrev pub with_config : State → List ℕ → State
with_config s config = record { config = config; clocks = s.clocks; nav = s.nav; store = s.store; pubkeys = s.pubkeys; offer = s.offer; chain = s.chain; tesla = s.tesla; auth = s.auth }

abbrev pub with_clocks : State → List ℕ → State
with_clocks s clocks = record { config = s.config; clocks = clocks; nav = s.nav; store = s.store; pubkeys = s.pubkeys; offer = s.offer; chain = s.chain; tesla = s.tesla; auth = s.auth }

abbrev pub with_nav : State → Nav → State
with_nav s nav = record { config = s.config; clocks = s.clocks; nav = nav; store = s.store; pubkeys = s.pubkeys; offer = s.offer; chain = s.chain; tesla = s.tesla; auth = s.auth }

abbrev pub with_store : State → Store → State
with_store s store = record { config = s.config; clocks = s.clocks; nav = s.nav; store = store; pubkeys = s.pubkeys; offer = s.offer; chain = s.chain; tesla = s.tesla; auth = s.auth }

abbrev pub with_pubkeys : State → List ℕ → State
with_pubkeys s pubkeys = record { config = s.config; clocks = s.clocks; nav = s.nav; store = s.store; pubkeys = pubkeys; offer = s.offer; chain = s.chain; tesla = s.tesla; auth = s.auth }

abbrev pub with_offer : State → List ℕ → State
with_offer s offer = record { config = s.config; clocks = s.clocks; nav = s.nav; store = s.store; pubkeys = s.pubkeys; offer = offer; chain = s.chain; tesla = s.tesla; auth = s.auth }

abbrev pub with_chain : State → List ℕ → State
with_chain s chain = record { config = s.config; clocks = s.clocks; nav = s.nav; store = s.store; pubkeys = s.pubkeys; offer = s.offer; chain = chain; tesla = s.tesla; auth = s.auth }

abbrev pub with_tesla : State → Tesla → State
with_tesla s tesla = record { config = s.config; clocks = s.clocks; nav = s.nav; store = s.store; pubkeys = s.pubkeys; offer = s.offer; chain = s.chain; tesla = tesla; auth = s.auth }

abbrev pub with_auth : State → Auth → State
with_auth s auth = record { config = s.config; clocks = s.clocks; nav = s.nav; store = s.store; pubkeys = s.pubkeys; offer = s.offer; chain = s.chain; tesla = s.tesla; auth = auth }

-- ---- lengths of the regions, in elements

-- NS, MACLT, 14 + 14 marks, tree root 32, stopped
abbrev pub config_length : ℕ
config_length = 63

-- 1 + 36 + 36
abbrev pub clocks_length : ℕ
clocks_length = 73

-- 36 satellites, 5 words, 16 bytes
abbrev pub words_length : ℕ
words_length = 2880

abbrev pub stamps_length : ℕ
stamps_length = 180

-- 16 DSM IDs, 16 blocks, 13 bytes
abbrev pub blocks_length : ℕ
blocks_length = 3328

-- headers, present and since: one for each DSM ID
abbrev pub dsm_ids : ℕ
dsm_ids = 16

-- 16 key IDs, 1 + 67 bytes
abbrev pub pubkeys_length : ℕ
pubkeys_length = 1088

-- 1 + 1 + 45 + 132
abbrev pub offer_length : ℕ
offer_length = 179

-- contents of a root: a DSM-KROOT's bytes from byte 1 through the widest KROOT
abbrev pub contents_length : ℕ
contents_length = 44

-- 1 + contents
abbrev pub chain_length : ℕ
chain_length = 45

abbrev pub numbers_length : ℕ
numbers_length = 2

-- the widest TESLA key
abbrev pub heldkey_length : ℕ
heldkey_length = 32

-- a kept copy of a set: in a waiting entry, and in `sets`
abbrev pub copy_length : ℕ
copy_length = 69

-- a waiting entry: 15 bytes and the copy of its set
abbrev pub entry_length : ℕ
entry_length = 84

-- 256 places of an entry
abbrev pub waiting_length : ℕ
waiting_length = 21504

-- satellites that are heard
abbrev pub satellites : ℕ
satellites = 36

-- copies of 36 authentic sets and of 36 candidates
abbrev pub sets_length : ℕ
sets_length = 4968

-- 36 + 36 + 36
abbrev pub arrivals_length : ℕ
arrivals_length = 108

-- the area lent for the records of a sub-frame: 256 of tags that waited and 14 others, 12 bytes each
abbrev pub area_length : ℕ
area_length = 3240

-- the length of each region is right
abbrev pub shapes : State → List Bool
shapes s =
    (eqb (length s.config) config_length
    ∷ eqb (length s.clocks) clocks_length
    ∷ eqb (length s.nav.words) words_length
    ∷ eqb (length s.nav.stamps) stamps_length
    ∷ eqb (length s.store.blocks) blocks_length
    ∷ eqb (length s.store.headers) dsm_ids
    ∷ eqb (length s.store.present) dsm_ids
    ∷ eqb (length s.store.since) dsm_ids
    ∷ eqb (length s.pubkeys) pubkeys_length
    ∷ eqb (length s.offer) offer_length
    ∷ eqb (length s.chain) chain_length
    ∷ eqb (length s.tesla.numbers) numbers_length
    ∷ eqb (length s.tesla.key) heldkey_length
    ∷ eqb (length s.tesla.waiting) waiting_length
    ∷ eqb (length s.auth.sets) sets_length
    ∷ eqb (length s.auth.arrivals) arrivals_length
    ∷ [])

-- every region has its length: start and sub-frame are lent all of them
unfoldable pub shaped : State → Bool
shaped s = all_of (shapes s)

-- what a word is lent
abbrev pub word_shapes : State → List Bool
word_shapes s =
    (eqb (length s.config) config_length
    ∷ eqb (length s.clocks) clocks_length
    ∷ eqb (length s.nav.words) words_length
    ∷ eqb (length s.nav.stamps) stamps_length
    ∷ [])

unfoldable pub word_shaped : State → Bool
word_shaped s = all_of (word_shapes s)

-- the state s with these regions in their places: for any s a state of which a word is lent them
abbrev pub word_lent : State → List ℕ → List ℕ → List ℕ → List ℕ → State
word_lent s config clocks words stamps = with_nav (with_clocks (with_config s config) clocks) (record { words = words; stamps = stamps })

-- what a verdict is lent
abbrev pub verdict_shapes : State → List Bool
verdict_shapes s =
    (eqb (length s.config) config_length
    ∷ eqb (length s.pubkeys) pubkeys_length
    ∷ eqb (length s.offer) offer_length
    ∷ eqb (length s.chain) chain_length
    ∷ eqb (length s.tesla.numbers) numbers_length
    ∷ eqb (length s.tesla.key) heldkey_length
    ∷ eqb (length s.tesla.waiting) waiting_length
    ∷ eqb (length s.auth.arrivals) arrivals_length
    ∷ [])

unfoldable pub verdict_shaped : State → Bool
verdict_shaped s = all_of (verdict_shapes s)

abbrev pub verdict_lent : State → List ℕ → List ℕ → List ℕ → List ℕ → List ℕ → List ℕ → List ℕ → List ℕ → State
verdict_lent s config pubkeys offer chain numbers key waiting arrivals =
    with_auth
    (with_tesla
    (with_chain (with_offer (with_pubkeys (with_config s config) pubkeys) offer) chain)
    (record { numbers = numbers; key = key; waiting = waiting }))
    (record { sets = s.auth.sets; arrivals = arrivals })

-- what a read of a set is lent
unfoldable pub set_shaped : State → Bool
set_shaped s = eqb (length s.auth.sets) sets_length && eqb (length s.auth.arrivals) arrivals_length

abbrev pub set_lent : State → List ℕ → List ℕ → State
set_lent s sets arrivals = with_auth s (record { sets = sets; arrivals = arrivals })

-- what the question for four satellites is lent (02, P5)
unfoldable pub four_shaped : State → Bool
four_shaped s = eqb (length s.clocks) clocks_length && eqb (length s.auth.arrivals) arrivals_length

abbrev pub four_lent : State → List ℕ → List ℕ → State
four_lent s clocks arrivals = with_auth (with_clocks s clocks) (record { sets = s.auth.sets; arrivals = arrivals })

-- what the question for the progress of messages is lent (02, P9)
unfoldable pub progress_shaped : State → Bool
progress_shaped s = eqb (length s.store.blocks) blocks_length && eqb (length s.store.present) dsm_ids

abbrev pub progress_lent : State → List ℕ → List ℕ → State
progress_lent s blocks present = with_store s (record { blocks = blocks; headers = s.store.headers; present = present; since = s.store.since })

-- what a read of what waits is lent
unfoldable pub offer_shaped : State → Bool
offer_shaped s = eqb (length s.pubkeys) pubkeys_length && eqb (length s.offer) offer_length

abbrev pub offer_lent : State → List ℕ → List ℕ → State
offer_lent s pubkeys offer = with_offer (with_pubkeys s pubkeys) offer

-- ---- settings

-- NS; a number that no start takes counts as 1
unfoldable pub ns_of : List ℕ → ℕ
ns_of config = cond (within 1 36 (get_or config 0 0)) (get_or config 0 0) 1

unfoldable pub maclt_of : List ℕ → ℕ
maclt_of config = get_or config 1 0

-- the mark of field j of a section, from 0, counted on through all blocks: the first list at second 0 of the minute, the second at 30
unfoldable pub mark_of : List ℕ → Bool → ℕ → ℕ
mark_of config half j = get_or config (2 + cond half 14 0 + j) 0

unfoldable pub tree_root : List ℕ → List ℕ
tree_root config = part config 30 32

-- the place of the mark that the core is stopped
abbrev pub stopped_at : ℕ
stopped_at = 62

unfoldable pub stopped : List ℕ → Bool
stopped config = not (eqb (get_or config stopped_at 0) 0)

-- ---- clocks

unfoldable pub last_subframe : List ℕ → ℕ
last_subframe clocks = get_or clocks 0 0

unfoldable pub last_subframe_of : List ℕ → ℕ → ℕ
last_subframe_of clocks prn = get_or clocks prn 0

unfoldable pub last_word_of : List ℕ → ℕ → ℕ
last_word_of clocks prn = get_or clocks (36 + prn) 0

-- a PRN that is heard: 1 to 36
unfoldable pub prn_valid : ℕ → Bool
prn_valid prn = within 1 36 prn

-- ---- held key and waiting tags

-- the held key's slot; a number past every slot that week 4095 has counts as 0
unfoldable pub held_slot : List ℕ → ℕ
held_slot numbers = cond (ltb (get_or numbers 0 0) 17179869184) (get_or numbers 0 0) 0

-- how many tags wait; at most 256 do
unfoldable pub waiting_count : List ℕ → ℕ
waiting_count numbers = cond (leb (get_or numbers 1 0) 256) (get_or numbers 1 0) 0
