-- HKROOT sections and the gathering of DSM blocks (01, "HKROOT").
use Rattle.std.specs.Prelude.{ℕ, zero, suc, ◌+◌, ◌-◌, ◌*◌, ◌/◌, ◌%◌, ◌^◌, Bool, cond, not, ◌&&◌, List, [], ◌∷◌, ◌++◌, leb, ltb, eqb, get_or, set}
use Rattle.std.specs.Int.Count.{ones}
use Rattle.laws.specs.Lists.{part, splice}
use Rattle.laws.specs.Refusal.{Check, refuse, first_refusal, unless, neb}
use Rattle.rules.specs.Bits.{same, any_of, within}
use Rattle.rules.specs.State.{Store}
use Rattle.rules.specs.Times.{seconds_of}

-- "From each of 15 five-byte fields the first byte goes to HKROOT (15 bytes), the rest to MACK (60)."
unfoldable pub hkroot_of : List ℕ → ℕ → List ℕ
hkroot_of f zero = []
hkroot_of f (suc n) = hkroot_of f n ++ (get_or f (5 * n) 0 ∷ [])

unfoldable pub mack_of : List ℕ → ℕ → List ℕ
mack_of f zero = []
mack_of f (suc n) = mack_of f n ++ part f (5 * n + 1) 4

-- ---- an HKROOT section: NMA header, DSM ID and block ID, a 13-byte block

unfoldable pub header_of : List ℕ → ℕ
header_of hk = get_or hk 0 0

-- the header's NMA status (2 bits) and CID (2)
unfoldable pub status_of : ℕ → ℕ
status_of header = header / 64 % 4

unfoldable pub cid_of : ℕ → ℕ
cid_of header = header / 16 % 4

unfoldable pub dsm_id_of : List ℕ → ℕ
dsm_id_of hk = get_or hk 1 0 / 16 % 16

unfoldable pub block_id_of : List ℕ → ℕ
block_id_of hk = get_or hk 1 0 % 16

unfoldable pub block_of : List ℕ → List ℕ
block_of hk = part hk 2 13

-- "NB 1 to 10 means 7 to 16 blocks, other values are reserved": 0 stands for reserved
unfoldable pub blocks_for : ℕ → ℕ
blocks_for nb = cond (within 1 10 nb) (nb + 6) 0

-- the number of blocks that a block 0 names: NB is its first four bits
unfoldable pub total_of : List ℕ → ℕ
total_of block = blocks_for (get_or block 0 0 / 16)

-- ---- the store

-- block k is present
unfoldable pub marked : ℕ → ℕ → Bool
marked present k = eqb (present / 2 ^ k % 2) 1

unfoldable pub with_mark : ℕ → ℕ → ℕ
with_mark present k = cond (marked present k) present (present + 2 ^ k)

unfoldable pub stored_block : List ℕ → ℕ → ℕ → List ℕ
stored_block blocks id k = part blocks (id * 208 + k * 13) 13

-- "Before a block is stored, that ID's blocks are dropped if the oldest is over 3,600 s old, if the NMA header differs, if the same block
-- ID held other bytes, or if it is a block 0 whose count is not above every stored block ID." Sub-frame times do not go back, so the
-- block that came first is the oldest.
unfoldable pub drops_blocks : Store → ℕ → ℕ → List ℕ → Bool
drops_blocks s t id hk =
    let present = get_or s.present id 0 in
    let k = block_id_of hk in
    any_of
    (ltb 3600 (seconds_of t - seconds_of (get_or s.since id 0))
    ∷ neb (get_or s.headers id 0) (header_of hk)
    ∷ (marked present k && not (same (stored_block s.blocks id k) (block_of hk)))
    ∷ (eqb k 0 && neb (present / 2 ^ total_of (block_of hk)) 0)
    ∷ [])

-- the marks that are left of an ID's blocks when this one comes
unfoldable pub kept_marks : Store → ℕ → ℕ → List ℕ → ℕ
kept_marks s t id hk = cond (drops_blocks s t id hk) 0 (get_or s.present id 0)

-- "A reserved NB drops only its block" (A25)
unfoldable pub reserved_count : List ℕ → Bool
reserved_count hk = eqb (block_id_of hk) 0 && eqb (total_of (block_of hk)) 0

-- "an ID is called too high after these drops, against the block 0 held"
unfoldable pub too_high : Store → ℕ → ℕ → List ℕ → Bool
too_high s t id hk = marked (kept_marks s t id hk) 0 && leb (total_of (stored_block s.blocks id 0)) (block_id_of hk)

-- the block in its place; the first block of an ID gives its time, a repeat keeps it
unfoldable pub with_block : Store → ℕ → ℕ → List ℕ → Store
with_block s t id hk =
    let kept = kept_marks s t id hk in
    record {
      blocks = splice s.blocks (id * 208 + block_id_of hk * 13) (block_of hk);
      headers = set s.headers id (header_of hk);
      present = set s.present id (with_mark kept (block_id_of hk));
      since = set s.since id (cond (eqb kept 0) t (get_or s.since id 0));
    }

-- "The blocks present are marked in sixteen bits, and their number shows completeness."
unfoldable pub complete : Store → ℕ → Bool
complete s id =
    let present = get_or s.present id 0 in
    marked present 0 && eqb (ones present) (total_of (stored_block s.blocks id 0))

-- "A complete DSM is taken out.": its bytes, and the store without it
unfoldable pub dsm_of : Store → ℕ → List ℕ
dsm_of s id = part s.blocks (id * 208) (13 * total_of (stored_block s.blocks id 0))

unfoldable pub once_taken_out : Store → ℕ → Store
once_taken_out s id = record { blocks = s.blocks; headers = s.headers; present = set s.present id 0; since = s.since }

-- what the coming of a block leaves: the answer's number, the store, and the complete DSM (empty where there is none)
pub record Gathered : Type 0 where
  pub code : ℕ
  pub store : Store
  pub dsm : List ℕ

abbrev pub gather_checks : Store → ℕ → ℕ → List ℕ → List Check
gather_checks s t id hk = refuse (reserved_count hk) 6 ∷ refuse (too_high s t id hk) 6 ∷ []

unfoldable pub stored : Store → ℕ → Gathered
stored s id = cond (complete s id) (record { code = 0; store = once_taken_out s id; dsm = dsm_of s id }) (record { code = 0; store = s; dsm = [] })

unfoldable pub gathered : Store → ℕ → List ℕ → Gathered
gathered s t hk =
    let id = dsm_id_of hk in
    let code = first_refusal (gather_checks s t id hk) in
    unless code (stored (with_block s t id hk) id) (record { code = code; store = s; dsm = [] })
