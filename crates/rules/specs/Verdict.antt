-- Verdicts of the signature chip (01, "Verdicts").
use Rattle.std.specs.Prelude.{ℕ, zero, suc, ◌+◌, ◌/◌, Bool, cond, not, ◌&&◌, ◌||◌, List, [], ◌∷◌, ◌++◌, leb, ltb, eqb, length, get_or, set}
use Rattle.laws.specs.Lists.{part, splice}
use Rattle.laws.specs.Refusal.{Check, refuse, unless, neb}
use Rattle.rules.specs.Bits.{filled, same, any_of, all_of, within}
use Rattle.rules.specs.Candidates.{candidates_cleared}
use Rattle.rules.specs.Gather.{status_of, cid_of}
use Rattle.rules.specs.PublicKeys.{without_lower}
use Rattle.rules.specs.Kroot.{cidkr_of, nmack_of, hf_of, mf_of, ks_of, ms_of, maclt_field_of, mo_of, alpha_of, kroot_of, root_seconds_of}
use Rattle.rules.specs.Kroot.{offer_waits, offer_id, offer_message, offer_signature, no_offer, chain_contents, in_force, ever_forced}
use Rattle.rules.specs.State.{State, Tesla, waiting_count, contents_length, entry_length, with_pubkeys, with_offer, with_chain, with_tesla, Auth, with_auth}
use Rattle.rules.specs.Tags.{entry_at, entry_tag}
use Rattle.rules.specs.Times.{key_seconds}

-- what a verdict names
pub record Verdict : Type 0 where
  -- 1 good, 0 bad (A38)
  pub good : ℕ
  pub id : ℕ
  pub message : List ℕ
  pub signature : List ℕ

-- the NMA header and the contents of a message
unfoldable pub message_header : List ℕ → ℕ
message_header m = get_or m 0 0

unfoldable pub message_contents : List ℕ → List ℕ
message_contents m = part m 1 contents_length

-- "all of it is compared with what waits"
unfoldable pub names_offer : List ℕ → Verdict → Bool
names_offer offer v =
    all_of
    (offer_waits offer
    ∷ eqb (offer_id offer) v.id
    ∷ same (offer_message offer) v.message
    ∷ same (offer_signature offer) v.signature
    ∷ [])

-- the CID that the chain in force has (A44)
unfoldable pub cid_in_force : State → ℕ → Bool
cid_in_force s cid = in_force s.config s.chain && eqb (cidkr_of (chain_contents s.chain)) cid

-- "Contents equal to those in force (message without its header)"
unfoldable pub same_contents : State → List ℕ → Bool
same_contents s c = in_force s.config s.chain && same (chain_contents s.chain) c

-- row 11, verdict: "status 0; status 3 with no chain or other CID; status 1 or 2 with CIDKR not CID"
unfoldable pub status_unfit : State → ℕ → List ℕ → Bool
status_unfit s header c =
    any_of
    (eqb (status_of header) 0
    ∷ (eqb (status_of header) 3 && not (cid_in_force s (cid_of header)))
    ∷ (within 1 2 (status_of header) && neb (cidkr_of c) (cid_of header))
    ∷ [])

-- row 9, verdict: "root earlier than the last put in force, or equal with other contents, or not later after a drop"
unfoldable pub root_unfit : State → List ℕ → Bool
root_unfit s c =
    let last = root_seconds_of (chain_contents s.chain) in
    cond (in_force s.config s.chain)
    (ltb (root_seconds_of c) last || (eqb (root_seconds_of c) last && not (same_contents s c)))
    (ever_forced s.chain && leb (root_seconds_of c) last)

-- ".. 14, 15, 11, 9"
unfoldable pub vouch_checks : State → Verdict → List Check
vouch_checks s v =
    let header = message_header v.message in
    let c = message_contents v.message in
    refuse (not (names_offer s.offer v)) 14
    ∷ refuse (neb v.good 1) 15
    ∷ refuse (status_unfit s header c) 11
    ∷ refuse (within 1 2 (status_of header) && root_unfit s c) 9
    ∷ []

-- ---- waiting tags at a new root

-- "the chain is unchanged (CID, parameters, α)" (A41)
unfoldable pub chain_unchanged : List ℕ → List ℕ → Bool
chain_unchanged a b =
    all_of
    (eqb (cidkr_of a) (cidkr_of b)
    ∷ eqb (nmack_of a) (nmack_of b)
    ∷ eqb (hf_of a) (hf_of b)
    ∷ eqb (mf_of a) (mf_of b)
    ∷ eqb (ks_of a) (ks_of b)
    ∷ eqb (ms_of a) (ms_of b)
    ∷ eqb (maclt_field_of a) (maclt_field_of b)
    ∷ eqb (mo_of a) (mo_of b)
    ∷ same (alpha_of a) (alpha_of b)
    ∷ [])

-- "their key's sub-frame is not before the root's sub-frame 0"
unfoldable pub key_not_before : ℕ → List ℕ → Bool
key_not_before root e = leb root (key_seconds (entry_tag e).time (entry_tag e).adkd)

-- those of the first n waiting tags that stay, in order
unfoldable pub staying : ℕ → List ℕ → ℕ → List ℕ
staying root waiting zero = []
staying root waiting (suc n) =
    staying root waiting n ++ cond (key_not_before root (entry_at waiting n)) (entry_at waiting n) []

-- there is a chain in force, and the new contents leave it unchanged
unfoldable pub chain_stays : State → List ℕ → Bool
chain_stays s c = in_force s.config s.chain && chain_unchanged (chain_contents s.chain) c

-- the entries that stay at the new contents
unfoldable pub staying_at : State → List ℕ → List ℕ
staying_at s c =
    cond (chain_stays s c)
    (staying (root_seconds_of c) s.tesla.waiting (waiting_count s.tesla.numbers))
    []

-- "The held key begins again at this root."
unfoldable pub root_held : State → List ℕ → Tesla
root_held s c =
    let stay = staying_at s c in
    record {
      numbers = 0 ∷ length stay / entry_length ∷ [];
      key = filled 32 (kroot_of c);
      waiting = splice s.tesla.waiting 0 stay;
    }

-- "Status 3 .. drops the chain and the waiting tags"; the contents stay, since "After a drop only a later root counts."
unfoldable pub tags_dropped : Tesla → Tesla
tags_dropped t = record { numbers = set t.numbers 1 0; key = t.key; waiting = t.waiting }

-- "A new chain or a drop clears candidates." (02, P4): a root of the same chain does not (B21)
unfoldable pub candidates_at : State → List ℕ → Auth
candidates_at s c = cond (chain_stays s c) s.auth (candidates_cleared s.auth)

-- ---- the effect of a verdict that is past 14

-- the chain with these contents put in force
unfoldable pub forced : List ℕ → List ℕ
forced c = 1 ∷ c

abbrev pub trusting : State → List ℕ → List ℕ → Tesla → State
trusting s pubkeys chain tesla = with_tesla (with_chain (with_offer (with_pubkeys s pubkeys) no_offer) chain) tesla

-- "A good one answered 0 also ends the wait."
unfoldable pub vouched : State → Verdict → State
vouched s v =
    let header = message_header v.message in
    let c = message_contents v.message in
    let lower = without_lower s.pubkeys v.id in
    cond (eqb (status_of header) 3)
    (with_auth (trusting s s.pubkeys (set s.chain 0 2) (tags_dropped s.tesla)) (candidates_cleared s.auth))
    (cond (same_contents s c)
    (trusting s lower s.chain s.tesla)
    (with_auth (trusting s lower (forced c) (root_held s c)) (candidates_at s c)))

-- 14 leaves all as before; 15, 11 and 9 drop the waiting message
unfoldable pub judged_verdict : State → Verdict → ℕ → State
judged_verdict s v code =
    unless code (vouched s v) (cond (eqb code 14) s (trusting s s.pubkeys s.chain s.tesla))
