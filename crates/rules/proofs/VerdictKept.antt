-- Verdicts: what is in force is the message of the last verdict that counts, vouched for; what waits over a new root has its chain unchanged and is not
-- before it.
use Prim.Native.Nat.{ℕ, zero, suc, ◌+◌, ◌-◌, ◌/◌, ◌≤◌, ◌<◌}
use mathlib.Core.Path.{◌≡◌, refl, sym, ◌∙◌, ap}
use mathlib.Core.Logic.{inl, ⊎_elim}
use mathlib.Core.Bool.{Bool, true, false, cond, ◌&&◌, not}
use mathlib.Core.List.{List, [], ◌∷◌, ◌++◌, append-nil}
use mathlib.Core.Option.{some}
use native.Mathlib.Nat.{le_refl}
use native.Mathlib.Omega.{arith}
use lib.Dec.{eqb, leb, ltb}
use lib.ListN.{length, set, take}
use lib.Seq.{get_or-set_same, take_all}
use borrow.Author.Tests.{leb-true, ltb-false, eqb-true, eqb-false, not-false, le-leb}
use Rattle.laws.specs.Lists.{part, splice}
use Rattle.laws.specs.Refusal.{first_refusal, neb}
use Rattle.laws.proofs.Refusal.{clear, by_test, neb_false}
use Rattle.laws.proofs.Same.{same_true}
use Rattle.laws.proofs.Splice.{length_part, below?}
use Rattle.laws.proofs.Tests.{and_left, and_right, neither, both_true}
use Rattle.rules.specs.Bits.{filled, same, within, any_of}
use Rattle.rules.specs.Calls.{Start, verdict_call, verdict_checks, chain_of, held_of}
use Rattle.rules.specs.Candidates.{pair_at, candidates_cleared}
use Rattle.rules.specs.Chain.{held, walk}
use Rattle.rules.specs.Claim.{Vouched, Fair, NoneOf, would_hand, contents_by}
use Rattle.rules.specs.Gather.{status_of, cid_of}
use Rattle.rules.specs.Kroot.{cidkr_of, ks_of, key_width, kroot_of, root_seconds_of, chain_with, chain_contents, in_force, offer_waits, offer_id, offer_message, offer_signature, no_offer}
use Rattle.rules.specs.Log.{verdict, Entry, Log, here, earlier, step, state_at, chain_in, chain_turns}
use Rattle.rules.specs.PublicKeys.{key_held, key_type, without_lower}
use Rattle.rules.specs.State.{State, verdict_shaped, contents_length, entry_length, ns_of, held_slot, waiting_count, pubkeys_length, chain_length, waiting_length, Tesla, Auth, with_auth, numbers_length, arrivals_length}
use Rattle.rules.specs.Tags.{entry_at, entry_tag}
use Rattle.rules.specs.Times.{key_seconds}
use Rattle.rules.proofs.Agreements.{forty_map}
use Rattle.rules.specs.Verdict.{Verdict, message_header, message_contents, names_offer, same_contents, status_unfit, vouch_checks, key_not_before, staying, staying_at, root_held, tags_dropped, vouched, judged_verdict, trusting, chain_unchanged, cid_in_force, forced, chain_stays, candidates_at}
use Rattle.rules.proofs.Bounds.{status_bound, key_width_bound, count_bound, count-written}
use Rattle.rules.proofs.Choices.{answered, each, no, not-zero}
use Rattle.rules.proofs.Entries.{Entries, no_entries, one_more, entries_in, length_entry}
use Rattle.rules.proofs.Invariant.{Inv, KeysAre, OfferHeld, InForce, HeldIs, WaitIs, NamesAre, Newer, AgreedIn, SetsAre}
use Rattle.rules.proofs.KeyPlaces.{lower_number, upper_number, upper_bytes}
use Rattle.rules.proofs.Later.{entry, stepped_at, same_inv, unchanged_inv, quiet_refused, words_later, blocks_later, keys_later, known_later, held_later, wait_later, sets_later, still}
use Rattle.rules.proofs.Lengths.{VerdictSized, verdict_sized, offer_shaped_lem}
use Rattle.rules.proofs.Names.{Undue, next_undue, less_undue, no_names, names_less, names-kept, names_in}
use Rattle.rules.proofs.PairPlaces.{cleared_set, cleared_stamp, cleared_latest}
use Rattle.rules.proofs.Parts.{filled_back}
use Rattle.rules.proofs.ReadsFair.{plain_fair, would_hand_lem, offer_known, handing}
use Rattle.rules.proofs.Refused.{verdict_refused}
use Rattle.rules.proofs.Unchanged.{unchanged_refl, unchanged_trans}

-- ---- what the checks of a verdict answered 0 say

record Fit (s : State) (v : Verdict) : Type 0 where
  shape : verdict_shaped s ≡ true
  message : length v.message ≡ 45
  waits : offer_waits s.offer ≡ true
  id : offer_id s.offer ≡ v.id
  id_small : v.id < 16
  message_is : offer_message s.offer ≡ v.message
  signature_is : offer_signature s.offer ≡ v.signature
  good : v.good ≡ 1
  status : status_unfit s (message_header v.message) (message_contents v.message) ≡ false

fit : (s : State) (v : Verdict) → first_refusal (verdict_checks s v) ≡ 0 → Fit s v
unfolding verdict_checks vouch_checks names_offer
fit s v h =
    let c = clear (verdict_checks s v) tt h in
    let a = not-false (verdict_shaped s && (eqb (length v.message) 45 && eqb (length v.signature) 132)) c.0 in
    let m = and_left (eqb (length v.message) 45) (eqb (length v.signature) 132) (and_right (verdict_shaped s) _ a) in
    let r = neither (ltb 1 v.good) (ltb 15 v.id) c.1.0 in
    let i = ltb-false 15 v.id r.1 in
    let n = not-false (names_offer s.offer v) c.1.1.1.0 in
    let ts : List Bool = offer_waits s.offer ∷ eqb (offer_id s.offer) v.id ∷ same (offer_message s.offer) v.message ∷ same (offer_signature s.offer) v.signature ∷ [] in
    record {
      shape = and_left (verdict_shaped s) _ a;
      message = eqb-true (length v.message) 45 m;
      waits = each ts n 0;
      id = eqb-true (offer_id s.offer) v.id (each ts n 1);
      id_small = omega arith;
      message_is = same_true (offer_message s.offer) v.message (each ts n 2);
      signature_is = same_true (offer_signature s.offer) v.signature (each ts n 3);
      good = neb_false v.good 1 c.1.1.1.1.0;
      status = c.1.1.1.1.1.0;
    }

-- the verdict is on the exact message, under a known key
vouched_here : (o : Start) (b s : State) (v : Verdict) (x : Entry) (l : Log) → Inv o b s l → x.call ≡ verdict v → x.reply.code ≡ 0 → Fit s v → Vouched o b v x l
vouched_here o b s v x l i is ok f =
    let u : would_hand (state_at b l) ≡ handing s = rw (← i.at) (would_hand_lem s (offer_shaped_lem s f.shape) f.waits) in
    record {
      verdict_is = rw (is, ok) refl;
      good = f.good;
      waited = rw u refl;
      message_is = rw u f.message_is;
      signature_is = rw u f.signature_is;
      id_is = rw u f.id;
      held = rw (← i.at, ← f.id) (i.offer f.waits);
      known = rw u (offer_known o b s l i f.waits);
    }

-- ---- status and chain in force

-- a verdict answered 0 that is not of status 3 has status 1 or 2 and CIDKR equal to CID
put_status : (s : State) (v : Verdict) → Fit s v → eqb (status_of (message_header v.message)) 3 ≡ false
    → (within 1 2 (status_of (message_header v.message)) && eqb (cidkr_of (message_contents v.message)) (cid_of (message_header v.message))) ≡ true
unfolding status_unfit
put_status s v f n =
    let h = message_header v.message in
    let c = message_contents v.message in
    let a = neither (eqb (status_of h) 0) _ f.status in
    let b = neither (eqb (status_of h) 3 && not (cid_in_force s (cid_of h))) _ a.1 in
    let d = neither (within 1 2 (status_of h) && neb (cidkr_of c) (cid_of h)) false b.1 in
    let z = eqb-false (status_of h) 0 a.0 in
    let t = eqb-false (status_of h) 3 n in
    let q = status_bound h in
    let w : within 1 2 (status_of h) ≡ true = both_true (leb 1 (status_of h)) (leb (status_of h) 2) (le-leb 1 (status_of h) (omega (arith, z))) (le-leb (status_of h) 2 (omega (arith, t, q))) in
    let e : neb (cidkr_of c) (cid_of h) ≡ false = rw w at d.0 in
    both_true (within 1 2 (status_of h)) (eqb (cidkr_of c) (cid_of h)) w (not-false (eqb (cidkr_of c) (cid_of h)) e)

put_in_force : (s : State) (v : Verdict) (x : Entry) (l : Log) → x.call ≡ verdict v → x.reply.code ≡ 0 → Fit s v → eqb (status_of (message_header v.message)) 3 ≡ false → chain_in (x ∷ l) ≡ some v
put_in_force s v x l is ok f n = rw (is, ok) (rw n (rw (put_status s v f n) refl))

-- ---- parts

no_offer_lem : (keys : List ℕ) → OfferHeld keys no_offer
unfolding no_offer offer_waits
no_offer_lem keys e = no refl e

-- "drops keys of lower ID": the others are known as before
lower_known : (o : Start) (keys : List ℕ) (id : ℕ) (x : Entry) (l : Log) → length keys ≡ pubkeys_length → id < 16 → KeysAre o keys l → KeysAre o (without_lower keys id) (x ∷ l)
unfolding key_held key_type
lower_known o keys id x l size h v =
    record {
      known = λ i k m.
          ⊎_elim
          (λ g. no (ap (within 1 4) (lower_number keys id size h i g)) m)
          (λ g. (
          let a = upper_number keys id size h i g in
          let b = upper_bytes keys id size h i k g in
          rw (a, b) (known_later (v.known i k (rw a at m)))
          ))
          (below? i id);
    }

drop_ends : (config chain : List ℕ) → length chain ≡ chain_length → in_force config (set chain 0 2) ≡ false
unfolding in_force
drop_ends config chain h = let e = get_or-set_same chain 0 2 0 (omega arith) in rw e refl

-- ---- a new root

length-contents : (m : List ℕ) → length m ≡ 45 → length (message_contents m) ≡ contents_length
unfolding message_contents
length-contents m h = length_part m 1 contents_length (omega arith)

new_contents : (c : List ℕ) → length c ≡ contents_length → chain_contents (forced c) ≡ c
unfolding chain_contents part forced
new_contents c h = take_all contents_length c (omega arith)

length_root : (c : List ℕ) → length c ≡ contents_length → length (kroot_of c) ≡ key_width (ks_of c)
unfolding kroot_of
length_root c h = let w = key_width_bound (ks_of c) in length_part c 12 (key_width (ks_of c)) (omega arith)

-- "The held key begins again at this root."
root_held_lem : (ns : ℕ) (c : List ℕ) (n : ℕ) (l : Log) → length c ≡ contents_length
    → HeldIs (chain_with ns c) (kroot_of c) (held (held_slot (0 ∷ n ∷ [])) (take (chain_with ns c).width (filled 32 (kroot_of c)))) l
unfolding held_slot chain_with walk
root_held_lem ns c n l h =
    let k : take (key_width (ks_of c)) (filled 32 (kroot_of c)) ≡ kroot_of c = filled_back 32 (key_width (ks_of c)) (kroot_of c) (length_root c h) in
    record { width = rw k (length_root c h); down = k; from = inl refl }

-- ---- the tags that stay over it

not_before_of : (root : ℕ) (e : List ℕ) → key_not_before root e ≡ true → root ≤ key_seconds (entry_tag e).time (entry_tag e).adkd
unfolding key_not_before
not_before_of root e h = leb-true root _ h

-- a tag that waited under the contents a waits under c, where c leaves the chain unchanged and is not after its key
waits_on : (o : Start) (a c e : List ℕ) (l : Log) → chain_unchanged a c ≡ true → WaitIs o a e l → key_not_before (root_seconds_of c) e ≡ true → WaitIs o c e l
waits_on o a c e l u w h =
    record { by = w.by; arrived = w.arrived; unchanged = unchanged_trans (contents_by w.by) a c w.unchanged u; not_before = not_before_of (root_seconds_of c) e h }

-- entries that stay: what waits arrived, and its names are apart from each other and from those used
record StayIs (o : Start) (c : List ℕ) (l : Log) (U : List ℕ → Type 0) (used : List (List ℕ)) (w : List ℕ) : Type 0 where
  m : ℕ
  entries : Entries (λ (e : List ℕ). WaitIs o c e l) w m
  names : NamesAre U w m used

none_stay : (o : Start) (c : List ℕ) (l : Log) (U : List ℕ → Type 0) (used : List (List ℕ)) → ((n : List ℕ) → U n → NoneOf n used) → StayIs o c l U used []
none_stay o c l U used f = record { m = 0; entries = no_entries (λ (e : List ℕ). WaitIs o c e l); names = no_names U [] 0 used refl f }

module _ (o : Start) (a c waiting : List ℕ) (l : Log) (same_chain : chain_unchanged a c ≡ true) (size : length waiting ≡ waiting_length)
    (U : List ℕ → Type 0) (used : List (List ℕ)) (all : ℕ) (few : all ≤ 256) (names : NamesAre U waiting all used) (v : (k : ℕ) → k < all → WaitIs o a (entry_at waiting k) l) where
  abbrev Stays : List ℕ → Type 0
  Stays e = WaitIs o c e l

  staying_entries : (n : ℕ) → n ≤ all → StayIs o c l (Undue used waiting n) used (staying (root_seconds_of c) waiting n)
  unfolding staying
  staying_entries zero h = none_stay o c l (Undue used waiting 0) used (λ n u. u.0)
  staying_entries (suc n) h = go (key_not_before (root_seconds_of c) (entry_at waiting n)) refl (staying_entries n (omega arith))
    where
      go : (t : Bool) → key_not_before (root_seconds_of c) (entry_at waiting n) ≡ t → StayIs o c l (Undue used waiting n) used (staying (root_seconds_of c) waiting n)
          → StayIs o c l (Undue used waiting (suc n)) used (staying (root_seconds_of c) waiting n ++ cond t (entry_at waiting n) [])
      go true e p =
          record {
            m = p.m + 1;
            entries =
                one_more Stays (staying (root_seconds_of c) waiting n) (entry_at waiting n) p.m p.entries (length_entry waiting n (omega arith))
                (waits_on o a c (entry_at waiting n) l same_chain (v n (omega arith)) e);
            names =
                names-kept (Undue used waiting n) (Undue used waiting (suc n)) (staying (root_seconds_of c) waiting n) p.m used (entry_at waiting n) p.entries.size (length_entry waiting n (omega arith))
                (next_undue U used waiting all n (omega arith) names) (less_undue used waiting n) p.names;
          }
      go false e p =
          rw append-nil
          (record {
            m = p.m;
            entries = p.entries;
            names = names_less (Undue used waiting n) (Undue used waiting (suc n)) (staying (root_seconds_of c) waiting n) p.m used (λ m u. (less_undue used waiting n m u).0) p.names;
          })

stay_entries : (o : Start) (b s : State) (c : List ℕ) (x : Entry) (l : Log) (i : Inv o b s l) → (chain_stays s c ≡ true → chain_turns (x ∷ l) ≡ chain_turns l) → length s.tesla.waiting ≡ waiting_length
    → StayIs o c (x ∷ l) (Newer s.clocks) i.used (staying_at s c)
unfolding staying_at chain_stays
stay_entries o b s c x l i q size =
    by_test (StayIs o c (x ∷ l) (Newer s.clocks) i.used) (chain_stays s c)
    (λ e. (
    let f = and_left (in_force s.config s.chain) _ e in
    let u = and_right (in_force s.config s.chain) _ e in
    let count = waiting_count s.tesla.numbers in
    let p =
    staying_entries o (chain_contents s.chain) c s.tesla.waiting (x ∷ l) u size (Newer s.clocks) i.used count (count_bound s.tesla.numbers) i.names
    (λ k h. wait_later (q e) (i.waiting f k h)) count (le_refl count) in
    record {
      m = p.m;
      entries = p.entries;
      names = names_less (Undue i.used s.tesla.waiting count) (Newer s.clocks) _ p.m i.used i.names.unseen p.names;
    }
    ))
    (λ _. none_stay o c (x ∷ l) (Newer s.clocks) i.used (λ n u. (i.names.unseen n u).0))

-- ---- candidates

-- "A new chain or a drop clears candidates.": authentic sets stay
cleared_sets : (o : Start) (b : State) (a : Auth) (used : List (List ℕ)) (x : Entry) (l : Log) → length a.arrivals ≡ arrivals_length → SetsAre o b a used l → SetsAre o b (candidates_cleared a) used (x ∷ l)
cleared_sets o b a used x l size v =
    record {
      backed = λ prn p. (
          let q = cleared_set a size prn p in
          let r = cleared_stamp a size prn p in
          record {
            set = λ n.
                rw (q, r)
                (forty_map (AgreedIn o b l prn (pair_at a.sets a.arrivals prn).set) (AgreedIn o b (x ∷ l) prn (pair_at a.sets a.arrivals prn).set) ((pair_at a.sets a.arrivals prn).stamp - 1) (λ turn c g. earlier g)
                ((v.backed prn p).set (λ z. n (r ∙ z))));
            candidate = λ n. absurd (n (cleared_latest a size prn p));
            short = λ n. absurd (n (cleared_latest a size prn p));
          }
          );
    }

drop-count : (t : Tesla) → length t.numbers ≡ numbers_length → waiting_count (tags_dropped t).numbers ≡ 0
unfolding tags_dropped waiting_count
drop-count t h = let e = get_or-set_same t.numbers 1 0 0 (omega arith) in rw e refl

-- ---- the three effects

module _ (o : Start) (b s : State) (v : Verdict) (x : Entry) (l : Log) (i : Inv o b s l) (is : x.call ≡ verdict v) (ok : x.reply.code ≡ 0) (f : Fit s v) where
  abbrev contents : List ℕ
  contents = message_contents v.message

  abbrev lower : List ℕ
  lower = without_lower s.pubkeys v.id

  abbrev Left : State → Type 0
  Left s' = s' ≡ state_at b (x ∷ l) → Inv o b s' (x ∷ l)

  size : VerdictSized s
  size = verdict_sized s f.shape

  -- "Status 3 .. drops the chain and the waiting tags"
  dropped_inv : Left (with_auth (trusting s s.pubkeys (set s.chain 0 2) (tags_dropped s.tesla)) (candidates_cleared s.auth))
  dropped_inv at =
      record {
        at = at;
        ns = i.ns;
        root = i.root;
        words = words_later (rw (is, ok) refl) i.words;
        blocks = blocks_later i.blocks;
        unfinished = i.unfinished;
        pubkeys = keys_later i.pubkeys;
        offer = no_offer_lem s.pubkeys;
        force = λ h. no (drop_ends s.config s.chain size.chain) h;
        held = λ h. no (drop_ends s.config s.chain size.chain) h;
        waiting = λ h. no (drop_ends s.config s.chain size.chain) h;
        used = i.used;
        names = no_names (Newer s.clocks) _ _ i.used (drop-count s.tesla size.numbers) (λ n u. (i.names.unseen n u).0);
        auth = cleared_sets o b s.auth i.used x l size.arrivals i.auth;
      }

  module _ (n : eqb (status_of (message_header v.message)) 3 ≡ false) where
    in_force_now : (c : List ℕ) → c ≡ contents → InForce o b c (x ∷ l)
    in_force_now c e = record { said = v; in_force_law = put_in_force s v x l is ok f n; contents_are = e; vouched = here (vouched_here o b s v x l i is ok f) }

    -- the chain in force stays over contents that leave it unchanged
    turn_stays : in_force s.config s.chain ≡ true → chain_unchanged (chain_contents s.chain) contents ≡ true → chain_turns (x ∷ l) ≡ chain_turns l
    turn_stays g u =
        let k = i.force g in
        let e : chain_unchanged (message_contents k.said.message) contents ≡ true = rw (← k.contents_are) u in
        rw (is, ok) (rw n (rw (put_status s v f n) (rw k.in_force_law (rw e refl))))

    -- "Contents equal to those in force (message without its header) change nothing but the public keys."
    same_contents_inv : same_contents s contents ≡ true → Left (trusting s lower s.chain s.tesla)
    unfolding same_contents chain_of held_of
    same_contents_inv e at =
        record {
          at = at;
          ns = i.ns;
          root = i.root;
          words = words_later (rw (is, ok) refl) i.words;
          blocks = blocks_later i.blocks;
          unfinished = i.unfinished;
          pubkeys = lower_known o s.pubkeys v.id x l size.pubkeys f.id_small i.pubkeys;
          offer = no_offer_lem lower;
          force = λ h. in_force_now (chain_contents s.chain) (same_true (chain_contents s.chain) contents (and_right (in_force s.config s.chain) _ e));
          held = λ h. held_later (i.held h);
          waiting = λ h k j. wait_later same (i.waiting h k j);
          used = i.used;
          names = i.names;
          auth = sets_later o b s.auth i.used l x same i.auth;
        }
      where
        equal : chain_unchanged (chain_contents s.chain) contents ≡ true
        equal = rw (same_true (chain_contents s.chain) contents (and_right (in_force s.config s.chain) _ e)) (unchanged_refl contents)

        same : chain_turns (x ∷ l) ≡ chain_turns l
        same = turn_stays (and_left (in_force s.config s.chain) _ e) equal

    turn_over : chain_stays s contents ≡ true → chain_turns (x ∷ l) ≡ chain_turns l
    unfolding chain_stays
    turn_over e = turn_stays (and_left (in_force s.config s.chain) _ e) (and_right (in_force s.config s.chain) _ e)

    candidates_over : SetsAre o b (candidates_at s contents) i.used (x ∷ l)
    unfolding candidates_at chain_stays
    candidates_over =
        by_test (λ (a : Auth). SetsAre o b a i.used (x ∷ l)) (chain_stays s contents)
        (λ e. sets_later o b s.auth i.used l x (turn_over e) i.auth)
        (λ _. cleared_sets o b s.auth i.used x l size.arrivals i.auth)

    -- a new root
    root_inv : Left (with_auth (trusting s lower (forced contents) (root_held s contents)) (candidates_at s contents))
    unfolding chain_of held_of root_held
    root_inv at =
        record {
          at = at;
          ns = i.ns;
          root = i.root;
          words = words_later (rw (is, ok) refl) i.words;
          blocks = blocks_later i.blocks;
          unfinished = i.unfinished;
          pubkeys = lower_known o s.pubkeys v.id x l size.pubkeys f.id_small i.pubkeys;
          offer = no_offer_lem lower;
          force = λ h. in_force_now (chain_contents (forced contents)) (new_contents contents c_size);
          held = λ h. rw (new_contents contents c_size) (root_held_lem (ns_of s.config) contents (length (staying_at s contents) / entry_length) (x ∷ l) c_size);
          waiting = λ h. rw (new_contents contents c_size) waits;
          used = i.used;
          names = names_in (Newer s.clocks) (staying_at s contents) s.tesla.waiting stay.m _ i.used stay.entries.size few stay.names;
          auth = candidates_over;
        }
      where
        c_size : length (message_contents v.message) ≡ contents_length
        c_size = length-contents v.message f.message

        stay : StayIs o contents (x ∷ l) (Newer s.clocks) i.used (staying_at s contents)
        stay = stay_entries o b s contents x l i turn_over size.waiting

        few : waiting_count (0 ∷ length (staying_at s contents) / entry_length ∷ []) ≤ stay.m
        few =
            let z = stay.entries.size in
            let y = count-written 0 (length (staying_at s contents) / entry_length) in
            omega arith

        waits : (k : ℕ) → k < waiting_count (0 ∷ length (staying_at s contents) / entry_length ∷ []) → WaitIs o contents (entry_at (splice s.tesla.waiting 0 (staying_at s contents)) k) (x ∷ l)
        waits k h =
            let z = few in
            entries_in (λ (e : List ℕ). WaitIs o contents e (x ∷ l)) s.tesla.waiting (staying_at s contents) stay.m stay.entries k (omega arith)

  vouched_inv : Left (vouched s v)
  unfolding vouched
  vouched_inv =
      by_test Left (eqb (status_of (message_header v.message)) 3) (λ _. dropped_inv)
      (λ n. by_test Left (same_contents s contents) (λ e. same_contents_inv n e) (λ _. root_inv n))

-- ---- the call

-- a refused verdict leaves all, or drops what waits
refused_inv : (o : Start) (b s : State) (l : Log) (v : Verdict) (n : ℕ) → Inv o b s l → (step s (verdict v)).reply.code ≡ suc n → Inv o b (step s (verdict v)).state (entry s (verdict v) ∷ l)
refused_inv o b s l v n i e =
    verdict_refused (λ (s' : State). s' ≡ state_at b (entry s (verdict v) ∷ l) → Inv o b s' (entry s (verdict v) ∷ l)) s v
    (λ at. unchanged_inv o b s (entry s (verdict v)) l i (quiet_refused _ n e) at)
    (λ at.
    same_inv o b s (trusting s s.pubkeys s.chain s.tesla) (entry s (verdict v)) l i (quiet_refused (entry s (verdict v)) n e).no_verdict at refl refl refl refl refl refl (no_offer_lem s.pubkeys)
    (words_later (quiet_refused (entry s (verdict v)) n e).no_word i.words) (still s.clocks))
    (not-zero _ n e) (stepped_at b s l (verdict v) i.at)

accepted_state : (s : State) (v : Verdict) (code : ℕ) → code ≡ 0 → cond (any_of (eqb code 1 ∷ eqb code 2 ∷ eqb code 4 ∷ [])) s (judged_verdict s v code) ≡ vouched s v
unfolding judged_verdict
accepted_state s v code e = rw e refl

accepted_inv : (o : Start) (b s : State) (l : Log) (v : Verdict) → Inv o b s l → (step s (verdict v)).reply.code ≡ 0 → Inv o b (step s (verdict v)).state (entry s (verdict v) ∷ l)
unfolding step verdict_call
accepted_inv o b s l v i e =
    let k = accepted_state s v (first_refusal (verdict_checks s v)) e in
    rw k (vouched_inv o b s v (entry s (verdict v)) l i refl e (fit s v e) (sym k ∙ stepped_at b s l (verdict v) i.at))

verdict_inv : (o : Start) (b s : State) (l : Log) (v : Verdict) → Inv o b s l → Inv o b (step s (verdict v)).state (entry s (verdict v) ∷ l)
verdict_inv o b s l v i =
    ⊎_elim (λ e. accepted_inv o b s l v i e) (λ p. refused_inv o b s l v p.0 i p.1) (answered (step s (verdict v)).reply.code)

pub verdict_call_lem : (o : Start) (b s : State) (l : Log) (v : Verdict) → Inv o b s l → Fair o b (entry s (verdict v)) l × Inv o b (step s (verdict v)).state (entry s (verdict v) ∷ l)
unfolding step
verdict_call_lem o b s l v i = (plain_fair o b (entry s (verdict v)) l refl refl, verdict_inv o b s l v i)
