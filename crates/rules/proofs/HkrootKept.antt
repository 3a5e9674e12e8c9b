-- The HKROOT half: blocks, public keys and what waits are by the history again; words, chain, held key, tags and sets stay.
use Prim.Native.Nat.{ℕ, ◌+◌}
use mathlib.Core.Path.{◌≡◌, refl, sym, ◌∙◌, ap}
use mathlib.Core.Logic.{◌≢◌, ⊎_elim}
use mathlib.Core.Bool.{false}
use mathlib.Core.List.{List, ◌∷◌}
use mathlib.Core.Option.{some}
use native.Mathlib.Omega.{arith}
use lib.Dec.{eqb, leb}
use lib.ListN.{length, set, length-set}
use lib.Seq.{get_or-set_other, ext_get_or}
use borrow.Author.Tests.{leb-false, eqb-true, eqb-false}
use Rattle.laws.specs.Lists.{part}
use Rattle.laws.specs.Refusal.{first_refusal}
use Rattle.laws.proofs.Refusal.{clear, by_test}
use Rattle.laws.proofs.Splice.{either, length_part, get_d_part}
use Rattle.rules.specs.Calls.{Start, Subframe, HkrootDone, fields_of, hkroot_half, hkroot_received, store_done, kroot_done, pkr_done}
use Rattle.rules.specs.Gather.{hkroot_of, dsm_id_of, header_of, with_block, complete, stored, gathered, Gathered, gather_checks}
use Rattle.rules.specs.Kroot.{offer_id, in_force, parameters_bad}
use Rattle.rules.specs.Log.{Entry, Log, hkroot_in}
use Rattle.rules.specs.Pkr.{Renewed, pkr_judged}
use Rattle.rules.specs.Received.{fields_came}
use Rattle.rules.specs.State.{State, Store, ns_of, maclt_of, tree_root, stopped_at, config_length, blocks_length, dsm_ids, pubkeys_length}
use Rattle.rules.proofs.Bounds.{dsm_id_bound, offer_id_bound}
use Rattle.rules.proofs.Choices.{by_number}
use Rattle.rules.proofs.Gathering
use Rattle.rules.proofs.Gathering.{DsmCame, dsm_came, length_hkroot}
use Rattle.rules.proofs.Invariant.{BlocksAre, Unfinished, KeysAre, OfferHeld}
use Rattle.rules.proofs.KeysProved.{pkr_known, pkr_held, kroot_held}
use Rattle.rules.proofs.Later.{blocks_later, keys_later}
use Rattle.rules.proofs.Refused.{pkr_refused}

-- ---- the store, and the DSM that is taken out

-- what is so of the store and the DSM after a block; `code` is the number that the half is answered
record StoreIs (id code : ℕ) (l : Log) (g : Gathered) : Type 0 where
  -- no DSM was taken out
  waits : length g.dsm ≡ 0 → g.code ≡ code → BlocksAre g.store l
  -- a DSM was taken out, whatever its number
  out : length g.dsm ≢ 0 → BlocksAre g.store l
  -- and its blocks all came, where its number is 0
  came : length g.dsm ≢ 0 → code ≡ 0 → DsmCame g.dsm id l
  unfinished : Unfinished g.store

module _ (st : Store) (t : ℕ) (x : Entry) (sub : Subframe) (l : Log)
    (blocks-size : length st.blocks ≡ blocks_length) (marks-size : length st.present ≡ dsm_ids) (half_is : x.reply.code ≡ 0 → hkroot_in x ≡ some sub) (v : BlocksAre st l) (u : Unfinished st) where
  abbrev hk : List ℕ
  hk = hkroot_of (fields_of sub) 15

  hk_size : length (hkroot_of (fields_of sub) 15) ≡ 15
  hk_size = length_hkroot (fields_of sub) 15

  stored_is : Gathering.Fit st t hk blocks-size marks-size hk_size → StoreIs (dsm_id_of hk) x.reply.code (x ∷ l) (stored (with_block st t (dsm_id_of hk) hk) (dsm_id_of hk))
  unfolding stored Gathering.new
  stored_is f =
      by_test (StoreIs (dsm_id_of hk) x.reply.code (x ∷ l)) (complete (with_block st t (dsm_id_of hk) hk) (dsm_id_of hk))
      (λ full. record {
        waits = λ _ _. Gathering.out_blocks st t hk blocks-size marks-size hk_size f l v x;
        out = λ _. Gathering.out_blocks st t hk blocks-size marks-size hk_size f l v x;
        came = λ _ ok. dsm_came _ (dsm_id_of hk) (x ∷ l) (Gathering.new_size st t hk blocks-size marks-size hk_size) (dsm_id_bound hk) (stored_blocks ok) full;
        unfinished = Gathering.out_unfinished st t hk blocks-size marks-size hk_size u;
      })
      (λ short. record {
        waits = λ _ ok. stored_blocks (sym ok);
        out = λ n. absurd (n refl);
        came = λ n. absurd (n refl);
        unfinished = Gathering.new_unfinished st t hk blocks-size marks-size hk_size u short;
      })
    where
      stored_blocks : x.reply.code ≡ 0 → BlocksAre (with_block st t (dsm_id_of hk) hk) (x ∷ l)
      stored_blocks ok = Gathering.new_blocks st t hk blocks-size marks-size hk_size f l v x sub (half_is ok) refl

  gathered_is : StoreIs (dsm_id_of hk) x.reply.code (x ∷ l) (gathered st t hk)
  unfolding gathered
  gathered_is =
      by_number (StoreIs (dsm_id_of hk) x.reply.code (x ∷ l)) (first_refusal (gather_checks st t (dsm_id_of hk) hk))
      (λ e. (
      let c = clear (gather_checks st t (dsm_id_of hk) hk) tt e in
      stored_is (record { counted = c.0; not_high = c.1.0 })
      ))
      (λ _. record { waits = λ _ _. blocks_later v; out = λ n. absurd (n refl); came = λ n. absurd (n refl); unfinished = u })

-- ---- settings: the mark of a stopped core leaves the others

stopped_root : (c : List ℕ) → length c ≡ config_length → tree_root (set c stopped_at 1) ≡ tree_root c
unfolding tree_root
stopped_root c h =
    let p : length (part (set c stopped_at 1) 30 32) ≡ 32 = length_part (set c stopped_at 1) 30 32 (omega (arith, length-set c stopped_at 1)) in
    let q : length (part c 30 32) ≡ 32 = length_part c 30 32 (omega arith) in
    ext_get_or 0 _ _ (p ∙ sym q)
    (λ i k.
    get_d_part (set c stopped_at 1) 30 32 i (omega arith)
    ∙ get_or-set_other c stopped_at (30 + i) 1 0 (λ e. absurd (omega (arith, e, k, p)))
    ∙ sym (get_d_part c 30 32 i (omega arith)))

stopped_ns : (c : List ℕ) → ns_of (set c stopped_at 1) ≡ ns_of c
unfolding ns_of
stopped_ns c = let e = get_or-set_other c stopped_at 0 1 0 (λ z. absurd (omega (arith, z))) in rw e refl

stopped_force : (c chain : List ℕ) → in_force (set c stopped_at 1) chain ≡ in_force c chain
unfolding in_force parameters_bad maclt_of
stopped_force c chain = let e = get_or-set_other c stopped_at 1 1 0 (λ z. absurd (omega (arith, z))) in rw e refl

-- ---- the half

-- what the half leaves of a state
pub record HkrootIs (o : Start) (s : State) (l : Log) (s' : State) : Type 0 where
  pub ns : ns_of s'.config ≡ ns_of s.config
  pub root : tree_root s'.config ≡ tree_root s.config
  pub in_force_law : (chain : List ℕ) → in_force s'.config chain ≡ in_force s.config chain
  pub nav : s'.nav ≡ s.nav
  pub blocks : BlocksAre s'.store l
  pub unfinished : Unfinished s'.store
  pub pubkeys : KeysAre o s'.pubkeys l
  pub offer : OfferHeld s'.pubkeys s'.offer
  pub chain : s'.chain ≡ s.chain
  pub tesla : s'.tesla ≡ s.tesla
  pub auth : s'.auth ≡ s.auth

module _ (o : Start) (s : State) (x : Entry) (sub : Subframe) (l : Log) (half_is : x.reply.code ≡ 0 → hkroot_in x ≡ some sub)
    (config-size : length s.config ≡ config_length) (blocks-size : length s.store.blocks ≡ blocks_length) (marks-size : length s.store.present ≡ dsm_ids) (keys-size : length s.pubkeys ≡ pubkeys_length)
    (blocks : BlocksAre s.store l) (unfinished : Unfinished s.store) (keys : KeysAre o s.pubkeys l) (root : tree_root s.config ≡ o.root) (offer : OfferHeld s.pubkeys s.offer) where
  abbrev dsmId : ℕ
  dsmId = dsm_id_of (hkroot_of (fields_of sub) 15)

  abbrev Done : HkrootDone → Type 0
  Done a = a.code ≡ x.reply.code → HkrootIs o s (x ∷ l) a.state

  abbrev Taken : Gathered → Type 0
  Taken g = StoreIs dsmId x.reply.code (x ∷ l) g

  store_done_lem : (g : Gathered) → Taken g → length g.dsm ≡ 0 → Done (store_done s g)
  unfolding store_done
  store_done_lem g v z ok =
      record {
        ns = refl;
        root = refl;
        in_force_law = λ chain. refl;
        nav = refl;
        blocks = v.waits z ok;
        unfinished = v.unfinished;
        pubkeys = keys_later keys;
        offer = offer;
        chain = refl;
        tesla = refl;
        auth = refl;
      }

  kroot_done_lem : (g : Gathered) → Taken g → length g.dsm ≢ 0 → Done (kroot_done s g.store (header_of (hkroot_of (fields_of sub) 15)) g.dsm)
  unfolding kroot_done
  kroot_done_lem g v n ok =
      record {
        ns = refl;
        root = refl;
        in_force_law = λ chain. refl;
        nav = refl;
        blocks = v.out n;
        unfinished = v.unfinished;
        pubkeys = keys_later keys;
        offer = kroot_held s.pubkeys s.config s.offer (header_of (hkroot_of (fields_of sub) 15)) g.dsm offer;
        chain = refl;
        tesla = refl;
        auth = refl;
      }

  abbrev judged : List ℕ → Renewed
  judged d = pkr_judged s.pubkeys (tree_root s.config) d

  pkr_keys : (g : Gathered) → Taken g → length g.dsm ≢ 0 → leb dsmId 11 ≡ false → (judged g.dsm).code ≡ x.reply.code → KeysAre o (judged g.dsm).pubkeys (x ∷ l)
  pkr_keys g v n high ok =
      ⊎_elim
      (λ e. (
      let z = eqb-true x.reply.code 0 e in
      let h = leb-false dsmId 11 high in
      rw root (pkr_known o s.pubkeys g.dsm dsmId x l keys-size keys (omega arith) (v.came n z) (ap (λ (r : List ℕ). (pkr_judged s.pubkeys r g.dsm).code) (sym root) ∙ ok ∙ z))
      ))
      (λ e. (
      let k = pkr_refused s.pubkeys (tree_root s.config) g.dsm (λ y. eqb-false x.reply.code 0 e (sym ok ∙ y)) in
      rw k.0 (keys_later keys)
      ))
      (either (eqb x.reply.code 0))

  pkr_done_lem : (g : Gathered) → Taken g → length g.dsm ≢ 0 → leb dsmId 11 ≡ false → Done (pkr_done s g.store g.dsm)
  unfolding pkr_done
  pkr_done_lem g v n high ok =
      record {
        ns = by_test (λ (c : List ℕ). ns_of c ≡ ns_of s.config) (judged g.dsm).stops (λ _. stopped_ns s.config) (λ _. refl);
        root = by_test (λ (c : List ℕ). tree_root c ≡ tree_root s.config) (judged g.dsm).stops (λ _. stopped_root s.config config-size) (λ _. refl);
        in_force_law = λ chain. by_test (λ (c : List ℕ). in_force c chain ≡ in_force s.config chain) (judged g.dsm).stops (λ _. stopped_force s.config chain) (λ _. refl);
        nav = refl;
        blocks = v.out n;
        unfinished = v.unfinished;
        pubkeys = pkr_keys g v n high ok;
        offer = λ w. pkr_held s.pubkeys (tree_root s.config) g.dsm (offer_id s.offer) keys-size (offer_id_bound s.offer) (offer w);
        chain = refl;
        tesla = refl;
        auth = refl;
      }

  hkroot_is : (t : ℕ) → Done (hkroot_half s t (hkroot_of (fields_of sub) 15))
  unfolding hkroot_half
  hkroot_is t =
      let g = gathered s.store t (hkroot_of (fields_of sub) 15) in
      let v : Taken (gathered s.store t (hkroot_of (fields_of sub) 15)) = gathered_is s.store t x sub l blocks-size marks-size half_is blocks unfinished in
      by_test Done (eqb (length g.dsm) 0) (λ e. store_done_lem g v (eqb-true (length g.dsm) 0 e))
      (λ e.
      by_test Done (leb dsmId 11) (λ _. kroot_done_lem g v (eqb-false (length g.dsm) 0 e))
      (λ high. pkr_done_lem g v (eqb-false (length g.dsm) 0 e) high))

  -- a half of which a byte is missing leaves the store as it was
  missing_is : Done (record { code = 17; stops = false; state = s })
  missing_is ok =
      record {
        ns = refl;
        root = refl;
        in_force_law = λ chain. refl;
        nav = refl;
        blocks = blocks_later blocks;
        unfinished = unfinished;
        pubkeys = keys_later keys;
        offer = offer;
        chain = refl;
        tesla = refl;
        auth = refl;
      }

  pub received_is : (t : ℕ) → Done (hkroot_received s t sub.marks (hkroot_of (fields_of sub) 15))
  unfolding hkroot_received
  received_is t = by_test Done (eqb (fields_came sub.marks 15) 15) (λ _. hkroot_is t) (λ _. missing_is)

-- ---- clocks are not the half's

half_clocks : (s : State) (t : ℕ) (hk : List ℕ) → (hkroot_half s t hk).state.clocks ≡ s.clocks
unfolding hkroot_half store_done kroot_done pkr_done
half_clocks s t hk =
    let P : HkrootDone → Type 0 = λ a. a.state.clocks ≡ s.clocks in
    let g = gathered s.store t hk in
    by_test P (eqb (length g.dsm) 0) (λ _. refl) (λ _. by_test P (leb (dsm_id_of hk) 11) (λ _. refl) (λ _. refl))

pub received_clocks : (s : State) (t marks : ℕ) (hk : List ℕ) → (hkroot_received s t marks hk).state.clocks ≡ s.clocks
unfolding hkroot_received
received_clocks s t marks hk =
    by_test (λ (a : HkrootDone). a.state.clocks ≡ s.clocks) (eqb (fields_came marks 15) 15) (λ _. half_clocks s t hk) (λ _. refl)
