-- The reads: a set that is read was marked, what waits is handed out with a key that was given or proved, behind a yes stand four satellites, and
-- behind the progress of a message the blocks that came.
use Prim.Native.Nat.{ℕ, zero, suc, ◌+◌, ◌-◌, ◌*◌, ◌<◌}
use mathlib.Core.Path.{◌≡◌, refl, sym, ◌∙◌, ap}
use mathlib.Core.Logic.{◌≢◌}
use mathlib.Core.Bool.{true}
use mathlib.Core.List.{List, [], ◌∷◌}
use native.Mathlib.Omega.{arith}
use lib.Dec.{T}
use lib.ListN.{length, get_or}
use borrow.Author.Tests.{eq-eqb, eqb-false, not-false}
use Rattle.laws.specs.Refusal.{first_refusal, unless, neb}
use Rattle.laws.proofs.Refusal.{clear}
use Rattle.laws.proofs.Tests.{and_left}
use Rattle.rules.specs.Calls.{Start, SetRead, OfferRead, set_read, set_read_checks, offer_read, offer_read_checks, auth_stamp, auth_set}
use Rattle.rules.specs.Claim.{KeyKnown, SetBacked, HandedFairly, FourBacked, ProgressIs, MarkBacked, Fair, would_hand}
use Rattle.rules.specs.Kroot.{offer_waits, offer_id, offer_message, offer_signature}
use Rattle.rules.specs.Log.{Call, start, word, subframe, verdict, Question, set, offer, four, progress, ask, asked, Entry, Log, step, state_at}
use Rattle.rules.specs.Navdata.{set_issue}
use Rattle.rules.specs.PublicKeys.{key_type, key_bytes}
use Rattle.rules.specs.State.{State, offer_shaped, prn_valid}
use Rattle.rules.proofs.Bounds.{offer_id_bound}
use Rattle.rules.proofs.FourBacked.{four_backed}
use Rattle.rules.proofs.Invariant.{Inv, ClockIs, heldkey}
use Rattle.rules.proofs.Later.{entry, unchanged_inv, quiet_ask}
use Rattle.rules.proofs.MessageProgress.{progress_is}
use Rattle.rules.proofs.SetsBacked.{set_stands}

-- ---- what waits

-- what a read gives where something waits
abbrev pub handing : State → OfferRead
handing s =
    record {
      code = 0;
      message = offer_message s.offer;
      signature = offer_signature s.offer;
      key = key_bytes s.pubkeys (offer_id s.offer);
      id = offer_id s.offer;
      type = key_type s.pubkeys (offer_id s.offer);
    }

pub would_hand_lem : (s : State) → offer_shaped s ≡ true → offer_waits s.offer ≡ true → would_hand s ≡ handing s
unfolding offer_read offer_read_checks
would_hand_lem s h w = rw (h, w) refl

pub offer_known : (o : Start) (b s : State) (l : Log) → Inv o b s l → offer_waits s.offer ≡ true → KeyKnown o (heldkey s.pubkeys (offer_id s.offer)) l
offer_known o b s l v w = v.pubkeys.known (offer_id s.offer) (offer_id_bound s.offer) (v.offer w)

-- ---- an entry by the question that it asks

-- which question a call asks, and 0 where it asks none; a read's PRN, and the limit of a question for four satellites
abbrev asks : Call → ℕ
asks (ask (set prn out)) = 1
asks (ask (offer m g k)) = 2
asks (ask (four limit)) = 3
asks (ask (progress out)) = 4
asks (start x) = 0
asks (word w) = 0
asks (subframe a x) = 0
asks (verdict v) = 0

abbrev prn_asked : Question → ℕ
prn_asked (set prn out) = prn
prn_asked (offer m g k) = 0
prn_asked (four limit) = 0
prn_asked (progress out) = 0

abbrev limit_asked : Question → ℕ
limit_asked (set prn out) = 0
limit_asked (offer m g k) = 0
limit_asked (four limit) = limit
limit_asked (progress out) = 0

abbrev asking : Question → Call → Question
asking q (ask p) = p
asking q (start x) = q
asking q (word w) = q
asking q (subframe a x) = q
asking q (verdict v) = q

module _ (o : Start) (b : State) (x : Entry) (l : Log) where
  pub no_marks : x.reply.records ≡ [] → (k : ℕ) → 12 * k < length x.reply.records → MarkBacked o b k x l
  no_marks e k h = let z : length x.reply.records ≡ 0 = ap length e in absurd (omega arith)

  -- it asks question n, and so none of another number
  module _ (n : ℕ) (is : asks x.call ≡ n) where
    other : {A : Type 0} (q : Question) → T (neb n (asks (ask q))) → x.call ≡ ask q → A
    other q d e = absurd (rw (sym is ∙ ap asks e, eq-eqb (asks (ask q)) _ refl) at d)

    no_set : T (neb n 1) → (prn : ℕ) (out : List ℕ) → x.call ≡ ask (set prn out) → x.reply.code ≡ 0 → SetBacked o b prn x.reply.time x.reply.out l
    no_set d prn out e ok = other (set prn out) d e

    no_hand : T (neb n 2) → (m g k : List ℕ) → x.call ≡ ask (offer m g k) → x.reply.code ≡ 0 → HandedFairly o b x.reply.handed l
    no_hand d m g k e ok = other (offer m g k) d e

    no_four : T (neb n 3) → (limit : ℕ) → x.call ≡ ask (four limit) → x.reply.yes ≢ 0 → FourBacked o b limit l
    no_four d limit e said = other (four limit) d e

    no_progress : T (neb n 4) → (out : List ℕ) → x.call ≡ ask (progress out) → x.reply.code ≡ 0 → (id : ℕ) → id < 16
        → ProgressIs id (get_or x.reply.out (2 * id) 0) (get_or x.reply.out (2 * id + 1) 0) l
    no_progress d out e ok id h = other (progress out) d e

  -- one that asks nothing
  pub no_question : asks x.call ≡ 0 → ((k : ℕ) → 12 * k < length x.reply.records → get_or x.reply.records (12 * k) 0 ≡ 1 → MarkBacked o b k x l) → Fair o b x l
  no_question is m = record { marks = m; reads = no_set 0 is tt; hands = no_hand 0 is tt; fours = no_four 0 is tt; gathers = no_progress 0 is tt }

  -- and that wrote no record
  pub plain_fair : x.reply.records ≡ [] → asks x.call ≡ 0 → Fair o b x l
  plain_fair e is = no_question is (λ k i m. no_marks e k i)

-- ---- a read of a set

set_backed : (o : Start) (b s : State) (l : Log) → Inv o b s l → (prn : ℕ) (out : List ℕ) → (set_read s prn out).code ≡ 0 → SetBacked o b prn (set_read s prn out).time (set_read s prn out).out l
unfolding set_read set_read_checks
set_backed o b s l v prn out ok = go (first_refusal (set_read_checks s prn out)) refl ok
  where
    res : ℕ → SetRead
    res n =
        unless n
        (record {
          code = 0;
          out = auth_set s.auth prn;
          issue = set_issue (auth_set s.auth prn);
          time = auth_stamp s.auth prn - 1;
        })
        (record { code = n; out = out; issue = 0; time = 0 })

    go : (n : ℕ) → first_refusal (set_read_checks s prn out) ≡ n → (res n).code ≡ 0 → SetBacked o b prn (res n).time (res n).out l
    go zero e ok =
        let c = clear (set_read_checks s prn out) tt e in
        set_stands o b s l v prn (not-false (prn_valid prn) c.1.0) (eqb-false (auth_stamp s.auth prn) 0 c.1.1.0)
    go (suc n) e ok = absurd (omega (arith, ok))

set_fair : (o : Start) (b s : State) (l : Log) (prn : ℕ) (out : List ℕ) → Inv o b s l → Fair o b (entry s (ask (set prn out))) l
unfolding step asked
set_fair o b s l prn out v =
    let x = entry s (ask (set prn out)) in
    record {
      marks = λ k i m. no_marks o b x l refl k i;
      reads = λ p out' e ok. (
          let z : prn ≡ p = ap (λ (c : Call). prn_asked (asking (set prn out) c)) e in
          rw (← z) (set_backed o b s l v prn out ok)
          );
      hands = no_hand o b x l 1 refl tt;
      fours = no_four o b x l 1 refl tt;
      gathers = no_progress o b x l 1 refl tt;
    }

-- ---- a read of what waits

hand_fair : (o : Start) (b s : State) (l : Log) → Inv o b s l → (m g k : List ℕ) → (offer_read s m g k).code ≡ 0
    → HandedFairly o b (record { message = (offer_read s m g k).message; signature = (offer_read s m g k).signature; key = (offer_read s m g k).key; id = (offer_read s m g k).id; type = (offer_read s m g k).type }) l
unfolding offer_read offer_read_checks
hand_fair o b s l v m g k ok = go (first_refusal (offer_read_checks s m g k)) refl ok
  where
    res : ℕ → OfferRead
    res n = unless n (handing s) (record { code = n; message = m; signature = g; key = k; id = 0; type = 0 })

    go : (n : ℕ) → first_refusal (offer_read_checks s m g k) ≡ n → (res n).code ≡ 0
        → HandedFairly o b (record { message = (res n).message; signature = (res n).signature; key = (res n).key; id = (res n).id; type = (res n).type }) l
    go zero e ok =
        let c = clear (offer_read_checks s m g k) tt e in
        let h = and_left (offer_shaped s) _ (not-false _ c.0) in
        let w = not-false (offer_waits s.offer) c.1.0 in
        let u : would_hand (state_at b l) ≡ handing s = rw (← v.at) (would_hand_lem s h w) in
        record {
          waited = rw u refl;
          message_is = rw u refl;
          signature_is = rw u refl;
          key_is = rw u refl;
          known = rw u (offer_known o b s l v w);
        }
    go (suc n) e ok = absurd (omega (arith, ok))

offer_fair : (o : Start) (b s : State) (l : Log) (m g k : List ℕ) → Inv o b s l → Fair o b (entry s (ask (offer m g k))) l
unfolding step asked
offer_fair o b s l m g k v =
    let x = entry s (ask (offer m g k)) in
    record {
      marks = λ j i z. no_marks o b x l refl j i;
      reads = no_set o b x l 2 refl tt;
      hands = λ m' g' k' e ok. hand_fair o b s l v m g k ok;
      fours = no_four o b x l 2 refl tt;
      gathers = no_progress o b x l 2 refl tt;
    }

-- ---- the question for four satellites

four_fair : (o : Start) (b s : State) (l : Log) (limit : ℕ) → Inv o b s l → ClockIs s.clocks l → Fair o b (entry s (ask (four limit))) l
unfolding step asked
four_fair o b s l limit v t =
    let x = entry s (ask (four limit)) in
    record {
      marks = λ j i z. no_marks o b x l refl j i;
      reads = no_set o b x l 3 refl tt;
      hands = no_hand o b x l 3 refl tt;
      fours = λ n e said. (
          let z : limit ≡ n = ap (λ (c : Call). limit_asked (asking (four limit) c)) e in
          rw (← z) (four_backed o b s l v t limit said)
          );
      gathers = no_progress o b x l 3 refl tt;
    }

-- ---- the question for the progress of messages

progress_fair : (o : Start) (b s : State) (l : Log) (out : List ℕ) → Inv o b s l → Fair o b (entry s (ask (progress out))) l
unfolding step asked
progress_fair o b s l out v =
    let x = entry s (ask (progress out)) in
    record {
      marks = λ j i z. no_marks o b x l refl j i;
      reads = no_set o b x l 4 refl tt;
      hands = no_hand o b x l 4 refl tt;
      fours = no_four o b x l 4 refl tt;
      gathers = λ out' e ok. progress_is s l v.blocks v.unfinished out ok;
    }

-- ---- asking

ask_fair : (o : Start) (b s : State) (l : Log) (q : Question) → Inv o b s l → ClockIs s.clocks l → Fair o b (entry s (ask q)) l
ask_fair o b s l (set prn out) v t = set_fair o b s l prn out v
ask_fair o b s l (offer m g k) v t = offer_fair o b s l m g k v
ask_fair o b s l (four limit) v t = four_fair o b s l limit v t
ask_fair o b s l (progress out) v t = progress_fair o b s l out v

-- asking changes nothing
ask_inv : (o : Start) (b s : State) (l : Log) (q : Question) → Inv o b s l → Inv o b s (entry s (ask q) ∷ l)
unfolding state_at step
ask_inv o b s l q v = unchanged_inv o b s _ l v (quiet_ask _ q refl) v.at

pub ask_call : (o : Start) (b s : State) (l : Log) (q : Question) → Inv o b s l → ClockIs s.clocks l → Fair o b (entry s (ask q)) l × Inv o b s (entry s (ask q) ∷ l)
ask_call o b s l q v t = (ask_fair o b s l q v t, ask_inv o b s l q v)
