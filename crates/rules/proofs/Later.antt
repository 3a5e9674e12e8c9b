-- What was so of a log is so of a longer one, and a call that leaves the parts of the state alone keeps the invariant.
use Prim.Native.Nat.{ℕ, zero, suc}
use mathlib.Core.Path.{◌≡◌, refl, sym, ◌∙◌, ap}
use mathlib.Core.Logic.{◌⊎◌, inl, inr}
use mathlib.Core.List.{List, ◌∷◌}
use mathlib.Core.Option.{none}
use native.Mathlib.Nat.{le_refl}
use Rattle.rules.specs.Calls.{Start, Subframe, chain_of, held_of}
use Rattle.rules.specs.Candidates.{SetPair, pair_at}
use Rattle.rules.specs.Chain.{Held}
use Rattle.rules.specs.Claim.{PublicKey, KeyProved, KeyKnown, given, proved}
use Rattle.rules.specs.Log.{Call, Question, subframe, ask, Entry, Log, Once, earlier, state_at, step, word_in, verdict_in, chain_turns}
use Rattle.rules.specs.State.{State, Nav, Store, Auth, last_subframe_of, waiting_count}
use Rattle.rules.specs.declared.Chain.{Chain}
use Rattle.rules.proofs.Agreements.{PairIs, pair_map}
use Rattle.rules.proofs.Invariant.{Inv, WordsAre, BlocksAre, KeysAre, OfferHeld, InForce, HeldIs, WaitIs, Newer, AgreedIn, SetsAre}
use Rattle.rules.proofs.Names.{Onward, newer_before, names_less}

-- a call as it is logged
abbrev pub entry : State → Call → Entry
entry s c = record { call = c; reply = (step s c).reply }

-- the state that a call leaves is the one at the longer log
pub stepped_at : (b s : State) (l : Log) (c : Call) → s ≡ state_at b l → (step s c).state ≡ state_at b (entry s c ∷ l)
unfolding state_at
stepped_at b s l c e = ap (λ (z : State). (step z c).state) e

-- ---- an entry that says nothing of words and chains

pub record Quiet (x : Entry) : Type 0 where
  pub no_word : word_in x ≡ none
  pub no_verdict : verdict_in x ≡ none

pub quiet_refused : (x : Entry) (n : ℕ) → x.reply.code ≡ suc n → Quiet x
quiet_refused x n e = record { no_word = rw e refl; no_verdict = rw e refl }

quiet_by : (n : ℕ) (x : Entry) → x.reply.code ≡ n → (n ≡ 0 → Quiet x) → Quiet x
quiet_by zero x e f = f refl
quiet_by (suc n) x e f = quiet_refused x n e

pub quiet_subframe : (x : Entry) (area : List ℕ) (a : Subframe) → x.call ≡ subframe area a → Quiet x
quiet_subframe x area a is = quiet_by x.reply.code x refl (λ e. record { no_word = rw (e, is) refl; no_verdict = rw (e, is) refl })

pub quiet_ask : (x : Entry) (q : Question) → x.call ≡ ask q → Quiet x
quiet_ask x q is = quiet_by x.reply.code x refl (λ e. record { no_word = rw (e, is) refl; no_verdict = rw (e, is) refl })

-- ---- one part after the other

pub words_later : {n : Nav} {l : Log} {x : Entry} → word_in x ≡ none → WordsAre n l → WordsAre n (x ∷ l)
words_later q w = record { bytes = λ prn kind p. rw q (w.bytes prn kind p); stamps = λ prn kind p. rw q (w.stamps prn kind p) }

pub blocks_later : {s : Store} {l : Log} {x : Entry} → BlocksAre s l → BlocksAre s (x ∷ l)
blocks_later v = record { came = λ id k h i m. earlier (v.came id k h i m); low = v.low }

proved_later : {root : List ℕ} {k : PublicKey} {l : Log} {x : Entry} → KeyProved root k l → KeyProved root k (x ∷ l)
proved_later p =
    record {
      dsm = p.dsm;
      dsm_id = p.dsm_id;
      is_pkr = p.is_pkr;
      whole = p.whole;
      blocks = λ j h. earlier (p.blocks j h);
      size = p.size;
      no_emergency = p.no_emergency;
      tree = p.tree;
      id_is = p.id_is;
      type_is = p.type_is;
      bytes_are = p.bytes_are;
    }

pub known_later : {o : Start} {k : PublicKey} {l : Log} {x : Entry} → KeyKnown o k l → KeyKnown o k (x ∷ l)
known_later (given e) = given e
known_later (proved p) = proved (proved_later p)

pub keys_later : {o : Start} {keys : List ℕ} {l : Log} {x : Entry} → KeysAre o keys l → KeysAre o keys (x ∷ l)
keys_later v = record { known = λ id h e. known_later (v.known id h e) }

pub force_later : {o : Start} {b : State} {c : List ℕ} {l : Log} {x : Entry} → verdict_in x ≡ none → InForce o b c l → InForce o b c (x ∷ l)
force_later q v = record { said = v.said; in_force_law = rw q v.in_force_law; contents_are = v.contents_are; vouched = earlier v.vouched }

from_later : {A : Type 0} {P : Entry → Log → Type 0} {l : Log} {x : Entry} → A ⊎ Once P l → A ⊎ Once P (x ∷ l)
from_later (inl z) = inl z
from_later (inr o) = inr (earlier o)

pub held_later : {c : Chain} {root : List ℕ} {h : Held} {l : Log} {x : Entry} → HeldIs c root h l → HeldIs c root h (x ∷ l)
held_later v = record { width = v.width; down = v.down; from = from_later v.from }

pub same_turn : (x : Entry) (l : Log) → verdict_in x ≡ none → chain_turns (x ∷ l) ≡ chain_turns l
same_turn x l q = rw q refl

pub wait_later : {o : Start} {contents e : List ℕ} {l : Log} {x : Entry} → chain_turns (x ∷ l) ≡ chain_turns l → WaitIs o contents e l → WaitIs o contents e (x ∷ l)
wait_later q v = record { by = v.by; arrived = rw q (earlier v.arrived); unchanged = v.unchanged; not_before = v.not_before }

-- what a log says of agreed tags a longer one says
pub agreed_later : (o : Start) (b : State) (l : Log) (x : Entry) (prn : ℕ) (used : List (List ℕ)) (turn : ℕ) (p : SetPair) → PairIs (AgreedIn o b l prn) used turn p → PairIs (AgreedIn o b (x ∷ l) prn) used turn p
agreed_later o b l x prn used turn p v = pair_map (AgreedIn o b l prn) (AgreedIn o b (x ∷ l) prn) used turn p (λ d t c a. earlier a) v

pub sets_later : (o : Start) (b : State) (a : Auth) (used : List (List ℕ)) (l : Log) (x : Entry) → chain_turns (x ∷ l) ≡ chain_turns l → SetsAre o b a used l → SetsAre o b a used (x ∷ l)
sets_later o b a used l x same v = record { backed = λ prn p. rw same (agreed_later o b l x prn used (chain_turns l) (pair_at a.sets a.arrivals prn) (v.backed prn p)) }

-- ---- a call that leaves the parts alone; clocks, words and what waits may change

pub same_inv : (o : Start) (b s s' : State) (x : Entry) (l : Log) → Inv o b s l → verdict_in x ≡ none → s' ≡ state_at b (x ∷ l)
    → s'.config ≡ s.config → s'.store ≡ s.store → s'.pubkeys ≡ s.pubkeys → s'.chain ≡ s.chain → s'.tesla ≡ s.tesla → s'.auth ≡ s.auth
    → OfferHeld s.pubkeys s'.offer → WordsAre s'.nav (x ∷ l) → Onward s.clocks s'.clocks
    → Inv o b s' (x ∷ l)
unfolding chain_of held_of
same_inv o b s s' x l v q at config store keys chain tesla auth offer words onward =
    record {
      at = at;
      ns = rw config v.ns;
      root = rw config v.root;
      words = words;
      blocks = rw store (blocks_later v.blocks);
      unfinished = rw store v.unfinished;
      pubkeys = rw keys (keys_later v.pubkeys);
      offer = rw keys offer;
      force = rw (config, chain) (λ h. force_later q (v.force h));
      held = rw (config, chain, tesla) (λ h. held_later (v.held h));
      waiting = rw (config, chain, tesla) (λ h k i. wait_later (same_turn x l q) (v.waiting h k i));
      used = v.used;
      names = rw tesla (names_less (Newer s.clocks) (Newer s'.clocks) s.tesla.waiting (waiting_count s.tesla.numbers) v.used (newer_before s.clocks s'.clocks onward) v.names);
      auth = rw auth (sets_later o b s.auth v.used l x (same_turn x l q) v.auth);
    }

pub still : (clocks : List ℕ) → Onward clocks clocks
still clocks prn p = le_refl (last_subframe_of clocks prn)

-- the state as it was
pub unchanged_inv : (o : Start) (b s : State) (x : Entry) (l : Log) → Inv o b s l → Quiet x → s ≡ state_at b (x ∷ l) → Inv o b s (x ∷ l)
unchanged_inv o b s x l v q at = same_inv o b s s x l v q.no_verdict at refl refl refl refl refl refl v.offer (words_later q.no_word v.words) (still s.clocks)

-- a refused call that leaves it so
pub refused_inv : (o : Start) (b s : State) (l : Log) (c : Call) (n : ℕ) → Inv o b s l → (step s c).reply.code ≡ suc n → (step s c).state ≡ s → Inv o b (step s c).state (entry s c ∷ l)
refused_inv o b s l c n v e k = rw k (unchanged_inv o b s (entry s c) l v (quiet_refused (entry s c) n e) (sym k ∙ stepped_at b s l c v.at))
