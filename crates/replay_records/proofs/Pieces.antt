-- The records of a piece of the input, one after the other: how many there are, what each one is, and what one more adds to what was read.
-- Assumes nothing.
use mathlib.Core.Path.{◌≡◌, refl, sym, ap, ◌∙◌}
use mathlib.Core.Logic.{⊎_elim}
use mathlib.Core.List.{List, [], ◌∷◌, ◌++◌, append-nil, append_assoc}
use Prim.Native.Nat.{ℕ, zero, suc, min, ◌+◌, ◌-◌, ◌*◌, ◌≤◌, ◌<◌}
use native.Mathlib.Nat.{add-zero, add-suc}
use native.Mathlib.Numerals.{add-one}
use native.Mathlib.Omega.{arith}
use lib.ListN.{length, take, drop, length-append, length-take, length-drop, drop_of_length-le}
use lib.Seq.{take_all, take-append_seam, drop-append_seam, drop-drop}
use Rattle.std.proofs.lemmas.List.{nil_from_length}
use Rattle.laws.specs.Lists.{part, splice}
use Rattle.laws.proofs.Splice.{below?, splice_nil, splice-after, part_first, part_second}
use Rattle.rules.specs.Replay.{Replay, Replayed, replayed, replayed_up_to, record_count, record_length}
use Rattle.rules.specs.Replay as Rules
use Rattle.replay_records.specs.Pieces.{followed, piece_read, read_in_pieces, joined, Whole, PiecesJoin}
use Rattle.replay_records.specs.Written.{wrote, written, room, last_place}

-- ---- how many

pub count_more : (l : List ℕ) (k : ℕ) → k * record_length < length l → k + 1 ≤ record_count l
unfolding record_count
count_more l k h = omega arith

pub count-all : (l : List ℕ) (k : ℕ) → length l ≤ k * record_length → k ≤ record_count l → k ≡ record_count l
unfolding record_count
count-all l k h f = omega arith

pub count_few : (l : List ℕ) → length l ≤ 4096 → record_count l ≤ 16
unfolding record_count
count_few l h = omega arith

-- ---- one record

-- what is left of the input after k records, of which the library cut the next one off
module _ (input rest x after : List ℕ) (k : ℕ) (left : rest ≡ drop (k * record_length) input) where
  pub on : 0 < length rest → k * record_length < length input
  on h = omega (arith, ap length left, length-drop (k * record_length) input)

  pub past : length rest ≡ 0 → length input ≤ k * record_length
  past h = omega (arith, ap length left, length-drop (k * record_length) input)

  module _ (is : rest ≡ x ++ after) (long : length x ≡ min record_length (length rest)) where
    none_after : length rest < record_length → after ≡ []
    none_after h = nil_from_length after (omega (arith, ap length is, length-append x after, long))

    cut : take record_length rest ≡ x
    cut =
        ⊎_elim
        (λ (h : length rest < record_length). take_all record_length rest (omega arith) ∙ is ∙ rw (none_after h) (append-nil x))
        (λ (h : record_length ≤ length rest). let m : record_length ≡ length x = omega (arith, long) in
        ap (λ (n : ℕ). take n rest) m ∙ ap (take (length x)) is ∙ take-append_seam x after)
        (below? (length rest) record_length)

    kept : drop record_length rest ≡ after
    kept =
        ⊎_elim
        (λ (h : length rest < record_length). drop_of_length-le rest {i = record_length} (omega arith) ∙ sym (none_after h))
        (λ (h : record_length ≤ length rest). let m : record_length ≡ length x = omega (arith, long) in
        ap (λ (n : ℕ). drop n rest) m ∙ ap (drop (length x)) is ∙ drop-append_seam x after)
        (below? (length rest) record_length)

    pub record_is : x ≡ part input (k * record_length) record_length
    unfolding part
    record_is = sym cut ∙ ap (take record_length) left

    pub rest_is : after ≡ drop ((k + 1) * record_length) input
    rest_is =
        let e : k * record_length + record_length ≡ (k + 1) * record_length = omega arith in
        sym kept ∙ ap (drop record_length) left ∙ drop-drop record_length (k * record_length) input ∙ ap (λ (n : ℕ). drop n input) e

-- ---- the first k records

pub place_counted : (s : Replay) (input : List ℕ) (n : ℕ) → (replayed_up_to s input n).next.place ≡ s.place + n
unfolding replayed_up_to replayed
place_counted s input zero = sym (add-zero s.place)
place_counted s input (suc n) = rw (place_counted s input n) (omega arith)

-- what stands in the slice, and what is kept, after k records
pub record Read (out₀ : List ℕ) (s₀ : Replay) (input : List ℕ) (k filled : ℕ) (out : List ℕ) (s : Replay) : Type 0 where
  pub few : k ≤ record_count input
  pub low : filled ≤ k * room
  pub long : length out ≡ length out₀
  pub is : wrote filled out s ≡ written out₀ (replayed_up_to s₀ input k)

pub none_read : (out : List ℕ) (s : Replay) (input : List ℕ) → Read out s input 0 0 out s
unfolding written replayed_up_to
none_read out s input = record { few = omega arith; low = omega arith; long = refl; is = rw (splice_nil out 0) }

pub piece_place : (out₀ : List ℕ) (s₀ : Replay) (input : List ℕ) (k filled : ℕ) (out : List ℕ) (s : Replay)
    → wrote filled out s ≡ written out₀ (replayed_up_to s₀ input k) → s.place ≡ s₀.place + k
unfolding written
piece_place out₀ s₀ input k filled out s e = ap (λ w. w.next.place) e ∙ place_counted s₀ input k

-- a part past place a, and the list
spliced_past : (d : List ℕ) (a : ℕ) (l : List ℕ) → take a d ++ splice (drop a d) 0 l ≡ splice d a l
unfolding splice
spliced_past d a l = refl

-- lines behind lines
lines_joined : (out₀ out tail : List ℕ) (p q : Replayed) (filled n : ℕ) (s s' : Replay) → filled + n ≤ length out₀
    → wrote filled out s ≡ written out₀ p → wrote n tail s' ≡ written (drop filled out) q
    → wrote (filled + n) (take filled out ++ tail) s' ≡ written out₀ (record { lines = p.lines ++ q.lines; next = q.next })
unfolding written
lines_joined out₀ out tail p q filled n s s' h e d =
    let e0 : filled ≡ length p.lines = ap (λ w. w.count) e in
    let d0 : n ≡ length q.lines = ap (λ w. w.count) d in
    let c : filled + n ≡ length (p.lines ++ q.lines) = simp length-append (omega arith) in
    let o : take filled out ++ tail ≡ splice out₀ 0 (p.lines ++ q.lines) =
    rw (ap (λ w. w.out) d, spliced_past out filled q.lines, ap (λ w. w.out) e) (splice-after out₀ 0 filled p.lines q.lines (omega arith) (omega arith)) in
    rw (c, o, ap (λ w. w.next) d)

read_next : (out₀ : List ℕ) (s₀ : Replay) (input : List ℕ) (k filled : ℕ) (out : List ℕ) (s : Replay) (tail : List ℕ) (s' : Replay) (n : ℕ) (x : List ℕ)
    → Read out₀ s₀ input k filled out s → k * record_length < length input → record_count input * room ≤ length out₀
    → x ≡ part input (k * record_length) record_length
    → wrote n tail s' ≡ written (drop filled out) (replayed s x)
    → n ≤ room → length tail ≡ length (drop filled out)
    → Read out₀ s₀ input (k + 1) (filled + n) (take filled out ++ tail) s'
unfolding replayed_up_to written
read_next out₀ s₀ input k filled out s tail s' n x r more fits z w small kept =
    let c = count_more input k more in
    let p = replayed_up_to s₀ input k in
    let h : filled + n ≤ length out₀ = omega arith in
    let v : wrote n tail s' ≡ written (drop filled out) (replayed p.next (part input (k * record_length) record_length)) =
    rw (z, ap (λ x. x.next) r.is) at w in
    record {
      few = c;
      low = omega arith;
      long = simp (length-append, length-take, kept, length-drop) (omega arith);
      is = rw (add-one k) (lines_joined out₀ out tail p (replayed p.next (part input (k * record_length) record_length)) filled n s s' h r.is v);
    }

-- the rest of a slice
pub rest_long : (d : List ℕ) (a : ℕ) → a + room ≤ length d → room ≤ length (take (length d - a) (drop a d))
rest_long d a h = simp (length-take, length-drop) (omega arith)

module _ (out₀ : List ℕ) (s₀ : Replay) (input : List ℕ) (k filled : ℕ) (out : List ℕ) (s : Replay) (r : Read out₀ s₀ input k filled out s) where
  -- where a record is left there is room for its lines, and a place
  pub room_left : k * record_length < length input → record_count input * room ≤ length out₀ → filled + room ≤ length out
  room_left more fits = omega (arith, count_more input k more, r.low, r.long)

  pub place_left : k * record_length < length input → s₀.place + record_count input ≤ last_place → s.place < last_place
  place_left more fits = omega (arith, count_more input k more, piece_place out₀ s₀ input k filled out s r.is)

  -- one record more, with the rest of the slice lent for its lines
  pub read_on : (tail : List ℕ) (s' : Replay) (n : ℕ) (x : List ℕ) → k * record_length < length input → record_count input * room ≤ length out₀
      → x ≡ part input (k * record_length) record_length
      → wrote n tail s' ≡ written (take (length out - filled) (drop filled out)) (replayed s x)
      → n ≤ room → length tail ≡ length (take (length out - filled) (drop filled out))
      → Read out₀ s₀ input (k + 1) (filled + n) (take filled out ++ (tail ++ drop (length out - filled) (drop filled out))) s'
  read_on tail s' n x more fits z w small kept =
      let a : take (length out - filled) (drop filled out) ≡ drop filled out = take_all (length out - filled) (drop filled out) (simp length-drop (omega arith)) in
      let b : drop (length out - filled) (drop filled out) ≡ [] = drop_of_length-le (drop filled out) {i = length out - filled} (simp length-drop (omega arith)) in
      rw (b, append-nil tail)
      (read_next out₀ s₀ input k filled out s tail s' n x r more fits z (rw a at w) small (rw a at kept))

  -- all were read
  pub read_all : length input ≤ k * record_length → record_count input * room ≤ length out₀
      → (wrote filled out s ≡ written out₀ (replayed_up_to s₀ input (record_count input))) × (filled ≤ length out)
  read_all past fits =
      let e = count-all input k past r.few in
      (rw (← e) r.is, omega (arith, r.low, r.long, r.few))

-- ---- pieces one after the other

-- the records of the first piece are those of the whole
first_same : (s : Replay) (a b : List ℕ) (n : ℕ) → n * record_length ≤ length a → replayed_up_to s (a ++ b) n ≡ replayed_up_to s a n
unfolding replayed_up_to
first_same s a b zero h = refl
first_same s a b (suc n) h = rw (first_same s a b n (omega arith), part_first a b (n * record_length) record_length (omega arith))

pieces_join : (s : Replay) (a b : List ℕ) (m n : ℕ) → length a ≡ m * record_length
    → replayed_up_to s (a ++ b) (m + n) ≡ followed (replayed_up_to s a m) (replayed_up_to (replayed_up_to s a m).next b n)
unfolding replayed_up_to
pieces_join s a b m zero e = rw (add-zero m, first_same s a b m (omega (arith, e)), append-nil (replayed_up_to s a m).lines)
pieces_join s a b m (suc n) e =
    let i : (m + n) * record_length - length a ≡ n * record_length = omega (arith, e) in
    let q : part (a ++ b) ((m + n) * record_length) record_length ≡ part b (n * record_length) record_length =
    part_second a b ((m + n) * record_length) record_length (omega (arith, e)) ∙ rw i in
    rw (add-suc m n, pieces_join s a b m n e, q) (simp append_assoc)

-- and their count is the sum
counts_join : (a b : List ℕ) (m : ℕ) → length a ≡ m * record_length → record_count (a ++ b) ≡ m + record_count b
unfolding record_count
counts_join a b m e = rw (length-append a b, e) (omega arith)

pieces_read : (s : Replay) (ps : List (List ℕ)) (last : List ℕ) → Whole ps → read_in_pieces s ps last ≡ piece_read s (joined ps last)
pieces_read s [] last w = refl
pieces_read s (p ∷ ps) last w =
    let b = joined ps last in
    let n = record_count p in
    rw (pieces_read (piece_read s p).next ps last w.1, counts_join p b n w.0) (sym (pieces_join s p b n (record_count b) w.0))

pub pieces_joined : PiecesJoin
unfolding Rules.replay
pieces_joined ps last w = ap (λ r. r.lines) (pieces_read Rules.unread ps last w)
