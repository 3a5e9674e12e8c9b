-- What row 1 tests of a state: the lengths of its regions. Assumes nothing.
use mathlib.Core.Path.{◌≡◌}
use mathlib.Core.Bool.{true, ◌&&◌}
use mathlib.Core.List.{List}
use Prim.Native.Nat.{ℕ}
use lib.Dec.{eqb}
use lib.ListN.{length}
use borrow.Author.Tests.{eqb-true}
use Rattle.laws.proofs.Tests.{both_true, and_left, and_right}
use Rattle.rules.specs.State.{State, shaped, shapes, word_shaped, word_shapes, verdict_shaped, verdict_shapes, set_shaped, four_shaped, progress_shaped, offer_shaped, config_length, clocks_length, words_length, stamps_length, blocks_length, dsm_ids, pubkeys_length, offer_length, chain_length, numbers_length, heldkey_length, waiting_length, sets_length, arrivals_length}
use Rattle.rules.proofs.Choices.{each}

pub record Sized (s : State) : Type 0 where
  pub config : length s.config ≡ config_length
  pub clocks : length s.clocks ≡ clocks_length
  pub words : length s.nav.words ≡ words_length
  pub stamps : length s.nav.stamps ≡ stamps_length
  pub blocks : length s.store.blocks ≡ blocks_length
  pub headers : length s.store.headers ≡ dsm_ids
  pub present : length s.store.present ≡ dsm_ids
  pub since : length s.store.since ≡ dsm_ids
  pub pubkeys : length s.pubkeys ≡ pubkeys_length
  pub offer : length s.offer ≡ offer_length
  pub chain : length s.chain ≡ chain_length
  pub numbers : length s.tesla.numbers ≡ numbers_length
  pub heldkey : length s.tesla.key ≡ heldkey_length
  pub waiting : length s.tesla.waiting ≡ waiting_length
  pub sets : length s.auth.sets ≡ sets_length
  pub arrivals : length s.auth.arrivals ≡ arrivals_length

pub sized : (s : State) → shaped s ≡ true → Sized s
unfolding shaped
sized s h =
    record {
      config = eqb-true _ config_length (each (shapes s) h 0);
      clocks = eqb-true _ clocks_length (each (shapes s) h 1);
      words = eqb-true _ words_length (each (shapes s) h 2);
      stamps = eqb-true _ stamps_length (each (shapes s) h 3);
      blocks = eqb-true _ blocks_length (each (shapes s) h 4);
      headers = eqb-true _ dsm_ids (each (shapes s) h 5);
      present = eqb-true _ dsm_ids (each (shapes s) h 6);
      since = eqb-true _ dsm_ids (each (shapes s) h 7);
      pubkeys = eqb-true _ pubkeys_length (each (shapes s) h 8);
      offer = eqb-true _ offer_length (each (shapes s) h 9);
      chain = eqb-true _ chain_length (each (shapes s) h 10);
      numbers = eqb-true _ numbers_length (each (shapes s) h 11);
      heldkey = eqb-true _ heldkey_length (each (shapes s) h 12);
      waiting = eqb-true _ waiting_length (each (shapes s) h 13);
      sets = eqb-true _ sets_length (each (shapes s) h 14);
      arrivals = eqb-true _ arrivals_length (each (shapes s) h 15);
    }

pub all-shaped : (s : State) → Sized s → shaped s ≡ true
unfolding shaped
all-shaped s z =
    rw (
      z.config,
      z.clocks,
      z.words,
      z.stamps,
      z.blocks,
      z.headers,
      z.present,
      z.since,
      z.pubkeys,
      z.offer,
      z.chain,
      z.numbers,
      z.heldkey,
      z.waiting,
      z.sets,
      z.arrivals,
    )

-- of what a word is lent
pub record WordSized (s : State) : Type 0 where
  pub config : length s.config ≡ config_length
  pub clocks : length s.clocks ≡ clocks_length
  pub words : length s.nav.words ≡ words_length
  pub stamps : length s.nav.stamps ≡ stamps_length

pub word_sized : (s : State) → word_shaped s ≡ true → WordSized s
unfolding word_shaped
word_sized s h =
    record {
      config = eqb-true _ config_length (each (word_shapes s) h 0);
      clocks = eqb-true _ clocks_length (each (word_shapes s) h 1);
      words = eqb-true _ words_length (each (word_shapes s) h 2);
      stamps = eqb-true _ stamps_length (each (word_shapes s) h 3);
    }

pub word-shaped : (s : State) → WordSized s → word_shaped s ≡ true
unfolding word_shaped
word-shaped s z = rw (z.config, z.clocks, z.words, z.stamps)

-- of what a verdict is lent
pub record VerdictSized (s : State) : Type 0 where
  pub config : length s.config ≡ config_length
  pub pubkeys : length s.pubkeys ≡ pubkeys_length
  pub offer : length s.offer ≡ offer_length
  pub chain : length s.chain ≡ chain_length
  pub numbers : length s.tesla.numbers ≡ numbers_length
  pub heldkey : length s.tesla.key ≡ heldkey_length
  pub waiting : length s.tesla.waiting ≡ waiting_length
  pub arrivals : length s.auth.arrivals ≡ arrivals_length

pub verdict_sized : (s : State) → verdict_shaped s ≡ true → VerdictSized s
unfolding verdict_shaped
verdict_sized s h =
    record {
      config = eqb-true _ config_length (each (verdict_shapes s) h 0);
      pubkeys = eqb-true _ pubkeys_length (each (verdict_shapes s) h 1);
      offer = eqb-true _ offer_length (each (verdict_shapes s) h 2);
      chain = eqb-true _ chain_length (each (verdict_shapes s) h 3);
      numbers = eqb-true _ numbers_length (each (verdict_shapes s) h 4);
      heldkey = eqb-true _ heldkey_length (each (verdict_shapes s) h 5);
      waiting = eqb-true _ waiting_length (each (verdict_shapes s) h 6);
      arrivals = eqb-true _ arrivals_length (each (verdict_shapes s) h 7);
    }

pub verdict_shaped_lem : (s : State) → VerdictSized s → verdict_shaped s ≡ true
unfolding verdict_shaped
verdict_shaped_lem s z = rw (z.config, z.pubkeys, z.offer, z.chain, z.numbers, z.heldkey, z.waiting, z.arrivals)

-- of what the calls that only ask are lent
pub set-shaped : (s : State) → length s.auth.sets ≡ sets_length → length s.auth.arrivals ≡ arrivals_length → set_shaped s ≡ true
unfolding set_shaped
set-shaped s e f = rw (e, f)

-- two lengths
both_sized : (a b : List ℕ) (m n : ℕ) → (eqb (length a) m && eqb (length b) n) ≡ true → (length a ≡ m) × (length b ≡ n)
both_sized a b m n h = (eqb-true (length a) m (and_left (eqb (length a) m) (eqb (length b) n) h), eqb-true (length b) n (and_right (eqb (length a) m) (eqb (length b) n) h))

pub set_sized : (s : State) → set_shaped s ≡ true → (length s.auth.sets ≡ sets_length) × (length s.auth.arrivals ≡ arrivals_length)
unfolding set_shaped
set_sized s h = both_sized s.auth.sets s.auth.arrivals sets_length arrivals_length h

pub message-shaped : (s : State) → length s.pubkeys ≡ pubkeys_length → length s.offer ≡ offer_length → offer_shaped s ≡ true
unfolding offer_shaped
message-shaped s e f = rw (e, f)

pub message_sized : (s : State) → offer_shaped s ≡ true → (length s.pubkeys ≡ pubkeys_length) × (length s.offer ≡ offer_length)
unfolding offer_shaped
message_sized s h = both_sized s.pubkeys s.offer pubkeys_length offer_length h

pub four_sized : (s : State) → four_shaped s ≡ true → (length s.clocks ≡ clocks_length) × (length s.auth.arrivals ≡ arrivals_length)
unfolding four_shaped
four_sized s h = both_sized s.clocks s.auth.arrivals clocks_length arrivals_length h

pub progress_sized : (s : State) → progress_shaped s ≡ true → (length s.store.blocks ≡ blocks_length) × (length s.store.present ≡ dsm_ids)
unfolding progress_shaped
progress_sized s h = both_sized s.store.blocks s.store.present blocks_length dsm_ids h

-- what a read of what waits is lent has its lengths where a verdict could be given on it
pub offer_shaped_lem : (s : State) → verdict_shaped s ≡ true → offer_shaped s ≡ true
unfolding verdict_shaped offer_shaped
offer_shaped_lem s h =
    both_true (eqb (length s.pubkeys) pubkeys_length) (eqb (length s.offer) offer_length) (each (verdict_shapes s) h 1) (each (verdict_shapes s) h 2)
