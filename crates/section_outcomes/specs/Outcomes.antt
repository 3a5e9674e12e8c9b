-- The key of a block's tags without delay, and the tests of an outcome in their order.
use Rattle.std.specs.Prelude.{ℕ, ◌+◌, Bool, true, List, [], ◌∷◌}
use Rattle.laws.specs.Refusal.{refuse, first_refusal}
use Rattle.mac.specs.Kept.{kept_of}
use Rattle.rules.specs.Chain.{Held, key_of_slot, key_slot}
use Rattle.rules.specs.declared.Chain.{Chain}

-- what is kept of the key of the tags without delay of block b + 1
unfoldable pub block_key : Chain → Held → ℕ → ℕ → List ℕ
block_key c h time b = kept_of c.mf (key_of_slot c h (key_slot c time (b + 1) 0))

-- the tests of `own_outcome` in their order: not allowed, flexible and MACSEQ fails, no usable set, authentic, without delay, a place is free
abbrev pub outcome_by : Bool → Bool → Bool → Bool → Bool → Bool → ℕ
outcome_by refused unfit unusable right prompt free =
    first_refusal
    (refuse refused 4
    ∷ refuse unfit 6
    ∷ refuse unusable 3
    ∷ refuse right 1
    ∷ refuse prompt 2
    ∷ refuse free 5
    ∷ refuse true 7
    ∷ [])
