-- The regions of a core that was started and heard nothing, as the parts of a state.
use Rattle.std.specs.Prelude.{List, [], ◌∷◌, ◌++◌, ℕ, replicate}
use Rattle.gather.specs.Store.{store}
use Rattle.regions.specs.Tesla.{tesla}
use Rattle.rules.specs.State.{Nav, Store, Tesla, Auth, words_length, stamps_length, blocks_length, dsm_ids, heldkey_length, waiting_length, sets_length, arrivals_length}

-- NS, MACLT, marks, tree root, and 0: not stopped
abbrev pub settings : ℕ → ℕ → List ℕ → List ℕ → List ℕ
settings ns maclt marks root = ns ∷ maclt ∷ (marks ++ (root ++ (0 ∷ [])))

abbrev pub no_words : Nav
no_words = record { words = replicate words_length 0; stamps = replicate stamps_length 0 }

abbrev pub no_blocks : Store
no_blocks = store (replicate blocks_length 0) (replicate dsm_ids 0) (replicate dsm_ids 0) (replicate dsm_ids 0)

abbrev pub no_tags : Tesla
no_tags = tesla (0 ∷ 0 ∷ []) (replicate heldkey_length 0) (replicate waiting_length 0)

abbrev pub no_sets : Auth
no_sets = record { sets = replicate sets_length 0; arrivals = replicate arrivals_length 0 }
