-- Structs of their numbers.
use Rattle.std.specs.Prelude.{ℕ, List}
use Rattle.rules.specs.declared.Chain.{Chain}
use Rattle.rules.specs.declared.Tag.{Tag}

-- a chain of the numbers that its keys need, in the order of its fields; of its tags nothing is asked
abbrev pub chain_of : ℕ → ℕ → ℕ → List ℕ → ℕ → ℕ → Chain
chain_of ns nmack root alpha hf width =
    record { ns = ns; nmack = nmack; root = root; alpha = alpha; hf = hf; mf = 0; width = width; ms = 0; fields = 0 }

-- a tag in the order of its fields
abbrev pub tag_of : ℕ → ℕ → ℕ → ℕ → ℕ → ℕ → ℕ → ℕ → Tag
tag_of sender prn adkd block position time status bits =
    record { sender = sender; prn = prn; adkd = adkd; block = block; position = position; time = time; status = status; bits = bits }
