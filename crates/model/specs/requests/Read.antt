-- Read (On-Disk Specification, chapter 3; numbers are profile).
use Rattle.std.specs.Prelude.{ℕ, not, Bool, false, [], ◌∷◌, None}
use Rattle.std.specs.Option.{option_map_or}
use Rattle.std.specs.FinMap.{get}
use Rattle.base.specs.declared.refusal.Refusal.TheVariants.{NoDataset, BadKey}
use Rattle.base.specs.Key.{leaf_index}
use Rattle.base.specs.Map.{contents}
use Rattle.base.specs.declared.name.target.Target.{Target}
use Rattle.model.specs.declared.reply.Reply.TheVariants.{Data}
use Rattle.model.specs.World.{map_of}
use Rattle.model.specs.State.{State}
use Rattle.model.specs.Targets.{has_dataset, dataset_of, is_block}
use Rattle.model.specs.Rule.{Row, Rule, question}

-- a dataset must be there, and the block's numbers within their limits (profile)
abbrev pub read_row : State → Target → Bool → Row
read_row s target in_range = (not (has_dataset s target), NoDataset) ∷ (not in_range, BadKey) ∷ []

-- the bytes of a block (On-Disk Specification, chapter 3)
abbrev pub read_rule : Target → ℕ → ℕ → Rule
read_rule target object block =
    question (λ s. read_row s target (is_block object block))
    (λ s. Data (option_map_or (λ d. get (contents (map_of s.now d)) (leaf_index object block)) (dataset_of s target) None)) false
