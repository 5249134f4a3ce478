-- Which leaves are read ahead.
use Rattle.std.specs.Prelude.{ℕ, List, Some, None, take, if◌then◌else◌}
use Rattle.std.specs.List.{filter_map}
use Rattle.base.specs.Key.{leaf_index}
use Rattle.model.specs.Targets.{is_block}
use Rattle.model.specs.declared.request.ObjectBlock.{ObjectBlock}

-- the leaves of the first n blocks, without those that are outside an object's limits (profile)
abbrev pub leaves_in : ℕ → List ObjectBlock → List ℕ
leaves_in n blocks = filter_map (λ b. if is_block b.object b.block then Some (leaf_index b.object b.block) else None) (take n blocks)
