-- Write (On-Disk Specification, chapter 3).
use Rattle.std.specs.Prelude.{ℕ, List}
use Rattle.base.specs.Key.{leaf_index}
use Rattle.base.specs.Rewrite.{writes_leaf}
use Rattle.base.specs.declared.name.target.Target.{Target}
use Rattle.model.specs.Targets.{is_block}
use Rattle.model.specs.Rule.{Rule}
use Rattle.model.specs.requests.Change.{change_rule}

-- one block of an object written (On-Disk Specification, chapter 3)
abbrev pub write_rule : Target → ℕ → ℕ → List ℕ → Rule
write_rule target object block bytes = change_rule target (writes_leaf (leaf_index object block) bytes) (is_block object block)
