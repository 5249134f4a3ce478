-- Punch (On-Disk Specification, chapter 3).
use Rattle.std.specs.Prelude.{ℕ}
use Rattle.base.specs.Key.{leaf_index}
use Rattle.base.specs.Rewrite.{punches_leaf}
use Rattle.base.specs.declared.name.target.Target.{Target}
use Rattle.model.specs.Targets.{is_block}
use Rattle.model.specs.Rule.{Rule}
use Rattle.model.specs.requests.Change.{change_rule}

-- one block of an object made a hole (On-Disk Specification, chapter 3)
abbrev pub punch_rule : Target → ℕ → ℕ → Rule
punch_rule target object block = change_rule target (punches_leaf (leaf_index object block)) (is_block object block)
