-- FreeObject (On-Disk Specification, chapter 3).
use Rattle.std.specs.Prelude.{ℕ}
use Rattle.base.specs.Rewrite.{frees_object}
use Rattle.base.specs.declared.name.target.Target.{Target}
use Rattle.model.specs.Targets.{is_object}
use Rattle.model.specs.Rule.{Rule}
use Rattle.model.specs.requests.Change.{change_rule}

-- every block of an object made a hole (On-Disk Specification, chapter 3)
abbrev pub free_object_rule : Target → ℕ → Rule
free_object_rule target object = change_rule target (frees_object object) (is_object object)
