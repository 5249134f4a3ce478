use Rattle.std.proofs.Common.{◌≡◌, Bor, map, false}
use Rattle.std.specs.List.{list_any}
use Rattle.snapshots.specs.declared.kept.Kept.{Kept}
use Rattle.removals.specs.Families.{is_cloned_outside}
use Rattle.removals.proofs.cloned.any_has_clone_outside.Given as goal

-- none of those so far
abbrev pub invariant-loop-kept : goal.invariant-loop-kept
invariant-loop-kept l = list_any (is_cloned_outside l.table l.name) (map (λ (x : Bor Kept). x.now.snapshot) l.yielded) ≡ false
