use Rattle.std.proofs.Common.{◌≡◌, Bor, map, false}
use Rattle.std.specs.List.{list_any}
use Rattle.snapshots.specs.declared.kept.Kept.{Kept}
use Rattle.removals.specs.Needs.{has_clone_and_is_later}
use Rattle.removals.proofs.cloned.any_later_has_clone.Given as goal

-- none of those so far
abbrev pub invariant-loop-kept : goal.invariant-loop-kept
invariant-loop-kept l = list_any (has_clone_and_is_later l.table l.group.0) (map (λ (x : Bor Kept). x.now.snapshot) l.yielded) ≡ false
