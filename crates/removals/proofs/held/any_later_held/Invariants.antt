use Rattle.std.proofs.Common.{◌≡◌, Bor, map, false}
use Rattle.std.specs.List.{list_any}
use Rattle.snapshots.specs.declared.kept.Kept.{Kept}
use Rattle.removals.specs.Needs.{is_held_after}
use Rattle.removals.proofs.held.any_later_held.Given as goal

-- none of those so far
abbrev pub invariant-loop-kept : goal.invariant-loop-kept
invariant-loop-kept l = list_any (is_held_after l.views.opened l.group.0) (map (λ (x : Bor Kept). x.now.snapshot) l.yielded) ≡ false
