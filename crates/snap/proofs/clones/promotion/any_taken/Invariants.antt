use Rattle.std.proofs.Common.{◌≡◌, Bor, map, false}
use Rattle.std.specs.List.{list_any}
use Rattle.base.specs.Names.{same_name}
use Rattle.model.specs.World.{Snap}
use Rattle.snapshots.specs.declared.kept.Kept.{Kept}
use Rattle.snap.proofs.Yielded.{is_early}
use Rattle.snap.proofs.clones.promotion.any_taken.Given as goal

-- none of those so far
abbrev pub invariant-loop-kept : goal.invariant-loop-kept
invariant-loop-kept l = list_any (is_early (λ (t : Snap). list_any (λ (u : Snap). same_name u.name t.name) l.clone.system.snaps) l.group.0) (map (λ (x : Bor Kept). x.now.snapshot) l.yielded) ≡ false
