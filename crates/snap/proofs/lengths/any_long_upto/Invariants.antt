use Rattle.std.proofs.Common.{◌≡◌, Bor, map, false}
use Rattle.std.specs.List.{list_any}
use Rattle.model.specs.World.{Snap}
use Rattle.snapshots.specs.declared.kept.Kept.{Kept}
use Rattle.model.specs.Lengths.{is_long}
use Rattle.snap.proofs.Yielded.{is_early}
use Rattle.snap.proofs.lengths.any_long_upto.Given as goal

-- none of those so far
abbrev pub invariant-loop-kept : goal.invariant-loop-kept
invariant-loop-kept l = list_any (is_early (λ (t : Snap). is_long l.length t.name) l.group.0) (map (λ (x : Bor Kept). x.now.snapshot) l.yielded) ≡ false
