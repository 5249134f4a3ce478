use Rattle.std.proofs.Common.{◌≡◌, Bor, map, false}
use Rattle.snapshots.specs.declared.kept.Kept.{Kept}
use Rattle.model.specs.Lengths.{any_long}
use Rattle.snap.proofs.lengths.any_long_snapshot.Given as goal

-- none of those so far
abbrev pub invariant-loop-kept : goal.invariant-loop-kept
invariant-loop-kept l = any_long l.length (map (λ (x : Bor Kept). x.now.snapshot) l.yielded) ≡ false
