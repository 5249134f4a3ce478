use Rattle.std.proofs.Common.{◌≡◌, ◌≤◌, ◌++◌, map}
use Rattle.image.specs.Roots.{shown_root}
use Rattle.image.proofs.AllRoots.{kept_root}
use Rattle.image.proofs.roots.push_snapshots.Given as goal

-- the roots of the snapshots so far, and no count is lower
abbrev pub invariant-loop-kept : goal.invariant-loop-kept
invariant-loop-kept l = (map shown_root l.roots.items ≡ map shown_root l.initial.roots.items ++ map (kept_root l.name) l.yielded) × (l.fn.meter ≤ l.meter)
