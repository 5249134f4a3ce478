use Rattle.std.proofs.Common.{◌≡◌, ◌≤◌, ◌+◌, ◌-◌, ◌^◌, Bor, min, map}
use Rattle.std.specs.List.{sum_by}
use Rattle.snapshots.specs.declared.kept.Kept.{Kept}
use Rattle.file_system.specs.Gone.{kept_count, kept_reach}
use Rattle.file_system.proofs.gone.count_snapshots.Given as goal

-- so many as those so far count, and no further than their lists allow
abbrev pub invariant-loop-kept : goal.invariant-loop-kept
invariant-loop-kept l =
    (l.total ≡ min (2 ^ 64 - 1) (sum_by (kept_count l.asked) (map (λ (x : Bor Kept). x.now) l.yielded)))
    × (l.segments ≤ l.fn.segments + sum_by (kept_reach l.asked) (map (λ (x : Bor Kept). x.now) l.yielded))
    × (l.fn.segments ≤ l.segments)
