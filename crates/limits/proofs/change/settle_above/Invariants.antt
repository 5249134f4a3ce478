use Rattle.std.proofs.Common.{◌≤◌, ◌^◌}
use Rattle.std.specs.FinMap.{keys}
use Rattle.std.specs.List.{All}
use Rattle.model.specs.World.{World}
use Rattle.limits.specs.Lines.{used_in}
use Rattle.limits.specs.Changes.{IsModest, CanWalkUp, IsBehind, line_with}
use Rattle.limits.proofs.change.settle_above.Given as goal

-- the walk can go on from the line, and is behind each world that it was behind
abbrev pub invariant-loop-parent : goal.invariant-loop-parent
invariant-loop-parent l = record {
  can : CanWalkUp (keys l.table.file_systems) l.lines l.place (line_with l.lines l.place l.children);
  modest : All IsModest l.lines;
  little : All (λ m. used_in m ≤ 2 ^ 54) l.lines;
  each : (new : World) → IsBehind new (keys l.table.file_systems) l.fn.lines l.fn.place (line_with l.fn.lines l.fn.place l.fn.children)
      → IsBehind new (keys l.table.file_systems) l.lines l.place (line_with l.lines l.place l.children);
}

abbrev pub decreases-loop-parent : goal.decreases-loop-parent
decreases-loop-parent l = l.place
