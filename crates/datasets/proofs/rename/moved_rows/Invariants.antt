use Rattle.std.proofs.Common.{take}
use Rattle.datasets.specs.Renames.{AreMoved}
use Rattle.datasets.proofs.rename.moved_rows.Given as goal

-- the rows so far under their new names
abbrev pub invariant-loop-row : goal.invariant-loop-row
invariant-loop-row l = AreMoved l.from l.to (take l.row-index l.rows) l.moves.items l.clones
