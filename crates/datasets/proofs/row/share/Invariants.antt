use Rattle.std.proofs.Common.{◌≡◌, ◌+◌, ◌++◌, map, take, vec_len}
use Rattle.std.specs.Prelude.{vec_capacity}
use Rattle.std.specs.Arc.{arc_value}
use Rattle.datasets.proofs.row.share.Given as goal

-- the owners so far
abbrev pub invariant-loop-row : goal.invariant-loop-row
invariant-loop-row l = record {
  items : map arc_value l.owners.items ≡ map arc_value l.initial.owners.items ++ map arc_value (take l.row-index l.rows);
  len : vec_len l.owners ≡ vec_len l.initial.owners + l.row-index;
  capacity : vec_capacity l.owners ≡ vec_capacity l.initial.owners;
}
