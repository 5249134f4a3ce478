use Rattle.std.proofs.Common.{◌≡◌, map, take, vec_len}
use Rattle.std.specs.Prelude.{vec_capacity}
use Rattle.std.specs.Arc.{arc_value}
use Rattle.snapshots.proofs.bookmarks.order.shared.Given as goal

-- the owners so far
abbrev pub invariant-loop-mark : goal.invariant-loop-mark
invariant-loop-mark l = record {
  items : map arc_value l.owners.items ≡ map arc_value (take l.mark-index l.marks);
  len : vec_len l.owners ≡ l.mark-index;
  capacity : vec_capacity l.owners ≡ vec_capacity l.initial.owners;
}
