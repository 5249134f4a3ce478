use Rattle.std.proofs.Common.{◌++◌}
use Rattle.shared_list.specs.Left.{left}
use Rattle.snapshots.specs.Index.{IsIndex, AreNamesOnce}
use Rattle.snapshots.proofs.parts.without.Given as goal

-- what is left stands before the others in the index
abbrev pub invariant-kept : goal.invariant-kept
invariant-kept l = record {
  can : (goal.iterator-kept).can_next l.kept-iterator;
  finite : (goal.iterator-kept).is_finite l.kept-iterator;
  once : AreNamesOnce (left l.kept-iterator ++ l.others);
  index : IsIndex l.by_name (left l.kept-iterator ++ l.others);
}
