use Rattle.std.proofs.Common.{◌≡◌, None}
use Rattle.std.specs.Prelude.{nat_lt}
use Rattle.std.specs.List.{find, list_any}
use Rattle.datasets.specs.Origins.{origin_group}
use Rattle.limits.specs.Space.{newest_group}
use Rattle.lookups.specs.Ranges.{has_clone_between, older_than}
use Rattle.lookups.proofs.Walks.{passed}
use Rattle.lookups.proofs.space.range.look_around.Given as goal

-- what stands around the range among those so far, none of which is newer
abbrev pub invariant-loop-kept : goal.invariant-loop-kept
invariant-loop-kept l = record {
  before : l.around.before.0 ≡ newest_group (origin_group l.file_system.system.origin) (older_than l.first.0 (passed l.yielded));
  next : l.around.next ≡ None;
  none : find (λ u. nat_lt l.last.0 u.group) (passed l.yielded) ≡ None;
  cloned : l.around.is_cloned ≡ list_any (has_clone_between l.table l.first.0 l.last.0) (passed l.yielded);
}
