use Rattle.std.proofs.Common.{◌≡◌, map}
use Rattle.std.specs.Prelude.{nat_lt}
use Rattle.std.specs.List.{filter}
use Rattle.lookups.specs.Sources.{snapshot_in}
use Rattle.lookups.proofs.Walks.{passed}
use Rattle.lookups.proofs.sources.list.push_older.Given as goal

-- the older ones of those so far
abbrev pub invariant-loop-kept : goal.invariant-loop-kept
invariant-loop-kept l = l.older.items ≡ map (snapshot_in l.file_system.name) (filter (λ u. nat_lt u.group l.group.0) (passed l.yielded))
