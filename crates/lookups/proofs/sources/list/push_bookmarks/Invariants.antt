use Rattle.std.proofs.Common.{◌≡◌, ◌++◌, map, take}
use Rattle.std.specs.Prelude.{nat_lt}
use Rattle.std.specs.List.{filter}
use Rattle.snapshots.specs.Marks.{entry_in}
use Rattle.lookups.specs.Sources.{bookmark_in}
use Rattle.lookups.proofs.sources.list.push_bookmarks.Given as goal

-- the older ones of those so far
abbrev pub invariant-loop-mark : goal.invariant-loop-mark
invariant-loop-mark l =
    l.sources.items ≡ l.initial.sources.items ++ filter (λ b. nat_lt b.group.0 l.group.0) (map (λ a. bookmark_in l.file_system.name (entry_in a)) (take l.mark-index l.mark-items))
