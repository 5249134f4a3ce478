use Rattle.std.proofs.Common.{◌≡◌, ◌++◌, map, take}
use Rattle.base.specs.Names.{mark_text}
use Rattle.snapshots.specs.Marks.{name_in}
use Rattle.lookups.proofs.names.push_bookmarks.Given as goal

-- the names of the bookmarks so far
abbrev pub invariant-loop-mark : goal.invariant-loop-mark
invariant-loop-mark l =
    l.names.items ≡ l.initial.names.items ++ map (λ a. mark_text (record { file_system = l.name; component = name_in a })) (take l.mark-index l.mark-items)
