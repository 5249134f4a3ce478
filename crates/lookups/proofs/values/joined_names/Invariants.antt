use Rattle.std.proofs.Common.{◌≡◌, ◌++◌, map, drop}
use Rattle.std.specs.List.{join_with_byte}
use Rattle.datasets.specs.CloneNames.{name_of}
use Rattle.lookups.proofs.Joined.{each_after}
use Rattle.lookups.proofs.values.joined_names.Given as goal

-- the names so far, and those that are left
abbrev pub invariant-loop-clone : goal.invariant-loop-clone
invariant-loop-clone l = l.text.items ++ each_after 44 (map name_of (drop l.clone-index l.others)) ≡ join_with_byte 44 (map name_of l.clones)
