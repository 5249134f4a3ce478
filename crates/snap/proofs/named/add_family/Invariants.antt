use Rattle.std.proofs.Common.{◌≡◌, ◌++◌, map, drop}
use Rattle.std.specs.Arc.{arc_value}
use Rattle.snap.proofs.Families.{members_of}
use Rattle.snap.proofs.named.add_family.Given as goal

-- what was added, and what is left to add
abbrev pub invariant-loop-file_system : goal.invariant-loop-file_system
invariant-loop-file_system l =
    l.all.items ++ members_of l.name (map arc_value (drop l.file_system-index l.file_systems)) ≡ l.initial.all.items ++ members_of l.name (map arc_value l.file_systems)
