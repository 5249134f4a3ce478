use Rattle.std.proofs.Common.{◌≡◌, ◌+◌, map, drop}
use Rattle.std.specs.Arc.{arc_value}
use Rattle.world.specs.Trees.{total}
use Rattle.lookups.specs.Used.{own_within}
use Rattle.lookups.proofs.space.family.own_together.Given as goal

-- what was counted, and what is left to count
abbrev pub invariant-loop-file_system : goal.invariant-loop-file_system
invariant-loop-file_system l =
    l.sum + total (own_within l.name) (map arc_value (drop l.file_system-index l.file_systems)) ≡ total (own_within l.name) (map arc_value l.file_systems)
