use Rattle.std.proofs.Common.{◌≡◌, ◌++◌, Some}
use Rattle.model.specs.World.{id_of}
use Rattle.lookups.specs.Places.{IsPlace}
use Rattle.lookups.specs.Sources.{lineage_sources}
use Rattle.lookups.proofs.sources.list.push_lineage.Given as goal

-- where the walk stands, and what is left of the lineage
abbrev pub invariant-lineage : goal.invariant-lineage
invariant-lineage l =
    IsPlace l.table l.passed (Some l.at)
    × (l.initial.sources.items ++ lineage_sources l.table (id_of l.snapshot) ≡ l.sources.items ++ lineage_sources l.table (id_of l.at))

-- the group of the snapshot there
abbrev pub decreases-lineage : goal.decreases-lineage
decreases-lineage l = l.at.group
