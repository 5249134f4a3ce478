use Rattle.model.specs.Ids.{snap_id}
use Rattle.model.specs.World.{Snapped, id_of}
use Rattle.lookups.proofs.SourceLineages.{IsOn}
use Rattle.lookups.proofs.sources.lineage.is_older.Given as goal

-- where the walk stands
abbrev pub invariant-lineage : goal.invariant-lineage
invariant-lineage l = IsOn l.table (Snapped (id_of l.snapshot)) (snap_id l.older) l.passed l.until.0

-- the group of the snapshot there
abbrev pub decreases-lineage : goal.decreases-lineage
decreases-lineage l = l.until.0
