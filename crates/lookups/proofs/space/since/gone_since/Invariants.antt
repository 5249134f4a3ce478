use Rattle.std.proofs.Common.{◌-◌, ◌≤◌}
use Rattle.std.specs.Option.{option_map, option_map_or, option_copied}
use Rattle.model.specs.Ids.{snap_id}
use Rattle.lookups.specs.Places.{dataset_at}
use Rattle.lookups.proofs.Lineages.{IsAt}
use Rattle.lookups.proofs.space.since.gone_since.Given as goal

-- where the walk stands
abbrev pub invariant-lineage : goal.invariant-lineage
invariant-lineage l = IsAt l.table (dataset_at l.file_system (option_copied l.dataset)) (snap_id l.since) l.passed (option_map (λ g. g.0) l.until) l.gone (l.segments - l.fn.segments) × (l.fn.segments ≤ l.segments)

-- the group of the dataset there
abbrev pub decreases-lineage : goal.decreases-lineage
decreases-lineage l = option_map_or (λ n. n) (option_map (λ g. g.0) l.until) l.table.group
