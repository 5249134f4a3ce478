use Rattle.std.proofs.Common.{◌≡◌, ◌<◌, true, length, slice_index_or, [], ℕ, ◌⊎◌}
use Rattle.std.specs.FinMap.{keys}
use Rattle.model.specs.World.{World}
use Rattle.world.specs.Tables.{world_of}
use Rattle.limits.specs.Levels.{IsUnder}
use Rattle.limits.specs.Limits.{AreQuotasMet}
use Rattle.limits.specs.declared.line.Line.{Line}
use Rattle.limits.specs.Lines.{is_in_quota}
use Rattle.limits.specs.Ledgers.{ledger_of}
use Rattle.limits.specs.Changes.{IsChanged, IsOnWay}
use Rattle.limits.proofs.change.charge_after.Given as goal

-- the line is on the way, and each quota but those of its file system and of the ones above holds
abbrev pub invariant-loop-own : goal.invariant-loop-own
invariant-loop-own l = record {
  way : IsOnWay (world_of l.table) l.name l.here l.referenced l.place l.line;
  asked : (new : World) → IsChanged (world_of l.table) new l.name l.here l.referenced → AreQuotasMet (world_of l.table) → (j : ℕ) (d : Line) → j < length (keys l.table.file_systems)
      → IsUnder (slice_index_or (keys l.table.file_systems) j []) (slice_index_or (keys l.table.file_systems) l.place []) ⊎ (is_in_quota (slice_index_or (ledger_of new) j d) ≡ true);
}

abbrev pub decreases-loop-own : goal.decreases-loop-own
decreases-loop-own l = l.place
