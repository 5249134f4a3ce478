-- A clone, and what it and the file system of its origin are after a promote.
use Rattle.std.specs.Prelude.{◌≡◌, ℕ, List, Some}
use Rattle.std.specs.Arc.{arc_value}
use Rattle.std.specs.Option.{option_map}
use Rattle.base.specs.Map.{blocks}
use Rattle.base.specs.Surveys.{IsIn}
use Rattle.model.specs.World.{FileSystem, Snap, SnapId, id_of, empty_file_system}
use Rattle.world.specs.Outcomes.{Promotion, snaps_upto, promoted, demoted}
use Rattle.file_system.specs.Counts.{IsCounted}
use Rattle.file_system.specs.Dead.{snaps_in, newest_blocks, AreAccounted}
use Rattle.file_system.specs.Origins.{origin_id, map_below, blocks_below}
use Rattle.file_system.specs.Rows.{Row}
use Rattle.file_system.specs.Splices.{AreAbove}
use Rattle.file_system.specs.declared.promote.Lineage.{Lineage}

-- a clone of a snapshot (zfs-clone(8))
abbrev pub clone_system : Snap → FileSystem
clone_system t = record empty_file_system { live = t.map; origin = Some (id_of t) }

-- the same under a name, above the snapshot's map (zfs-clone(8))
abbrev pub clone_row : List ℕ → Snap → Row
clone_row name t = record { name = name; system = clone_system t; below = t.map }

-- what a promote of the one, whose origin is this snapshot of the other, is between (zfs-promote(8))
abbrev pub promotion_between : Row → Row → SnapId → Promotion
promotion_between clone owner id = record { clone = clone.system; origin = id; owner = owner.name; system = owner.system }

-- the clone afterwards, above the origin that the other had (zfs-promote(8))
abbrev pub promoted_row : Row → Row → SnapId → Row
promoted_row clone owner id = record { name = clone.name; system = promoted (promotion_between clone owner id); below = owner.below }

-- the other afterwards, above the origin that the clone had (zfs-promote(8))
abbrev pub demoted_row : Row → Row → SnapId → Row
demoted_row clone owner id = record { name = owner.name; system = demoted (promotion_between clone owner id); below = clone.below }

-- The clone's origin is a snapshot of the other, and no snapshot that it gains has the name of one of its own (zfs-promote(8)); each has
-- its snapshots in their order
pub record CanPromote (clone owner : Row) (id : SnapId) : Type 0 where
  pub origin : Snap
  pub there : IsIn owner.system.snaps origin
  pub named : id_of origin ≡ id
  pub is : clone.system.origin ≡ Some id
  pub map : clone.below ≡ origin.map
  pub own : AreAbove clone.below clone.system
  pub others : AreAbove owner.below owner.system
  pub names : (t u : Snap) → IsIn (snaps_upto owner.system id.group) t → IsIn clone.system.snaps u → t.name ≡ u.name → ⊥

-- a row with these snapshots above this origin (zfs-promote(8))
abbrev pub with_lineage : Row → Lineage → Row
with_lineage r l = record {
  name = r.name;
  system = record r.system { snaps = snaps_in (arc_value l.snapshots); origin = origin_id (option_map arc_value l.origin) };
  below = map_below (option_map arc_value l.origin);
}

-- The row can have them: their dead lists are theirs above the origin, what stands before the live map has the blocks of what did, and the
-- counts are those of the row with them (On-Disk Specification, chapter 4: ds_deadlist_obj; zfsprops(7): usedbydataset, usedbysnapshots)
pub record IsLineageFor (r : Row) (l : Lineage) : Type 0 where
  pub accounted : AreAccounted (blocks_below (option_map arc_value l.origin)) (arc_value l.snapshots)
  pub newest : newest_blocks (blocks_below (option_map arc_value l.origin)) (snaps_in (arc_value l.snapshots)) ≡ newest_blocks (blocks r.below) r.system.snaps
  pub counted : IsCounted (map_below (option_map arc_value l.origin)) (snaps_in (arc_value l.snapshots)) r.system.live l.counts
