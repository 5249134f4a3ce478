-- What stands below the oldest snapshot of a file system: the origin of a clone, or nothing.
use Rattle.std.specs.Prelude.{ℕ, Option}
use Rattle.std.specs.FinMap as finmap
use Rattle.std.specs.Option.{option_map, option_map_or}
use Rattle.base.specs.Map.{Map, BlockSet, blocks}
use Rattle.model.specs.Ids.{snap_id}
use Rattle.model.specs.World.{SnapId}
use Rattle.file_system.specs.declared.origin.Origin.{Origin}

-- the creation group of an origin, and 0 where there is none (On-Disk Specification, chapter 4: ds_prev_snap_txg)
abbrev pub origin_group : Option SnapId → ℕ
origin_group id = option_map_or (λ i. i.group) id 0

-- which snapshot an origin is (On-Disk Specification, chapter 4: dd_clone_parent_obj)
abbrev pub origin_id : Option Origin → Option SnapId
origin_id = option_map (λ o. snap_id o.snapshot)

-- its map, and the empty one where there is none (On-Disk Specification, chapter 4: ds_prev_snap_obj)
abbrev pub map_below : Option Origin → Map
map_below o = option_map_or (λ x. x.tree) o finmap.empty

-- its blocks, and none where there is none (On-Disk Specification, chapter 4: ds_prev_snap_obj)
abbrev pub blocks_below : Option Origin → BlockSet
blocks_below o = blocks (map_below o)

-- its creation group, and 0 where there is none (On-Disk Specification, chapter 4: ds_prev_snap_txg)
abbrev pub group_below : Option Origin → ℕ
group_below o = origin_group (origin_id o)
