-- What is lost where a live map goes.
use Rattle.std.specs.Prelude.{◌≡◌, ℕ, List, [], ◌∷◌}
use Rattle.std.specs.FinSet.{difference}
use Rattle.base.specs.Map.{Map, BlockSet, blocks}
use Rattle.model.specs.World.{Snap}
use Rattle.model.specs.Sums.{size_without}
use Rattle.world.specs.Blocks.{after}
use Rattle.file_system.specs.Dead.{newest_blocks}
use Rattle.file_system.specs.Writes.{newest_group}
use Rattle.file_system.specs.declared.lost.Lost.{Lost}

-- the map of the last of these snapshots, and this map where there is none (zfs-rollback(8))
abbrev pub newest_map : Map → List Snap → Map
newest_map m [] = m
newest_map m (t ∷ ts) = newest_map t.map ts

-- What is lost with a live map above these snapshots and what stands below them: of its blocks those that were born after the newest of
-- them, which are those that this hasn't, and how many they are (zfs-rollback(8))
pub record IsLost (bs : BlockSet) (base : ℕ) (m : Map) (snaps : List Snap) (lost : Lost) : Type 0 where
  pub tree_is : lost.tree ≡ m
  pub after_is : lost.after.0 ≡ newest_group base snaps
  pub blocks_are : after lost.after.0 (blocks m) ≡ difference (blocks m) (newest_blocks bs snaps)
  pub counted : lost.count ≡ size_without (blocks m) (newest_blocks bs snaps)
