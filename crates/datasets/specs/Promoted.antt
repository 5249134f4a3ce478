-- Promotes among file systems by name.
use Rattle.std.specs.Prelude.{◌≡◌, ℕ, List, [], Some, slice_index_or, slice_set}
use Rattle.std.specs.FinMap.{get, insert}
use Rattle.base.specs.Surveys.{IsIn}
use Rattle.model.specs.World.{FileSystem, Snap, SnapId, id_of}
use Rattle.world.specs.Outcomes.{Promotion, snaps_upto, promoted, demoted}
use Rattle.world.specs.Worlds.{AreRising}
use Rattle.datasets.specs.Clones.{below_in, AreOnce}
use Rattle.file_system.specs.Promotions.{promoted_row, demoted_row}
use Rattle.file_system.specs.Rows.{FileSystems, Row, new_row}
use Rattle.file_system.specs.Splices.{AreAbove}

-- what a promote of the file system of this name is between, among these (zfs-promote(8))
pub record IsPromotion (m : FileSystems) (name : List ℕ) (p : Promotion) : Type 0 where
  pub here : get m name ≡ Some p.clone
  pub is : p.clone.origin ≡ Some p.origin
  pub there : get m p.owner ≡ Some p.system
  pub snapshot : Snap
  pub among : IsIn p.system.snaps snapshot
  pub named : id_of snapshot ≡ p.origin

-- The file system of this name is a clone that can be promoted, among these: no snapshot that it gains has the name of one of its own
-- (zfs-promote(8)), and snapshots have their identities and stand in their orders
pub record CanPromoteIn (m : FileSystems) (name : List ℕ) : Type 0 where
  pub between : Promotion
  pub is : IsPromotion m name between
  pub once : AreOnce m
  pub rising : (other : List ℕ) (f : FileSystem) → get m other ≡ Some f → AreRising 0 f.snaps
  pub own : AreAbove (below_in m between.clone.origin) between.clone
  pub others : AreAbove (below_in m between.system.origin) between.system
  pub names : (t u : Snap) → IsIn (snaps_upto between.system between.origin.group) t → IsIn between.clone.snaps u → t.name ≡ u.name → ⊥

-- the file systems after it (zfs-promote(8))
abbrev pub promoted_in : FileSystems → List ℕ → Promotion → FileSystems
promoted_in m name p = insert (insert m p.owner (demoted p)) name (promoted p)

-- the row at place i (profile)
abbrev pub row_at : List Row → ℕ → Row
row_at rows i = slice_index_or rows i (new_row [])

-- the rows after a promote of the one at place i, whose origin is this snapshot of the one at place j (zfs-promote(8))
abbrev pub promoted_at : List Row → ℕ → ℕ → SnapId → List Row
promoted_at rows i j id =
    slice_set (slice_set rows j (demoted_row (row_at rows i) (row_at rows j) id)) i (promoted_row (row_at rows i) (row_at rows j) id)
