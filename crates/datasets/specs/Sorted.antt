-- What a list of file systems keeps.
use Rattle.std.specs.Prelude.{◌≡◌, IsTrue, map}
use Rattle.std.specs.Arc.{arc_value}
use Rattle.std.specs.FinMap.{is_sorted, from_sorted}
use Rattle.base.specs.Names.{name_cmp}
use Rattle.datasets.specs.CloneNames.{IsListed}
use Rattle.datasets.specs.Clones.{AreTied}
use Rattle.file_system.specs.Rows.{entry_in, snap_count}
use Rattle.datasets.specs.declared.file_systems.FileSystems.TheInside.{Inside}

-- the names rise, the snapshots are counted, each clone stands above its origin, which is a snapshot of one of them, and the clones are listed
-- (profile)
pub record IsSorted (t : Inside) : Type 0 where
  pub sorted : IsTrue (is_sorted name_cmp (map entry_in t.rows.items))
  pub counted : t.snapshot_count ≡ snap_count (from_sorted (map entry_in t.rows.items))
  pub tied : AreTied (map arc_value t.rows.items)
  pub listed : IsListed (from_sorted (map entry_in t.rows.items)) t.clones
