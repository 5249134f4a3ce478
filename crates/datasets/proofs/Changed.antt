-- A file system of a table that is changed in its limits or its bookmarks: its maps and its lineage stay.
use Rattle.std.proofs.Common.{◌≡◌, Option, Some, None, Result, Ok, Err, refl, ap, ◌∙◌}
use Rattle.std.specs.Prelude.{OnOk}
use Rattle.std.specs.Option.{option_map_or}
use Rattle.std.specs.FinMap.{get, insert}
use Rattle.base.specs.Map.{Map}
use Rattle.base.specs.Surveys.{IsIn}
use Rattle.model.specs.World.{FileSystem, maps_of}
use Rattle.model.specs.Edits.{with_file_system}
use Rattle.world.specs.Shapes.{Name}
use Rattle.world.specs.Worlds.{FileSystems, IsTidy, shape_of}
use Rattle.world.specs.Tables.{Datasets, world_of}
use Rattle.world.proofs.changes.Views.{label_systems, label_from}
use Rattle.datasets.specs.Table.{IsTable}
use Rattle.datasets.proofs.Kept.{numbers_from}

module _ (t : Datasets) (name : Name) (change : FileSystem → FileSystem) where
  -- the file systems, where it is that one's, if there is one
  abbrev changed_if : Option FileSystem → FileSystems
  changed_if x = option_map_or (λ f. insert t.file_systems name (change f)) x t.file_systems

  changed_is : record t { file_systems = changed_if (get t.file_systems name) } ≡ record t { file_systems = (with_file_system (world_of t) name change).file_systems }
  changed_is = by_system (get t.file_systems name)
    where
      by_system : (x : Option FileSystem) → ◌≡◌ {A = Datasets} (record t { file_systems = changed_if x })
          (record t { file_systems = (option_map_or (λ f. record (world_of t) { file_systems = insert t.file_systems name (change f) }) x (world_of t)).file_systems })
      by_system None = refl
      by_system (Some f) = refl

  -- what the file systems answer
  pub is_changed : {T E : Type 0} (r : Result T E) (new : FileSystems) → OnOk r (new ≡ changed_if (get t.file_systems name))
      → OnOk r (record t { file_systems = new } ≡ record t { file_systems = (with_file_system (world_of t) name change).file_systems })
  is_changed (Ok v) new ok = ap (λ ss. record t { file_systems = ss }) ok ∙ changed_is
  is_changed (Err e) new ok = tt

  -- the table keeps what it kept
  module _ (sound : IsTable t) (shape : (f : FileSystem) → shape_of (change f) ≡ shape_of f) (maps : (f : FileSystem) (m : Map) → IsIn (maps_of (change f)) m → IsIn (maps_of f) m)
      (tidy : (f : FileSystem) → get t.file_systems name ≡ Some f → IsTidy t.group (change f)) where
    one_changed : (f : FileSystem) → get t.file_systems name ≡ Some f → IsTable (record t { file_systems = insert t.file_systems name (change f) })
    one_changed f at = record {
      systems = label_systems t.file_systems t.group sound.systems name f (change f) at (shape f) (maps f) (tidy f at);
      numbers = numbers_from t (record t { file_systems = insert t.file_systems name (change f) }) sound.systems
          (label_from t.file_systems t.group sound.systems name f (change f) at (shape f) (maps f) (tidy f at)) sound.numbers;
    }

    pub changed_table : IsTable (record t { file_systems = changed_if (get t.file_systems name) })
    changed_table = by_system (get t.file_systems name) refl
      where
        by_system : (x : Option FileSystem) → get t.file_systems name ≡ x → IsTable (record t { file_systems = changed_if x })
        by_system None e = sound
        by_system (Some f) e = one_changed f e
