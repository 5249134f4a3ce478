-- A table whose file systems have other names.
use Rattle.std.proofs.Common.{◌≡◌, Bool, true, false, ◌&&◌, ◌||◌, ◌++◌, None, sym, ap, ◌∙◌, refl, inl, inr, length, drop, true≢false, if◌then◌else◌}
use Rattle.std.specs.Prelude.{nat_lt}
use Rattle.std.specs.FinMap.{entries}
use Rattle.base.specs.Names.{name_limit, is_descendant}
use Rattle.base.specs.declared.refusal.Refusal.TheVariants.{BadName}
use Rattle.model.specs.World.{FileSystem}
use Rattle.model.specs.Lengths.{has_long}
use Rattle.model.specs.Hierarchy.{is_in_family}
use Rattle.model.specs.requests.Rename.{renamed, has_long_renamed, renaming_row}
use Rattle.world.specs.Tables.{Datasets, world_of}
use Rattle.world.specs.Shapes.{Name, name_order}
use Rattle.world.proofs.changes.Renames.{new_apart, old_apart, rename_systems, renamed_from}
use Rattle.world.proofs.lineage.Bridge.{in_entries, one_snap}
use Rattle.world.proofs.lists.Finding.{any_none, or_none}
use Rattle.world.proofs.lists.Maps.{entry_of}
use Rattle.world.proofs.views.ViewedRenames.{can_rename}
use Rattle.world.proofs.views.ViewedRequests.{row_false}
use Rattle.datasets.specs.Clones.{AreOnce}
use Rattle.datasets.specs.Renames.{with_names, rename_refusal, CanMove}
use Rattle.datasets.specs.Table.{IsTable}
use Rattle.datasets.proofs.Kept.{numbers_from}

module _ (t : Datasets) (from to : Name) (none : rename_refusal t from to ≡ None) where
  none_long : has_long_renamed (world_of t) from to ≡ false
  none_long = (or_none (is_descendant from to) (has_long_renamed (world_of t) from to)
      (row_false (renaming_row (world_of t) from to) none (is_descendant from to || has_long_renamed (world_of t) from to, BadName) (inr (inr (inr (inr (inl refl))))))).1

  -- what nothing refuses can be done
  pub can_move : CanMove t.file_systems from to
  can_move =
      let can = can_rename (world_of t) from to none in
      record {
        new_apart = new_apart t.file_systems from to can;
        old_apart = old_apart t.file_systems from to can;
        free = can.free;
        short = λ n f at family.
            let e = any_none (λ (e : Name × FileSystem). is_in_family from e.0 && has_long (length (renamed from to e.0)) e.1) (entries t.file_systems) none_long (n, f)
            (in_entries (entries t.file_systems) n f (entry_of name_order t.file_systems n f at)) in
            short_by n f family (is_in_family from n) family e;
      }
    where
      short_by : (n : Name) (f : FileSystem) → is_in_family from n ≡ true → (b : Bool) → b ≡ true → (b && has_long (length (renamed from to n)) f) ≡ false → nat_lt name_limit (length (to ++ drop (length from) n)) ≡ false
      short_by n f family true k e = ap (λ x. nat_lt name_limit (length (if x then to ++ drop (length from) n else n))) (sym family) ∙ (or_none _ _ e).0
      short_by n f family false k e = absurd (true≢false (sym k))

  -- and leaves a table
  pub renamed_table : IsTable t → IsTable (with_names t from to)
  renamed_table sound =
      let can = can_rename (world_of t) from to none in
      record {
        systems = rename_systems (world_of t) sound.systems from to can;
        numbers = numbers_from t (with_names t from to) sound.systems (renamed_from t.file_systems from to can) sound.numbers;
      }

-- each identity is one snapshot's
pub snaps_once : (t : Datasets) → IsTable t → AreOnce t.file_systems
snaps_once t sound = one_snap t.file_systems t.group sound.systems.lines
