-- The snapshots that a destroy finds by their names, each beside the name of its file system, and what becomes of them.
use Rattle.std.specs.Prelude.{ℕ, Bool, not, ◌&&◌, List, [], ◌∷◌}
use Rattle.std.specs.List.{flat_map}
use Rattle.std.specs.Option.{option_map_or}
use Rattle.base.specs.Surveys.{IsIn}
use Rattle.base.specs.declared.name.member.Member.{Member}
use Rattle.model.specs.World.{Snap, SnapId, snap_named}
use Rattle.model.specs.Edits.{without_snaps}
use Rattle.model.specs.requests.Destroy.{is_one_of, with_deferred}
use Rattle.datasets.specs.Rows.{snaps_at}
use Rattle.world.specs.Tables.{Datasets, world_of}

-- the snapshots of these names that are there (zfs-destroy(8), -r)
abbrev pub found_in : Datasets → List Member → List (List ℕ × Snap)
found_in t ms = flat_map (λ m. option_map_or (λ s. (m.file_system, s) ∷ []) (snap_named (world_of t) m) []) ms

-- each of them is of the file system beside it (On-Disk Specification, chapter 4)
abbrev pub AreThere : Datasets → List (List ℕ × Snap) → Type 0
AreThere t all = (p : List ℕ × Snap) → IsIn all p → IsIn (snaps_at t.file_systems p.0) p.1

-- the datasets where of the snapshots of these identities those are gone that aren't needed, and the destroy of the others is deferred
-- (zfs-destroy(8), -d)
abbrev pub removed_or_deferred : Datasets → (Snap → Bool) → List SnapId → Datasets
removed_or_deferred t needed ids =
    record t { file_systems = (with_deferred (without_snaps (world_of t) (λ u. is_one_of ids u && not (needed u))) (λ u. is_one_of ids u && needed u)).file_systems }
