-- What a rename of snapshots leaves of datasets, and why it is refused.
use Rattle.std.specs.Prelude.{ℕ, Bool, false, List, length, Option, None, if◌then◌else◌}
use Rattle.std.specs.List.{find, list_any}
use Rattle.std.specs.Option.{option_map_or}
use Rattle.base.specs.declared.name.member.Member.{Member}
use Rattle.base.specs.declared.refusal.Refusal.{Refusal}
use Rattle.base.specs.Names.{same_name}
use Rattle.model.specs.World.{Snap, id_of}
use Rattle.model.specs.Lengths.{is_long}
use Rattle.model.specs.State.{Views, is_viewed}
use Rattle.model.specs.Rule.{first_of}
use Rattle.model.specs.requests.RenameSnapshot.{is_in_scope, with_snaps_renamed, snapshot_renaming_row}
use Rattle.world.specs.Tables.{Datasets, world_of}
use Rattle.datasets.specs.Rows.{Entry}

-- the datasets once the snapshot of this name, and with -r those of its name below, have another name (zfs-rename(8))
abbrev pub snaps_renamed_in : Datasets → Member → List ℕ → Bool → Datasets
snaps_renamed_in t m to recursive = record t { file_systems = (with_snaps_renamed (world_of t) m to recursive).file_systems }

-- why that is refused, if it is (zfs-rename(8))
abbrev pub snap_naming_refusal : Datasets → Views → Member → List ℕ → Bool → Option Refusal
snap_naming_refusal t views m to recursive = first_of (snapshot_renaming_row (world_of t) views m to recursive)

-- the snapshot of a file system that it renames, if any (zfs-rename(8), -r)
abbrev pub renamed_at : Member → Bool → Entry → Option Snap
renamed_at m recursive e = if is_in_scope m recursive e.0 then find (λ t. same_name t.name m.component) e.1.snaps else None

-- under the new name its whole name would be too long (zfs(8); the limit is profile)
abbrev pub is_long_at : Member → List ℕ → Bool → Entry → Bool
is_long_at m to recursive e = option_map_or (λ t. is_long (length e.0) to) (renamed_at m recursive e) false

-- the file system has a snapshot of the new name (zfs-rename(8))
abbrev pub is_taken_at : Member → List ℕ → Bool → Entry → Bool
is_taken_at m to recursive e = option_map_or (λ t. list_any (λ u. same_name u.name to) e.1.snaps) (renamed_at m recursive e) false

-- an open view shows it (profile)
abbrev pub is_viewed_at : Views → Member → Bool → Entry → Bool
is_viewed_at views m recursive e = option_map_or (λ t. is_viewed views (id_of t)) (renamed_at m recursive e) false
