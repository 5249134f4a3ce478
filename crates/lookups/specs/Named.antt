-- What a name stands for among file systems.
use Rattle.std.specs.Prelude.{◌≡◌, ◌⊎◌, Bool, true, false, ◌*◌, ◌-◌, ℕ, List, [], ◌∷◌, Option, None, Some, length, map}
use Rattle.std.specs.List.{find, join_with_byte}
use Rattle.std.specs.Option.{option_map, option_map_or, option_and_then, unwrap_or}
use Rattle.std.specs.FinMap.{get, len}
use Rattle.base.specs.Map.{Map, blocks}
use Rattle.base.specs.declared.refusal.Refusal.{Refusal}
use Rattle.base.specs.declared.refusal.Refusal.TheVariants.{NoDataset, ReadOnly}
use Rattle.base.specs.Names.{same_name, snap_text, mark_text}
use Rattle.base.specs.declared.name.member.Member.{Member}
use Rattle.base.specs.declared.name.target.Target.{Target}
use Rattle.base.specs.declared.name.target.Target.TheVariants.{FileSystem as OfFileSystem, Snapshot as OfSnapshot, Bookmark as OfBookmark}
use Rattle.model.specs.Hierarchy.{FileSystems, snap_in}
use Rattle.model.specs.World.{Snap, SnapId, id_of, clones_of, bookmark_named, blocks_of_all}
use Rattle.model.specs.Properties.{text_of_snap, bookmark_value, bookmarks_in_order}
use Rattle.model.specs.Sums.{size_without, used_of, used_by_children, used_by_snap}
use Rattle.model.specs.declared.request.Property.{Property}
use Rattle.model.specs.declared.request.Property.TheVariants.{Used, Available, Referenced, Written, UsedByDataset, UsedBySnapshots, UsedByChildren, UsedByRefReservation, Quota, RefQuota, Reservation, RefReservation, Guid, CreateTxg, Origin, Clones, UserRefs, DeferDestroy}
use Rattle.model.specs.declared.reply.Value.{Value}
use Rattle.model.specs.declared.reply.Value.TheVariants.{Size, Number, Named, Truth, NotApplicable}
use Rattle.world.specs.Tables.{Datasets, world_of}
use Rattle.datasets.specs.Clones.{row_in}
use Rattle.datasets.specs.Dead.{newest_blocks, written_from}
use Rattle.datasets.specs.Rows.{Row, Entry}

-- the map of the dataset of a name: a file system's live map, or a snapshot's (zfs(8))
abbrev pub map_named : FileSystems → Target → Option Map
map_named ss (OfFileSystem name) = option_map (λ f. f.live) (get ss name)
map_named ss (OfSnapshot m) = option_map (λ t. t.map) (snap_in ss m)
map_named ss (OfBookmark m) = None

-- why a name that is no file system's can't be written: a snapshot is there, or no dataset is (zfs(8))
pub record IsNoLive (ss : FileSystems) (target : Target) (why : Refusal) : Type 0 where
  pub never : (name : List ℕ) → target ≡ OfFileSystem name → ⊥
  pub which : ((why ≡ ReadOnly) × (m : Map) × (Some m ≡ map_named ss target)) ⊎ ((why ≡ NoDataset) × (None ≡ map_named ss target))

-- the names of a file system's snapshots, in order of their creation groups (zfs-list(8))
abbrev pub snapshot_names : Entry → List (List ℕ)
snapshot_names e = map (λ t. snap_text (record { file_system = e.0; component = t.name })) e.1.snaps

-- and those of its bookmarks, in order of their groups and then of their names (zfs-list(8); the order is profile)
abbrev pub bookmark_names : Entry → List (List ℕ)
bookmark_names e = map (λ b. mark_text (record { file_system = e.0; component = b })) (bookmarks_in_order e.1)

-- the origin of a file system, where it is a clone (zfsprops(7): origin)
abbrev pub origin_value : Datasets → Option SnapId → Value
origin_value t origin = option_map_or (λ id. Named (text_of_snap (world_of t) id)) origin NotApplicable

-- how much a limit is, in bytes; 0 where there is none (zfsprops(7): quota, refquota, reservation, refreservation)
abbrev pub amount_value : Option ℕ → Value
amount_value limit = Size (512 * unwrap_or limit 0)

-- a property of a file system of these, to which so many blocks are available; it has no property of a snapshot alone (zfsprops(7))
abbrev pub live_value : Datasets → ℕ → Row → Property → Value
live_value t room r Used = Size (512 * used_of (world_of t) r.name)
live_value t room r Available = Size (512 * room)
live_value t room r Referenced = Size (512 * len r.system.live)
live_value t room r Written = Size (512 * size_without (blocks r.system.live) (newest_blocks (blocks r.below) r.system.snaps))
live_value t room r UsedByDataset = Size (512 * size_without (blocks r.system.live) (blocks r.below))
live_value t room r UsedBySnapshots = Size (512 * size_without (blocks_of_all (map (λ t. t.map) r.system.snaps)) (blocks_of_all (r.system.live ∷ r.below ∷ [])))
live_value t room r UsedByChildren = Size (512 * used_by_children (world_of t) r.name)
live_value t room r UsedByRefReservation = Size (512 * (unwrap_or r.system.limits.refreservation 0 - size_without (blocks r.system.live) (newest_blocks (blocks r.below) r.system.snaps)))
live_value t room r Quota = amount_value r.system.limits.quota
live_value t room r RefQuota = amount_value r.system.limits.refquota
live_value t room r Reservation = amount_value r.system.limits.reservation
live_value t room r RefReservation = amount_value r.system.limits.refreservation
live_value t room r Origin = origin_value t r.system.origin
live_value t room r Guid = NotApplicable
live_value t room r CreateTxg = NotApplicable
live_value t room r Clones = NotApplicable
live_value t room r UserRefs = NotApplicable
live_value t room r DeferDestroy = NotApplicable

-- a property of a snapshot of a file system, which has this name within it (zfsprops(7))
abbrev pub kept_value : Datasets → Row → List ℕ → Snap → Property → Option Value
kept_value t r name u Used = Some (Size (512 * used_by_snap (world_of t) (id_of u)))
kept_value t r name u Referenced = Some (Size (512 * len u.map))
kept_value t r name u Written = option_map (λ n. Size (512 * n)) (written_from (blocks r.below) r.system.snaps name)
kept_value t r name u Guid = Some (Number u.guid)
kept_value t r name u CreateTxg = Some (Number u.group)
kept_value t r name u Clones = Some (Named (join_with_byte 44 (clones_of (world_of t) (id_of u))))
kept_value t r name u UserRefs = Some (Number (length u.tags))
kept_value t r name u DeferDestroy = Some (Truth u.deferred)
kept_value t r name u Available = Some NotApplicable
kept_value t r name u UsedByDataset = Some NotApplicable
kept_value t r name u UsedBySnapshots = Some NotApplicable
kept_value t r name u UsedByChildren = Some NotApplicable
kept_value t r name u UsedByRefReservation = Some NotApplicable
kept_value t r name u Quota = Some NotApplicable
kept_value t r name u RefQuota = Some NotApplicable
kept_value t r name u Reservation = Some NotApplicable
kept_value t r name u RefReservation = Some NotApplicable
kept_value t r name u Origin = Some NotApplicable

-- a property of the snapshot of this name within a file system, none where there is no such snapshot (zfs-get(8))
abbrev pub snapshot_value : Datasets → Row → List ℕ → Property → Option Value
snapshot_value t r name property = option_and_then (λ u. kept_value t r name u property) (find (λ u. same_name u.name name) r.system.snaps)

-- a property of the snapshot of this name, none where there is no such snapshot (zfs-get(8))
abbrev pub value_in : Datasets → Member → Property → Option Value
value_in t m property = option_and_then (λ f. snapshot_value t (row_in t.file_systems (m.file_system, f)) m.component property) (get t.file_systems m.file_system)

-- a property of what has the name, to which so many blocks are available, none where nothing has it (zfs-get(8))
abbrev pub value_named : Datasets → ℕ → Target → Property → Option Value
value_named t room (OfFileSystem name) property = option_map (λ f. live_value t room (row_in t.file_systems (name, f)) property) (get t.file_systems name)
value_named t room (OfSnapshot m) property = value_in t m property
value_named t room (OfBookmark m) property = option_map (λ b. bookmark_value b property) (bookmark_named (world_of t) m)

-- it is asked how much is used (zfsprops(7): used)
abbrev pub is_used : Property → Bool
is_used Used = true
is_used property = false

-- what is asked reads dead lists: what a snapshot uses; every other property is kept (profile)
abbrev pub reads_lists : Target → Property → Bool
reads_lists (OfFileSystem name) property = false
reads_lists (OfSnapshot m) property = is_used property
reads_lists (OfBookmark m) property = false
