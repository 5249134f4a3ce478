-- The values of properties, in bytes where they are sizes (zfsprops(7), zpoolprops(7)).
use Rattle.std.specs.Prelude.{ℕ, ◌*◌, List, [], ◌∷◌, ◌++◌, length, map, Option}
use Rattle.std.specs.List.{flat_map, join_with_byte}
use Rattle.std.specs.declared.cmp.Ordering.{Ordering}
use Rattle.std.specs.Ordering.{nat_cmp, ordering_then}
use Rattle.std.specs.FinMap.{entries, keys, from_entries}
use Rattle.std.specs.Option.{option_map_or, unwrap_or}
use Rattle.base.specs.declared.name.target.Target.{Target}
use Rattle.base.specs.declared.name.target.Target.TheVariants.{FileSystem as OfFileSystem, Snapshot as OfSnapshot, Bookmark as OfBookmark}
use Rattle.model.specs.declared.request.Property.{Property}
use Rattle.model.specs.declared.request.Property.TheVariants.{Used, Available, Referenced, Written, UsedByDataset, UsedBySnapshots, UsedByChildren, UsedByRefReservation, Quota, RefQuota, Reservation, RefReservation, Guid, CreateTxg, Origin, Clones, UserRefs, DeferDestroy}
use Rattle.model.specs.declared.request.PoolProperty.{PoolProperty}
use Rattle.model.specs.declared.request.PoolProperty.TheVariants.{Size as PoolSize, Allocated, Free, Freeing, Waiting, Group}
use Rattle.model.specs.declared.reply.Value.{Value}
use Rattle.model.specs.declared.reply.Value.TheVariants.{Size, Number, Named, Truth, NotApplicable}
use Rattle.base.specs.Names.{name_cmp, snap_text, mark_text}
use Rattle.model.specs.World.{World, FileSystem, Snap, SnapId, Bookmark, Live, Snapped, id_of, file_system_at, snap_at, snap_named, bookmark_named, clones_of}
use Rattle.model.specs.State.{State}
use Rattle.model.specs.Sums.{used_of, room_of, referenced_of, written_of, used_by_snap, used_by_dataset, used_by_snapshots, used_by_children, used_by_refreservation, allocated_of, free_of, freeing_of, waiting_count}

-- a size in bytes, 512 a block (profile)
abbrev pub in_bytes : ℕ → Value
in_bytes n = Size (512 * n)

-- a snapshot's name in print, by its identity; empty where there is none (zfs(8))
abbrev pub text_of_snap : World → SnapId → List ℕ
text_of_snap w id = option_map_or (λ p. snap_text (record { file_system = p.0; component = p.1.name })) (snap_at w id) []

-- a limit in bytes, 0 where there is none (zfsprops(7): quota, refquota, reservation, refreservation)
abbrev pub limit_value : Option ℕ → Value
limit_value limit = in_bytes (unwrap_or limit 0)

-- a property of a file system (zfsprops(7))
unfoldable pub file_system_value : State → List ℕ → FileSystem → Property → Value
file_system_value s name f Used = in_bytes (used_of s.now name)
file_system_value s name f Available = in_bytes (room_of s name)
file_system_value s name f Referenced = in_bytes (referenced_of s.now (Live name))
file_system_value s name f Written = in_bytes (written_of s.now (Live name))
file_system_value s name f UsedByDataset = in_bytes (used_by_dataset s.now f)
file_system_value s name f UsedBySnapshots = in_bytes (used_by_snapshots s.now f)
file_system_value s name f UsedByChildren = in_bytes (used_by_children s.now name)
file_system_value s name f UsedByRefReservation = in_bytes (used_by_refreservation s.now name f)
file_system_value s name f Quota = limit_value f.limits.quota
file_system_value s name f RefQuota = limit_value f.limits.refquota
file_system_value s name f Reservation = limit_value f.limits.reservation
file_system_value s name f RefReservation = limit_value f.limits.refreservation
file_system_value s name f Guid = NotApplicable
file_system_value s name f CreateTxg = NotApplicable
file_system_value s name f Origin = option_map_or (λ id. Named (text_of_snap s.now id)) f.origin NotApplicable
file_system_value s name f Clones = NotApplicable
file_system_value s name f UserRefs = NotApplicable
file_system_value s name f DeferDestroy = NotApplicable

-- a property of a snapshot (zfsprops(7))
unfoldable pub snap_value : World → Snap → Property → Value
snap_value w t Used = in_bytes (used_by_snap w (id_of t))
snap_value w t Available = NotApplicable
snap_value w t Referenced = in_bytes (referenced_of w (Snapped (id_of t)))
snap_value w t Written = in_bytes (written_of w (Snapped (id_of t)))
snap_value w t UsedByDataset = NotApplicable
snap_value w t UsedBySnapshots = NotApplicable
snap_value w t UsedByChildren = NotApplicable
snap_value w t UsedByRefReservation = NotApplicable
snap_value w t Quota = NotApplicable
snap_value w t RefQuota = NotApplicable
snap_value w t Reservation = NotApplicable
snap_value w t RefReservation = NotApplicable
snap_value w t Guid = Number t.guid
snap_value w t CreateTxg = Number t.group
snap_value w t Origin = NotApplicable
snap_value w t Clones = Named (join_with_byte 44 (clones_of w (id_of t)))
snap_value w t UserRefs = Number (length t.tags)
snap_value w t DeferDestroy = Truth t.deferred

-- a property of a bookmark, which keeps its snapshot's guid and creation group (zfsprops(7), zfs-bookmark(8))
unfoldable pub bookmark_value : Bookmark → Property → Value
bookmark_value b Guid = Number b.guid
bookmark_value b CreateTxg = Number b.group
bookmark_value b _ = NotApplicable

-- a property of what the name stands for (zfs-get(8))
unfoldable pub property_value : State → Target → Property → Value
property_value s (OfFileSystem name) property =
    option_map_or (λ f. file_system_value s name f property) (file_system_at s.now name) NotApplicable
property_value s (OfSnapshot m) property = option_map_or (λ t. snap_value s.now t property) (snap_named s.now m) NotApplicable
property_value s (OfBookmark m) property = option_map_or (λ b. bookmark_value b property) (bookmark_named s.now m) NotApplicable

-- a property of the pool (zpoolprops(7); waiting and the group are profile)
unfoldable pub pool_value : State → PoolProperty → Value
pool_value s PoolSize = in_bytes s.size
pool_value s Allocated = in_bytes (allocated_of s)
pool_value s Free = in_bytes (free_of s)
pool_value s Freeing = in_bytes (freeing_of s)
pool_value s Waiting = in_bytes (waiting_count s)
pool_value s Group = Number s.now.group

-- ---- names

-- by creation group, and then by name (profile)
abbrev pub bookmark_cmp : ℕ × List ℕ → ℕ × List ℕ → Ordering
bookmark_cmp a b = ordering_then (nat_cmp a.0 b.0) (name_cmp a.1 b.1)

-- the names of a file system's bookmarks in that order (zfs-bookmark(8); the order is profile)
abbrev pub bookmarks_in_order : FileSystem → List (List ℕ)
bookmarks_in_order s = map (λ k. k.1) (keys (from_entries {R = bookmark_cmp} (map (λ e. ((e.1.group, e.0), e.0)) (entries s.bookmarks))))

-- a file system's own name, its snapshots in order of creation group, and its bookmarks (zfs-list(8); the order is profile)
abbrev pub names_of : List ℕ × FileSystem → List (List ℕ)
names_of e =
    e.0 ∷ (map (λ t. snap_text (record { file_system = e.0; component = t.name })) e.1.snaps
    ++ map (λ b. mark_text (record { file_system = e.0; component = b })) (bookmarks_in_order e.1))

-- all names, of the file systems in byte order (zfs-list(8); the order is profile)
unfoldable pub all_names : World → List (List ℕ)
all_names w = flat_map names_of (entries w.file_systems)
