-- Rollback (zfs-rollback(8)).
use Rattle.std.specs.Prelude.{ℕ, Bool, true, false, not, ◌&&◌, ◌||◌, List, [], ◌∷◌, ◌++◌, Option, None, is_some, length, map, nat_lt, nat_le}
use Rattle.std.specs.List.{filter, list_any}
use Rattle.std.specs.Option.{option_map, option_map_or, option_and_then}
use Rattle.std.specs.FinMap.{entries, values, from_entries}
use Rattle.base.specs.declared.refusal.Refusal.TheVariants.{NoDataset, NotSnapshot, Busy, HasClones, NotNewest}
use Rattle.base.specs.declared.name.target.Target.{Target}
use Rattle.base.specs.declared.name.target.Target.TheVariants.{FileSystem as OfFileSystem, Snapshot as OfSnapshot, Bookmark as OfBookmark}
use Rattle.base.specs.Names.{same_name}
use Rattle.model.specs.declared.reply.Reply.TheVariants.{Done}
use Rattle.model.specs.World.{World, FileSystem, Snap, SnapId, id_of, file_system_at, snap_named, snap_at, clones_of}
use Rattle.model.specs.State.{State, Views, is_viewed}
use Rattle.model.specs.Targets.{is_snapshot_name}
use Rattle.model.specs.Edits.{with_now, with_file_system, with_losses}
use Rattle.model.specs.Rule.{Row, Rule, any_choice}
use Rattle.model.specs.requests.Change.{limit_row}

-- a snapshot by its name, with its file system (zfs(8))
abbrev pub placed : World → Target → Option (FileSystem × Snap)
placed w (OfSnapshot m) = option_and_then (λ f. option_map (λ t. (f, t)) (snap_named w m)) (file_system_at w m.file_system)
placed w (OfFileSystem name) = None
placed w (OfBookmark m) = None

-- a file system's snapshots of a group up to this one (On-Disk Specification, chapter 4: ds_creation_txg)
abbrev pub snaps_upto : FileSystem → ℕ → List Snap
snaps_upto f group = filter (λ t. nat_le t.group group) f.snaps

-- and those of a later group (On-Disk Specification, chapter 4: ds_creation_txg)
abbrev pub snaps_after : FileSystem → ℕ → List Snap
snaps_after f group = filter (λ t. nat_lt group t.group) f.snaps

-- ---- the state after it

-- a file system back at a snapshot: what is newer goes (zfs-rollback(8), -r)
abbrev pub back_at : FileSystem → Snap → FileSystem
back_at f t = record f {
  live = t.map;
  snaps = snaps_upto f t.group;
  bookmarks = from_entries (filter (λ m. nat_le m.1.group t.group) (entries f.bookmarks));
}

-- the live map back to a snapshot's (zfs-rollback(8))
abbrev pub after_rollback : World → SnapId → World
after_rollback w id = option_map_or (λ p. with_file_system w p.0 (λ f. back_at f p.1)) (snap_at w id) w

-- the datasets after it (zfs-rollback(8))
abbrev pub rolled_back : World → Target → World
rolled_back w target = option_map_or (λ p. after_rollback w (id_of p.1)) (placed w target) w

-- ---- its refusals

-- the snapshots of the same file system that are newer (zfs-rollback(8))
abbrev pub newer_snaps : World → Target → List SnapId
newer_snaps w target = option_map_or (λ p. map id_of (snaps_after p.0 p.1.group)) (placed w target) []

-- a bookmark of the same file system is newer (zfs-rollback(8))
abbrev pub has_newer_bookmark : World → Target → Bool
has_newer_bookmark w target = option_map_or (λ p. list_any (λ b. nat_lt p.1.group b.group) (values p.0.bookmarks)) (placed w target) false

-- one of these has a tag or an open view (zfs-destroy(8); the view is profile)
abbrev pub is_busy : World → Views → List SnapId → Bool
is_busy w views ids = list_any (λ id. is_viewed views id || option_map_or (λ p. nat_lt 0 (length p.1.tags)) (snap_at w id) false) ids

-- one of these has a clone that isn't among the file systems that go (zfs-destroy(8))
abbrev pub has_clone_outside : World → List (List ℕ) → List SnapId → Bool
has_clone_outside w going ids = list_any (λ id. list_any (λ clone. not (list_any (same_name clone) going)) (clones_of w id)) ids

-- what refuses it whatever the limits (zfs-rollback(8))
abbrev pub back_row : World → Views → Target → Bool → Row
back_row w views target later =
    (not (is_snapshot_name target), NotSnapshot)
    ∷ (not (is_some (placed w target)), NoDataset)
    ∷ (not later && (nat_lt 0 (length (newer_snaps w target)) || has_newer_bookmark w target), NotNewest)
    ∷ (is_busy w views (newer_snaps w target), Busy)
    ∷ (has_clone_outside w [] (newer_snaps w target), HasClones)
    ∷ []

-- zfs-rollback(8)
abbrev pub rollback_row : State → State → Target → Bool → Row
rollback_row s asked target later = back_row s.now s.views target later ++ limit_row asked

-- zfs-rollback(8); what all datasets together lose is to be freed (zpool-features(7): async_destroy)
abbrev pub rollback_rule : Target → Bool → Rule
rollback_rule target later = record {
  row = λ s asked. rollback_row s asked target later;
  after = λ s c. with_now s (with_losses s.now (rolled_back s.now target));
  reply = λ s. Done;
  may = any_choice;
  only_reads = false;
  takes_memory = true;
}
