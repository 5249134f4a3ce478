-- Destroy (zfs-destroy(8)).
use Rattle.std.specs.Prelude.{ℕ, Bool, true, false, not, ◌&&◌, ◌||◌, List, [], ◌∷◌, length, map, is_some, nat_lt, if◌then◌else◌}
use Rattle.std.specs.List.{flat_map, list_any}
use Rattle.std.specs.Option.{option_map_or}
use Rattle.std.specs.FinMap.{contains_key, remove, retain_keys}
use Rattle.base.specs.declared.refusal.Refusal.TheVariants.{NoDataset, NotSnapshot, Busy, HasClones, HasChildren, IsRoot}
use Rattle.base.specs.declared.name.member.Member.{Member}
use Rattle.base.specs.declared.name.target.Target.{Target}
use Rattle.base.specs.declared.name.target.Target.TheVariants.{FileSystem as FileSystemNamed, Snapshot as SnapshotNamed, Bookmark as BookmarkNamed}
use Rattle.base.specs.Names.{root_name, same_name}
use Rattle.model.specs.declared.destroy_target.DestroyTarget.{DestroyTarget}
use Rattle.model.specs.declared.destroy_target.DestroyTarget.TheVariants.{FileSystem as OfFileSystem, Snapshots as OfSnapshots, Bookmark as OfBookmark}
use Rattle.model.specs.declared.reply.Reply.TheVariants.{Done}
use Rattle.model.specs.World.{World, Snap, SnapId, id_of, same_id, file_system_at, snap_named, bookmark_named, children_of, family_of}
use Rattle.model.specs.State.{Views}
use Rattle.model.specs.Outcome.{is_needed}
use Rattle.model.specs.Edits.{with_now, with_file_system, with_file_systems, with_losses, without_snaps}
use Rattle.model.specs.Rule.{Row, Rule, any_choice}
use Rattle.model.specs.requests.Snapshot.{snapshot_names}
use Rattle.model.specs.requests.Rollback.{is_busy, has_clone_outside}

-- ---- what goes

-- what a destroy of this name destroys (zfs-destroy(8))
abbrev pub destroy_target_of : Target → DestroyTarget
destroy_target_of (FileSystemNamed name) = OfFileSystem name
destroy_target_of (SnapshotNamed m) = OfSnapshots (m ∷ [])
destroy_target_of (BookmarkNamed m) = OfBookmark m

-- the file systems that it names (zfs-destroy(8), -r)
abbrev pub file_systems_named : World → List ℕ → Bool → List (List ℕ)
file_systems_named w name recursive = if recursive then family_of w name else name ∷ []

-- the snapshots that are there of those that the list names: one a name, or with -r all of that name in the family (zfs-destroy(8), -r)
abbrev pub snaps_named : World → List Member → Bool → List SnapId
snaps_named w names recursive = flat_map (λ n. option_map_or (λ t. id_of t ∷ []) (snap_named w n) []) (snapshot_names w names recursive)

-- the snapshots of these file systems (On-Disk Specification, chapter 4)
abbrev pub snaps_within : World → List (List ℕ) → List SnapId
snaps_within w names = flat_map (λ n. option_map_or (λ f. map id_of f.snaps) (file_system_at w n) []) names

-- whether a snapshot is one of these (profile)
abbrev pub is_one_of : List SnapId → Snap → Bool
is_one_of ids t = list_any (same_id (id_of t)) ids

-- ---- the state after it

-- file systems gone with their snapshots and bookmarks (zfs-destroy(8), -r)
abbrev pub without_file_systems : World → List (List ℕ) → World
without_file_systems w names = record w { file_systems = retain_keys w.file_systems (λ n. not (list_any (same_name n) names)) }

-- snapshots that are to go once nothing needs them (zfs-destroy(8), -d)
abbrev pub with_deferred : World → (Snap → Bool) → World
with_deferred w some = with_file_systems w (λ _ f. record f { snaps = map {A = Snap} (λ t. record t { deferred = t.deferred || some t }) f.snaps })

-- the datasets after it; of the snapshots those go that nothing needs, and the others are deferred (zfs-destroy(8), -d)
abbrev pub after_destroy : World → (Snap → Bool) → DestroyTarget → Bool → World
after_destroy w needed (OfFileSystem name) recursive = without_file_systems w (file_systems_named w name recursive)
after_destroy w needed (OfSnapshots names) recursive =
    with_deferred
    (without_snaps w (λ t. is_one_of (snaps_named w names recursive) t && not (needed t)))
    (λ t. is_one_of (snaps_named w names recursive) t && needed t)
after_destroy w needed (OfBookmark m) recursive = with_file_system w m.file_system (λ f. record f { bookmarks = remove f.bookmarks m.component })

-- ---- its refusals

-- of a file system; the root stays (zfs-destroy(8); the root is profile)
abbrev pub destroy_system_row : World → Views → List ℕ → Bool → Bool → Row
destroy_system_row w views name recursive defer =
    (not (contains_key w.file_systems name), NoDataset)
    ∷ (same_name name root_name, IsRoot)
    ∷ (defer, NotSnapshot)
    ∷ (not recursive && (nat_lt 0 (length (children_of w name)) || nat_lt 0 (length (snaps_within w (name ∷ [])))), HasChildren)
    ∷ (is_busy w views (snaps_within w (file_systems_named w name recursive)), Busy)
    ∷ (has_clone_outside w (file_systems_named w name recursive) (snaps_within w (file_systems_named w name recursive)), HasClones)
    ∷ []

-- of snapshots, of which one is there (zfs-destroy(8))
abbrev pub destroy_snap_row : World → Views → List Member → Bool → Bool → Row
destroy_snap_row w views names recursive defer =
    (not (nat_lt 0 (length (snaps_named w names recursive))), NoDataset)
    ∷ (not defer && is_busy w views (snaps_named w names recursive), Busy)
    ∷ (not defer && has_clone_outside w [] (snaps_named w names recursive), HasClones)
    ∷ []

-- zfs-destroy(8)
abbrev pub destroy_row : World → Views → DestroyTarget → Bool → Bool → Row
destroy_row w views (OfFileSystem name) recursive defer = destroy_system_row w views name recursive defer
destroy_row w views (OfSnapshots names) recursive defer = destroy_snap_row w views names recursive defer
destroy_row w views (OfBookmark m) recursive defer = (not (is_some (bookmark_named w m)), NoDataset) ∷ []

-- zfs-destroy(8); what all datasets together lose is to be freed (zpool-features(7): async_destroy)
abbrev pub destroy_rule : DestroyTarget → Bool → Bool → Rule
destroy_rule target recursive defer = record {
  row = λ s asked. destroy_row s.now s.views target recursive defer;
  after = λ s c. with_now s (with_losses s.now (after_destroy s.now (λ t. defer && is_needed s.now s.views t) target recursive));
  reply = λ s. Done;
  may = any_choice;
  only_reads = false;
  takes_memory = true;
}
