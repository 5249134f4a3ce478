-- What a rollback, a destroy and the close of a view leave of datasets, and why the first two are refused.
use Rattle.std.specs.Prelude.{◌≡◌, ◌&&◌, ◌||◌, ℕ, List, Bool, true, not, Option, None, Some, if◌then◌else◌, nat_lt, length}
use Rattle.std.specs.List.{list_any}
use Rattle.std.specs.FinMap.{get, remove}
use Rattle.std.specs.Option.{option_and_then}
use Rattle.base.specs.Surveys.{IsIn}
use Rattle.base.specs.declared.refusal.Refusal.{Refusal}
use Rattle.base.specs.declared.refusal.Refusal.TheVariants.{NotNewest, Busy, HasClones}
use Rattle.base.specs.declared.name.member.Member.{Member}
use Rattle.base.specs.declared.name.target.Target.{Target}
use Rattle.model.specs.declared.destroy_target.DestroyTarget.{DestroyTarget}
use Rattle.datasets.specs.Origins.{origin_group}
use Rattle.datasets.specs.Writes.{newest_group}
use Rattle.model.specs.World.{FileSystem, Snap, SnapId, id_of, same_id}
use Rattle.model.specs.State.{Views}
use Rattle.model.specs.Edits.{with_file_system, without_snaps}
use Rattle.model.specs.Outcome.{is_needed}
use Rattle.model.specs.Rule.{first_of}
use Rattle.model.specs.requests.Rollback.{rolled_back, back_row}
use Rattle.model.specs.requests.Destroy.{file_systems_named, without_file_systems, after_destroy, destroy_row}
use Rattle.world.specs.Tables.{Datasets, world_of}
use Rattle.snapshots.specs.Marks.{Marks, has_newer}
use Rattle.removals.specs.Needs.{is_held_after, has_clone, has_clone_and_is_later}
use Rattle.removals.specs.Families.{unneeded}

-- the datasets after a rollback (zfs-rollback(8))
abbrev pub rolled : Datasets → Target → Datasets
rolled t target = record t { file_systems = (rolled_back (world_of t) target).file_systems }

-- why a rollback is refused, if it is, whatever the limits (zfs-rollback(8))
abbrev pub rollback_refusal : Datasets → Views → Target → Bool → Option Refusal
rollback_refusal t views target later = first_of (back_row (world_of t) views target later)

-- why its snapshots of a later group than this one can't go, if they can't (zfs-destroy(8); the view is profile)
abbrev pub refusal_after : Datasets → FileSystem → ℕ → Views → Option Refusal
refusal_after t f group views =
    if list_any (is_held_after views group) f.snaps then Some Busy else if list_any (has_clone_and_is_later t group) f.snaps then Some HasClones else None

-- why a file system of these datasets can't go back to its snapshot of this group, if it can't (zfs-rollback(8); the view is profile)
abbrev pub refusal_at : Datasets → FileSystem → ℕ → Views → Bool → Option Refusal
refusal_at t f group views later =
    if not later && (nat_lt group (newest_group (origin_group f.origin) f.snaps) || has_newer f.bookmarks group)
    then Some NotNewest
    else refusal_after t f group views

-- the datasets after a destroy (zfs-destroy(8))
abbrev pub destroyed : Datasets → Views → DestroyTarget → Bool → Bool → Datasets
destroyed t views target recursive defer =
    record t { file_systems = (after_destroy (world_of t) (λ u. defer && is_needed (world_of t) views u) target recursive).file_systems }

-- the datasets without this file system, or with -r without it and its descendants (zfs-destroy(8), -r)
abbrev pub without_family : Datasets → List ℕ → Bool → Datasets
without_family t name recursive = record t { file_systems = (without_file_systems (world_of t) (file_systems_named (world_of t) name recursive)).file_systems }

-- the datasets with the bookmarks of one file system changed, and the same where there is none of that name (zfs-bookmark(8))
abbrev pub with_marks : Datasets → List ℕ → (Marks → Marks) → Datasets
with_marks t name change = record t { file_systems = (with_file_system (world_of t) name (λ f. record f { bookmarks = change f.bookmarks })).file_systems }

-- the datasets without the bookmark of this name, and the same where there is none (zfs-destroy(8))
abbrev pub without_bookmark : Datasets → Member → Datasets
without_bookmark t m = with_marks t m.file_system (λ bookmarks. remove bookmarks m.component)

-- why a destroy is refused, if it is (zfs-destroy(8))
abbrev pub destroy_refusal : Datasets → Views → DestroyTarget → Bool → Bool → Option Refusal
destroy_refusal t views target recursive defer = first_of (destroy_row (world_of t) views target recursive defer)

-- the datasets without the snapshots whose destroy is deferred and that nothing needs (zfs-destroy(8), -d)
abbrev pub swept : Datasets → Views → Datasets
swept t views = record t { file_systems = (without_snaps (world_of t) (λ u. u.deferred && not (is_needed (world_of t) views u))).file_systems }

-- The snapshot that goes with a view of this number, with the name of its file system: the one that it shows, where its destroy is
-- deferred and no tag, no other view and no clone needs it (zfs-destroy(8), -d)
abbrev pub gone_with : Datasets → Views → ℕ → Option (List ℕ × Snap)
gone_with t views number = option_and_then (unneeded t (remove views number)) (get views number)

-- each snapshot whose destroy is deferred has a tag or a clone, or is one of these (zfs-destroy(8), -d)
abbrev pub IsSweptBut : Datasets → List SnapId → Type 0
IsSweptBut t ids =
    (name : List ℕ) (f : FileSystem) (u : Snap) → get t.file_systems name ≡ Some f → IsIn f.snaps u → u.deferred ≡ true
    → (nat_lt 0 (length u.tags) || (has_clone t (id_of u) || list_any (same_id (id_of u)) ids)) ≡ true

-- each snapshot whose destroy is deferred is needed: there is nothing to sweep (zfs-destroy(8), -d)
abbrev pub IsSweptBy : Datasets → Views → Type 0
IsSweptBy t views =
    (name : List ℕ) (f : FileSystem) (u : Snap) → get t.file_systems name ≡ Some f → IsIn f.snaps u → u.deferred ≡ true → is_needed (world_of t) views u ≡ true
