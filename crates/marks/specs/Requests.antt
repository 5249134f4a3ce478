-- What a hold, a release and a bookmark leave of datasets, and why they and a list of holds are refused.
use Rattle.std.specs.Prelude.{ℕ, List, [], ◌∷◌, Bool, not, ◌&&◌, Option}
use Rattle.std.specs.FinMap.{contains_key}
use Rattle.base.specs.declared.refusal.Refusal.{Refusal}
use Rattle.base.specs.declared.refusal.Refusal.TheVariants.{Deferred, TagExists, TooMany, Exists}
use Rattle.base.specs.declared.name.member.Member.{Member}
use Rattle.base.specs.declared.name.target.Target.{Target}
use Rattle.model.specs.World.{Snap}
use Rattle.model.specs.State.{Views}
use Rattle.model.specs.Outcome.{is_needed}
use Rattle.model.specs.Rule.{first_of}
use Rattle.model.specs.requests.Hold.{hold_row, held, has_tag, is_full}
use Rattle.model.specs.requests.Release.{release_row, released}
use Rattle.model.specs.requests.Holds.{holds_row}
use Rattle.model.specs.requests.Bookmark.{bookmark_row, bookmarked, has_all_bookmarks}
use Rattle.snapshots.specs.Marks.{Marks}
use Rattle.world.specs.Tables.{Datasets, world_of}

-- the datasets where the snapshot of this name has the tag behind its others (zfs-hold(8); the order is profile)
abbrev pub held_in : Datasets → List ℕ → Target → Datasets
held_in t tag target = record t { file_systems = (held (world_of t) tag target).file_systems }

-- why a hold is refused, if it is (zfs-hold(8))
abbrev pub hold_refusal : Datasets → List ℕ → Target → Option Refusal
hold_refusal t tag target = first_of (hold_row (world_of t) tag target)

-- why a snapshot that is there doesn't get the tag, if it doesn't (zfs-hold(8); the order and the limit are profile)
abbrev pub tag_refusal : Snap → List ℕ → Option Refusal
tag_refusal u tag = first_of ((u.deferred, Deferred) ∷ (has_tag u.tags tag, TagExists) ∷ (is_full u.tags, TooMany) ∷ [])

-- the datasets where the snapshot of this name hasn't the tag any more, before what goes then (zfs-release(8))
abbrev pub released_in : Datasets → List ℕ → Target → Datasets
released_in t tag target = record t { file_systems = (released (world_of t) tag target).file_systems }

-- why a release is refused, if it is (zfs-release(8))
abbrev pub release_refusal : Datasets → List ℕ → Target → Option Refusal
release_refusal t tag target = first_of (release_row (world_of t) tag target)

-- with these tags the snapshot isn't needed by a tag, an open view or a clone, and its destroy is deferred (zfs-destroy(8), -d; the view is
-- profile)
abbrev pub is_due_with : Datasets → Views → Snap → List (List ℕ) → Bool
is_due_with t views u tags = u.deferred && not (is_needed (world_of t) views (record u { tags = tags }))

-- why these bookmarks don't get one of this name, if they don't (zfs-bookmark(8); the order and the limit are profile)
abbrev pub mark_refusal : Marks → List ℕ → Option Refusal
mark_refusal bookmarks name = first_of ((contains_key bookmarks name, Exists) ∷ (has_all_bookmarks bookmarks, TooMany) ∷ [])

-- the datasets with a bookmark more, of the snapshot of this name (zfs-bookmark(8))
abbrev pub bookmarked_in : Datasets → Target → Member → Datasets
bookmarked_in t target mark = record t { file_systems = (bookmarked (world_of t) target mark).file_systems }

-- why a bookmark is refused, if it is (zfs-bookmark(8))
abbrev pub bookmark_refusal : Datasets → Target → Member → Option Refusal
bookmark_refusal t target mark = first_of (bookmark_row (world_of t) target mark)

-- why the tags of a snapshot aren't listed, if they aren't (zfs-holds(8))
abbrev pub holds_refusal : Datasets → Target → Option Refusal
holds_refusal t target = first_of (holds_row (world_of t) target)
