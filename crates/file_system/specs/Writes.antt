-- A write to a live map whose file system has snapshots.
use Rattle.std.specs.Prelude.{◌≡◌, ◌+◌, ℕ, List, None, max, nat_lt, map}
use Rattle.std.specs.List.{last_or, filter}
use Rattle.std.specs.Option.{option_map_or}
use Rattle.base.specs.Map.{Map}
use Rattle.base.specs.Rewrite.{Changes}
use Rattle.base.specs.Surveys.{dead_block}
use Rattle.zalloc.specs.declared.BlockState.{BlockState}
use Rattle.model.specs.World.{Snap}
use Rattle.batch.specs.declared.draft.Draft.{Draft}
use Rattle.tree.specs.Change.{Shown, IsChange}
use Rattle.tree.specs.ChangeParts.{made_pair}

-- the creation group of the newest of these snapshots, and this one, of what stands below them, where there is none (On-Disk
-- Specification, chapter 4: ds_prev_snap_txg)
abbrev pub newest_group : ℕ → List Snap → ℕ
newest_group base snaps = option_map_or (λ t. t.group) (last_or None snaps) base

-- A block of a live map is its own to change in place where it was born after the newest of these snapshots, or after the group of what
-- stands below them, and no earlier than this group, which the last sync left open (profile)
abbrev pub young_after : ℕ → List Snap → ℕ → ℕ
young_after base snaps synced = max synced (newest_group base snaps + 1)

-- These changes of a live map are in force: it is rewritten, and of what it drops those blocks are released that were born after
-- the newest of these snapshots, or after the group of what stands below them, which has all others (On-Disk Specification, chapter 4:
-- ds_deadlist_obj)
pub record IsWritten (old new : Map) (base : ℕ) (snaps : List Snap) (c : Changes) (group synced : ℕ) (states : List BlockState) (done : Draft) : Type 0 where
  pub change : Shown
  pub is : IsChange old c group (young_after base snaps synced) states change
  pub new_is : new ≡ change.new
  pub released : map dead_block done.released.items ≡ filter (λ b. nat_lt (newest_group base snaps) b.birth) change.released
  pub taken : map (λ n. n.0) done.taken.items ≡ change.taken
  pub made : map made_pair done.made.items ≡ change.made
