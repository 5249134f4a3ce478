-- What a receive ends with.
use Rattle.std.specs.Prelude.{◌≡◌, ◌<◌, ◌+◌, ◌^◌, ℕ, List, [], ◌∷◌}
use Rattle.base.specs.declared.number.Key.{Key}
use Rattle.base.specs.Rewrite.{Changes}
use Rattle.base.specs.declared.name.member.Member.{Member}
use Rattle.zalloc.specs.declared.BlockState.{BlockState}
use Rattle.batch.specs.declared.draft.Draft.{Draft}
use Rattle.model.specs.World.{World}
use Rattle.model.specs.Edits.{after_change, with_next_group}
use Rattle.model.specs.requests.Snapshot.{with_snapshot}
use Rattle.world.specs.Takings.{AreTakable}
use Rattle.world.specs.Tables.{Datasets, world_of}
use Rattle.datasets.specs.Snapshots.{with_snap_at}
use Rattle.datasets.specs.Writes.{HasWritten}

-- the file system of a snapshot's name is there, without a snapshot of that name, and the open group can be closed (zfs-receive(8); groups
-- are profile)
pub record CanFinish (t : Datasets) (m : Member) : Type 0 where
  pub takable : AreTakable t.file_systems (m ∷ [])
  pub opens : t.group + 1 < 2 ^ 64

-- These changes of a live map are in force, and it is kept as the snapshot of this name and guid, of the group that was open, which is
-- closed (zfs-receive(8); groups are profile)
pub record HasReceived (t u : Datasets) (m : Member) (guid : ℕ) (c : Changes) (synced : ℕ) (states : List BlockState) (done : Draft) : Type 0 where
  pub written : Datasets
  pub change : HasWritten t written m.file_system c synced states done
  pub kept : u ≡ with_snap_at (record written { group = written.group + 1 }) m.file_system m.component guid written.group

-- the changes of a live map with new blocks of these numbers, and then the snapshot of this name and guid, which closes the group
-- (zfs-receive(8); groups are profile)
abbrev pub finished : Datasets → Member → ℕ → Changes → (Key → ℕ) → World
finished t m guid c number = with_next_group (with_snapshot (after_change (world_of t) m.file_system c number) m guid)
