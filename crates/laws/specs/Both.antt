-- Snapshots of both worlds: of the present one and of the last synced one, to which Abandon goes back.
use Rattle.std.specs.Prelude.{◌≡◌, ◌<◌, ◌⊎◌, ℕ, List}
use Rattle.model.specs.declared.request.Request.{Request}
use Rattle.model.specs.declared.reply.Reply.{Reply}
use Rattle.model.specs.World.{SnapId, Snapped, map_of}
use Rattle.model.specs.State.{State, fresh_state}
use Rattle.model.specs.Run.{Run}
use Rattle.world.specs.Dead.{IsThere}
use Rattle.laws.specs.Lineages.{HasLineages}
use Rattle.laws.specs.Runs.{InBoth, GoesBackWithin}

-- A snapshot that is in both worlds has one map, and the group of one that the last synced world has is closed in the present one too
-- (zfs-snapshot(8); On-Disk Specification, chapter 4: ds_creation_txg)
pub record AreSnapshotsOne (s : State) : Type 0 where
  pub maps : (id : SnapId) → IsThere s.now (Snapped id) → IsThere s.last (Snapped id) → map_of s.now (Snapped id) ≡ map_of s.last (Snapped id)
  pub closed : (id : SnapId) → IsThere s.last (Snapped id) → id.group < s.now.group

-- so it is in a new pool (profile)
abbrev pub SnapshotsBeginOne : Type 0
SnapshotsBeginOne = (id size : ℕ) → AreSnapshotsOne (fresh_state id size)

-- and again after every run, whatever numbers its steps choose (profile)
abbrev pub SnapshotsLastOne : Type 0
SnapshotsLastOne = (s u : State) (qs : List Request) (rs : List Reply) → InBoth HasLineages s → AreSnapshotsOne s → Run s qs rs u → AreSnapshotsOne u

-- No Abandon of a run from this state goes back to before the snapshot: the last synced world has it, or a Sync of the run comes before each
-- Abandon that is done (profile)
abbrev pub NeverGoesBefore : State → SnapId → List Request → List Reply → Type 0
NeverGoesBefore s id qs rs = IsThere s.last (Snapped id) ⊎ GoesBackWithin qs rs

-- a snapshot that is there before such a run and after it has the map that it had (zfs-snapshot(8))
abbrev pub SnapshotsStay : Type 0
SnapshotsStay =
    (s u : State) (qs : List Request) (rs : List Reply) (id : SnapId) → InBoth HasLineages s → AreSnapshotsOne s → IsThere s.now (Snapped id)
    → NeverGoesBefore s id qs rs → Run s qs rs u → IsThere u.now (Snapped id) → map_of u.now (Snapped id) ≡ map_of s.now (Snapped id)

-- one that the last synced world has, be it destroyed since, has that world's map after every run at whose end it is there (zfs-snapshot(8))
abbrev pub SnapshotsReturn : Type 0
SnapshotsReturn =
    (s u : State) (qs : List Request) (rs : List Reply) (id : SnapId) → InBoth HasLineages s → AreSnapshotsOne s → IsThere s.last (Snapped id)
    → Run s qs rs u → IsThere u.now (Snapped id) → map_of u.now (Snapped id) ≡ map_of s.last (Snapped id)
