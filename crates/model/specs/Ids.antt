-- Identities of snapshots in code.
use Rattle.model.specs.declared.snapshot_id.SnapshotId.{SnapshotId}
use Rattle.model.specs.World.{SnapId}

-- the identity that it is (On-Disk Specification, chapter 4: ds_creation_txg, ds_guid)
abbrev pub snap_id : SnapshotId → SnapId
snap_id i = record { group = i.group.0; guid = i.guid.0 }
