-- Where a send starts.
use Rattle.model.specs.World.{SnapId}
use Rattle.model.specs.requests.Send.{Start}

-- the start at a source of this identity (zfs-send(8), -i)
abbrev pub start_at : SnapId → Start
start_at id = record { guid = id.guid; group = id.group }
