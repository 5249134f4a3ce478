-- Open views as entries of a map.
use Rattle.std.specs.Prelude.{ℕ}
use Rattle.model.specs.World.{SnapId}
use Rattle.model.specs.Ids.{snap_id}
use Rattle.snap.specs.declared.row.Open.{Open}

-- a view's number, with the identity of the snapshot that it shows (profile)
abbrev pub entry_of : Open → ℕ × SnapId
entry_of v = (v.number, snap_id v.snapshot)
