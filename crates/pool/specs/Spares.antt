-- What a change of a live map leaves for the next one.
use Rattle.std.specs.Prelude.{◌⊎◌, Box, Option, Some, None}
use Rattle.std.specs.declared.alloc.Global.{Global}
use Rattle.smallvec.specs.SmallVec.{IsSpilled}
use Rattle.batch.specs.declared.draft.Draft.{Draft}
use Rattle.image.specs.declared.writes.ChangedPath.{ChangedPath}
use Rattle.image.specs.declared.writes.Writes.{Writes}
use Rattle.image.specs.declared.writes.Writes.TheVariants.{Idle, OnPath, Each}

-- a list of the draft has memory of its own (profile)
abbrev pub HoldsMemory : Draft → Type 0
HoldsMemory draft = IsSpilled 6 draft.released ⊎ (IsSpilled 6 draft.taken ⊎ IsSpilled 6 draft.made)

-- the path that is written (profile)
abbrev pub path_of : Writes → Option (Box ChangedPath Global)
path_of (OnPath path bytes) = Some path
path_of (Each blocks) = None
path_of Idle = None
