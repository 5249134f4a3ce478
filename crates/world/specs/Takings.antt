-- Which snapshots one request may take.
use Rattle.std.specs.Prelude.{◌≡◌, List, [], ◌∷◌, Some}
use Rattle.std.specs.FinMap.{get}
use Rattle.base.specs.declared.name.member.Member.{Member}
use Rattle.base.specs.Surveys.{IsIn}
use Rattle.model.specs.World.{FileSystem, Snap}
use Rattle.world.specs.Worlds.{FileSystems}

-- each file system is there, has no snapshot of that name, and is named once (zfs-snapshot(8))
abbrev pub AreTakable : FileSystems → List Member → Type 0
AreTakable ss [] = Unit {0}
AreTakable ss (m ∷ ms) =
    ((s : FileSystem) × (get ss m.file_system ≡ Some s) × ((u : Snap) → IsIn s.snaps u → u.name ≡ m.component → ⊥))
    × ((k : Member) → IsIn ms k → k.file_system ≡ m.file_system → ⊥)
    × AreTakable ss ms
