-- What an image has of the maps of a pool.
use Rattle.std.specs.Prelude.{◌≡◌, ◌⊎◌, ℕ, Bool, true, false, List, Some}
use Rattle.std.specs.FinMap.{get}
use Rattle.std.specs.FinMap as finmap
use Rattle.base.specs.Map.{Map, contents}
use Rattle.base.specs.Surveys.{IsIn}
use Rattle.model.specs.State.{State}
use Rattle.model.specs.World.{World, FileSystem, Dataset, map_of, maps_of}
use Rattle.model.specs.declared.request.Request.{Request}
use Rattle.model.specs.declared.request.Request.TheVariants.{Write, Punch, FreeObject, Receive}
use Rattle.world.specs.Worlds.{FileSystems, AreMapsFrom, maps_of_both}
use Rattle.image.specs.HasBlocks.{HasBlocks, AreBirthsRising, root_of}
use Rattle.image.specs.ImageWalk.{walk}

-- the image has the blocks of each of these maps, and in none of them a block is younger than the one that points to it (On-Disk
-- Specification, chapters 2 and 3)
pub record AreStored {D : Type 0} (maps : D → Map) (image : ℕ → List ℕ) : Type 0 where
  pub blocks : (d : D) → HasBlocks image (maps d)
  pub rising : (d : D) → AreBirthsRising (maps d)

-- the image has the blocks of each dataset of the present world, and of each of the last synced one (profile)
abbrev pub IsStored : State → (ℕ → List ℕ) → Type 0
IsStored s image = AreStored (maps_of_both s.now s.last) image

-- in an image of n blocks the walk from the root of each dataset of a world gives its contents (On-Disk Specification, chapter 3)
abbrev pub AllWalk : (ℕ → List ℕ) → ℕ → World → Type 0
AllWalk image n w = (d : Dataset) → walk image n (root_of (map_of w d)) ≡ Some (contents (map_of w d))

-- each map is one of those before, or has nothing (profile)
abbrev pub AreDrawn : {D E : Type 0} → (D → Map) → (E → Map) → Type 0
AreDrawn {D} {E} maps later = (e : E) → (later e ≡ finmap.empty) ⊎ ((d : D) × (later e ≡ maps d))

-- each map is one of those before, or this one, or has nothing (profile)
abbrev pub AreDrawnBeside : {D E : Type 0} → Map → (D → Map) → (E → Map) → Type 0
AreDrawnBeside {D} {E} m maps later = (e : E) → (later e ≡ finmap.empty) ⊎ (((d : D) × (later e ≡ maps d)) ⊎ (later e ≡ m))

-- each map of the file systems is one of the present world, or each is one of the last synced world, or has nothing (profile)
abbrev pub AreFromState : State → FileSystems → Type 0
AreFromState s later = AreMapsFrom s.now.file_systems later ⊎ AreMapsFrom s.last.file_systems later

-- a step writes no block: both worlds after it have maps of those before (profile)
pub record MapsStay (s t : State) : Type 0 where
  pub now : AreFromState s t.now.file_systems
  pub last : AreFromState s t.last.file_systems

-- each map of the file systems is one of these others, or this one, or has nothing (profile)
abbrev pub AreMapsBeside : Map → FileSystems → FileSystems → Type 0
AreMapsBeside m ss later =
    (name : List ℕ) (f : FileSystem) (x : Map) → get later name ≡ Some f → IsIn (maps_of f) x
    → (x ≡ finmap.empty) ⊎ (((other : List ℕ) × (t : FileSystem) × (get ss other ≡ Some t) × IsIn (maps_of t) x) ⊎ (x ≡ m))

-- the request changes what a live map has (On-Disk Specification, chapter 3; zfs-receive(8))
abbrev pub changes_maps : Request → Bool
changes_maps (Write target object block bytes) = true
changes_maps (Punch target object block) = true
changes_maps (FreeObject target object) = true
changes_maps (Receive snapshot bytes mode) = true
changes_maps request = false
