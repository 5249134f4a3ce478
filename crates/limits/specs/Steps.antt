-- How two worlds may differ that keep their limits.
use Rattle.std.specs.Prelude.{◌≡◌, ℕ, ◌⊎◌, List, Some}
use Rattle.std.specs.FinMap.{get}
use Rattle.base.specs.Surveys.{IsIn}
use Rattle.model.specs.World.{World, FileSystem, Snap, id_of}
use Rattle.limits.specs.Limits.{IsShrunk}

-- each file system is an earlier one, which may have lost snapshots and limits; others may be gone (the page of each subcommand)
abbrev pub AreKept : World → World → Type 0
AreKept old new = (name : List ℕ) (t : FileSystem) → get new.file_systems name ≡ Some t → (s : FileSystem) × (get old.file_systems name ≡ Some s) × IsShrunk s t

-- each snapshot of the new world is one of the old world, of the same identity and map, or has an identity that the old world hasn't
-- (the page of each subcommand)
abbrev pub AreSnapsOrNew : World → World → Type 0
AreSnapsOrNew old new =
    (q : List ℕ) (t : FileSystem) (v : Snap) → get new.file_systems q ≡ Some t → IsIn t.snaps v
    → ((p : List ℕ) × (s : FileSystem) × (u : Snap) × (get old.file_systems p ≡ Some s) × IsIn s.snaps u × (id_of u ≡ id_of v) × (u.map ≡ v.map))
    ⊎ ((p : List ℕ) (s : FileSystem) (u : Snap) → get old.file_systems p ≡ Some s → IsIn s.snaps u → id_of u ≡ id_of v → ⊥)

-- the two worlds have the same file systems but at these names (profile)
abbrev pub AreEqualBut : World → World → List (List ℕ) → Type 0
AreEqualBut old new ms = (name : List ℕ) → ¬ (IsIn ms name) → get new.file_systems name ≡ get old.file_systems name
