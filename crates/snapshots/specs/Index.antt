-- The index of kept snapshots by name (profile).
use Rattle.std.specs.Prelude.{◌≡◌, ℕ, List, [], ◌∷◌, Option, None, Some}
use Rattle.std.specs.List.{find}
use Rattle.base.specs.Names.{same_name}
use Rattle.snapshots.specs.declared.kept.Kept.{Kept}

-- an index, where there is one, finds by each name what a walk over the snapshots finds first (profile)
abbrev pub IsIndex : Option (List Kept) → List Kept → Type 0
IsIndex None ks = Unit {0}
IsIndex (Some index) ks = (name : List ℕ) → find (λ k. same_name k.snapshot.name name) index ≡ find (λ k. same_name k.snapshot.name name) ks

-- each name is one snapshot's (zfs-snapshot(8))
abbrev pub AreNamesOnce : List Kept → Type 0
AreNamesOnce [] = Unit {0}
AreNamesOnce (k ∷ ks) = (find (λ j. same_name j.snapshot.name k.snapshot.name) ks ≡ None) × AreNamesOnce ks
