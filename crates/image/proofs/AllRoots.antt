-- The roots of all datasets, as they are listed.
use Rattle.std.proofs.Common.{◌≡◌, ℕ, List, [], ◌∷◌, ◌++◌, Bor, Some, map, refl, ap}
use Rattle.image.specs.HasBlocks.{root_of}
use Rattle.model.specs.World.{FileSystem}
use Rattle.datasets.specs.Dead.{snaps_in}
use Rattle.snapshots.specs.declared.kept.Kept.{Kept}
use Rattle.image.specs.Roots.{RootAt, snapshot_roots}

-- the root of a snapshot that was yielded
abbrev pub kept_root : List ℕ → Bor Kept → RootAt
kept_root name t = record { file_system = name; snapshot = Some t.now.snapshot.name; root = root_of t.now.snapshot.map }

kept_roots : (name : List ℕ) (xs : List (Bor Kept)) → map (kept_root name) xs ≡ map (λ t. record { file_system = name; snapshot = Some t.name; root = root_of t.map }) (snaps_in (map (λ x. x.now) xs))
kept_roots name [] = refl
kept_roots name (x ∷ xs) = ap (λ ts. kept_root name x ∷ ts) (kept_roots name xs)

-- all that a file system has
pub snapshots_rooted : (before after : List RootAt) (name : List ℕ) (f : List ℕ × FileSystem) (xs : List (Bor Kept)) → name ≡ f.0 → f.1.snaps ≡ snaps_in (map (λ x. x.now) xs)
    → after ≡ before ++ map (kept_root name) xs → after ≡ before ++ snapshot_roots f
snapshots_rooted before after name f xs named all is = rw (is, named, all, kept_roots f.0 xs) refl
