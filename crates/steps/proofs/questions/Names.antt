-- What it tells of a name that a dataset was found by it, or none.
use Rattle.std.proofs.Common.{◌≡◌, ℕ, List, Option, Some, None, true, refl, sym, subst}
use Rattle.std.specs.Option.{option_map}
use Rattle.std.specs.FinMap.{get}
use Rattle.base.specs.Map.{Map}
use Rattle.base.specs.declared.name.target.Target.{Target}
use Rattle.base.specs.declared.name.target.Target.TheVariants.{FileSystem as OfFileSystem, Snapshot as OfSnapshot, Bookmark as OfBookmark}
use Rattle.model.specs.Hierarchy.{FileSystems}
use Rattle.model.specs.Targets.{is_snapshot_name}
use Rattle.model.specs.State.{State}
use Rattle.world.proofs.lists.Maps.{same_value, no_value}
use Rattle.steps.specs.Steady.{IsSteady, HasNoDataset, IsNamed, snap_in}
use Rattle.steps.proofs.questions.Named.{named_live, named_snap}
use Rattle.lookups.specs.Named.{map_named}

-- what a value that is told of is told of
pub mapped : {A B : Type 0} (g : A → B) (o : Option A) (m : B) → Some m ≡ option_map g o → (x : A) × (o ≡ Some x) × (g x ≡ m)
mapped g None m e = absurd (no_value m (sym e))
mapped g (Some x) m e = (x, refl, sym (same_value m (g x) e))

pub unmapped : {A B : Type 0} (g : A → B) (o : Option A) → None ≡ option_map g o → o ≡ None
unmapped g None e = refl
unmapped g (Some x) e = absurd (no_value (g x) e)

-- a map that was found is that of the dataset of the name
pub found : (s : State) → IsSteady s → (target : Target) (m : Map) → Some m ≡ map_named s.now.file_systems target → IsNamed s target m
found s steady (OfFileSystem name) m e =
    let is = mapped (λ f. f.live) (get s.now.file_systems name) m e in
    subst (λ x. IsNamed s (OfFileSystem name) x) is.2 (named_live s name is.0 is.1)
found s steady (OfSnapshot n) m e =
    let is = mapped (λ t. t.map) (snap_in s.now.file_systems n) m e in
    subst (λ x. IsNamed s (OfSnapshot n) x) is.2 (named_snap s steady n is.0 is.1)
found s steady (OfBookmark n) m e = absurd (no_value m (sym e))

pub absent : (ss : FileSystems) (target : Target) → None ≡ map_named ss target → HasNoDataset ss target
absent ss (OfFileSystem name) e = unmapped (λ f. f.live) (get ss name) e
absent ss (OfSnapshot n) e = unmapped (λ t. t.map) (snap_in ss n) e
absent ss (OfBookmark n) e = tt

-- what is found and no file system is a snapshot
pub is_snapshot : (ss : FileSystems) (target : Target) (m : Map) → ((name : List ℕ) → target ≡ OfFileSystem name → ⊥) → Some m ≡ map_named ss target
    → is_snapshot_name target ≡ true
is_snapshot ss (OfFileSystem name) m never e = absurd (never name refl)
is_snapshot ss (OfSnapshot n) m never e = refl
is_snapshot ss (OfBookmark n) m never e = absurd (no_value m (sym e))
