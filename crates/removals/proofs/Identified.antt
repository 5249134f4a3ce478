-- Snapshots that go by their identities, one after another and all at once.
use Rattle.std.proofs.Common.{◌≡◌, ◌⊎◌, ◌↔◌, Bool, true, false, not, ◌&&◌, ◌||◌, List, [], ◌∷◌, ◌++◌, Option, None, Some, Result, Ok, Err, refl, sym, ap, ◌∙◌, true≢false, ⊎_elim}
use Rattle.std.specs.Prelude.{is_some, IfErr}
use Rattle.std.specs.FinMap.{get}
use Rattle.std.specs.List.{filter}
use Rattle.std.proofs.lemmas.List.Folds.{list_any-append}
use Rattle.base.specs.declared.refusal.Refusal.{Refusal}
use Rattle.base.specs.declared.refusal.Refusal.TheVariants.{NoDataset, NoMemory}
use Rattle.base.specs.Surveys.{IsIn}
use Rattle.datasets.specs.Holders.{snap_in_system}
use Rattle.model.specs.World.{FileSystem, Snap, SnapId, id_of, same_id}
use Rattle.model.specs.Edits.{without_snaps}
use Rattle.model.specs.requests.Destroy.{is_one_of}
use Rattle.world.specs.Shapes.{Name}
use Rattle.world.specs.Tables.{Datasets, world_of, without_snap}
use Rattle.world.proofs.lists.Finding.{in_filter}
use Rattle.world.proofs.removals.WithoutSnaps.{without_at, without_twice, without_none}
use Rattle.removals.specs.Needs.{has_clone}
use Rattle.removals.proofs.Needed.{found_there}
use Rattle.removals.proofs.Swept.{same_clones, origins_stay}

pub neither : (a b : Bool) → (not a && not b) ≡ not (a || b)
neither true b = refl
neither false b = refl

-- one identity more
pub one_of_more : (ids : List SnapId) (id : SnapId) (u : Snap) → is_one_of (ids ++ id ∷ []) u ≡ (is_one_of ids u || same_id (id_of u) id)
one_of_more ids id u = list_any-append (same_id (id_of u)) ids (id ∷ []) ∙ ap (λ b. is_one_of ids u || b) (or_false (same_id (id_of u) id))
  where
    or_false : (b : Bool) → (b || false) ≡ b
    or_false true = refl
    or_false false = refl

-- the datasets without the snapshots of these identities
abbrev pub without_ids : Datasets → List SnapId → Datasets
without_ids t ids = record t { file_systems = (without_snaps (world_of t) (is_one_of ids)).file_systems }

pub ids_none : (t : Datasets) → without_ids t [] ≡ t
ids_none t = ap (λ ss. record t { file_systems = ss }) (without_none (world_of t) (is_one_of []) (λ n f u at i. refl))

pub ids_then : (t : Datasets) (ids : List SnapId) (id : SnapId) → without_snap (without_ids t ids) id ≡ without_ids t (ids ++ id ∷ [])
ids_then t ids id = ap (λ ss. record t { file_systems = ss })
    (without_twice (world_of t) (is_one_of ids) (λ u. same_id (id_of u) id) (is_one_of (ids ++ id ∷ []))
    (λ u. neither (is_one_of ids u) (same_id (id_of u) id) ∙ ap not (sym (one_of_more ids id u))))

-- clones stay
pub ids_clones : (t : Datasets) (ids : List SnapId) (id : SnapId) → has_clone (without_ids t ids) id ≡ has_clone t id
ids_clones t ids id = same_clones t (without_ids t ids) (origins_stay t (is_one_of ids)) id

-- and so do the others
pub ids_there : (t : Datasets) (ids : List SnapId) (name : Name) (f : FileSystem) (s : Snap) → get t.file_systems name ≡ Some f → IsIn f.snaps s → is_one_of ids s ≡ false
    → is_some (snap_in_system (without_ids t ids) name (id_of s)) ≡ true
ids_there t ids name f s at i out =
    found_there (without_ids t ids) name (record f { snaps = filter (λ u. not (is_one_of ids u)) f.snaps }) s (without_at (world_of t) (is_one_of ids) name f at)
    (in_filter (λ u. not (is_one_of ids u)) f.snaps s i (ap not out))

-- where it is there, only memory may be wanting
pub only_memory : {T : Type 0} (r : Result T Refusal) (x : Option Snap) → is_some x ≡ true → (r ≡ Err NoDataset) ↔ (x ≡ None) → IfErr r (λ e. (e ≡ NoDataset) ⊎ (e ≡ NoMemory)) → IfErr r (λ e. e ≡ NoMemory)
only_memory (Ok a) x there none only = tt
only_memory (Err e) x there none only = ⊎_elim (λ k. absurd (true≢false (sym there ∙ ap is_some (none.0 (ap Err k))))) (λ k. k) only
