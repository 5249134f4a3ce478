-- Snapshots and their clones.
use Rattle.std.proofs.Common.{◌≡◌, Bool, true, false, not, List, [], ◌∷◌, length, map, Option, Some, None, refl, sym, ap, ◌∙◌, true≢false, arith}
use Rattle.std.specs.Prelude.{nat_lt}
use Rattle.std.specs.List.{list_any}
use Rattle.std.specs.Option.{option_map_or}
use Rattle.std.specs.FinMap.{entries}
use Rattle.std.proofs.lemmas.Bool.{lt-ltb}
use Rattle.base.specs.Names.{same_name}
use Rattle.model.specs.World.{FileSystem, SnapId, same_id, clones_of}
use Rattle.model.specs.requests.Rollback.{has_clone_outside}
use Rattle.world.specs.Shapes.{Name, name_order}
use Rattle.world.specs.Dead.{HasNoCloneIn}
use Rattle.world.specs.Tables.{Datasets, world_of}
use Rattle.world.proofs.lists.Maps.{at_entry}
use Rattle.world.proofs.lineage.Bridge.{from_entries}
use Rattle.world.proofs.lists.Finding.{same_id_is}
use Rattle.world.proofs.steps.States.{positive, in_clones}
use Rattle.removals.specs.Needs.{has_clone}
use Rattle.removals.proofs.Needed.{none_kept, any_alike}

-- ---- whether one is there

-- where none is counted there is none
pub uncloned_is : (t : Datasets) (id : SnapId) → has_clone t id ≡ false → HasNoCloneIn t.file_systems id
uncloned_is t id e name f at o = true≢false (sym (positive (clones_of (world_of t) id) name (in_clones (world_of t) id name f at o)) ∙ e)

-- and the other way round
pub is_uncloned : (t : Datasets) (id : SnapId) → HasNoCloneIn t.file_systems id → has_clone t id ≡ false
is_uncloned t id none =
    ap (λ l. nat_lt 0 (length (map (λ (e : Name × FileSystem). e.0) l)))
    (none_kept (λ (e : Name × FileSystem). option_map_or (same_id id) e.1.origin false) (entries t.file_systems)
    (λ e i. by_origin e.1.origin (none e.0 e.1 (at_entry name_order t.file_systems e.0 e.1 (from_entries (entries t.file_systems) e i)))))
  where
    by_origin : (o : Option SnapId) → (o ≡ Some id → ⊥) → option_map_or (same_id id) o false ≡ false
    by_origin None none = refl
    by_origin (Some i) none = by_test (same_id id i) refl
      where
        by_test : (b : Bool) → same_id id i ≡ b → same_id id i ≡ false
        by_test true e = absurd (none (ap Some (sym (same_id_is id i e))))
        by_test false e = e

-- where none goes, each clone is outside
pub outside_is : (t : Datasets) (ids : List SnapId) → has_clone_outside (world_of t) [] ids ≡ list_any (has_clone t) ids
outside_is t ids = any_alike (λ id. list_any (λ (clone : Name). not (list_any (same_name clone) [])) (clones_of (world_of t) id)) (has_clone t) ids (λ id i. any (clones_of (world_of t) id))
  where
    any : (xs : List Name) → list_any (λ (clone : Name). not (list_any (same_name clone) [])) xs ≡ nat_lt 0 (length xs)
    any [] = refl
    any (x ∷ xs) = sym (lt-ltb 0 (length (x ∷ xs)) (omega arith))
