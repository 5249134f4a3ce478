-- A pool as it is created: the root file system alone, empty.
use Rattle.std.proofs.Common.{◌≡◌, ℕ, zero, suc, ◌<◌, Some, refl, sym, ap, subst, ◌∙◌, ⊎_elim, replicate, arith, List}
use Rattle.std.specs.Prelude.{slice_get}
use Rattle.std.specs.FinMap.{get, get-empty}
use Rattle.std.specs.FinMap as finmap
use Rattle.std.specs.FinSet.{difference}
use Rattle.std.proofs.lemmas.Bool.{false_from_ne_true}
use Rattle.std.proofs.lemmas.List.{length-replicate}
use Rattle.base.specs.Names.{root_name, name_cmp}
use Rattle.base.specs.Map.{Block, BlockSet}
use Rattle.zalloc.specs.declared.BlockState.{BlockState}
use Rattle.zalloc.specs.declared.BlockState.TheVariants.{Free}
use Rattle.base.specs.Surveys.{IsIn}
use Rattle.model.specs.World.{Snap, FileSystem, empty_file_system, reach_of}
use Rattle.model.specs.State.{fresh_state, fresh_world, is_number_of}
use Rattle.model.specs.Hierarchy.{FileSystems}
use Rattle.model.specs.Numbers.{HasStates}
use Rattle.world.specs.Sets.{Has}
use Rattle.world.specs.Worlds.{IsSwept}
use Rattle.world.proofs.lineage.Put.{put_cases}
use Rattle.world.specs.Blocks.{block_order as o}
use Rattle.world.proofs.lists.Maps.{no_value}
use Rattle.world.proofs.lists.SetCounts.{from_difference}
use Rattle.world.proofs.maps.Cells.{from_number}
use Rattle.world.proofs.removals.Slices.{fresh_keeps, none_reached}
use Rattle.limits.specs.Limits.{IsUnlimited}
use Rattle.steps.specs.Settles.{state_at, AreStatesOf}
use Rattle.steps.specs.Steady.{IsSteady}
use Rattle.steps.proofs.numbers.Known.{of_states}
use Rattle.steps.proofs.quotas.Limits.{met_unlimited}
use Rattle.steps.proofs.quotas.Unlimited.{unlimited_put}

-- the root alone
abbrev pub first : FileSystems
first = finmap.insert finmap.empty root_name empty_file_system

pub first_unlimited : IsUnlimited first
first_unlimited = unlimited_put finmap.empty (λ name f at. absurd (no_value f (sym (get-empty name_cmp name) ∙ at))) root_name empty_file_system refl

-- there is no snapshot
pub none_first : (q : List ℕ) (x : FileSystem) (t : Snap) → get first q ≡ Some x → IsIn x.snaps t → ⊥
none_first q x t at h = ⊎_elim
    (λ k. subst (λ (y : FileSystem). IsIn y.snaps t) k.1 h)
    (λ k. no_value x (sym (get-empty name_cmp q) ∙ k.1))
    (put_cases finmap.empty root_name empty_file_system q x at)

first_swept : (id size : ℕ) → IsSwept (fresh_state id size)
unfolding fresh_state fresh_world
first_swept id size q x t at h d = absurd (none_first q x t at h)

-- what holds between two steps holds of it
pub first_steady : (id size : ℕ) → IsSteady (fresh_state id size)
unfolding fresh_state fresh_world
first_steady id size = record {
  good = fresh_keeps id size;
  swept = first_swept id size;
  limits = record { now = met_unlimited fresh_world first_unlimited; last = met_unlimited fresh_world first_unlimited };
}

get_replicate : (k n : ℕ) (x : BlockState) → n < k → slice_get (replicate k x) n ≡ Some x
get_replicate zero n x h = absurd (omega arith)
get_replicate (suc k) zero x h = refl
get_replicate (suc k) (suc n) x h = get_replicate k n x (omega arith)

module _ (now last : BlockSet) (empty_now : (b : Block) → Has now b → ⊥) (empty_last : (b : Block) → Has last b → ⊥) where
  none_free : (n : ℕ) → state_at now last n ≡ Free
  none_free n =
      let no_now = false_from_ne_true (is_number_of now n) (λ t. let b = from_number now n t in empty_now b.0 b.1) in
      let no_last = false_from_ne_true (is_number_of (difference last now) n) (λ t. let b = from_number (difference last now) n t in empty_last b.0 (from_difference o last now b.0 b.1).0) in
      rw (no_now, no_last) refl

  all_free : (size : ℕ) → AreStatesOf now last size (replicate size Free)
  all_free size = record { count = length-replicate size Free; each = λ n l. get_replicate size n Free l ∙ ap Some (sym (none_free n)) }

-- every number is Free
pub first_numbers : (id size : ℕ) → HasStates (fresh_state id size) (replicate size Free)
unfolding fresh_state fresh_world
first_numbers id size = of_states (fresh_state id size) (replicate size Free) (all_free (reach_of fresh_world) (reach_of fresh_world) (none_reached id size) (none_reached id size) size)
