-- A step with nothing to sweep leaves the state.
use Rattle.std.proofs.Common.{◌≡◌, ℕ, Bool, true, false, cond, not, ◌&&◌, ◌||◌, List, [], ◌∷◌, map, Option, Some, None, refl, sym, ap, ◌∙◌}
use Rattle.std.specs.declared.cmp.Ordering.{Ordering}
use Rattle.std.specs.Ordering.{eq_by_cmp}
use Rattle.std.specs.Option.{option_map}
use Rattle.std.specs.List.{filter}
use Rattle.std.specs.Cmp.{Equal-is}
use Rattle.std.specs.FinMap.{find, get, get-entries, get-from_entries, same_map}
use Rattle.std.specs.FinSet as set
use Rattle.base.specs.Map.{block_cmp_total, block_cmp-IsAntisymmetric}
use Rattle.model.specs.World.{World, FileSystem}
use Rattle.model.specs.State.{State}
use Rattle.model.specs.Edits.{with_file_systems, with_losses}
use Rattle.model.specs.Outcome.{is_needed, state_after_sweep}
use Rattle.world.specs.Sets.{IsExactOrder}
use Rattle.world.specs.Shapes.{name_order}

find-mapped : {K X : Type 0} {R : K → K → Ordering} (o : IsExactOrder R) (f : K → X → X) (q : K) (es : List (K × X))
    → find R q (map (λ e. (e.0, f e.0 e.1)) es) ≡ option_map (f q) (find R q es)
find-mapped o f q [] = refl
find-mapped {R = R} o f q (e ∷ es) = at (eq_by_cmp R q e.0) refl (find-mapped o f q es)
  where
    at : (b : Bool) → eq_by_cmp R q e.0 ≡ b → find R q (map (λ e. (e.0, f e.0 e.1)) es) ≡ option_map (f q) (find R q es)
        → cond (eq_by_cmp R q e.0) (Some (f e.0 e.1)) (find R q (map (λ e. (e.0, f e.0 e.1)) es))
        ≡ option_map (f q) (cond (eq_by_cmp R q e.0) (Some e.1) (find R q es))
    at true t ih = rw t (ap (λ k. Some (f k e.1)) (sym (o.exact q e.0 ((Equal-is (R q e.0)).0 t))))
    at false t ih = rw t ih

-- every file system changed: what is at each name
pub get-with_file_systems : (w : World) (change : List ℕ → FileSystem → FileSystem) (q : List ℕ)
    → get (with_file_systems w change).file_systems q ≡ option_map (change q) (get w.file_systems q)
get-with_file_systems w change q =
    get-from_entries name_order.total _ q ∙ find-mapped name_order change q _ ∙ ap (option_map (change q)) (sym (get-entries w.file_systems q))

same_option : {A : Type 0} (f : A → A) (o : Option A) → ((x : A) → o ≡ Some x → f x ≡ x) → option_map f o ≡ o
same_option f None h = refl
same_option f (Some x) h = ap Some (h x refl)

-- a change that changes no file system
pub with_file_systems-same : (w : World) (change : List ℕ → FileSystem → FileSystem)
    → ((q : List ℕ) (s : FileSystem) → get w.file_systems q ≡ Some s → change q s ≡ s) → with_file_systems w change ≡ w
with_file_systems-same w change h =
    let same = same_map name_order.total name_order.exact (with_file_systems w change).file_systems w.file_systems
    (λ q. get-with_file_systems w change q ∙ same_option (change q) (get w.file_systems q) (h q)) in
    λ i. record w { file_systems = same i }

or-and-not : (a b : Bool) → (a || (b && not b)) ≡ a
or-and-not true b = refl
or-and-not false true = refl
or-and-not false false = refl

-- where nothing is lost, nothing joins `freeing`
pub with_losses-same : (w : World) → with_losses w w ≡ w
with_losses-same w =
    let same = set.same_set block_cmp_total block_cmp-IsAntisymmetric (with_losses w w).freeing w.freeing (λ q.
    set.contains-union block_cmp_total _ _ q ∙ ap (λ b. set.contains w.freeing q || b) (set.contains-difference block_cmp_total _ _ q) ∙ or-and-not _ _) in
    λ i. record w { freeing = same i }

-- a step with nothing to sweep leaves the state
pub sweep-idle : (s : State)
    → ((q : List ℕ) (y : FileSystem) → get s.now.file_systems q ≡ Some y → filter (λ t. not (t.deferred && not (is_needed s.now s.views t))) y.snaps ≡ y.snaps)
    → state_after_sweep s ≡ s
unfolding state_after_sweep
sweep-idle s h =
    ap (λ w. record s { now = with_losses s.now w }) (with_file_systems-same s.now _ (λ q y e i. record y { snaps = h q y e i }))
    ∙ ap (λ w. record s { now = w }) (with_losses-same s.now)
