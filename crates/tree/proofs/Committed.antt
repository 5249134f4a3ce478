-- What holds of the map and the allocator once a change is in force.
use Rattle.std.proofs.Common.{◌≡◌, ℕ, zero, suc, List, [], ◌∷◌, Some, None, refl, sym, ap, subst, ◌∙◌, inl, inr}
use Rattle.std.specs.Prelude.{slice_get, slice_set, IfSome}
use Rattle.std.specs.FinMap.{get, empty, get-empty}
use Rattle.base.specs.declared.number.Key.{Key}
use Rattle.base.specs.Key.{key_cmp}
use Rattle.base.specs.Map.{Map, Cell}
use Rattle.base.specs.Surveys.{IsIn, AreDifferent}
use Rattle.zalloc.specs.declared.BlockState.{BlockState}
use Rattle.zalloc.specs.declared.BlockState.TheVariants.{Free, Allocated}
use Rattle.tree.specs.Taking.{AllFree}
use Rattle.node.proofs.Options.{for_some}

set_other : {A : Type 0} (xs : List A) (i n : ℕ) (y : A) → (n ≡ i → ⊥) → slice_get (slice_set xs i y) n ≡ slice_get xs n
set_other [] i n y h = refl
set_other (x ∷ xs) zero zero y h = absurd (h refl)
set_other (x ∷ xs) zero (suc n) y h = refl
set_other (x ∷ xs) (suc i) zero y h = refl
set_other (x ∷ xs) (suc i) (suc n) y h = set_other xs i n y (λ e. h (ap suc e))

-- different Free numbers can be taken in turn
pub all_free : (states : List BlockState) (ns : List ℕ) → ((n : ℕ) → IsIn ns n → slice_get states n ≡ Some Free) → AreDifferent ns → AllFree states ns
all_free states [] f d = tt
all_free states (n ∷ ns) f d = (
  f n (inl refl),
  all_free (slice_set states n Allocated) ns (λ k h. set_other states n k Allocated (λ e. d.0 (subst (IsIn ns) e h)) ∙ f k (inr h)) d.1,
)

-- a change, put in force

-- the empty map has no cell
pub none_in_empty : (P : Cell → Type 0) (k : Key) → IfSome (get (empty {R = key_cmp}) k) P
none_in_empty P k = for_some P (get empty k) (λ x e. let n : None ≡ Some x = sym (get-empty key_cmp k) ∙ e in cc)

pub all_of_none : (m : Map) (P : Cell → Type 0) → m ≡ empty → (k : Key) → IfSome (get m k) P
all_of_none m P e = subst (λ (n : Map). (k : Key) → IfSome (get n k) P) (sym e) (none_in_empty P)
