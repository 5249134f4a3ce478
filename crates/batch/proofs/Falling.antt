-- Keys from the last to the first in their order, and turned round.
use Rattle.std.proofs.Common.{◌≡◌, ◌<◌, ◌≤◌, List, [], ◌∷◌, ◌++◌, reverse, T, refl, sym, subst, ◌∙◌, arith, inl, inr, ⊎_elim}
use Rattle.std.specs.List.{AllByRecursion}
use Rattle.std.specs.List.Sorted.{IsStrictlySortedBy}
use Rattle.std.specs.declared.cmp.Ordering.{Ordering}
use Rattle.std.specs.declared.cmp.Ordering.TheVariants.{Less, Equal, Greater}
use Rattle.std.specs.Ordering.{is_lt}
use Rattle.std.specs.Cmp.{tied_itself}
use Rattle.std.proofs.lemmas.Bool.{cases_lt}
use Rattle.std.proofs.lemmas.List.{reverse-append}
use Rattle.base.specs.declared.number.Key.{Key}
use Rattle.base.specs.Key.{key_cmp, key_cmp_total, first_leaf}
use Rattle.base.specs.Surveys.{IsIn, AreDifferent}
use Rattle.node.proofs.Order.{less_by_leaf, less_by_level}
use Rattle.batch.proofs.NumberLaws.{in_append}

-- each key is above those after it
abbrev pub Falls : List Key → Type 0
Falls [] = Unit {0}
Falls (k ∷ ks) = ((x : Key) → IsIn ks x → key_cmp x k ≡ Less) × Falls ks

pub falls_append : (xs ys : List Key) → Falls xs → Falls ys → ((x y : Key) → IsIn xs x → IsIn ys y → key_cmp y x ≡ Less) → Falls (xs ++ ys)
falls_append [] ys a b h = b
falls_append (x ∷ xs) ys a b h = ((λ z i. ⊎_elim (a.0 z) (h x z (inl refl)) (in_append xs ys z i)), falls_append xs ys a.1 b (λ u v i j. h u v (inr i) j))

not_below_itself : (k : Key) → key_cmp k k ≡ Less → ⊥
not_below_itself k e = let s : Equal ≡ Less = sym (tied_itself key_cmp_total k) ∙ e in cc

-- so none stands twice
pub falls_once : (ks : List Key) → Falls ks → AreDifferent ks
falls_once [] f = tt
falls_once (k ∷ ks) f = ((λ i. not_below_itself k (f.0 k i)), falls_once ks f.1)

is_less : (r : Ordering) → T (is_lt r) → r ≡ Less
is_less Less t = refl
is_less Equal t = absurd t
is_less Greater t = absurd t

-- a key before another, by the first leaf, or by the level
pub before_leaf : (x y : Key) → first_leaf x < first_leaf y → key_cmp x y ≡ Less
before_leaf x y h = is_less _ (less_by_leaf x y h)

pub before_below : (x y : Key) → first_leaf x ≤ first_leaf y → y.level < x.level → key_cmp x y ≡ Less
before_below x y h l = ⊎_elim
    (before_leaf x y)
    (λ le. is_less _ (less_by_level x y (omega arith) l))
    (cases_lt (first_leaf x) (first_leaf y))

-- a list turned round
pub reverse_step : {A : Type 0} (x : A) (xs : List A) → reverse (x ∷ xs) ≡ reverse xs ++ x ∷ []
reverse_step x xs = reverse-append (x ∷ []) xs

pub in_unreversed : {A : Type 0} (xs : List A) (a : A) → IsIn (reverse xs) a → IsIn xs a
in_unreversed [] a h = h
in_unreversed (x ∷ xs) a h = ⊎_elim
    (λ r. inr (in_unreversed xs a r))
    (λ r. ⊎_elim (λ s. inl s) (λ n. absurd n) r)
    (in_append (reverse xs) (x ∷ []) a (subst (λ ys. IsIn ys a) (reverse_step x xs) h))

-- what is below each key of a list
each_above : (k : Key) (xs : List Key) → ((x : Key) → IsIn xs x → key_cmp k x ≡ Less) → AllByRecursion (λ x. key_cmp k x ≡ Less) xs
each_above k [] h = tt
each_above k (x ∷ xs) h = (h x (inl refl), each_above k xs (λ y i. h y (inr i)))

above_each : (k : Key) (xs : List Key) → AllByRecursion (λ x. key_cmp k x ≡ Less) xs → (x : Key) → IsIn xs x → key_cmp k x ≡ Less
above_each k [] h x i = absurd i
above_each k (y ∷ xs) h x i = ⊎_elim (λ e. subst (λ z. key_cmp k z ≡ Less) (sym e) h.0) (above_each k xs h.1 x) i

rise_append : (xs ys : List Key) → IsStrictlySortedBy key_cmp xs → IsStrictlySortedBy key_cmp ys → ((x y : Key) → IsIn xs x → IsIn ys y → key_cmp x y ≡ Less) → IsStrictlySortedBy key_cmp (xs ++ ys)
unfolding IsStrictlySortedBy
rise_append [] ys a b h = b
rise_append (x ∷ xs) ys a b h = (each_above x (xs ++ ys) (λ z i. ⊎_elim (above_each x xs a.0 z) (h x z (inl refl)) (in_append xs ys z i)), rise_append xs ys a.1 b (λ u v i j. h u v (inr i) j))

one_key : (k : Key) → IsStrictlySortedBy key_cmp (k ∷ [])
unfolding IsStrictlySortedBy
one_key k = (tt, tt)

no_key : IsStrictlySortedBy key_cmp []
unfolding IsStrictlySortedBy
no_key = tt

-- keys that fall rise once they are turned round
pub rises : (ks : List Key) → Falls ks → IsStrictlySortedBy key_cmp (reverse ks)
rises [] f = no_key
rises (k ∷ ks) f = subst (IsStrictlySortedBy key_cmp) (sym (reverse_step k ks))
    (rise_append (reverse ks) (k ∷ []) (rises ks f.1) (one_key k)
    (λ x y i j. ⊎_elim (λ s. subst (λ z. key_cmp x z ≡ Less) (sym s) (f.0 x (in_unreversed ks x i))) (λ n. absurd n) j))
