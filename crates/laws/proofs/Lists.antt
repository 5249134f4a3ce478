-- What lists that are made of other lists have, and what a map that is made of a list has.
use Rattle.std.proofs.Common.{◌≡◌, ℕ, zero, suc, ◌+◌, ◌<◌, ◌≤◌, inl, inr, ⊎_elim, Bool, true, false, cond, List, [], ◌∷◌, Option, Some, None, refl, sym, ap, ◌∙◌, arith, true≢false, eqb}
use Rattle.std.specs.List.{All, cons_option, filter_map, range_with_len}
use Rattle.std.specs.Ordering.{nat_cmp, eq_by_cmp}
use Rattle.std.specs.Cmp.{unsigned_tied}
use Rattle.std.specs.FinMap.{find}
use Rattle.std.proofs.lemmas.Bool.{eqb-true, eqb-false, eq-eqb}
use Rattle.base.specs.Surveys.{IsIn}
use Rattle.world.proofs.lists.Maps.{same_value, no_value}

module _ {A : Type 0} where
  pub all_of : (P : A → Type 0) (xs : List A) → ((a : A) → IsIn xs a → P a) → All P xs
  all_of P [] h k d l = absurd (omega (arith, l))
  all_of P (x ∷ xs) h zero d l = h x (inl refl)
  all_of P (x ∷ xs) h (suc k) d l = all_of P xs (λ a i. h a (inr i)) k d (omega arith)

module _ {A B : Type 0} where
  pub from_filter_map : (f : A → Option B) (xs : List A) (b : B) → IsIn (filter_map f xs) b → (a : A) × IsIn xs a × (f a ≡ Some b)
  from_filter_map f [] b i = absurd i
  from_filter_map f (x ∷ xs) b i = at (λ r. from_filter_map f xs b r) (f x) refl i
    where
      at : (IsIn (filter_map f xs) b → (a : A) × IsIn xs a × (f a ≡ Some b)) → (o : Option B) → f x ≡ o → IsIn (cons_option o (filter_map f xs)) b → (a : A) × IsIn (x ∷ xs) a × (f a ≡ Some b)
      at rest None e i = let q = rest i in (q.0, inr q.1, q.2)
      at rest (Some y) e i = ⊎_elim (λ is. (x, inl refl, e ∙ ap Some (sym is))) (λ r. let q = rest r in (q.0, inr q.1, q.2)) i

  pub in_filter_map : (f : A → Option B) (xs : List A) (a : A) (b : B) → IsIn xs a → f a ≡ Some b → IsIn (filter_map f xs) b
  in_filter_map f [] a b i e = absurd i
  in_filter_map f (x ∷ xs) a b i e = ⊎_elim (λ is. here (f x) (ap f (sym is) ∙ e)) (λ r. later (f x) (in_filter_map f xs a b r e)) i
    where
      here : (o : Option B) → o ≡ Some b → IsIn (cons_option o (filter_map f xs)) b
      here None e = absurd (no_value b e)
      here (Some y) e = inl (sym (same_value y b e))

      later : (o : Option B) → IsIn (filter_map f xs) b → IsIn (cons_option o (filter_map f xs)) b
      later None r = r
      later (Some y) r = inr r

pub from_range : (a n i : ℕ) → IsIn (range_with_len a n) i → (a ≤ i) × (i < a + n)
from_range a zero i h = absurd h
from_range a (suc n) i h = ⊎_elim (λ e. (omega arith, omega arith)) (λ r. let q = from_range (a + 1) n i r in (omega arith, omega arith)) h

pub in_range : (a n i : ℕ) → a ≤ i → i < a + n → IsIn (range_with_len a n) i
in_range a zero i l h = absurd (omega arith)
in_range a (suc n) i l h = at (in_range (a + 1) n i) (eqb i a) refl
  where
    at : (a + 1 ≤ i → i < (a + 1) + n → IsIn (range_with_len (a + 1) n) i) → (b : Bool) → eqb i a ≡ b → IsIn (range_with_len a (suc n)) i
    at rest true e = inl (eqb-true i a e)
    at rest false e = let ne = eqb-false i a e in inr (rest (omega arith) (omega arith))

-- what is found at a number is an entry, and what is at an entry's number is found
module _ {X : Type 0} where
  pub from_found : (es : List (ℕ × X)) (q : ℕ) (v : X) → find nat_cmp q es ≡ Some v → IsIn es (q, v)
  from_found [] q v e = absurd (no_value v e)
  from_found (x ∷ es) q v e = at (λ r. from_found es q v r) (eq_by_cmp nat_cmp q x.0) refl e
    where
      at : (find nat_cmp q es ≡ Some v → IsIn es (q, v)) → (b : Bool) → eq_by_cmp nat_cmp q x.0 ≡ b → cond b (Some x.1) (find nat_cmp q es) ≡ Some v → IsIn (x ∷ es) (q, v)
      at rest true t e =
          let first : q ≡ x.0 = eqb-true q x.0 (sym (unsigned_tied q x.0) ∙ t) in
          let second : v ≡ x.1 = sym (same_value x.1 v e) in
          inl (λ i. (first i, second i))
      at rest false t e = inr (rest e)

  pub is_found : (es : List (ℕ × X)) (q : ℕ) (v : X) → IsIn es (q, v) → (w : X) × (find nat_cmp q es ≡ Some w)
  is_found [] q v i = absurd i
  is_found (x ∷ es) q v i = at (λ r. is_found es q v r) (eq_by_cmp nat_cmp q x.0) refl i
    where
      at : (IsIn es (q, v) → (w : X) × (find nat_cmp q es ≡ Some w)) → (b : Bool) → eq_by_cmp nat_cmp q x.0 ≡ b → IsIn (x ∷ es) (q, v) → (w : X) × (cond b (Some x.1) (find nat_cmp q es) ≡ Some w)
      at rest true t i = (x.1, refl)
      at rest false t i = ⊎_elim
          (λ is. absurd (true≢false (sym (unsigned_tied q x.0 ∙ eq-eqb q x.0 (ap (λ y. y.0) is)) ∙ t)))
          (λ r. rest r) i
