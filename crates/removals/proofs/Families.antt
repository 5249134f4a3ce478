-- Names of one family: a child's is of its parent's family, and comes after its parent's.
use Rattle.std.proofs.Common.{◌≡◌, ℕ, Bool, true, false, cond, ◌&&◌, T, List, [], ◌∷◌, ◌++◌, Option, Some, None, is_lt, refl, sym, ap, subst, ◌∙◌, inl, inr, ⊎_elim, length, drop, arith}
use Rattle.std.specs.Prelude.{◌==◌}
use Rattle.std.specs.Ordering.{nat_cmp}
use Rattle.std.specs.FinMap.Entries.{is_sorted, below_all}
use Rattle.std.specs.declared.cmp.Ordering.TheVariants.{Equal, Greater}
use Rattle.std.proofs.lemmas.Bool.{eqb-true, or_right}
use Rattle.base.specs.Surveys.{IsIn}
use Rattle.base.specs.Names.{name_cmp, slash, parent_of, before_slash, same_name, is_descendant}
use Rattle.datasets.specs.Rows.{Entry}
use Rattle.model.specs.Hierarchy.{is_in_family}
use Rattle.world.proofs.lists.Names.{descendant_by_parent, goes_on, behind}

no_some : {A : Type 0} (a : A) → None ≡ Some a → ⊥
no_some a e = cc

one_some : {A : Type 0} (a b : A) → Some a ≡ Some b → a ≡ b
one_some a b e = cc

-- a name that has a parent goes on after it
pub parent_parts : (q p : List ℕ) → parent_of q ≡ Some p → (rest : List ℕ) × (q ≡ p ++ slash ∷ rest)
parent_parts [] p e = absurd (no_some p e)
parent_parts (b ∷ bs) p e = by_rest (λ front is. parent_parts bs front is) (parent_of bs) refl e
  where
    by_byte : (c : Bool) → (b == slash) ≡ c → cond c (Some []) None ≡ Some p → (rest : List ℕ) × ((b ∷ bs) ≡ p ++ slash ∷ rest)
    by_byte true t k = (bs, (λ i. eqb-true b slash t i ∷ bs) ∙ ap (λ l. l ++ slash ∷ bs) (one_some [] p k))
    by_byte false t k = absurd (no_some p k)

    by_rest : ((front : List ℕ) → parent_of bs ≡ Some front → (rest : List ℕ) × (bs ≡ front ++ slash ∷ rest)) → (x : Option (List ℕ)) → parent_of bs ≡ x → before_slash b x ≡ Some p → (rest : List ℕ) × ((b ∷ bs) ≡ p ++ slash ∷ rest)
    by_rest ih None is k = by_byte (b == slash) refl k
    by_rest ih (Some front) is k =
        let r = ih front is in
        (r.0, ap (λ l. b ∷ l) r.1 ∙ ap (λ l. l ++ slash ∷ r.0) (one_some (b ∷ front) p k))

-- a name of a family goes on after the ancestor's with a slash, or is it
pub family_parts : (a n : List ℕ) → is_in_family a n ≡ true → (rest : List ℕ) × (n ≡ a ++ rest) × (goes_on rest ≡ true)
family_parts a n e = let k = behind a n e in (drop (length a) n, k.0, k.1)

-- a child is of each family that its parent is of
pub child_in_family : (a p q : List ℕ) → is_in_family a p ≡ true → parent_of q ≡ Some p → is_in_family a q ≡ true
child_in_family a p q within e = or_right (same_name q a) (is_descendant a q) (descendant_by_parent a q p e ∙ within)

longer_after : (p : List ℕ) (x : ℕ) (rest : List ℕ) → name_cmp (p ++ x ∷ rest) p ≡ Greater
longer_after [] x rest = refl
longer_after (b ∷ bs) x rest = rw (tied_byte b) (longer_after bs x rest)
  where
    tied_byte : (b : ℕ) → nat_cmp b b ≡ Equal
    tied_byte b = grind arith

-- and comes after it
pub child_after : (p q : List ℕ) → parent_of q ≡ Some p → name_cmp q p ≡ Greater
child_after p q e = let r = parent_parts q p e in ap (λ n. name_cmp n p) r.1 ∙ longer_after p slash r.0

-- ---- sorted rows

and_left : (a b : Bool) → T (a && b) → T a
and_left true b h = tt
and_left false b h = absurd h

and_right : (a b : Bool) → T (a && b) → T b
and_right true b h = h
and_right false b h = absurd h

pub below_there : (n : List ℕ) (es : List Entry) (e : Entry) → T (below_all name_cmp n es) → IsIn es e → T (is_lt (name_cmp n e.0))
below_there n [] e h i = absurd i
below_there n (x ∷ xs) e h i = ⊎_elim
    (λ (k : e ≡ x). subst (λ (y : Entry). T (is_lt (name_cmp n y.0))) (sym k) (and_left _ _ h))
    (λ k. below_there n xs e (and_right _ _ h) k)
    i

-- rows before one of these come before it
pub before_there : (front : List Entry) (r : Entry) (rest : List Entry) → T (is_sorted name_cmp (front ++ r ∷ rest)) → (e : Entry) → IsIn front e → T (is_lt (name_cmp e.0 r.0))
before_there [] r rest h e i = absurd i
before_there (x ∷ xs) r rest h e i = ⊎_elim
    (λ (k : e ≡ x). subst (λ (y : Entry). T (is_lt (name_cmp y.0 r.0))) (sym k) (below_there x.0 (xs ++ r ∷ rest) r (and_left _ _ h) (last_in xs)))
    (λ k. before_there xs r rest (and_right _ _ h) e k)
    i
  where
    last_in : (ys : List Entry) → IsIn (ys ++ r ∷ rest) r
    last_in [] = inl refl
    last_in (y ∷ ys) = inr (last_in ys)
