-- What is found in lists by a test.
use Rattle.std.proofs.Common.{◌≡◌, ℕ, Bool, true, false, cond, ◌&&◌, ◌||◌, List, [], ◌∷◌, ◌++◌, Some, None, refl, sym, ap, subst, ◌∙◌, true≢false, ◌⊎◌, inl, inr, ⊎_elim}
use Rattle.std.specs.Prelude.{◌==◌}
use Rattle.std.specs.List.{find, filter, flat_map, list_any}
use Rattle.std.proofs.lemmas.Bool.{eqb-true, eq-eqb, and_parts}
use Rattle.std.specs.Cmp.Lexicographic.{same_text}
use Rattle.base.specs.Surveys.{IsIn}
use Rattle.base.specs.Names.{same_name}
use Rattle.model.specs.World.{SnapId, same_id}
use Rattle.world.proofs.lists.Maps.{same_value, no_value}

pub or_none : (a b : Bool) → (a || b) ≡ false → (a ≡ false) × (b ≡ false)
or_none true b e = absurd (true≢false e)
or_none false b e = (refl, e)

module _ {A : Type 0} (p : A → Bool) where
  pub from_find : (xs : List A) (x : A) → find p xs ≡ Some x → IsIn xs x × (p x ≡ true)
  from_find [] x h = absurd (no_value x h)
  from_find (y ∷ ys) x h = at (p y) refl (from_find ys x) h
    where
      at : (b : Bool) → p y ≡ b → (find p ys ≡ Some x → IsIn ys x × (p x ≡ true)) → cond b (Some y) (find p ys) ≡ Some x → IsIn (y ∷ ys) x × (p x ≡ true)
      at true t ih e = let s = same_value y x e in (inl (sym s), ap p (sym s) ∙ t)
      at false t ih e = let r = ih e in (inr r.0, r.1)

  pub find_only : (xs : List A) (x : A) → IsIn xs x → p x ≡ true → ((y : A) → IsIn xs y → p y ≡ true → y ≡ x) → find p xs ≡ Some x
  find_only [] x h t only = absurd h
  find_only (y ∷ ys) x h t only = at (p y) refl h (λ k. find_only ys x k t (λ z i u. only z (inr i) u))
    where
      at : (b : Bool) → p y ≡ b → (x ≡ y) ⊎ IsIn ys x → (IsIn ys x → find p ys ≡ Some x) → cond b (Some y) (find p ys) ≡ Some x
      at true e k ih = ap Some (only y (inl refl) e)
      at false e k ih = ⊎_elim (λ is. absurd (true≢false (sym t ∙ ap p is ∙ e))) ih k

  pub find_none : (xs : List A) → ((y : A) → IsIn xs y → p y ≡ true → ⊥) → find p xs ≡ None
  find_none [] each = refl
  find_none (y ∷ ys) each = at (p y) refl (find_none ys (λ z i u. each z (inr i) u))
    where
      at : (b : Bool) → p y ≡ b → find p ys ≡ None → cond b (Some y) (find p ys) ≡ None
      at true e ih = absurd (each y (inl refl) e)
      at false e ih = ih

  pub found_none : (xs : List A) → find p xs ≡ None → (y : A) → IsIn xs y → p y ≡ true → ⊥
  found_none [] e y h t = h
  found_none (x ∷ xs) e y h t = at (p x) refl (found_none xs)
    where
      at : (b : Bool) → p x ≡ b → (find p xs ≡ None → (y : A) → IsIn xs y → p y ≡ true → ⊥) → ⊥
      at true k ih = no_value x (sym (sym (ap (λ b. cond b (Some x) (find p xs)) k) ∙ e))
      at false k ih = ⊎_elim
          (λ is. true≢false (sym t ∙ ap p is ∙ k))
          (λ r. ih (sym (ap (λ b. cond b (Some x) (find p xs)) k) ∙ e) y r t)
          h

  pub any_none : (xs : List A) → list_any p xs ≡ false → (y : A) → IsIn xs y → p y ≡ false
  any_none [] e y h = absurd h
  any_none (x ∷ xs) e y h =
      let k = or_none (p x) (list_any p xs) e in
      ⊎_elim (λ is. ap p is ∙ k.0) (λ r. any_none xs k.1 y r) h

  pub filter_all : (xs : List A) → ((y : A) → IsIn xs y → p y ≡ true) → filter p xs ≡ xs
  filter_all [] each = refl
  filter_all (y ∷ ys) each = at (p y) (each y (inl refl)) (filter_all ys (λ z i. each z (inr i)))
    where
      at : (b : Bool) → b ≡ true → filter p ys ≡ ys → cond b (y ∷ filter p ys) (filter p ys) ≡ y ∷ ys
      at true e ih = ap (λ l. y ∷ l) ih
      at false e ih = absurd (true≢false (sym e))

  pub filter_no : (xs : List A) → ((y : A) → IsIn xs y → p y ≡ true → ⊥) → filter p xs ≡ []
  filter_no [] each = refl
  filter_no (y ∷ ys) each = at (p y) refl (filter_no ys (λ z i. each z (inr i)))
    where
      at : (b : Bool) → p y ≡ b → filter p ys ≡ [] → cond b (y ∷ filter p ys) (filter p ys) ≡ []
      at true e ih = absurd (each y (inl refl) e)
      at false e ih = ih

  pub filter_join : (xs ys : List A) → filter p (xs ++ ys) ≡ filter p xs ++ filter p ys
  filter_join [] ys = refl
  filter_join (x ∷ xs) ys = at (p x) (filter_join xs ys)
    where
      at : (b : Bool) → filter p (xs ++ ys) ≡ filter p xs ++ filter p ys → cond b (x ∷ filter p (xs ++ ys)) (filter p (xs ++ ys)) ≡ cond b (x ∷ filter p xs) (filter p xs) ++ filter p ys
      at true e = ap (λ l. x ∷ l) e
      at false e = e

  join_none : (zs : List A) → zs ++ [] ≡ zs
  join_none [] = refl
  join_none (z ∷ zs) = ap (λ l. z ∷ l) (join_none zs)

  -- the front of a list
  pub filter_front : (xs ys : List A) → ((y : A) → IsIn xs y → p y ≡ true) → ((y : A) → IsIn ys y → p y ≡ true → ⊥) → filter p (xs ++ ys) ≡ xs
  filter_front xs ys all none = filter_join xs ys ∙ (λ i. filter_all xs all i ++ filter_no ys none i) ∙ join_none xs

  -- the back of a list
  pub filter_back : (xs ys : List A) → ((y : A) → IsIn xs y → p y ≡ true → ⊥) → ((y : A) → IsIn ys y → p y ≡ true) → filter p (xs ++ ys) ≡ ys
  filter_back xs ys none all = filter_join xs ys ∙ (λ i. filter_no xs none i ++ filter_all ys all i)

  pub in_filter : (xs : List A) (x : A) → IsIn xs x → p x ≡ true → IsIn (filter p xs) x
  in_filter [] x h e = absurd h
  in_filter (y ∷ ys) x h e = at (p y) refl h (λ k. in_filter ys x k e)
    where
      at : (b : Bool) → p y ≡ b → (x ≡ y) ⊎ IsIn ys x → (IsIn ys x → IsIn (filter p ys) x) → IsIn (cond b (y ∷ filter p ys) (filter p ys)) x
      at true t h ih = ⊎_elim inl (λ k. inr (ih k)) h
      at false t h ih = ⊎_elim (λ is. absurd (true≢false (sym e ∙ ap p is ∙ t))) ih h

  pub from_filter : (xs : List A) (x : A) → IsIn (filter p xs) x → IsIn xs x × (p x ≡ true)
  from_filter [] x h = absurd h
  from_filter (y ∷ ys) x h = at (p y) refl (from_filter ys x) h
    where
      at : (b : Bool) → p y ≡ b → (IsIn (filter p ys) x → IsIn ys x × (p x ≡ true)) → IsIn (cond b (y ∷ filter p ys) (filter p ys)) x → ((x ≡ y) ⊎ IsIn ys x) × (p x ≡ true)
      at true t ih h = ⊎_elim (λ is. (inl is, ap p is ∙ t)) (λ k. let r = ih k in (inr r.0, r.1)) h
      at false t ih h = let r = ih h in (inr r.0, r.1)

pub in_left : {A : Type 0} (xs ys : List A) (a : A) → IsIn xs a → IsIn (xs ++ ys) a
in_left [] ys a h = absurd h
in_left (x ∷ xs) ys a h = ⊎_elim inl (λ k. inr (in_left xs ys a k)) h

pub in_right : {A : Type 0} (xs ys : List A) (a : A) → IsIn ys a → IsIn (xs ++ ys) a
in_right [] ys a h = h
in_right (x ∷ xs) ys a h = inr (in_right xs ys a h)

pub in_either : {A : Type 0} (xs ys : List A) (a : A) → IsIn (xs ++ ys) a → IsIn xs a ⊎ IsIn ys a
in_either [] ys a h = inr h
in_either (x ∷ xs) ys a h = ⊎_elim (λ k. inl (inl k)) (λ k. ⊎_elim (λ l. inl (inr l)) inr (in_either xs ys a k)) h

pub in_flat : {A B : Type 0} (f : A → List B) (xs : List A) (a : A) (b : B) → IsIn xs a → IsIn (f a) b → IsIn (flat_map f xs) b
in_flat f [] a b h k = absurd h
in_flat f (x ∷ xs) a b h k = ⊎_elim
    (λ is. in_left (f x) (flat_map f xs) b (subst (λ y. IsIn (f y) b) is k))
    (λ r. in_right (f x) (flat_map f xs) b (in_flat f xs a b r k))
    h

pub from_flat : {A B : Type 0} (f : A → List B) (xs : List A) (b : B) → IsIn (flat_map f xs) b → (a : A) × IsIn xs a × IsIn (f a) b
from_flat f [] b h = absurd h
from_flat f (x ∷ xs) b h = ⊎_elim
    (λ k. (x, inl refl, k))
    (λ k. let r = from_flat f xs b k in (r.0, inr r.1, r.2))
    (in_either (f x) (flat_map f xs) b h)

pub same_id_is : (a b : SnapId) → same_id a b ≡ true → a ≡ b
same_id_is a b h =
    let p = and_parts (a.group == b.group) (a.guid == b.guid) h in
    λ i. record { group = eqb-true a.group b.group p.0 i; guid = eqb-true a.guid b.guid p.1 i }

pub is_same_id : (a b : SnapId) → a ≡ b → same_id a b ≡ true
is_same_id a b e = both _ _ (eq-eqb a.group b.group (ap (λ x. x.group) e)) (eq-eqb a.guid b.guid (ap (λ x. x.guid) e))
  where
    both : (x y : Bool) → x ≡ true → y ≡ true → (x && y) ≡ true
    both true y e f = f
    both false y e f = e

-- names are told apart by their bytes
pub name_itself : (name : List ℕ) → same_name name name ≡ true
name_itself [] = refl
name_itself (b ∷ bs) = rw (eq-eqb b b refl) (name_itself bs)

pub one_name : (p q : List ℕ) → same_name p q ≡ true → p ≡ q
one_name p q e = same_text p q (sym e)

pub append_none : {A : Type 0} (xs : List A) → xs ++ [] ≡ xs
append_none [] = refl
append_none (x ∷ xs) = ap (λ l. x ∷ l) (append_none xs)
