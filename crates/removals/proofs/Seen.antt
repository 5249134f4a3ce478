-- Open views and the snapshots that they show.
use Rattle.std.proofs.Common.{◌≡◌, ◌⊎◌, ℕ, Bool, true, false, cond, ◌&&◌, ◌||◌, List, [], ◌∷◌, ◌++◌, map, Some, refl, sym, ap, ◌∙◌, true≢false, inl, inr, ⊎_elim}
use Rattle.std.specs.Prelude.{nat_lt}
use Rattle.std.specs.List.{filter, list_any}
use Rattle.std.specs.FinMap.{get, entries, remove}
use Rattle.std.proofs.lemmas.Bool.{or_right}
use Rattle.model.specs.World.{Snap, SnapId, id_of, same_id}
use Rattle.model.specs.State.{Views, is_viewed}
use Rattle.world.specs.Shapes.{view_order}
use Rattle.world.specs.Usage.{IsEntry}
use Rattle.world.proofs.lists.Finding.{same_id_is}
use Rattle.world.proofs.views.ViewedSteps.{viewed}
use Rattle.world.proofs.lists.Maps.{key_cases, at_entry, get-remove_other}

-- ---- a view of a snapshot

-- one of those that are open shows it
pub viewed_by : (views : Views) (id : SnapId) → is_viewed views id ≡ true → (v : ℕ) × (get views v ≡ Some id)
viewed_by views id e = let k = among (entries views) e in (k.0, at_entry view_order views k.0 id k.1)
  where
    among : (es : List (ℕ × SnapId)) → list_any (same_id id) (map (λ x. x.1) es) ≡ true → (v : ℕ) × IsEntry es v id
    among [] h = absurd (true≢false (sym h))
    among (x ∷ xs) h = by_test (same_id id x.1) refl h (λ k. among xs k)
      where
        by_test : (b : Bool) → same_id id x.1 ≡ b → (b || list_any (same_id id) (map (λ y. y.1) xs)) ≡ true
            → (list_any (same_id id) (map (λ y. y.1) xs) ≡ true → (v : ℕ) × IsEntry xs v id) → (v : ℕ) × IsEntry (x ∷ xs) v id
        by_test true k h rest = (x.0, inl (refl, same_id_is id x.1 k))
        by_test false k h rest = let r = rest h in (r.0, inr r.1)

-- where one is closed, what was seen is still, or that one alone showed it
pub viewed_beside : (views : Views) (number : ℕ) (id : SnapId) → is_viewed views id ≡ true → (is_viewed (remove views number) id ≡ true) ⊎ (get views number ≡ Some id)
viewed_beside views number id e =
    let k = viewed_by views id e in
    ⊎_elim
    (λ (same : k.0 ≡ number). inr (ap (get views) (sym same) ∙ k.1))
    (λ other. inl (viewed (remove views number) k.0 id (get-remove_other view_order views number k.0 other ∙ k.1)))
    (key_cases view_order k.0 number)

-- ---- of those in a list

-- one more of them
pub any_pushed : {A B : Type 0} (p : B → Bool) (value : A → B) (xs : List A) (x : A) → list_any p (map value xs) ≡ false → p (value x) ≡ false → list_any p (map value (xs ++ x ∷ [])) ≡ false
any_pushed p value [] x none e = ap (λ b. b || false) e
any_pushed p value (y ∷ ys) x none e = by_test (p (value y)) none (any_pushed p value ys x)
  where
    by_test : (b : Bool) → (b || list_any p (map value ys)) ≡ false → (list_any p (map value ys) ≡ false → p (value x) ≡ false → list_any p (map value (ys ++ x ∷ [])) ≡ false)
        → (b || list_any p (map value (ys ++ x ∷ []))) ≡ false
    by_test true k ih = absurd (true≢false k)
    by_test false k ih = ih k e

-- one that is there
pub any_here : {A : Type 0} (p : A → Bool) (xs : List A) (x : A) (ys : List A) → p x ≡ true → list_any p (xs ++ x ∷ ys) ≡ true
any_here p [] x ys e = ap (λ b. b || list_any p ys) e
any_here p (z ∷ xs) x ys e = or_right (p z) (list_any p (xs ++ x ∷ ys)) (any_here p xs x ys e)

-- ---- of later groups

pub any_later : (p : SnapId → Bool) (group : ℕ) (us : List Snap) → list_any p (map id_of (filter (λ (u : Snap). nat_lt group u.group) us)) ≡ list_any (λ (u : Snap). nat_lt group u.group && p (id_of u)) us
any_later p group [] = refl
any_later p group (u ∷ us) = by_test (nat_lt group u.group) (any_later p group us)
  where
    by_test : (b : Bool) → list_any p (map id_of (filter (λ (u : Snap). nat_lt group u.group) us)) ≡ list_any (λ (u : Snap). nat_lt group u.group && p (id_of u)) us
        → list_any p (map id_of (cond b (u ∷ filter (λ (u : Snap). nat_lt group u.group) us) (filter (λ (u : Snap). nat_lt group u.group) us)))
        ≡ ((b && p (id_of u)) || list_any (λ (u : Snap). nat_lt group u.group && p (id_of u)) us)
    by_test true ih = ap (λ b. p (id_of u) || b) ih
    by_test false ih = ih
