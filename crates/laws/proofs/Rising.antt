-- Snapshots in order of their groups.
use Rattle.std.proofs.Common.{◌≡◌, ℕ, ◌<◌, ◌≤◌, Bool, true, false, cond, List, [], ◌∷◌, ◌++◌, map, Option, Some, None, refl, sym, ap, subst, ◌∙◌, ◌⊎◌, inl, inr, ⊎_elim, arith}
use Rattle.std.specs.List.{filter, last_or}
use Rattle.std.specs.Option.{option_map, option_or}
use Rattle.base.specs.Surveys.{IsIn}
use Rattle.model.specs.World.{Snap, SnapId, id_of}
use Rattle.world.specs.Worlds.{AreRising}
use Rattle.world.proofs.lineage.Bridge.{rising_up}
use Rattle.world.proofs.lists.Maps.{same_value}

-- ---- the last of a list

-- it is one of them
pub last_in : (xs : List Snap) (o : Option Snap) (t : Snap) → last_or o xs ≡ Some t → (o ≡ Some t) ⊎ IsIn xs t
last_in [] o t e = inl e
last_in (x ∷ xs) o t e = ⊎_elim (λ k. inr (inl (sym (same_value x t k)))) (λ i. inr (inr i)) (last_in xs (Some x) t e)

pub last_added : (xs : List Snap) (o : Option Snap) (t : Snap) → last_or o (xs ++ t ∷ []) ≡ Some t
last_added [] o t = refl
last_added (x ∷ xs) o t = last_added xs (Some x) t

last_joined : (xs : List Snap) (o : Option Snap) (y : Snap) (ys : List Snap) → last_or o (xs ++ y ∷ ys) ≡ last_or (Some y) ys
last_joined [] o y ys = refl
last_joined (x ∷ xs) o y ys = last_joined xs (Some x) y ys

last_some : (ys : List Snap) (y : Snap) → (t : Snap) × (last_or (Some y) ys ≡ Some t)
last_some [] y = (y, refl)
last_some (z ∷ zs) y = last_some zs z

-- what stands before comes from the list that is joined, or is t, with which the first one ends
pub same_newest : (xs : List Snap) (t : Snap) (ys : List Snap) (x y : Option SnapId) → y ≡ Some (id_of t)
    → option_or (option_map id_of (last_or None ((xs ++ t ∷ []) ++ ys))) x ≡ option_or (option_map id_of (last_or None ys)) y
same_newest xs t [] x y e =
    ap (λ o. option_or (option_map id_of o) x) (ap (last_or None) (none (xs ++ t ∷ [])) ∙ last_added xs None t) ∙ sym e
  where
    none : (zs : List Snap) → zs ++ [] ≡ zs
    none [] = refl
    none (z ∷ zs) = ap (λ l. z ∷ l) (none zs)
same_newest xs t (z ∷ zs) x y e =
    let k = last_some zs z in
    ap (λ o. option_or (option_map id_of o) x) (last_joined (xs ++ t ∷ []) None z zs ∙ k.1)
    ∙ sym (ap (λ o. option_or (option_map id_of o) y) k.1)

-- ---- groups

-- the last has the highest
pub last_highest : (g : ℕ) (xs : List Snap) (t : Snap) → AreRising g xs → last_or None xs ≡ Some t → (u : Snap) → IsIn xs u → u.group ≤ t.group
last_highest g [] t up e u h = absurd h
last_highest g (x ∷ xs) t up e u h = highest xs x t up.1 e u h
  where
    highest : (ys : List Snap) (y t : Snap) → AreRising y.group ys → last_or (Some y) ys ≡ Some t → (u : Snap) → (u ≡ y) ⊎ IsIn ys u → u.group ≤ t.group
    highest [] y t up e u h = ⊎_elim
        (λ (k : u ≡ y). let a = ap (λ (z : Snap). z.group) (k ∙ same_value y t e) in omega arith)
        (λ k. absurd k)
        h
    highest (z ∷ zs) y t up e u h = ⊎_elim
        (λ (k : u ≡ y).
        let a = ap (λ (z : Snap). z.group) k in
        let b = up.0 in
        let c = highest zs z t up.1 e z (inl refl) in
        omega arith)
        (λ k. highest zs z t up.1 e u k)
        h

-- some go
pub rising_filter : (stays : Snap → Bool) (g : ℕ) (xs : List Snap) → AreRising g xs → AreRising g (filter stays xs)
rising_filter stays g [] up = tt
rising_filter stays g (x ∷ xs) up = by_test (stays x) (rising_filter stays x.group xs up.1)
  where
    by_test : (b : Bool) → AreRising x.group (filter stays xs) → AreRising g (cond b (x ∷ filter stays xs) (filter stays xs))
    by_test true rest = (up.0, rest)
    by_test false rest = rising_up x.group g (filter stays xs) (let a = up.0 in omega arith) rest

-- each changed, but not in its group
pub rising_mapped : (change : Snap → Snap) → ((t : Snap) → (change t).group ≡ t.group) → (g : ℕ) (xs : List Snap) → AreRising g xs
    → AreRising g (map {A = Snap} change xs)
rising_mapped change same g [] up = tt
rising_mapped change same g (x ∷ xs) up =
    (subst (λ n. g < n) (sym (same x)) up.0, subst (λ n. AreRising n (map {A = Snap} change xs)) (sym (same x)) (rising_mapped change same x.group xs up.1))

-- one more
pub rising_added : (g : ℕ) (xs : List Snap) (t : Snap) → AreRising g xs → g < t.group → ((u : Snap) → IsIn xs u → u.group < t.group)
    → AreRising g (xs ++ t ∷ [])
rising_added g [] t up l each = (l, tt)
rising_added g (x ∷ xs) t up l each = (up.0, rising_added x.group xs t up.1 (each x (inl refl)) (λ u h. each u (inr h)))

-- the front of a list, and one joined after a snapshot
pub rising_front : (g : ℕ) (xs ys : List Snap) → AreRising g (xs ++ ys) → AreRising g xs
rising_front g [] ys up = tt
rising_front g (x ∷ xs) ys up = (up.0, rising_front x.group xs ys up.1)

pub rising_joined : (g : ℕ) (xs : List Snap) (t : Snap) (ys : List Snap) → AreRising g (xs ++ t ∷ []) → AreRising t.group ys
    → AreRising g ((xs ++ t ∷ []) ++ ys)
rising_joined g [] t ys up rest = (up.0, rest)
rising_joined g (x ∷ xs) t ys up rest = (up.0, rising_joined x.group xs t ys up.1 rest)

-- ---- splits

-- two splits of one list: the second one's front goes on from the first one's, or ends before
pub two_splits : (xs ys zs us : List Snap) → xs ++ ys ≡ zs ++ us
    → ((m : List Snap) × (zs ≡ xs ++ m) × (ys ≡ m ++ us)) ⊎ ((x : Snap) × (m : List Snap) × (xs ≡ zs ++ x ∷ m) × (us ≡ (x ∷ m) ++ ys))
two_splits [] ys zs us e = inl (zs, refl, e)
two_splits (x ∷ xs) ys [] us e = inr (x, xs, refl, sym e)
two_splits (x ∷ xs) ys (z ∷ zs) us e =
    let head : x ≡ z = cc in
    let tail : xs ++ ys ≡ zs ++ us = cc in
    ⊎_elim
    (λ k. inl (k.0, (λ i. sym head i ∷ k.1 i), k.2))
    (λ k. inr (k.0, k.1, (λ i. head i ∷ k.2 i), k.3))
    (two_splits xs ys zs us tail)
