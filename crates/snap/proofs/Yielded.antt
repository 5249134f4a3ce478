-- What a walk over the snapshots of a file system has yielded, and those up to a group.
use Rattle.std.proofs.Common.{◌≡◌, ℕ, ◌<◌, ◌&&◌, ◌||◌, Bool, true, false, cond, List, [], ◌∷◌, ◌++◌, Bor, map, refl, sym, ap, subst, ◌∙◌, inl, inr, ⊎_elim, is_gt, nat_cmp, true≢false, arith}
use Rattle.std.specs.Cmp.{nat_cmp_is}
use Rattle.std.specs.declared.cmp.Ordering.TheVariants.{Less, Equal, Greater}
use Rattle.std.proofs.lemmas.Bool.{cases_lt, lt-ltb, le-ltb, ltb-true, ltb-false, le-leb, leb-true}
use Rattle.std.proofs.lemmas.List.{map-append}
use Rattle.std.specs.Prelude.{nat_lt, nat_le}
use Rattle.std.specs.List.{filter, list_any}
use Rattle.std.specs.Iterator.{Yields, YieldsFirstRef}
use Rattle.model.specs.World.{Snap}
use Rattle.snapshots.specs.declared.kept.Kept.{Kept}
use Rattle.datasets.specs.Dead.{snaps_in}
use Rattle.base.specs.Surveys.{IsIn}
use Rattle.world.specs.Worlds.{AreRising}
use Rattle.world.proofs.lineage.Bridge.{rising_above, rising_after}
use Rattle.world.proofs.lists.Finding.{append_none}

-- ---- what a walk has yielded

-- those that were yielded, and then those that are left
pub yielded_front : {S A : Type 0} (rest : S → List A) (s : S) (xs : List (Bor A)) (t : S) → Yields (YieldsFirstRef rest) s xs t → rest s ≡ map (λ x. x.now) xs ++ rest t
yielded_front rest s [] t y = ap rest y
yielded_front rest s (x ∷ xs) t y = y.1 ∙ ap (λ ys. x.now ∷ ys) (yielded_front rest y.0 xs t y.2)

-- all of it, where nothing is left
pub yielded_all : {S A : Type 0} (rest : S → List A) (s : S) (xs : List (Bor A)) (t : S) → Yields (YieldsFirstRef rest) s xs t → rest t ≡ [] → rest s ≡ map (λ x. x.now) xs
yielded_all rest s xs t y none = yielded_front rest s xs t y ∙ ap (λ ys. map (λ x. x.now) xs ++ ys) none ∙ append_none _

-- the snapshots of those that were yielded
pub snaps_yielded : (xs : List (Bor Kept)) → map (λ (x : Bor Kept). x.now.snapshot) xs ≡ snaps_in (map (λ x. x.now) xs)
snaps_yielded [] = refl
snaps_yielded (x ∷ xs) = ap (λ l. x.now.snapshot ∷ l) (snaps_yielded xs)

-- a later group
pub gt_is : (a g : ℕ) → is_gt (nat_cmp a g) ≡ nat_lt g a
gt_is a g = ⊎_elim
    (λ l. ap is_gt (sym (nat_cmp_is a g Greater l)) ∙ sym (lt-ltb g a l))
    (λ l. ⊎_elim
    (λ m. ap is_gt (sym (nat_cmp_is a g Less m)) ∙ sym (le-ltb g a l))
    (λ m. ap is_gt (sym (nat_cmp_is a g Equal (omega arith))) ∙ sym (le-ltb g a l))
    (cases_lt a g))
    (cases_lt g a)

any_joined : (p : Snap → Bool) (xs ys : List Snap) → list_any p xs ≡ false → list_any p ys ≡ false → list_any p (xs ++ ys) ≡ false
any_joined p [] ys none e = e
any_joined p (x ∷ xs) ys none e = by_test (p x) none (λ k. any_joined p xs ys k e)
  where
    by_test : (b : Bool) → (b || list_any p xs) ≡ false → (list_any p xs ≡ false → list_any p (xs ++ ys) ≡ false) → (b || list_any p (xs ++ ys)) ≡ false
    by_test true k ih = absurd (true≢false k)
    by_test false k ih = ih k

any_here : (p : Snap → Bool) (xs : List Snap) (x : Snap) (ys : List Snap) → p x ≡ true → list_any p (xs ++ x ∷ ys) ≡ true
any_here p [] x ys e = ap (λ b. b || list_any p ys) e
any_here p (z ∷ xs) x ys e = or_right (p z) (list_any p (xs ++ x ∷ ys)) (any_here p xs x ys e)
  where
    or_right : (a b : Bool) → b ≡ true → (a || b) ≡ true
    or_right true b e = refl
    or_right false b e = e

-- ---- those that pass a test

module _ (p : Snap → Bool) where
  -- one that is yielded does
  pub one_passes : (us : List Snap) (xs : List (Bor Kept)) (x : Kept) (ys : List Kept) → us ≡ snaps_in (map (λ (x : Bor Kept). x.now) xs ++ x ∷ ys) → p x.snapshot ≡ true → list_any p us ≡ true
  one_passes us xs x ys is e =
      ap (list_any p) (is ∙ map-append {B = Snap} (λ (k : Kept). k.snapshot) (map (λ (x : Bor Kept). x.now) xs) (x ∷ ys))
      ∙ any_here p (snaps_in (map (λ (x : Bor Kept). x.now) xs)) x.snapshot (snaps_in ys) e

  -- none did in the whole walk
  pub none_passes : (us : List Snap) (xs : List (Bor Kept)) → list_any p (map (λ (x : Bor Kept). x.now.snapshot) xs) ≡ false → us ≡ snaps_in (map (λ (x : Bor Kept). x.now) xs) → list_any p us ≡ false
  none_passes us xs none is = ap (list_any p) (is ∙ sym (snaps_yielded xs)) ∙ none

  -- the next one doesn't
  pub next_fails : (xs : List (Bor Kept)) → list_any p (map (λ (x : Bor Kept). x.now.snapshot) xs) ≡ false → (x : Bor Kept) → p x.now.snapshot ≡ false
      → list_any p (map (λ (x : Bor Kept). x.now.snapshot) (xs ++ x ∷ [])) ≡ false
  next_fails xs none x e =
      ap (list_any p) (map-append {B = Snap} (λ (x : Bor Kept). x.now.snapshot) xs (x ∷ []))
      ∙ any_joined p (map (λ (x : Bor Kept). x.now.snapshot) xs) (x.now.snapshot ∷ []) none (ap (λ b. b || false) e)

-- ---- those of a group up to this one

module _ (p : Snap → Bool) (group : ℕ) where
  -- of a group up to this one, and it passes the test
  abbrev pub is_early : Snap → Bool
  is_early u = nat_le u.group group && p u

  any_early : (us : List Snap) → list_any p (filter (λ (u : Snap). nat_le u.group group) us) ≡ list_any is_early us
  any_early [] = refl
  any_early (u ∷ us) = by_test (nat_le u.group group) (any_early us)
    where
      by_test : (b : Bool) → list_any p (filter (λ (u : Snap). nat_le u.group group) us) ≡ list_any is_early us
          → list_any p (cond b (u ∷ filter (λ (u : Snap). nat_le u.group group) us) (filter (λ (u : Snap). nat_le u.group group) us)) ≡ ((b && p u) || list_any is_early us)
      by_test true ih = ap (λ b. p u || b) ih
      by_test false ih = ih

  -- a later one isn't
  later : (u : Snap) → group < u.group → is_early u ≡ false
  later u h = by_test (nat_le u.group group) (λ e. let l = leb-true u.group group e in absurd (omega arith))
    where
      by_test : (b : Bool) → (b ≡ true → ⊥) → (b && p u) ≡ false
      by_test true k = absurd (k refl)
      by_test false k = refl

  all_later : (us : List Snap) → ((u : Snap) → IsIn us u → group < u.group) → list_any is_early us ≡ false
  all_later [] h = refl
  all_later (u ∷ us) h = λ i. later u (h u (inl refl)) i || all_later us (λ v k. h v (inr k)) i

  module _ (us : List Snap) (xs : List (Bor Kept)) (none : list_any is_early (map (λ (x : Bor Kept). x.now.snapshot) xs) ≡ false) where
    -- the walk is at its end
    pub none_early : us ≡ snaps_in (map (λ (x : Bor Kept). x.now) xs) → list_any p (filter (λ (u : Snap). nat_le u.group group) us) ≡ false
    none_early is = any_early us ∙ ap (list_any is_early) (is ∙ sym (snaps_yielded xs)) ∙ none

    module _ (x : Kept) where
      none_yet : list_any is_early (snaps_in (map (λ (x : Bor Kept). x.now) xs)) ≡ false
      none_yet = ap (list_any is_early) (sym (snaps_yielded xs)) ∙ none

      module _ (ys : List Kept) (is : us ≡ snaps_in (map (λ (x : Bor Kept). x.now) xs ++ x ∷ ys)) where
        joined : us ≡ snaps_in (map (λ (x : Bor Kept). x.now) xs) ++ x.snapshot ∷ snaps_in ys
        joined = is ∙ map-append {B = Snap} (λ (k : Kept). k.snapshot) (map (λ (x : Bor Kept). x.now) xs) (x ∷ ys)

        -- the next one is later, and so are all that come after it
        pub none_left : AreRising 0 us → nat_lt group x.snapshot.group ≡ true → list_any p (filter (λ (u : Snap). nat_le u.group group) us) ≡ false
        none_left up e =
            let rising = subst (AreRising 0) joined up in
            let here = ltb-true group x.snapshot.group e in
            let after = rising_after 0 (snaps_in (map (λ (x : Bor Kept). x.now) xs)) x.snapshot (snaps_in ys) rising in
            any_early us ∙ ap (list_any is_early) joined
            ∙ any_joined is_early (snaps_in (map (λ (x : Bor Kept). x.now) xs)) (x.snapshot ∷ snaps_in ys) none_yet
            (all_later (x.snapshot ∷ snaps_in ys) (λ u i. ⊎_elim
            (λ (k : u ≡ x.snapshot). let l = ap (λ (y : Snap). y.group) k in omega arith)
            (λ k. let l = rising_above x.snapshot.group (snaps_in ys) u after k in omega arith)
            i))

        -- the next one is early and passes the test
        pub one_early : nat_lt group x.snapshot.group ≡ false → p x.snapshot ≡ true → list_any p (filter (λ (u : Snap). nat_le u.group group) us) ≡ true
        one_early e is_so =
            let l = ltb-false group x.snapshot.group e in
            any_early us ∙ ap (list_any is_early) joined
            ∙ any_here is_early (snaps_in (map (λ (x : Bor Kept). x.now) xs)) x.snapshot (snaps_in ys) (λ i. le-leb x.snapshot.group group l i && is_so i)

    -- the next one doesn't pass the test
    pub still_none : (x : Bor Kept) → p x.now.snapshot ≡ false → list_any is_early (map (λ (x : Bor Kept). x.now.snapshot) (xs ++ x ∷ [])) ≡ false
    still_none x e = next_fails is_early xs none x (and_false (nat_le x.now.snapshot.group group) (p x.now.snapshot) e)
      where
        and_false : (a b : Bool) → b ≡ false → (a && b) ≡ false
        and_false true b e = e
        and_false false b e = refl
