-- The depth law: where two worlds differ at some file systems, only these and those above them use another amount.
use Rattle.std.proofs.Common.{◌≡◌, ℕ, zero, suc, ◌+◌, List, [], ◌∷◌, Option, Some, None, refl, sym, ap, subst, inl, ⊎_elim, arith}
use Rattle.std.specs.Option.{option_and_then}
use Rattle.base.specs.Surveys.{IsIn, AreDifferent}
use Rattle.base.specs.Names.{parent_of}
use Rattle.model.specs.World.{World}
use Rattle.model.specs.Sums.{used_of, used_by_children}
use Rattle.world.specs.Trees.{total}
use Rattle.model.specs.Hierarchy.{IsHierarchy}
use Rattle.world.proofs.lists.Maps.{no_value}
use Rattle.limits.specs.Levels.{slashes, above, IsUnder, charge_of, IsNoMore, IsSameHere, AreSameBut}
use Rattle.limits.proofs.Names.{level_up, above_is, under_child, one_path}
use Rattle.limits.proofs.Levels.{used-split, used_no_more, but_some}

same_more : (old new : World) (name : List ℕ) → IsSameHere old new name → IsNoMore old new name
same_more old new name h = let a = h.here in let b = h.reserved in record { here = omega (arith, a); reserved = omega (arith, b) }

same_less : (old new : World) (name : List ℕ) → IsSameHere old new name → IsNoMore new old name
same_less old new name h = let a = h.here in let b = h.reserved in record { here = omega (arith, a); reserved = omega (arith, b) }

module _ (old new : World) (good : IsHierarchy old.file_systems) (good' : IsHierarchy new.file_systems) (ms : List (List ℕ)) (same : AreSameBut old new ms) where
  -- where nothing changed at or below a name, it uses the same and is charged the same
  pub used_away : (name : List ℕ) → ((m : List ℕ) → IsIn ms m → ¬ (IsUnder name m)) → used_of new name ≡ used_of old name
  used_away name out =
      let h = λ (lower : List ℕ) (u : IsUnder name lower). same lower (λ i. out lower i u) in
      let a = used_no_more old new good good' name (λ lower u. same_more old new lower (h lower u)) in
      let b = used_no_more new old good' good name (λ lower u. same_less old new lower (h lower u)) in
      omega (arith, a, b)

  -- usedbychildren changes by what the charges of those children change that have a changed file system at or below them
  pub children_change : (name : List ℕ) (cs : List (List ℕ)) → AreDifferent cs → ((c : List ℕ) → IsIn cs c → parent_of c ≡ Some name)
      → ((child : List ℕ) → parent_of child ≡ Some name → ¬ (IsIn cs child) → (m : List ℕ) → IsIn ms m → ¬ (IsUnder child m))
      → used_by_children new name + total (charge_of old) cs ≡ used_by_children old name + total (charge_of new) cs
  children_change name cs d named all =
      let a = but_some old new good good' name cs d named (λ child e n lower u. same_more old new lower (same lower (λ i. all child e n lower i u))) in
      let b = but_some new old good' good name cs d named (λ child e n lower u. same_less old new lower (same lower (λ i. all child e n lower i u))) in
      omega (arith, a, b)

-- ---- one file system changed

module _ (old new : World) (good : IsHierarchy old.file_systems) (good' : IsHierarchy new.file_systems) (m : List ℕ) (same : AreSameBut old new (m ∷ [])) where
  -- its children, and what these use, stay
  pub own_children : used_by_children new m ≡ used_by_children old m
  own_children =
      let a = children_change old new good good' (m ∷ []) same m [] tt (λ c i. absurd i) (λ child e n q i u.
      let l = level_up child m e in
      let a = above_is u.0 q child u.1 in
      let s : slashes q ≡ slashes m = ap slashes (⊎_elim (λ is. is) (λ k. absurd k) i) in
      absurd (omega (arith, l, a, s))) in
      omega (arith, a)

  -- a level up, of `used` by children the charge of the one child on the way changes
  pub children_walk : (name c : List ℕ) → parent_of c ≡ Some name → IsUnder c m
      → used_by_children new name + charge_of old c ≡ used_by_children old name + charge_of new c
  children_walk name c e u =
      let a = children_change old new good good' (m ∷ []) same name (c ∷ []) ((λ i. i), tt) (λ x i. subst (λ y. parent_of y ≡ Some name) (⊎_elim (λ is. sym is) (λ k. absurd k) i) e)
      (λ child f n q i v. n (inl (one_path name child c m f e (subst (IsUnder child) (⊎_elim (λ is. is) (λ k. absurd k) i) v) u))) in
      omega (arith, a)

  -- and so does `used`
  pub used_walk : (name c : List ℕ) → parent_of c ≡ Some name → IsUnder c m → used_of new name + charge_of old c ≡ used_of old name + charge_of new c
  used_walk name c e u =
      let a = children_walk name c e u in
      let x = used-split old good name in
      let y = used-split new good' name in
      let h = (same name (λ i.
      let l = level_up c name e in
      let b = above_is u.0 m c u.1 in
      let s : slashes name ≡ slashes m = ap slashes (⊎_elim (λ is. is) (λ k. absurd k) i) in
      absurd (omega (arith, l, b, s)))).here in
      omega (arith, a, x, y, h)

  reserved_above : (name c : List ℕ) → parent_of c ≡ Some name → IsUnder c m → IsSameHere old new name
  reserved_above name c e u = same name (λ i.
      let l = level_up c name e in
      let b = above_is u.0 m c u.1 in
      let s : slashes name ≡ slashes m = ap slashes (⊎_elim (λ is. is) (λ k. absurd k) i) in
      absurd (omega (arith, l, b, s)))

  -- above a level that is charged the same nothing changes
  pub change_stops : (c : List ℕ) → IsUnder c m → charge_of new c ≡ charge_of old c → (k : ℕ) (name : List ℕ) → above (suc k) c ≡ Some name
      → (used_of new name ≡ used_of old name) × (charge_of new name ≡ charge_of old name) × IsUnder name m
  change_stops c u e zero name h =
      let a = used_walk name c h u in
      let r = (reserved_above name c h u).reserved in
      (omega (arith, a, e), omega (arith, a, e, r), under_child name c m h u)
  change_stops c u e (suc k) name h = at (λ q f. change_stops c u e k q f) (above (suc k) c) refl h
    where
      at : ((q : List ℕ) → above (suc k) c ≡ Some q → (used_of new q ≡ used_of old q) × (charge_of new q ≡ charge_of old q) × IsUnder q m)
          → (x : Option (List ℕ)) → above (suc k) c ≡ x → option_and_then parent_of x ≡ Some name
          → (used_of new name ≡ used_of old name) × (charge_of new name ≡ charge_of old name) × IsUnder name m
      at ih None f g = absurd (no_value name g)
      at ih (Some q) f g =
          let r = ih q f in
          let a = used_walk name q g r.2 in
          let s = (reserved_above name q g r.2).reserved in
          let b = r.1 in
          (omega (arith, a, b), omega (arith, a, b, s), under_child name q m g r.2)
