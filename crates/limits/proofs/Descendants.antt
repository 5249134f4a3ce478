-- Descendants by their parents.
use Rattle.std.proofs.Common.{◌≡◌, ℕ, zero, suc, ◌+◌, ◌≤◌, Bool, true, false, cond, ◌&&◌, ◌||◌, List, [], ◌∷◌, Option, Some, None, refl, sym, ap, subst, ◌∙◌, true≢false, arith}
use Rattle.std.specs.Prelude.{◌==◌}
use Rattle.std.specs.Cmp.{both_ways}
use Rattle.std.specs.Option.{option_map_or}
use Rattle.std.specs.FinMap.{keys}
use Rattle.std.proofs.lemmas.Bool.{eqb-true, eq-eqb}
use Rattle.base.specs.Surveys.{IsIn}
use Rattle.base.specs.Names.{slash, same_name, before_slash, parent_of, is_descendant}
use Rattle.model.specs.Hierarchy.{FileSystems, IsHierarchy}
use Rattle.world.specs.Trees.{total}
use Rattle.world.proofs.lists.Finding.{name_itself, one_name}
use Rattle.world.proofs.lists.Names.{and_false, no_descendant, descendant_by_parent}
use Rattle.world.proofs.lists.Maps.{same_value, no_value}
use Rattle.limits.specs.Levels.{slashes}
use Rattle.limits.specs.Space.{is_in_family}
use Rattle.limits.proofs.Totals.{total_same, total_plus, total_zero}
use Rattle.limits.proofs.Names.{is_child, level_up, keys_once, parent_in}
use Rattle.limits.proofs.Root.{total_one}

-- ---- names

-- no name descends from itself
pub not_below_itself : (name : List ℕ) → is_descendant name name ≡ false
not_below_itself [] = refl
not_below_itself (b ∷ bs) = ap (λ x. (b == b) && x) (not_below_itself bs) ∙ and_false (b == b)

pub name_either_way : (p q : List ℕ) → same_name p q ≡ same_name q p
name_either_way p q = both_ways (same_name p q) (same_name q p) (turn p q) (turn q p)
  where
    turn : (a b : List ℕ) → same_name a b ≡ true → same_name b a ≡ true
    turn a b t = ap (same_name b) (one_name a b t) ∙ name_itself b

-- the family is the file system itself and its descendants, apart
pub family_parts : (name x : List ℕ) (v : ℕ) → cond (is_in_family name x) v 0 ≡ cond (same_name x name) v 0 + cond (is_descendant name x) v 0
family_parts name x v = at (same_name x name) refl (is_descendant name x) refl
  where
    at : (s : Bool) → same_name x name ≡ s → (d : Bool) → is_descendant name x ≡ d → cond (s || d) v 0 ≡ cond s v 0 + cond d v 0
    at true e true f = absurd (true≢false (sym f ∙ ap (is_descendant name) (one_name x name e) ∙ not_below_itself name))
    at true e false f = omega arith
    at false e d f = omega arith

-- ---- a descendant descends from one child alone

cond_plus : (b : Bool) (x y : ℕ) → cond b (x + y) 0 ≡ cond b x 0 + cond b y 0
cond_plus true x y = refl
cond_plus false x y = refl

cond_swap : (a b : Bool) (v : ℕ) → cond a (cond b v 0) 0 ≡ cond b (cond a v 0) 0
cond_swap true true v = refl
cond_swap true false v = refl
cond_swap false true v = refl
cond_swap false false v = refl

cond_none : (b : Bool) → cond {A = ℕ} b 0 0 ≡ 0
cond_none true = refl
cond_none false = refl

module _ (ss : FileSystems) (good : IsHierarchy ss) (name : List ℕ) (v : ℕ) where
  -- the sum over the children of whose family a name is
  over_children : List ℕ → ℕ
  over_children x = total (λ c. cond (is_child name c) (cond (is_in_family c x) v 0) 0) (keys ss)

  itself : (x : List ℕ) → IsIn (keys ss) x → total (λ c. cond (is_child name c) (cond (same_name x c) v 0) 0) (keys ss) ≡ cond (is_child name x) v 0
  itself x i =
      total_same _ _ (keys ss) (λ c k. cond_swap (is_child name c) (same_name x c) v)
      ∙ total_one (same_name x) (λ c. cond (is_child name c) v 0) (keys ss) x (keys_once ss) i (name_itself x) (λ c k t. sym (one_name x c t))

  split : (x : List ℕ) → IsIn (keys ss) x
      → over_children x ≡ cond (is_child name x) v 0 + total (λ c. cond (is_child name c) (cond (is_descendant c x) v 0) 0) (keys ss)
  unfolding over_children
  split x i =
      total_same _ _ (keys ss) (λ c k. ap (λ n. cond (is_child name c) n 0) (family_parts c x v) ∙ cond_plus (is_child name c) (cond (same_name x c) v 0) (cond (is_descendant c x) v 0))
      ∙ total_plus (λ c. cond (is_child name c) (cond (same_name x c) v 0) 0) (λ c. cond (is_child name c) (cond (is_descendant c x) v 0) 0) (keys ss)
      ∙ ap (λ n. n + total (λ c. cond (is_child name c) (cond (is_descendant c x) v 0) 0) (keys ss)) (itself x i)

  -- of a name with no parent
  top_level : (x : List ℕ) → IsIn (keys ss) x → parent_of x ≡ None → over_children x ≡ cond (is_descendant name x) v 0
  top_level x i e =
      let s = split x i in
      let a : cond (is_child name x) v 0 ≡ 0 = ap (λ q. cond (option_map_or (same_name name) q false) v 0) e in
      let b = total_same (λ c. cond (is_child name c) (cond (is_descendant c x) v 0) 0) (λ c. 0) (keys ss)
      (λ c k. ap (λ t. cond (is_child name c) (cond t v 0) 0) (no_descendant c x e) ∙ cond_none (is_child name c)) in
      let z = total_zero (keys ss) in
      let d : cond (is_descendant name x) v 0 ≡ 0 = ap (λ t. cond t v 0) (no_descendant name x e) in
      omega (arith, s, a, b, z, d)

  -- of a name from its parent's
  lower_level : (x parent : List ℕ) → IsIn (keys ss) x → parent_of x ≡ Some parent → over_children parent ≡ cond (is_descendant name parent) v 0
      → over_children x ≡ cond (is_descendant name x) v 0
  unfolding over_children
  lower_level x parent i e ih =
      let s = split x i in
      let a : cond (is_child name x) v 0 ≡ cond (same_name parent name) v 0 =
      ap (λ q. cond (option_map_or (same_name name) q false) v 0) e ∙ ap (λ t. cond t v 0) (name_either_way name parent) in
      let b = total_same (λ c. cond (is_child name c) (cond (is_descendant c x) v 0) 0) (λ c. cond (is_child name c) (cond (is_in_family c parent) v 0) 0) (keys ss)
      (λ c k. ap (λ t. cond (is_child name c) (cond t v 0) 0) (descendant_by_parent c x parent e)) in
      let d : cond (is_descendant name x) v 0 ≡ cond (is_in_family name parent) v 0 = ap (λ t. cond t v 0) (descendant_by_parent name x parent e) in
      let f = family_parts name parent v in
      omega (arith, s, a, b, d, f, ih)

  by_level : (k : ℕ) (x : List ℕ) → slashes x ≤ k → IsIn (keys ss) x → over_children x ≡ cond (is_descendant name x) v 0
  by_level zero x l i = at (parent_of x) refl
    where
      at : (q : Option (List ℕ)) → parent_of x ≡ q → over_children x ≡ cond (is_descendant name x) v 0
      at None e = top_level x i e
      at (Some parent) e = let u = level_up x parent e in absurd (omega (arith, u, l))
  by_level (suc k) x l i = at (λ parent low is. by_level k parent low is) (parent_of x) refl
    where
      at : ((parent : List ℕ) → slashes parent ≤ k → IsIn (keys ss) parent → over_children parent ≡ cond (is_descendant name parent) v 0)
          → (q : Option (List ℕ)) → parent_of x ≡ q → over_children x ≡ cond (is_descendant name x) v 0
      at ih None e = top_level x i e
      at ih (Some parent) e = let u = level_up x parent e in lower_level x parent i e (ih parent (omega (arith, u, l)) (parent_in ss good x parent i e))

  -- of the children one alone has a descendant in its family
  pub of_one_child : (x : List ℕ) → IsIn (keys ss) x
      → total (λ c. cond (is_child name c) (cond (is_in_family c x) v 0) 0) (keys ss) ≡ cond (is_descendant name x) v 0
  unfolding over_children
  of_one_child x i = by_level (slashes x) x (omega arith) i
