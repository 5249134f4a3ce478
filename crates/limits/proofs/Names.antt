-- The hierarchy of file systems by their names.
use Rattle.std.proofs.Common.{◌≡◌, ℕ, zero, suc, ◌+◌, ◌-◌, ◌<◌, Bool, true, false, cond, List, [], ◌∷◌, Option, Some, None, refl, sym, ap, subst, ◌∙◌, true≢false, inl, inr, ⊎_elim, ◌⊎◌, arith}
use Rattle.std.specs.Prelude.{IsSome, is_some, ◌==◌}
use Rattle.std.specs.Option.{option_map_or, option_and_then}
use Rattle.std.specs.FinMap.{get, entries, keys}
use Rattle.std.specs.FinMap as finmap
use Rattle.base.specs.Surveys.{IsIn, AreDifferent}
use Rattle.base.specs.Names.{slash, same_name, before_slash, parent_of}
use Rattle.model.specs.World.{World, FileSystem, children_of}
use Rattle.world.specs.Shapes.{name_order}
use Rattle.model.specs.Hierarchy.{FileSystems, IsHierarchy}
use Rattle.world.proofs.lineage.Put.{parent_there}
use Rattle.world.proofs.lists.Finding.{name_itself, one_name, in_filter, from_filter}
use Rattle.world.proofs.lists.Maps.{same_value, no_value, some_of, key_cases}
use Rattle.world.proofs.lists.Listed.{length-mapped}
use Rattle.world.proofs.lists.Lists.{once_filter}
use Rattle.limits.specs.Levels.{slashes, above, IsUnder}
use Rattle.limits.proofs.Keys as map_keys
use Rattle.limits.proofs.Totals.{levels_few}

-- ---- levels

-- a name with no parent is one component
level_none : (name : List ℕ) → parent_of name ≡ None → slashes name ≡ 0
level_none [] e = refl
level_none (b ∷ bs) e = at (parent_of bs) refl (b == slash) refl e (level_none bs)
  where
    at : (p : Option (List ℕ)) → parent_of bs ≡ p → (t : Bool) → (b == slash) ≡ t → before_slash b (parent_of bs) ≡ None
        → (parent_of bs ≡ None → slashes bs ≡ 0) → cond {A = ℕ} (b == slash) 1 0 + slashes bs ≡ 0
    at None h true t f ih = absurd (no_value [] (sym f ∙ rw (h, t) refl))
    at None h false t f ih = let z = ih h in let w = ap (λ x. cond {A = ℕ} x 1 0) t in omega (arith, z, w)
    at (Some front) h true t f ih = absurd (no_value (b ∷ front) (sym f ∙ ap (before_slash b) h))
    at (Some front) h false t f ih = absurd (no_value (b ∷ front) (sym f ∙ ap (before_slash b) h))

-- a parent is one level up
pub level_up : (name parent : List ℕ) → parent_of name ≡ Some parent → slashes name ≡ slashes parent + 1
level_up [] parent e = absurd (no_value parent e)
level_up (b ∷ bs) parent e = at (parent_of bs) refl (b == slash) refl e (level_up bs)
  where
    at : (p : Option (List ℕ)) → parent_of bs ≡ p → (t : Bool) → (b == slash) ≡ t → before_slash b (parent_of bs) ≡ Some parent
        → ((q : List ℕ) → parent_of bs ≡ Some q → slashes bs ≡ slashes q + 1) → cond {A = ℕ} (b == slash) 1 0 + slashes bs ≡ slashes parent + 1
    at None h true t f ih =
        let is : [] ≡ parent = same_value [] parent (sym (rw (h, t) refl) ∙ f) in
        let z = level_none bs h in
        let w = ap (λ x. cond {A = ℕ} x 1 0) t in
        let s = ap slashes is in
        omega (arith, z, w, s)
    at None h false t f ih = absurd (no_value parent (sym (rw (h, t) refl) ∙ f))
    at (Some front) h true t f ih =
        let is : b ∷ front ≡ parent = same_value (b ∷ front) parent (sym (ap (before_slash b) h) ∙ f) in
        let z = ih front h in
        let s = ap slashes is in
        omega (arith, z, s)
    at (Some front) h false t f ih =
        let is : b ∷ front ≡ parent = same_value (b ∷ front) parent (sym (ap (before_slash b) h) ∙ f) in
        let z = ih front h in
        let s = ap slashes is in
        omega (arith, z, s)

-- ---- above and under

pub above_is : (k : ℕ) (lower name : List ℕ) → above k lower ≡ Some name → slashes lower ≡ slashes name + k
above_is zero lower name e = let s = ap slashes (same_value lower name e) in omega (arith, s)
above_is (suc k) lower name e = at (λ q h. above_is k lower q h) (above k lower) refl e
  where
    at : ((q : List ℕ) → above k lower ≡ Some q → slashes lower ≡ slashes q + k)
        → (x : Option (List ℕ)) → above k lower ≡ x → option_and_then parent_of x ≡ Some name → slashes lower ≡ slashes name + suc k
    at ih None h f = absurd (no_value name f)
    at ih (Some q) h f = let r = ih q h in let l = level_up q name f in omega (arith, r, l)

pub under_itself : (name : List ℕ) → IsUnder name name
under_itself name = (zero, refl)

pub under_child : (name child lower : List ℕ) → parent_of child ≡ Some name → IsUnder child lower → IsUnder name lower
under_child name child lower e u = (suc u.0, ap (option_and_then parent_of) u.1 ∙ e)

-- one child of a name alone is above a name
pub one_path : (name c d lower : List ℕ) → parent_of c ≡ Some name → parent_of d ≡ Some name → IsUnder c lower → IsUnder d lower → c ≡ d
one_path name c d lower e f u v =
    let a = above_is u.0 lower c u.1 in
    let b = above_is v.0 lower d v.1 in
    let x = level_up c name e in
    let y = level_up d name f in
    let k : u.0 ≡ v.0 = omega (arith, a, b, x, y) in
    same_value c d (sym u.1 ∙ ap (λ n. above n lower) k ∙ v.1)

-- ---- what can be decided

pub in_or_out : (ns : List (List ℕ)) (name : List ℕ) → IsIn ns name ⊎ ¬ (IsIn ns name)
in_or_out [] name = inr (λ i. i)
in_or_out (n ∷ ns) name = ⊎_elim
    (λ is. inl (inl is))
    (λ ne. ⊎_elim (λ i. inl (inr i)) (λ o. inr (λ k. ⊎_elim ne o k)) (in_or_out ns name))
    (key_cases name_order name n)

pub under_or_not : (name lower : List ℕ) → IsUnder name lower ⊎ ¬ (IsUnder name lower)
under_or_not name lower = at (above (slashes lower - slashes name) lower) refl
  where
    that : (k : ℕ) → above k lower ≡ Some name → k ≡ slashes lower - slashes name
    that k e = let l = above_is k lower name e in omega (arith, l)

    at : (x : Option (List ℕ)) → above (slashes lower - slashes name) lower ≡ x → IsUnder name lower ⊎ ¬ (IsUnder name lower)
    at None e = inr (λ u. no_value name (sym e ∙ ap (λ k. above k lower) (sym (that u.0 u.1)) ∙ u.1))
    at (Some q) e = ⊎_elim
        (λ is. inl (slashes lower - slashes name, e ∙ ap Some is))
        (λ ne. inr (λ u. ne (same_value q name (sym e ∙ ap (λ k. above k lower) (sym (that u.0 u.1)) ∙ u.1))))
        (key_cases name_order q name)

-- ---- the names of file systems

abbrev pub is_child : List ℕ → List ℕ → Bool
is_child name child = option_map_or (same_name name) (parent_of child) false

pub child_is : (name child : List ℕ) → is_child name child ≡ true → parent_of child ≡ Some name
child_is name child e = at (parent_of child) refl e
  where
    at : (p : Option (List ℕ)) → parent_of child ≡ p → option_map_or (same_name name) p false ≡ true → parent_of child ≡ Some name
    at None h f = absurd (true≢false (sym f))
    at (Some q) h f = h ∙ ap Some (sym (one_name name q f))

pub is_child_of : (name child : List ℕ) → parent_of child ≡ Some name → is_child name child ≡ true
is_child_of name child e = rw e (name_itself name)

module _ (ss : FileSystems) where
  pub in_keys : (name : List ℕ) → IsSome (get ss name) → IsIn (keys ss) name
  in_keys name h = let s = some_of (get ss name) h in map_keys.in_keys name_order ss name s.0 s.1

  pub from_keys : (name : List ℕ) → IsIn (keys ss) name → (s : FileSystem) × (get ss name ≡ Some s)
  from_keys = map_keys.from_keys name_order ss

  pub keys_once : AreDifferent (keys ss)
  keys_once = map_keys.keys_once name_order ss

  module _ (good : IsHierarchy ss) where
    up : (c : List ℕ) → IsIn (keys ss) c → (d : ℕ) → slashes c ≡ d + 1 → (p : List ℕ) × IsIn (keys ss) p × (slashes p ≡ d)
    up c i d e = ⊎_elim
        (λ is. let z = ap slashes is in absurd (omega (arith, z, e)))
        (λ h. let p = parent_there ss c h in let l = level_up c p.parent p.named in (p.parent, in_keys p.parent p.there, omega (arith, l, e)))
        (good.parents c (ap is_some (from_keys c i).1))

    -- a level is below the number of file systems
    pub level_low : (c : List ℕ) → IsIn (keys ss) c → slashes c < finmap.len ss
    level_low c i =
        let l = levels_few slashes (keys ss) up c i in
        let n = length-mapped (λ (e : List ℕ × FileSystem). e.0) (entries ss) in
        let e = finmap.len-entries ss in
        omega (arith, l, n, e)

    -- the parent of a file system that is no root is there
    pub parent_in : (c parent : List ℕ) → IsIn (keys ss) c → parent_of c ≡ Some parent → IsIn (keys ss) parent
    parent_in c parent i e = ⊎_elim
        (λ is. let z = ap slashes is in let l = level_up c parent e in absurd (omega (arith, z, l)))
        (λ h. let p = parent_there ss c h in in_keys parent (subst (λ q. IsSome (get ss q)) (same_value p.parent parent (sym p.named ∙ e)) p.there))
        (good.parents c (ap is_some (from_keys c i).1))

-- ---- children

pub children_once : (w : World) (name : List ℕ) → AreDifferent (children_of w name)
children_once w name = once_filter name_order (is_child name) (keys w.file_systems) (keys_once w.file_systems)

pub in_children : (w : World) (name child : List ℕ) → parent_of child ≡ Some name → IsIn (keys w.file_systems) child → IsIn (children_of w name) child
in_children w name child e i = in_filter (is_child name) (keys w.file_systems) child i (is_child_of name child e)

pub from_children : (w : World) (name child : List ℕ) → IsIn (children_of w name) child → IsIn (keys w.file_systems) child × (parent_of child ≡ Some name)
from_children w name child h = let r = from_filter (is_child name) (keys w.file_systems) child h in (r.0, child_is name child r.1)
