-- Where no file system has a limit, the root uses what all datasets have.
use Rattle.std.proofs.Common.{◌≡◌, ℕ, zero, suc, ◌+◌, ◌-◌, Bool, true, false, cond, List, [], ◌∷◌, Option, Some, None, map, refl, sym, ap, subst, ◌∙◌, inl, inr, ⊎_elim, eqb, arith}
use Rattle.std.specs.Prelude.{max, is_some, unwrap_or}
use Rattle.std.specs.List.{filter}
use Rattle.std.specs.Option.{option_map_or}
use Rattle.std.specs.FinMap.{get, entries, keys}
use Rattle.std.specs.FinMap as finmap
use Rattle.std.specs.FinSet.{len}
use Rattle.std.proofs.lemmas.Bool.{eqb-true}
use Rattle.base.specs.Surveys.{IsIn, AreDifferent}
use Rattle.base.specs.Names.{root_name}
use Rattle.model.specs.World.{World, FileSystem, Live, union_of, children_of}
use Rattle.model.specs.Sums.{used_of, used_here, used_by_children, children_within, reservation_of, used_by_dataset, used_by_snapshots, used_by_refreservation, written_of}
use Rattle.world.specs.Shapes.{name_order}
use Rattle.world.specs.Usage.{IsEntry}
use Rattle.world.specs.Trees.{total, used_within, IsTree}
use Rattle.model.specs.Hierarchy.{IsHierarchy}
use Rattle.world.specs.Worlds.{HasParent, AreFileSystems}
use Rattle.world.proofs.lineage.Put.{parent_there}
use Rattle.world.proofs.lists.Maps.{at_entry, same_value}
use Rattle.world.proofs.maps.Trees.{root_uses_all}
use Rattle.limits.specs.Levels.{slashes}
use Rattle.limits.specs.Limits.{IsUnlimited}
use Rattle.limits.specs.Space.{own_of}
use Rattle.limits.proofs.Totals.{sum-total}
use Rattle.limits.proofs.Names.{is_child, child_is, is_child_of, level_up, level_low, in_keys, from_keys, keys_once}
use Rattle.limits.proofs.Sums.{own_total}

-- where none passes a test, the sum over those that pass is nothing
total_none : (t : List ℕ → Bool) (v : List ℕ → ℕ) (xs : List (List ℕ)) → ((x : List ℕ) → IsIn xs x → t x ≡ true → ⊥) → total (λ x. cond (t x) (v x) 0) xs ≡ 0
total_none t v [] none = refl
total_none t v (x ∷ xs) none = at (t x) refl (total_none t v xs (λ y i. none y (inr i)))
  where
    at : (b : Bool) → t x ≡ b → total (λ x. cond (t x) (v x) 0) xs ≡ 0 → cond b (v x) 0 + total (λ x. cond (t x) (v x) 0) xs ≡ 0
    at true e r = absurd (none x (inl refl) e)
    at false e r = omega (arith, r)

-- where one name alone passes a test, the sum over those that pass is its number
pub total_one : (t : List ℕ → Bool) (v : List ℕ → ℕ) (xs : List (List ℕ)) (p : List ℕ) → AreDifferent xs → IsIn xs p → t p ≡ true
    → ((x : List ℕ) → IsIn xs x → t x ≡ true → x ≡ p) → total (λ x. cond (t x) (v x) 0) xs ≡ v p
total_one t v [] p d i e only = absurd i
total_one t v (x ∷ xs) p d i e only = ⊎_elim
    (λ is.
    let r = total_none t v xs (λ y k f. d.0 (subst (IsIn xs) (only y (inr k) f ∙ is) k)) in
    let h : cond (t x) (v x) 0 ≡ v p = ap (λ b. cond b (v x) 0) (ap t (sym is) ∙ e) ∙ ap v (sym is) in
    omega (arith, r, h))
    (λ k.
    let r = total_one t v xs p d.1 k e (λ y j f. only y (inr j) f) in
    let h = at k (t x) refl in
    omega (arith, r, h))
    i
  where
    at : IsIn xs p → (b : Bool) → t x ≡ b → cond b (v x) 0 ≡ 0
    at k true f = absurd (d.0 (subst (IsIn xs) (sym (only x (inl refl) f)) k))
    at k false f = refl

-- the sum over those that pass a test
pub total_passing : (p : List ℕ → Bool) (f g : List ℕ → ℕ) (xs : List (List ℕ)) → ((x : List ℕ) → f x ≡ g x) → total f (filter p xs) ≡ total (λ x. cond (p x) (g x) 0) xs
total_passing p f g [] h = refl
total_passing p f g (x ∷ xs) h = at (p x) (total_passing p f g xs h)
  where
    at : (b : Bool) → total f (filter p xs) ≡ total (λ x. cond (p x) (g x) 0) xs
        → total f (cond b (x ∷ filter p xs) (filter p xs)) ≡ cond b (g x) 0 + total (λ x. cond (p x) (g x) 0) xs
    at true r = let e = h x in omega (arith, r, e)
    at false r = omega (arith, r)

module _ (w : World) where
  -- what the file system of a name has of its own, where it is there
  unfoldable pub own : List ℕ → ℕ
  own name = option_map_or (own_of w) (get w.file_systems name) 0

  own_sum : total own (keys w.file_systems) ≡ total (λ e. own_of w e.1) (entries w.file_systems)
  unfolding own
  own_sum = each (entries w.file_systems) (λ q s i. at_entry name_order w.file_systems q s i)
    where
      each : (es : List (List ℕ × FileSystem)) → ((q : List ℕ) (s : FileSystem) → IsEntry es q s → get w.file_systems q ≡ Some s)
          → total (λ q. option_map_or (own_of w) (get w.file_systems q) 0) (map (λ e. e.0) es) ≡ total (λ e. own_of w e.1) es
      each [] h = refl
      each (e ∷ es) h =
          let a : option_map_or (own_of w) (get w.file_systems e.0) 0 ≡ own_of w e.1 = ap (λ x. option_map_or (own_of w) x 0) (h e.0 e.1 (inl (refl, refl))) in
          let r = each es (λ q s i. h q s (inr i)) in
          omega (arith, a, r)

  module _ (unlimited : IsUnlimited w.file_systems) where
    -- no file system reserves anything
    pub nothing_reserved : (name : List ℕ) → reservation_of w name ≡ 0
    nothing_reserved name = at (get w.file_systems name) refl
      where
        at : (x : Option FileSystem) → get w.file_systems name ≡ x → option_map_or (λ (s : FileSystem). unwrap_or s.limits.reservation 0) x 0 ≡ 0
        at None e = refl
        at (Some s) e = ap (λ l. unwrap_or l.reservation 0) (unlimited name s e)

    -- what of `used` isn't its children's is what it has of its own
    pub own_here : (name : List ℕ) → used_here w name ≡ own name
    unfolding own
    own_here name = at (get w.file_systems name) refl
      where
        nothing : (n : ℕ) → 0 - n ≡ 0
        nothing n = omega arith

        at : (x : Option FileSystem) → get w.file_systems name ≡ x
            → option_map_or (λ s. used_by_dataset w s + used_by_snapshots w s + used_by_refreservation w name s) x 0 ≡ option_map_or (own_of w) x 0
        at None e = refl
        at (Some s) e =
            let z : used_by_refreservation w name s ≡ 0 = ap (λ l. unwrap_or l.refreservation 0 - written_of w (Live name)) (unlimited name s e) ∙ nothing (written_of w (Live name)) in
            omega (arith, z)

    -- what is used to a depth is the sum to that depth
    pub within_same : (k : ℕ) (name : List ℕ) → used_here w name + children_within w k name ≡ used_within own is_child (keys w.file_systems) k name
    within_same zero name = let h = own_here name in omega (arith, h)
    within_same (suc k) name =
        let h = own_here name in
        let r = total_passing (is_child name) (λ c. max (used_here w c + children_within w k c) (reservation_of w c)) (used_within own is_child (keys w.file_systems) k) (keys w.file_systems)
        (λ c. let l = within_same k c in let z = nothing_reserved c in omega (arith, l, z)) in
        let s = sum-total (λ c. max (used_here w c + children_within w k c) (reservation_of w c)) (children_of w name) in
        omega (arith, h, r, s)

module _ (w : World) (good : IsHierarchy w.file_systems) where
  has_parent : (c : List ℕ) → IsIn (keys w.file_systems) c → (d : ℕ) → slashes c ≡ d + 1 → HasParent w.file_systems c
  has_parent c i d e = ⊎_elim
      (λ is. let z = ap slashes is in absurd (omega (arith, z, e)))
      (λ p. parent_there w.file_systems c p)
      (good.parents c (ap is_some (from_keys w.file_systems c i).1))

  are_tree : IsTree is_child slashes (keys w.file_systems) root_name (finmap.len w.file_systems)
  are_tree = record {
    lower = λ x c e. level_up c x (child_is x c e);
    one_parent = λ c i d e v.
        let p = has_parent c i d e in
        total_one (λ x. is_child x c) (λ _. v) (keys w.file_systems) p.parent (keys_once w.file_systems) (in_keys w.file_systems p.parent p.there) (is_child_of p.parent c p.named)
        (λ x k t. same_value x p.parent (sym (child_is x c t) ∙ p.named));
    one_root = λ v. total_one (λ x. eqb (slashes x) 0) v (keys w.file_systems) root_name (keys_once w.file_systems) (in_keys w.file_systems root_name good.root) refl
        (λ c i e. ⊎_elim
        (λ is. is)
        (λ h. let p = parent_there w.file_systems c h in let l = level_up c p.parent p.named in let z = eqb-true (slashes c) 0 e in absurd (omega (arith, l, z)))
        (good.parents c (ap is_some (from_keys w.file_systems c i).1)));
    high = λ c i. let l = level_low w.file_systems good c i in omega (arith, l);
  }

-- what file systems have of their own, summed down from the root, is what datasets have
pub whole_is : (w : World) → AreFileSystems w.file_systems w.group
    → used_within (own w) is_child (keys w.file_systems) (finmap.len w.file_systems) root_name ≡ len (union_of w)
whole_is w good =
    root_uses_all (own w) is_child slashes (keys w.file_systems) root_name (finmap.len w.file_systems) (are_tree w good.hierarchy)
    ∙ own_sum w
    ∙ own_total w w.group good.lines

-- so the root uses what datasets have
pub root_uses_union : (w : World) → AreFileSystems w.file_systems w.group → IsUnlimited w.file_systems → used_of w root_name ≡ len (union_of w)
unfolding used_of used_by_children
root_uses_union w good unlimited = within_same w unlimited (finmap.len w.file_systems) root_name ∙ whole_is w good
