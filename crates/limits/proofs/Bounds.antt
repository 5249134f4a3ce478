-- What a file system uses is no more than what all have and keep, so sums of few and small accounts can be told.
use Rattle.std.proofs.Common.{◌≡◌, ℕ, zero, suc, ◌+◌, ◌*◌, ◌^◌, ◌≤◌, Bool, true, false, cond, List, [], ◌∷◌, length, Option, Some, None, refl, sym, ap, subst, ◌∙◌, inl, inr, ⊎_elim, arith}
use Rattle.std.specs.Prelude.{IsSome, ◌⊎◌}
use Rattle.std.specs.List.{filter}
use Rattle.std.specs.Option.{option_map_or}
use Rattle.std.specs.FinMap.{get, keys}
use Rattle.base.specs.Surveys.{IsIn}
use Rattle.base.specs.Names.{root_name, same_name, parent_of}
use Rattle.model.specs.World.{World, children_of}
use Rattle.model.specs.Hierarchy.{IsHierarchy}
use Rattle.model.specs.Sums.{used_of, used_here, used_by_children, reservation_of}
use Rattle.world.specs.Trees.{total}
use Rattle.world.proofs.lists.Finding.{name_itself, one_name}
use Rattle.world.proofs.lists.Maps.{same_value}
use Rattle.world.proofs.lineage.Put.{parent_there}
use Rattle.limits.specs.Levels.{slashes, charge_of}
use Rattle.limits.proofs.Levels.{used_by_children_is, used-split}
use Rattle.limits.proofs.Names.{is_child, child_is, in_keys, keys_once, in_children, level_up}
use Rattle.limits.proofs.Totals.{total_same, total_more, total_plus, total_swap, but, set_apart}

-- a sum over those that a filter keeps
total_filter : {A : Type 0} (p : A → Bool) (f : A → ℕ) (xs : List A) → total f (filter p xs) ≡ total (λ x. cond (p x) (f x) 0) xs
total_filter p f [] = refl
total_filter p f (x ∷ xs) = at (p x) (total_filter p f xs)
  where
    at : (b : Bool) → total f (filter p xs) ≡ total (λ x. cond (p x) (f x) 0) xs
        → total f (cond b (x ∷ filter p xs) (filter p xs)) ≡ cond b (f x) 0 + total (λ x. cond (p x) (f x) 0) xs
    at true ih = omega (arith, ih)
    at false ih = omega (arith, ih)

-- a sum of small terms
total_small : {A : Type 0} (f : A → ℕ) (xs : List A) → ((x : A) → IsIn xs x → f x ≤ 2 ^ 43) → total f xs ≤ length xs * 2 ^ 43
total_small f [] h = omega arith
total_small f (x ∷ xs) h = let a = h x (inl refl) in let r = total_small f xs (λ y i. h y (inr i)) in omega (arith, a, r)

module _ (w : World) (good : IsHierarchy w.file_systems) where
  -- what a file system has and keeps of its own, and what is kept for it
  abbrev own : List ℕ → ℕ
  own name = used_here w name + reservation_of w name

  charge_most : (name : List ℕ) → charge_of w name ≤ own name + used_by_children w name
  charge_most name = let u = used-split w good name in omega (arith, u)

  -- a child's charge is among what its parent's children use
  pub charge_low : (name parent : List ℕ) → IsSome (get w.file_systems name) → parent_of name ≡ Some parent → charge_of w name ≤ used_by_children w parent
  charge_low name parent there e =
      let t = total_more (charge_of w) (charge_of w) (name ∷ []) (children_of w parent) ((λ i. i), tt)
      (λ x i. inr (omega arith, subst (IsIn (children_of w parent)) (⊎_elim (λ is. sym is) (λ k. absurd k) i) (in_children w parent name e (in_keys w.file_systems name there)))) in
      let u = used_by_children_is w good parent in
      omega (arith, t, u)

  -- nothing uses more than the root
  root_most : (n : ℕ) (name : List ℕ) → slashes name ≤ n → IsSome (get w.file_systems name) → used_of w name ≤ used_of w root_name
  root_most zero name low there = ⊎_elim
      (λ is. let e = ap (used_of w) is in omega (arith, e))
      (λ h. let p = parent_there w.file_systems name h in let u = level_up name p.parent p.named in absurd (omega (arith, u, low)))
      (good.parents name there)
  root_most (suc n) name low there = ⊎_elim
      (λ is. let e = ap (used_of w) is in omega (arith, e))
      (λ h.
      let p = parent_there w.file_systems name h in
      let u = level_up name p.parent p.named in
      let l = charge_low name p.parent there p.named in
      let r = root_most n p.parent (omega (arith, u, low)) p.there in
      let s = used-split w good p.parent in
      omega (arith, l, r, s))
      (good.parents name there)

  right : (x : List ℕ) → same_name root_name x ≡ true → x ≡ root_name
  right x e = sym (one_name root_name x e)

  -- the sum over all but the root
  abbrev below_root : (List ℕ → ℕ) → List ℕ → ℕ
  below_root = but root_name (same_name root_name) right (name_itself root_name)

  -- a charge is counted once at most, and that of the root not at all
  counted : (c : List ℕ) → total (λ name. cond (is_child name c) (charge_of w c) 0) (keys w.file_systems) ≤ below_root (charge_of w) c
  counted c = at (same_name root_name c) refl
    where
      none : parent_of c ≡ None → total (λ name. cond (is_child name c) (charge_of w c) 0) (keys w.file_systems) ≤ 0
      none e = total_more (λ name. cond (is_child name c) (charge_of w c) 0) (λ _. 0) (keys w.file_systems) [] (keys_once w.file_systems)
          (λ name i. inl (ap (λ p. cond (option_map_or (same_name name) p false) (charge_of w c) 0) e))

      by_child : (q name : List ℕ) → parent_of c ≡ Some q → (b : Bool) → is_child name c ≡ b
          → (cond b (charge_of w c) 0 ≡ 0) ⊎ ((cond b (charge_of w c) 0 ≤ charge_of w c) × IsIn (q ∷ []) name)
      by_child q name e true t = inr (omega arith, inl (same_value name q (sym (child_is name c t) ∙ e)))
      by_child q name e false t = inl refl

      some : (q : List ℕ) → parent_of c ≡ Some q → total (λ name. cond (is_child name c) (charge_of w c) 0) (keys w.file_systems) ≤ charge_of w c
      some q e =
          let t = total_more (λ name. cond (is_child name c) (charge_of w c) 0) (λ _. charge_of w c) (keys w.file_systems) (q ∷ []) (keys_once w.file_systems)
          (λ name i. by_child q name e (is_child name c) refl) in
          omega (arith, t)

      by_parent : (p : Option (List ℕ)) → parent_of c ≡ p → total (λ name. cond (is_child name c) (charge_of w c) 0) (keys w.file_systems) ≤ charge_of w c
      by_parent None e = let n = none e in omega (arith, n)
      by_parent (Some q) e = some q e

      at : (b : Bool) → same_name root_name c ≡ b → total (λ name. cond (is_child name c) (charge_of w c) 0) (keys w.file_systems) ≤ cond b 0 (charge_of w c)
      at true e = none (ap parent_of (right c e))
      at false e = by_parent (parent_of c) refl

  -- so what all children use is no more than the charges below the root
  all_children : total (used_by_children w) (keys w.file_systems) ≤ total (below_root (charge_of w)) (keys w.file_systems)
  all_children =
      let a = total_same (used_by_children w) (λ name. total (λ c. cond (is_child name c) (charge_of w c) 0) (keys w.file_systems)) (keys w.file_systems)
      (λ name i. used_by_children_is w good name ∙ total_filter (is_child name) (charge_of w) (keys w.file_systems)) in
      let b = total_swap (λ name c. cond (is_child name c) (charge_of w c) 0) (keys w.file_systems) (keys w.file_systems) in
      let c = total_more (λ c. total (λ name. cond (is_child name c) (charge_of w c) 0) (keys w.file_systems)) (below_root (charge_of w)) (keys w.file_systems) (keys w.file_systems)
      (keys_once w.file_systems) (λ c i. inr (counted c, i)) in
      omega (arith, a, b, c)

  -- the root uses no more than all have and keep of their own
  root_own : used_of w root_name ≤ total own (keys w.file_systems)
  root_own =
      let a = all_children in
      let b = total_more (below_root (charge_of w)) (below_root (λ x. own x + used_by_children w x)) (keys w.file_systems) (keys w.file_systems) (keys_once w.file_systems)
      (λ x i. inr (more (same_name root_name x) (charge_most x), i)) in
      let c = set_apart root_name (same_name root_name) right (name_itself root_name) (λ x. own x + used_by_children w x) (keys w.file_systems) (keys_once w.file_systems)
      (inr (in_keys w.file_systems root_name good.root)) in
      let d = total_plus own (used_by_children w) (keys w.file_systems) in
      let u = used-split w good root_name in
      omega (arith, a, b, c, d, u)
    where
      more : {m n : ℕ} (b : Bool) → m ≤ n → cond b 0 m ≤ cond b 0 n
      more true l = omega arith
      more false l = l

  -- where all are few and small, each uses little
  pub little_used : length (keys w.file_systems) ≤ 1024 → ((name : List ℕ) → IsIn (keys w.file_systems) name → own name ≤ 2 ^ 43)
      → (name : List ℕ) → IsSome (get w.file_systems name) → used_of w name ≤ 2 ^ 53
  little_used few small name there =
      let a = total_small own (keys w.file_systems) small in
      let b = root_own in
      let c = root_most (slashes name) name (omega arith) there in
      omega (arith, few, a, b, c)
