-- Each key of a branch is its own, or one of a branch directly below.
use Rattle.std.proofs.Common.{◌≡◌, ℕ, zero, suc, ◌+◌, ◌*◌, ◌/◌, ◌%◌, ◌-◌, ◌^◌, ◌<◌, ◌≤◌, inl, inr, ◌⊎◌, Bool, true, false, cond, Option, Some, None, refl, sym, ap, subst, ◌∙◌, arith, ⊎_elim, true≢false}
use Rattle.std.specs.Prelude.{◌==◌, ◌&&◌, IsSome, nat_le}
use Rattle.std.specs.Option.{option_map, option_and_then}
use Rattle.std.specs.declared.sync.Arc.{Arc}
use Rattle.std.specs.declared.alloc.Global.{Global}
use Rattle.std.specs.FinMap as fin
use Rattle.std.specs.FinMap.{get}
use Rattle.std.proofs.lemmas.Bool.{cases_lt, eqb-true, eq-eqb, leb-true, le-leb, and_parts}
use Rattle.std.proofs.Math.Nat.{mod-lt}
use Rattle.base.specs.declared.number.Key.{Key}
use Rattle.base.specs.Key.{key_cmp-IsAntisymmetric, is_at_or_below}
use Rattle.base.specs.Map.{Map, Cell}
use Rattle.tree.specs.Branch.{Branch, child_key, IsKeyBelow, AreOwnOrBelow}
use Rattle.tree.specs.BranchParts.{branch_at, node_part, node_level, IsSoundBranch}
use Rattle.tree.specs.declared.subtree.Node.{Node}
use Rattle.tree.specs.declared.subtree.Node.TheVariants.{Leaf, First, Second, Third, Fourth, Root}
use Rattle.tree.proofs.Branches.{map_at, get-at, below-at, branch_is, children, key-branch_at, own-branch_at}
use Rattle.node.specs.declared.leaf.Leaf.{Leaf as LeafNode}
use Rattle.node.specs.Entries.{key_at}
use Rattle.node.specs.Kid.{IsSound}
use Rattle.node.specs.Shape.{Part, part_at, cell_below}
use Rattle.node.proofs.Digits.{high_digits, low_digits}

-- what is found below a part is below one of its places
first_step : {X : Type 0} (f : Part → Option X) (o : Option Part) → IsSome (option_and_then f o) → (x : Part) × (o ≡ Some x)
first_step f None h = absurd (true≢false (sym h))
first_step f (Some x) h = (x, refl)

map_is : (l j : ℕ) (p : Part) → (branch_at (key_at l j) p).map ≡ map_at l j p
map_is l j p = ap (λ (b : Branch). b.map) (branch_is l j p)

module _ (j : ℕ) (p : Part) (q : Key) where
  -- a key of the part's own level
  own_key : (l : ℕ) → l ≤ q.level → is_at_or_below (key_at l j) q ≡ true → q ≡ key_at l j
  own_key l high t =
      let parts = and_parts _ _ t in
      let low = leb-true q.level l parts.0 in
      let level : q.level ≡ l = omega arith in
      let none : l - q.level ≡ 0 = omega arith in
      let index : q.index / 1 ≡ j = ap (λ n. q.index / 16 ^ n) (sym none) ∙ eqb-true _ _ parts.1 in
      let same : q.index ≡ j = omega arith in
      λ i. record { level = level i; index = same i }

  -- a key of a lower level
  lower_key : (l : ℕ) → IsSound (suc l) p → q.level ≤ l → is_at_or_below (key_at (suc l) j) q ≡ true
      → IsSome (get (map_at (suc l) j p) q) → IsSome (cell_below (suc l - q.level) p (q.index % 16 ^ (suc l - q.level))) → IsKeyBelow (branch_at (key_at (suc l) j) p) q
  lower_key l s low t here found =
      let d : ℕ = l - q.level in
      let next : (l - q.level) + 1 ≡ suc (l - q.level) = omega arith in
      let deep : suc l - q.level ≡ suc (l - q.level) = omega arith in
      let at : q.index / 16 ^ suc (l - q.level) ≡ j = ap (λ n. q.index / 16 ^ n) (sym deep) ∙ eqb-true (q.index / 16 ^ (suc l - q.level)) j (and_parts (nat_le q.level (suc l)) (q.index / 16 ^ (suc l - q.level) == j) t).1 in
      let i : ℕ = (q.index / 16 ^ (l - q.level)) % 16 in
      let small : (q.index / 16 ^ (l - q.level)) % 16 < 16 = mod-lt _ (omega arith) in
      let up : (q.index / 16 ^ (l - q.level)) / 16 ≡ j = high_digits q.index (l - q.level) 1 (suc (l - q.level)) next ∙ at in
      let digits : q.index / 16 ^ (l - q.level) ≡ 16 * j + (q.index / 16 ^ (l - q.level)) % 16 = omega (arith, up) in
      let place : (q.index % 16 ^ suc (l - q.level)) / 16 ^ (l - q.level) ≡ (q.index / 16 ^ (l - q.level)) % 16 = sym (low_digits q.index (l - q.level) 1 (suc (l - q.level)) next) in
      let step : IsSome (cell_below (suc (l - q.level)) p (q.index % 16 ^ suc (l - q.level))) = subst (λ n. IsSome (cell_below n p (q.index % 16 ^ n))) deep found in
      let kid = first_step _ _ step in
      let part : part_at p.below ((q.index / 16 ^ (l - q.level)) % 16) ≡ Some kid.0 = ap (part_at p.below) (sym place) ∙ kid.1 in
      let low_level : suc l - 1 ≡ l = omega arith in
      let child : child_key (key_at (suc l) j) i ≡ key_at l (16 * j + i) = λ z. record { level = low_level z; index = 16 * j + i } in
      let over : is_at_or_below (key_at l (16 * j + i)) q ≡ true = ap (λ b. b && (q.index / 16 ^ (l - q.level) == 16 * j + i)) (le-leb q.level l low) ∙ eq-eqb _ _ digits in
      let below : Map = map_at l (16 * j + i) kid.0 in
      let same : get below q ≡ get (map_at (suc l) j p) q =
      ap (λ m. get m q) (below-at l j i p kid.0 s small part)
      ∙ fin.get-retain_keys (map_at (suc l) j p) (is_at_or_below (key_at l (16 * j + i))) q (λ x t. ap (is_at_or_below (key_at l (16 * j + i))) (sym (key_cmp-IsAntisymmetric q x t)))
      ∙ ap (λ b. cond b (get (map_at (suc l) j p) q) None) over in
      record {
        place = i;
        small = small;
        child = branch_at (child_key (key_at (suc l) j) i) kid.0;
        there = children (suc l) i (key_at (suc l) j) p refl s small ∙ ap (option_map (branch_at (child_key (key_at (suc l) j) i))) part;
        has = subst (λ o. IsSome o) (sym (ap (λ k. get (branch_at k kid.0).map q) child ∙ ap (λ m. get m q) (map_is l (16 * j + i) kid.0) ∙ same)) here;
      }

  at_level : (l : ℕ) → IsSound l p → is_at_or_below (key_at l j) q ≡ true → IsSome (get (map_at l j p) q) → IsSome (cell_below (l - q.level) p (q.index % 16 ^ (l - q.level)))
      → (q ≡ key_at l j) ⊎ IsKeyBelow (branch_at (key_at l j) p) q
  at_level zero s t here found = inl (own_key zero (omega arith) t)
  at_level (suc l) s t here found = ⊎_elim (λ high. inl (own_key (suc l) (omega arith) t)) (λ low. inr (lower_key l s low t here found)) (cases_lt l q.level)

  at_key : (l : ℕ) → IsSound l p → IsSome (get (map_at l j p) q) → (q ≡ key_at l j) ⊎ IsKeyBelow (branch_at (key_at l j) p) q
  at_key l s here = by (is_at_or_below (key_at l j) q) refl (subst (λ o. IsSome o) (get-at l j p q s) here)
    where
      by : (b : Bool) → is_at_or_below (key_at l j) q ≡ b → IsSome (cond b (cell_below (l - q.level) p (q.index % 16 ^ (l - q.level))) None) → (q ≡ key_at l j) ⊎ IsKeyBelow (branch_at (key_at l j) p) q
      by false t h = absurd (true≢false (sym h))
      by true t h = at_level l s t here h

pub own_or_below : (l : ℕ) (k : Key) (p : Part) → k.level ≡ l → IsSound l p → AreOwnOrBelow (branch_at k p)
own_or_below l k p e s =
    let is : k ≡ key_at l k.index = λ z. record { level = e z; index = k.index } in
    subst (λ x. AreOwnOrBelow (branch_at x p)) (sym is)
    (λ q h. subst (λ x. (q ≡ x) ⊎ IsKeyBelow (branch_at (key_at l k.index) p) q) (sym (ap (λ (b : Branch). b.key) (branch_is l k.index p)))
    (at_key k.index p q l s (subst (λ m. IsSome (get m q)) (map_is l k.index p) h)))

-- the level of a branch and its top's own cell, by its node
pub level_of : (b : Branch) (k : Key) (n : Node) → branch_at k (node_part n) ≡ b → IsSoundBranch k n → b.key.level ≡ node_level n
level_of b k n e s = ap (λ (b : Branch). b.key.level) (sym e) ∙ ap (λ (x : Key). x.level) (key-branch_at k (node_part n)) ∙ s.level

pub bytes_of : (b : Branch) (k : Key) (n : Node) → branch_at k (node_part n) ≡ b → IsSoundBranch k n → option_map (λ c. c.bytes) (get b.map b.key) ≡ Some (node_part n).cell.bytes
bytes_of b k n e s = ap (λ (b : Branch). option_map (λ (c : Cell). c.bytes) (get b.map b.key)) (sym e) ∙ ap (option_map (λ (c : Cell). c.bytes)) (own-branch_at (node_level n) k (node_part n) s.level s.sound)

-- a node that is no leaf stands above the leaves
pub above_leaves : (n : Node) → ((x : Arc (LeafNode) Global) → n ≡ Leaf x → ⊥) → node_level n ≡ 0 → ⊥
above_leaves (Leaf x) h e = h x refl
above_leaves (First x) h e = omega (arith, e)
above_leaves (Second x) h e = omega (arith, e)
above_leaves (Third x) h e = omega (arith, e)
above_leaves (Fourth x) h e = omega (arith, e)
above_leaves (Root x) h e = omega (arith, e)
