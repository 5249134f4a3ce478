-- What stands above a present leaf.
use Rattle.std.proofs.Common.{◌≡◌, ℕ, zero, suc, ◌+◌, ◌*◌, ◌/◌, ◌%◌, ◌^◌, ◌<◌, ◌≤◌, refl, sym, ap, subst, ◌∙◌, arith}
use Rattle.std.specs.Prelude.{IsSome}
use Rattle.std.specs.FinMap.{get}
use Rattle.std.proofs.Math.Nat.{div-div-eq-div-mul, div-one, div-eq_of_lt, div-add-mod, pow-suc}
use Rattle.std.proofs.lemmas.Nat.{pow-add}
use Rattle.base.specs.declared.number.Key.{Key}
use Rattle.base.specs.Key.{parent}
use Rattle.base.specs.Map.{Map, IsTree}
use Rattle.base.proofs.Contents.{leaf_key}
use Rattle.tree.specs.Reading.{key_over}
use Rattle.image.specs.HasBlocks.{root_key}

pub same_key : (a b : Key) → a.level ≡ b.level → a.index ≡ b.index → a ≡ b
same_key a b l i = λ x. record { level = l x; index = i x }

pub over_leaf : (x : ℕ) → key_over x 0 ≡ leaf_key x
over_leaf x = same_key (key_over x 0) (leaf_key x) refl (div-one x)

next_over : (x l : ℕ) → parent (key_over x l) ≡ key_over x (l + 1)
next_over x l = same_key (parent (key_over x l)) (key_over x (l + 1)) refl
    (div-div-eq-div-mul x (16 ^ l) 16 ∙ ap (λ n. x / n) (sym (pow-add 16 l 1)))

pub over_root : (x : ℕ) → x < 16 ^ 5 → key_over x 5 ≡ root_key
over_root x h = same_key (key_over x 5) root_key refl (div-eq_of_lt h)

-- the index of a level, from that of the level above
pub from_above : (x l j : ℕ) → x / 16 ^ suc l ≡ j → x / 16 ^ l ≡ 16 * j + (x / 16 ^ l) % 16
from_above x l j e =
    let up : (x / 16 ^ l) / 16 ≡ j = div-div-eq-div-mul x (16 ^ l) 16 ∙ ap (λ n. x / n) (sym (pow-suc 16 l)) ∙ e in
    let parts = div-add-mod (x / 16 ^ l) 16 in
    omega (arith, up, parts)

module _ (n : ℕ) (m : Map) (tree : IsTree n m) where
  pub up : (x l j : ℕ) → l + j ≤ 5 → IsSome (get m (key_over x l)) → IsSome (get m (key_over x (l + j)))
  up x l zero h there = let e : l ≡ l + 0 = omega arith in subst (λ i. IsSome (get m (key_over x i))) e there
  up x l (suc j) h there =
      let rest = up x l j (omega arith) there in
      let above = tree.parents (key_over x (l + j)) rest (omega arith) in
      let e : (l + j) + 1 ≡ l + suc j = omega arith in
      subst (λ i. IsSome (get m (key_over x i))) e (subst (λ k. IsSome (get m k)) (next_over x (l + j)) above)

  -- each key over a present leaf is present
  pub above_leaf : (x l : ℕ) → l ≤ 5 → IsSome (get m (leaf_key x)) → IsSome (get m (key_over x l))
  above_leaf x l h there =
      let e : 0 + l ≡ l = omega arith in
      subst (λ i. IsSome (get m (key_over x i))) e (up x 0 l (omega arith) (subst (λ k. IsSome (get m k)) (sym (over_leaf x)) there))

  pub leaf_small : (x : ℕ) → IsSome (get m (leaf_key x)) → x < 16 ^ 5
  leaf_small x there = (tree.keys (leaf_key x) there).index

  -- above a present leaf stands the root
  pub root_above : (x : ℕ) → IsSome (get m (leaf_key x)) → IsSome (get m root_key)
  root_above x there = subst (λ k. IsSome (get m k)) (over_root x (leaf_small x there)) (above_leaf x 5 (omega arith) there)
