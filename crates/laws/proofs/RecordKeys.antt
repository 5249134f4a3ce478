-- Which leaves a key covers, and what stands above it.
use Rattle.std.proofs.Common.{◌≡◌, ℕ, zero, suc, ◌+◌, ◌-◌, ◌*◌, ◌/◌, ◌^◌, ◌<◌, ◌≤◌, refl, sym, ap, subst, ◌∙◌, arith}
use Rattle.std.specs.Prelude.{IsSome}
use Rattle.std.specs.FinMap.{get}
use Rattle.std.proofs.Math.Nat.{div-eq_of_lt-le, one-le-pow, div-div-eq-div-mul, div-one, div-eq_of_lt}
use Rattle.std.proofs.lemmas.Nat.{pow-add}
use Rattle.base.specs.declared.number.Key.{Key}
use Rattle.base.specs.Key.{first_leaf, parent}
use Rattle.base.specs.Map.{Map, IsTree}
use Rattle.stream.proofs.KeyBounds.{end_le}
use Rattle.laws.specs.Records.{root_key, leaf_key}

pub power_positive : (l : ℕ) → 0 < 16 ^ l
power_positive l = let p = one-le-pow l 16 (omega arith) in omega arith

-- the key of a level over a leaf
abbrev pub over : ℕ → ℕ → Key
over leaf l = record { level = l; index = leaf / 16 ^ l }

pub same_key : (a b : Key) → a.level ≡ b.level → a.index ≡ b.index → a ≡ b
same_key a b l i = λ x. record { level = l x; index = i x }

-- a leaf between a key's first and last is one that it covers
pub covers_from : (k : Key) (x : ℕ) → first_leaf k ≤ x → x < (k.index + 1) * 16 ^ k.level → x / 16 ^ k.level ≡ k.index
covers_from k x low high = div-eq_of_lt-le (16 ^ k.level) low high

pub key_over : (k : Key) (x : ℕ) → x / 16 ^ k.level ≡ k.index → over x k.level ≡ k
key_over k x e = same_key (over x k.level) k refl e

pub over_leaf : (x : ℕ) → over x 0 ≡ leaf_key x
over_leaf x = same_key (over x 0) (leaf_key x) refl (div-one x)

pub next_over : (x l : ℕ) → parent (over x l) ≡ over x (l + 1)
next_over x l = same_key (parent (over x l)) (over x (l + 1)) refl
    (div-div-eq-div-mul x (16 ^ l) 16 ∙ ap (λ n. x / n) (sym (pow-add 16 l 1)))

pub over_root : (x : ℕ) → x < 16 ^ 5 → over x 5 ≡ root_key
over_root x h = same_key (over x 5) root_key refl (div-eq_of_lt h)

module _ (n : ℕ) (m : Map) (tree : IsTree n m) where
  -- above a present key all keys are present
  pub up : (x l j : ℕ) → l + j ≤ 5 → IsSome (get m (over x l)) → IsSome (get m (over x (l + j)))
  up x l zero h there = let e : l ≡ l + 0 = omega arith in subst (λ i. IsSome (get m (over x i))) e there
  up x l (suc j) h there =
      let rest = up x l j (omega arith) there in
      let above = tree.parents (over x (l + j)) rest (omega arith) in
      let e : (l + j) + 1 ≡ l + suc j = omega arith in
      subst (λ i. IsSome (get m (over x i))) e (subst (λ k. IsSome (get m k)) (next_over x (l + j)) above)

  -- of two keys over a leaf the higher is present where the lower is
  pub higher : (x l h : ℕ) → l ≤ h → h ≤ 5 → IsSome (get m (over x l)) → IsSome (get m (over x h))
  higher x l h le top there = let e : l + (h - l) ≡ h = omega arith in subst (λ i. IsSome (get m (over x i))) e (up x l (h - l) (omega arith) there)

  -- each present leaf is one of the tree's
  pub leaf_small : (x : ℕ) → IsSome (get m (leaf_key x)) → x < 16 ^ 5
  leaf_small x there = (tree.keys (leaf_key x) there).index

  -- a present key has the root above it
  pub root_there : (k : Key) → IsSome (get m k) → IsSome (get m root_key)
  root_there k there =
      let is = tree.keys k there in
      let x = first_leaf k in
      let high : x < (k.index + 1) * 16 ^ k.level = let p = power_positive k.level in omega arith in
      let at : x / 16 ^ k.level ≡ k.index = covers_from k x (omega arith) high in
      let lower = subst (λ q. IsSome (get m q)) (sym (key_over k x at)) there in
      subst (λ q. IsSome (get m q)) (over_root x (small is.level is.index high)) (higher x k.level 5 is.level (omega arith) lower)
    where
      small : k.level ≤ 5 → k.index < 16 ^ (5 - k.level) → first_leaf k < (k.index + 1) * 16 ^ k.level → first_leaf k < 16 ^ 5
      small a b c = let e = end_le k (record { level = a; index = b }) in omega (arith, e)
