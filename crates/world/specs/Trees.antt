-- Sums down a tree whose nodes stand in a list, as file systems do by their names.
use Rattle.base.specs.Surveys.{IsIn}
use Rattle.std.specs.Prelude.{◌≡◌, ℕ, zero, suc, ◌+◌, ◌≤◌, Bool, true, cond, List, [], ◌∷◌, eqb}

-- the sum of a number of each element (profile)
abbrev pub total : {A : Type 0} → (A → ℕ) → List A → ℕ
total f [] = 0
total f (x ∷ xs) = f x + total f xs

-- what a node has with all that is at most k levels below it (profile)
abbrev pub used_within : {A : Type 0} → (A → ℕ) → (A → A → Bool) → List A → ℕ → A → ℕ
used_within own child xs zero r = own r
used_within own child xs (suc k) r = own r + total (λ c. cond (child r c) (used_within own child xs k c) 0) xs

-- The list is a tree under the root: a child is one level lower, each node but the root has one parent, the root alone is at level 0, and no node is lower than `height` (profile)
pub record IsTree {A : Type 0} (child : A → A → Bool) (depth : A → ℕ) (xs : List A) (root : A) (height : ℕ) : Type 0 where
  pub lower : (x c : A) → child x c ≡ true → depth c ≡ depth x + 1
  pub one_parent : (c : A) → IsIn xs c → (d : ℕ) → depth c ≡ d + 1 → (v : ℕ) → total (λ x. cond (child x c) v 0) xs ≡ v
  pub one_root : (v : A → ℕ) → total (λ x. cond (eqb (depth x) 0) (v x) 0) xs ≡ v root
  pub high : (c : A) → IsIn xs c → depth c ≤ height

-- so what the root uses is the sum over all nodes (profile)
abbrev pub RootUsesAll : Type 0
RootUsesAll = (own : List ℕ → ℕ) (child : List ℕ → List ℕ → Bool) (depth : List ℕ → ℕ) (xs : List (List ℕ)) (root : List ℕ) (height : ℕ) → IsTree child depth xs root height
    → used_within own child xs height root ≡ total own xs
