use Rattle.std.proofs.Common.{◌≡◌, ℕ, zero, suc, ◌+◌, ◌≤◌, inl, inr, Bool, true, false, cond, ◌&&◌, List, [], ◌∷◌, eqb, leb, refl, sym, ap, ◌∙◌, arith, zero-add}
use Rattle.base.specs.Surveys.{IsIn}
use Rattle.std.proofs.lemmas.Bool.{eqb-true, eqb-false, leb-true, eq-eqb, le-leb, and_from, and_parts, false_from_ne_true}
use Rattle.std.specs.Cmp.{both_ways}
use Rattle.world.specs.Trees.{total, used_within, IsTree, RootUsesAll}

cond_plus : (b : Bool) (x y : ℕ) → cond b (x + y) 0 ≡ cond b x 0 + cond b y 0
cond_plus true x y = refl
cond_plus false x y = refl

cond_same : (b : Bool) (n : ℕ) → cond b n n ≡ n
cond_same true n = refl
cond_same false n = refl

-- tests on numbers
same_next : (a b j : ℕ) → b ≡ a + 1 → eqb a j ≡ eqb b (j + 1)
same_next a b j e = both_ways (eqb a j) (eqb b (j + 1))
    (λ t. let x = eqb-true a j t in eq-eqb b (j + 1) (omega arith))
    (λ t. let x = eqb-true b (j + 1) t in eq-eqb a j (omega arith))

abbrev between : ℕ → ℕ → ℕ → Bool
between j k d = leb j d && leb d (j + k)

in_between : (j k d : ℕ) → j ≤ d → d ≤ j + k → between j k d ≡ true
in_between j k d a b = and_from (leb j d) (leb d (j + k)) (le-leb j d a) (le-leb d (j + k) b)

from_between : (j k d : ℕ) → between j k d ≡ true → (j ≤ d) × (d ≤ j + k)
from_between j k d t = let p = and_parts (leb j d) (leb d (j + k)) t in (leb-true j d p.0, leb-true d (j + k) p.1)

between_none : (j d : ℕ) → eqb d j ≡ between j 0 d
between_none j d = both_ways (eqb d j) (between j 0 d)
    (λ t. let x = eqb-true d j t in in_between j 0 d (omega arith) (omega arith))
    (λ t. let x = from_between j 0 d t in eq-eqb d j (omega arith))

after_ne : (j d : ℕ) → (d ≡ j → ⊥) → j ≤ d → j + 1 ≤ d
after_ne j d ne l = omega arith

between_more : (j k d v : ℕ) → cond (eqb d j) v 0 + cond (between (j + 1) k d) v 0 ≡ cond (between j (suc k) d) v 0
between_more j k d v = go (eqb d j) refl
  where
    go : (b : Bool) → eqb d j ≡ b → cond b v 0 + cond (between (j + 1) k d) v 0 ≡ cond (between j (suc k) d) v 0
    go true t =
        let x = eqb-true d j t in
        let out : between (j + 1) k d ≡ false = false_from_ne_true (between (j + 1) k d) (λ u. let y = from_between (j + 1) k d u in absurd (omega arith)) in
        let inside = in_between j (suc k) d (omega arith) (omega arith) in
        let a = ap (λ b. cond b v 0) out in
        let c = ap (λ b. cond b v 0) inside in
        omega arith
    go false t =
        let ne = eqb-false d j t in
        zero-add (cond (between (j + 1) k d) v 0) ∙ ap (λ b. cond b v 0) (both_ways (between (j + 1) k d) (between j (suc k) d)
        (λ u. let y = from_between (j + 1) k d u in in_between j (suc k) d (omega arith) (omega arith))
        (λ u. let y = from_between j (suc k) d u in in_between (j + 1) k d (after_ne j d ne y.0) (omega arith)))

module _ {A : Type 0} where
  total_same : (f g : A → ℕ) (xs : List A) → ((x : A) → IsIn xs x → f x ≡ g x) → total f xs ≡ total g xs
  total_same f g [] h = refl
  total_same f g (x ∷ xs) h = let a = h x (inl refl) in let b = total_same f g xs (λ y k. h y (inr k)) in omega arith

  total_plus : (f g : A → ℕ) (xs : List A) → total (λ x. f x + g x) xs ≡ total f xs + total g xs
  total_plus f g [] = refl
  total_plus f g (x ∷ xs) = let a = total_plus f g xs in omega arith

  total_zero : (xs : List A) → total (λ x. 0) xs ≡ 0
  total_zero [] = refl
  total_zero (x ∷ xs) = let a = total_zero xs in omega arith

  swap : (h : A → A → ℕ) (xs ys : List A) → total (λ x. total (λ y. h x y) ys) xs ≡ total (λ y. total (λ x. h x y) xs) ys
  swap h [] ys = sym (total_zero ys)
  swap h (x ∷ xs) ys = ap (λ n. total (λ y. h x y) ys + n) (swap h xs ys) ∙ sym (total_plus (λ y. h x y) (λ y. total (λ x. h x y) xs) ys)

  cond_total : (b : Bool) (f : A → ℕ) (xs : List A) → cond b (total f xs) 0 ≡ total (λ x. cond b (f x) 0) xs
  cond_total true f xs = refl
  cond_total false f xs = sym (total_zero xs)

module _ {A : Type 0} (own : A → ℕ) (child : A → A → Bool) (depth : A → ℕ) (xs : List A) (root : A) (height : ℕ) (tree : IsTree child depth xs root height) where
  used : ℕ → A → ℕ
  used = used_within own child xs

  level : ℕ → (A → ℕ) → ℕ
  level j f = total (λ x. cond (eqb (depth x) j) (f x) 0) xs

  -- the children of a level are the next level
  children : (j : ℕ) (u : A → ℕ) → total (λ x. cond (eqb (depth x) j) (total (λ c. cond (child x c) (u c) 0) xs) 0) xs ≡ level (j + 1) u
  unfolding level
  children j u =
      total_same _ _ xs (λ x k. cond_total (eqb (depth x) j) (λ c. cond (child x c) (u c) 0) xs)
      ∙ swap (λ x c. cond (eqb (depth x) j) (cond (child x c) (u c) 0) 0) xs xs
      ∙ total_same _ _ xs (λ c k. total_same _ _ xs (λ x l. same_level x c (child x c) refl) ∙ one c k (eqb (depth c) (j + 1)) refl)
    where
      same_level : (x c : A) (b : Bool) → child x c ≡ b → cond (eqb (depth x) j) (cond b (u c) 0) 0 ≡ cond (eqb (depth c) (j + 1)) (cond b (u c) 0) 0
      same_level x c true e = ap (λ t. cond t (u c) 0) (same_next (depth x) (depth c) j (tree.lower x c e))
      same_level x c false e = cond_same (eqb (depth x) j) 0 ∙ sym (cond_same (eqb (depth c) (j + 1)) 0)

      one : (c : A) → IsIn xs c → (b : Bool) → eqb (depth c) (j + 1) ≡ b → total (λ x. cond b (cond (child x c) (u c) 0) 0) xs ≡ cond b (u c) 0
      one c k true e = tree.one_parent c k j (eqb-true (depth c) (j + 1) e) (u c)
      one c k false e = total_zero xs

  one_level : (j k : ℕ) → level j (used (suc k)) ≡ level j own + level (j + 1) (used k)
  unfolding level used
  one_level j k =
      total_same _ _ xs (λ x i. cond_plus (eqb (depth x) j) (own x) (total (λ c. cond (child x c) (used_within own child xs k c) 0) xs))
      ∙ total_plus (λ x. cond (eqb (depth x) j) (own x) 0) (λ x. cond (eqb (depth x) j) (total (λ c. cond (child x c) (used_within own child xs k c) 0) xs) 0) xs
      ∙ ap (λ n. total (λ x. cond (eqb (depth x) j) (own x) 0) xs + n) (children j (used_within own child xs k))

  levels : (k j : ℕ) → level j (used k) ≡ total (λ x. cond (between j k (depth x)) (own x) 0) xs
  unfolding level used
  levels zero j = total_same _ _ xs (λ x i. ap (λ b. cond b (own x) 0) (between_none j (depth x)))
  levels (suc k) j =
      one_level j k
      ∙ ap (λ n. total (λ x. cond (eqb (depth x) j) (own x) 0) xs + n) (levels k (j + 1))
      ∙ sym (total_plus (λ x. cond (eqb (depth x) j) (own x) 0) (λ x. cond (between (j + 1) k (depth x)) (own x) 0) xs)
      ∙ total_same _ _ xs (λ x i. between_more j k (depth x) (own x))

  pub root_total : used_within own child xs height root ≡ total own xs
  unfolding level used
  root_total =
      sym (tree.one_root (used_within own child xs height))
      ∙ levels height 0
      ∙ total_same _ _ xs (λ x i. ap (λ b. cond b (own x) 0) (in_between 0 height (depth x) (omega arith) (let l = tree.high x i in omega arith)))

pub root_uses_all : RootUsesAll
root_uses_all own child depth xs root height tree = root_total own child depth xs root height tree
