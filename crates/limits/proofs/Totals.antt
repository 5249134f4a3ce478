-- Sums over lists, and how deep a list of nodes can be.
use Rattle.std.proofs.Common.{◌≡◌, ℕ, ◌+◌, ◌≤◌, ◌<◌, zero, suc, Bool, true, false, cond, List, [], ◌∷◌, length, eqb, leb, refl, sym, ap, subst, ◌∙◌, true≢false, map, inl, inr, ⊎_elim, ◌⊎◌, arith}
use Rattle.std.specs.List.{sum}
use Rattle.std.proofs.lemmas.List.Sums.{sum_by-cons}
use Rattle.std.proofs.lemmas.Bool.{eqb-true, eqb-false, leb-true, eq-eqb, le-leb, false_from_ne_true}
use Rattle.base.specs.Surveys.{IsIn, AreDifferent}
use Rattle.world.specs.Trees.{total}

module _ {A : Type 0} where
  pub sum-total : (f : A → ℕ) (xs : List A) → sum (map f xs) ≡ total f xs
  sum-total f [] = refl
  sum-total f (x ∷ xs) = let c = sum_by-cons (λ n. n) (f x) (map f xs) in let r = sum-total f xs in omega (arith, c, r)

  pub total_same : (f g : A → ℕ) (xs : List A) → ((x : A) → IsIn xs x → f x ≡ g x) → total f xs ≡ total g xs
  total_same f g [] h = refl
  total_same f g (x ∷ xs) h = let a = h x (inl refl) in let b = total_same f g xs (λ y k. h y (inr k)) in omega (arith, a, b)

  total_has : (f : A → ℕ) (xs : List A) (c : A) → IsIn xs c → f c ≤ total f xs
  total_has f [] c i = absurd i
  total_has f (x ∷ xs) c i = ⊎_elim (λ is. let e = ap f is in omega (arith, e)) (λ k. let r = total_has f xs c k in omega (arith, r)) i

  total_few : (t : A → Bool) (xs : List A) → total (λ x. cond (t x) 1 0) xs ≤ length xs
  total_few t [] = omega arith
  total_few t (x ∷ xs) = let r = total_few t xs in let w = weight (t x) in omega (arith, r, w)
    where
      weight : (b : Bool) → cond {A = ℕ} b 1 0 ≤ 1
      weight true = omega arith
      weight false = omega arith

  pub total_plus : (f g : A → ℕ) (xs : List A) → total (λ x. f x + g x) xs ≡ total f xs + total g xs
  total_plus f g [] = refl
  total_plus f g (x ∷ xs) = let a = total_plus f g xs in omega (arith, a)

  pub total_zero : (xs : List A) → total (λ x. 0) xs ≡ 0
  total_zero [] = refl
  total_zero (x ∷ xs) = let a = total_zero xs in omega (arith, a)

  -- a sum of sums, the other way round
  pub total_swap : (h : A → A → ℕ) (xs ys : List A) → total (λ x. total (λ y. h x y) ys) xs ≡ total (λ y. total (λ x. h x y) xs) ys
  total_swap h [] ys = sym (total_zero ys)
  total_swap h (x ∷ xs) ys = ap (λ n. total (λ y. h x y) ys + n) (total_swap h xs ys) ∙ sym (total_plus (λ y. h x y) (λ y. total (λ x. h x y) xs) ys)

  -- a sum where a test holds
  pub cond_total : (b : Bool) (f : A → ℕ) (xs : List A) → cond b (total f xs) 0 ≡ total (λ x. cond b (f x) 0) xs
  cond_total true f xs = refl
  cond_total false f xs = sym (total_zero xs)

  -- one element less
  without : (x : A) (ys : List A) → IsIn ys x → List A
  without x [] h = absurd h
  without x (y ∷ ys) h = ⊎_elim (λ _. ys) (λ k. y ∷ without x ys k) h

  total-without : (g : A → ℕ) (x : A) (ys : List A) (h : IsIn ys x) → total g ys ≡ g x + total g (without x ys h)
  unfolding without
  total-without g x [] h = absurd h
  total-without g x (y ∷ ys) (inl e) = ap (λ z. g z + total g ys) (sym e)
  total-without g x (y ∷ ys) (inr k) = let r = total-without g x ys k in omega (arith, r)

  in_without : (x z : A) (ys : List A) (h : IsIn ys x) → IsIn ys z → ¬ (z ≡ x) → IsIn (without x ys h) z
  unfolding without
  in_without x z [] h i ne = absurd h
  in_without x z (y ∷ ys) (inl e) i ne = ⊎_elim (λ is. absurd (ne (is ∙ sym e))) (λ k. k) i
  in_without x z (y ∷ ys) (inr k) i ne = ⊎_elim (λ is. inl is) (λ l. inr (in_without x z ys k l ne)) i

  -- a sum is no more than another, where each of its terms is, and is 0 or stands in the other
  pub total_more : (f g : A → ℕ) (xs ys : List A) → AreDifferent xs → ((x : A) → IsIn xs x → (f x ≡ 0) ⊎ ((f x ≤ g x) × IsIn ys x)) → total f xs ≤ total g ys
  total_more f g [] ys d each = omega arith
  total_more f g (x ∷ xs) ys d each = at (λ zs h. total_more f g xs zs d.1 h) (each x (inl refl))
    where
      at : ((zs : List A) → ((y : A) → IsIn xs y → (f y ≡ 0) ⊎ ((f y ≤ g y) × IsIn zs y)) → total f xs ≤ total g zs)
          → (f x ≡ 0) ⊎ ((f x ≤ g x) × IsIn ys x) → f x + total f xs ≤ total g ys
      at ih (inl z) = let r = ih ys (λ y i. each y (inr i)) in omega (arith, r, z)
      at ih (inr p) =
          let r = ih (without x ys p.1) (λ y i. ⊎_elim inl
          (λ q. inr (q.0, in_without x y ys p.1 q.1 (λ e. d.0 (subst (λ z. IsIn xs z) e i)))) (each y (inr i))) in
          let t = total-without g x ys p.1 in
          let l = p.0 in
          omega (arith, r, t, l)

  -- one term set apart
  module _ (c : A) (is_c : A → Bool) (right : (x : A) → is_c x ≡ true → x ≡ c) (itself : is_c c ≡ true) where
    abbrev pub but : (A → ℕ) → A → ℕ
    but f x = cond (is_c x) 0 (f x)

    none_but : (f : A → ℕ) (xs : List A) → ¬ (IsIn xs c) → total f xs ≡ total (but f) xs
    none_but f xs out = total_same f (but f) xs (λ x i. at x i (is_c x) refl)
      where
        at : (x : A) → IsIn xs x → (b : Bool) → is_c x ≡ b → f x ≡ cond b 0 (f x)
        at x i true e = absurd (out (subst (λ z. IsIn xs z) (right x e) i))
        at x i false e = refl

    pub set_apart : (f : A → ℕ) (xs : List A) → AreDifferent xs → (f c ≡ 0) ⊎ IsIn xs c → total f xs ≡ total (but f) xs + f c
    set_apart f [] d h = ⊎_elim (λ z. omega (arith, z)) (λ k. absurd k) h
    set_apart f (x ∷ xs) d h = at (λ k. set_apart f xs d.1 k) (is_c x) refl h
      where
        at : ((f c ≡ 0) ⊎ IsIn xs c → total f xs ≡ total (but f) xs + f c)
            → (b : Bool) → is_c x ≡ b → (f c ≡ 0) ⊎ IsIn (x ∷ xs) c → f x + total f xs ≡ (but f x + total (but f) xs) + f c
        at ih true e k =
            let is = right x e in
            let n = none_but f xs (λ i. d.0 (subst (λ z. IsIn xs z) (sym is) i)) in
            let z : but f x ≡ 0 = ap (λ b. cond b 0 (f x)) e in
            let s = ap f is in
            omega (arith, n, z, s)
        at ih false e k =
            let r = ih (⊎_elim inl (λ i. ⊎_elim (λ is. absurd (true≢false (sym itself ∙ ap is_c is ∙ e))) inr i) k) in
            let z : but f x ≡ f x = ap (λ b. cond b 0 (f x)) e in
            omega (arith, r, z)

  -- several terms set apart
  module _ (same : A → A → Bool) (right : (c x : A) → same c x ≡ true → x ≡ c) (itself : (c : A) → same c c ≡ true) where
    abbrev pub but_all : List A → (A → ℕ) → A → ℕ
    but_all [] f = f
    but_all (c ∷ cs) f = but c (same c) (right c) (itself c) (but_all cs f)

    pub among_but : (cs : List A) (f : A → ℕ) (x : A) → IsIn cs x → but_all cs f x ≡ 0
    among_but [] f x h = absurd h
    among_but (c ∷ cs) f x h = at (same c x) refl h (λ k. among_but cs f x k)
      where
        at : (b : Bool) → same c x ≡ b → (x ≡ c) ⊎ IsIn cs x → (IsIn cs x → but_all cs f x ≡ 0) → cond b 0 (but_all cs f x) ≡ 0
        at true e k ih = refl
        at false e k ih = ⊎_elim (λ is. absurd (true≢false (sym (itself c) ∙ ap (same c) (sym is) ∙ e))) ih k

    pub others_but : (cs : List A) (f : A → ℕ) (x : A) → ¬ (IsIn cs x) → but_all cs f x ≡ f x
    others_but [] f x h = refl
    others_but (c ∷ cs) f x h = at (same c x) refl (others_but cs f x (λ k. h (inr k)))
      where
        at : (b : Bool) → same c x ≡ b → but_all cs f x ≡ f x → cond b 0 (but_all cs f x) ≡ f x
        at true e ih = absurd (h (inl (right c x e)))
        at false e ih = ih

    pub set_all_apart : (cs : List A) (f : A → ℕ) (xs : List A) → AreDifferent xs → AreDifferent cs → ((c : A) → IsIn cs c → (f c ≡ 0) ⊎ IsIn xs c)
        → total f xs ≡ total (but_all cs f) xs + total f cs
    set_all_apart [] f xs d e h = omega arith
    set_all_apart (c ∷ cs) f xs d e h =
        let ih = set_all_apart cs f xs d e.1 (λ x i. h x (inr i)) in
        let o = others_but cs f c e.0 in
        let a = set_apart c (same c) (right c) (itself c) (but_all cs f) xs d (⊎_elim (λ z. inl (o ∙ z)) inr (h c (inl refl))) in
        omega (arith, ih, o, a)

-- a node of level d stands under d others, so there are more nodes than levels
module _ {A : Type 0} (depth : A → ℕ) (xs : List A) (up : (c : A) → IsIn xs c → (d : ℕ) → depth c ≡ d + 1 → (p : A) × IsIn xs p × (depth p ≡ d)) where
  upto : ℕ → ℕ
  upto d = total (λ x. cond {A = ℕ} (leb (depth x) d) 1 0) xs

  at_level : ℕ → ℕ
  at_level d = total (λ x. cond {A = ℕ} (eqb (depth x) d) 1 0) xs

  next_level : (d n : ℕ) → cond {A = ℕ} (leb n (suc d)) 1 0 ≡ cond {A = ℕ} (leb n d) 1 0 + cond {A = ℕ} (eqb n (suc d)) 1 0
  next_level d n = at (leb n d) refl (eqb n (suc d)) refl
    where
      at : (a : Bool) → leb n d ≡ a → (b : Bool) → eqb n (suc d) ≡ b → cond {A = ℕ} (leb n (suc d)) 1 0 ≡ cond {A = ℕ} a 1 0 + cond {A = ℕ} b 1 0
      at true e true f = let l = leb-true n d e in let k = eqb-true n (suc d) f in absurd (omega arith)
      at true e false f = let l = leb-true n d e in ap (λ b. cond {A = ℕ} b 1 0) (le-leb n (suc d) (omega arith))
      at false e true f = let k = eqb-true n (suc d) f in ap (λ b. cond {A = ℕ} b 1 0) (le-leb n (suc d) (omega arith))
      at false e false f = ap (λ b. cond {A = ℕ} b 1 0) (false_from_ne_true (leb n (suc d)) (λ t.
          let l = leb-true n (suc d) t in
          let ne = eqb-false n (suc d) f in
          true≢false (sym (le-leb n d (smaller ne l)) ∙ e)))
        where
          smaller : (n ≡ suc d → ⊥) → n ≤ suc d → n ≤ d
          smaller ne l = omega arith

  upto-suc : (d : ℕ) → upto (suc d) ≡ upto d + at_level (suc d)
  unfolding upto at_level
  upto-suc d =
      total_same _ _ xs (λ x i. next_level d (depth x))
      ∙ total_plus (λ x. cond {A = ℕ} (leb (depth x) d) 1 0) (λ x. cond {A = ℕ} (eqb (depth x) (suc d)) 1 0) xs

  many : (d : ℕ) (c : A) → IsIn xs c → depth c ≡ d → d + 1 ≤ upto d
  unfolding upto at_level
  many zero c i e =
      let h = total_has (λ x. cond {A = ℕ} (leb (depth x) 0) 1 0) xs c i in
      let w : cond {A = ℕ} (leb (depth c) 0) 1 0 ≡ 1 = ap (λ b. cond {A = ℕ} b 1 0) (le-leb (depth c) 0 (omega arith)) in
      omega (arith, h, w)
  many (suc d) c i e =
      let p = up c i d (omega arith) in
      let ih = many d p.0 p.1 p.2 in
      let h = total_has (λ x. cond {A = ℕ} (eqb (depth x) (suc d)) 1 0) xs c i in
      let w : cond {A = ℕ} (eqb (depth c) (suc d)) 1 0 ≡ 1 = ap (λ b. cond {A = ℕ} b 1 0) (eq-eqb (depth c) (suc d) e) in
      let s = upto-suc d in
      omega (arith, ih, h, w, s)

  pub levels_few : (c : A) → IsIn xs c → depth c < length xs
  unfolding upto
  levels_few c i =
      let h = many (depth c) c i refl in
      let f = total_few (λ x. leb (depth x) (depth c)) xs in
      omega (arith, h, f)
