-- How many numbers no block has.
use Rattle.std.proofs.Common.{◌≡◌, ℕ, zero, suc, ◌+◌, ◌≤◌, Bool, cond, not, [], ◌∷◌, refl, sym, ap, ◌∙◌, inl, inr, ⊎_elim, arith}
use Rattle.std.specs.Prelude.{nat_lt, ◌==◌}
use Rattle.std.specs.FinSet.{retain, len, from_list, len-empty, empty}
use Rattle.std.proofs.lemmas.Bool.{ltb-true, lt-ltb, eqb-true, eq-eqb, cases_lt}
use Rattle.base.specs.Map.{BlockSet, block_cmp}
use Rattle.model.specs.State.{is_number_of}
use Rattle.world.specs.Reach.{AreNumbersUnique}
use Rattle.world.specs.Blocks.{block_order as o}
use Rattle.world.proofs.lists.SetCounts.{len-two_parts, len-subset, in_retain, from_retain, some_member, same_members, no-empty}
use Rattle.steps.proofs.numbers.Surveys.{in_list, len-from_list}

-- how many of the numbers below n pass a test
abbrev pub count_below : (ℕ → Bool) → ℕ → ℕ
count_below p zero = 0
count_below p (suc n) = cond {A = ℕ} (p n) 1 0 + count_below p n

module _ (U : BlockSet) (unique : AreNumbersUnique U) where
  abbrev below : ℕ → BlockSet
  below n = retain U (λ b. nat_lt b.number n)

  abbrev at_number : ℕ → BlockSet
  at_number n = retain U (λ b. b.number == n)

  one_more : (n : ℕ) → len (below (suc n)) ≡ len (below n) + len (at_number n)
  one_more n = len-two_parts o (below (suc n)) (below n) (at_number n)
      (λ b h. let p = from_retain o U (λ b. nat_lt b.number n) b h in let l = ltb-true b.number n p.1 in in_retain o U (λ b. nat_lt b.number (suc n)) b p.0 (lt-ltb b.number (suc n) (omega arith)))
      (λ b h. let p = from_retain o U (λ b. b.number == n) b h in let e = eqb-true b.number n p.1 in in_retain o U (λ b. nat_lt b.number (suc n)) b p.0 (lt-ltb b.number (suc n) (omega arith)))
      (λ b h g. let p = from_retain o U (λ b. nat_lt b.number n) b h in let q = from_retain o U (λ b. b.number == n) b g in let l = ltb-true b.number n p.1 in let e = eqb-true b.number n q.1 in absurd (omega arith))
      (λ b h. let p = from_retain o U (λ b. nat_lt b.number (suc n)) b h in let l = ltb-true b.number (suc n) p.1 in ⊎_elim
      (λ k. inl (in_retain o U (λ b. nat_lt b.number n) b p.0 (lt-ltb b.number n k)))
      (λ k. inr (in_retain o U (λ b. b.number == n) b p.0 (eq-eqb b.number n (omega arith))))
      (cases_lt b.number n))

  at_most_one : (n : ℕ) → len (at_number n) ≤ 1
  at_most_one n = ⊎_elim
      (λ k. let s = some_member o (at_number n) k in
      let p = from_retain o U (λ b. b.number == n) s.0 s.1 in
      let l = len-subset o (at_number n) (from_list (s.0 ∷ []))
      (λ b h. let q = from_retain o U (λ b. b.number == n) b h in in_list (s.0 ∷ []) b (inl (unique b s.0 q.0 p.0 (eqb-true b.number n q.1 ∙ sym (eqb-true s.0.number n p.1))))) in
      let e = len-from_list (s.0 ∷ []) ((λ h. h), tt) in omega (arith, l, e))
      (λ k. omega arith)
      (cases_lt 0 (len (at_number n)))

  weight : (m : ℕ) → m ≤ 1 → cond {A = ℕ} (not (nat_lt 0 m)) 1 0 + m ≡ 1
  weight zero h = refl
  weight (suc zero) h = refl
  weight (suc (suc m)) h = absurd (omega arith)

  -- the numbers below n that no block has, and the blocks of numbers below n
  pub free_and_taken : (n : ℕ) → count_below (λ k. not (is_number_of U k)) n + len (below n) ≡ n
  free_and_taken zero =
      let none : len (below 0) ≡ 0 =
      ap len (same_members o (below 0) empty (λ b h. let p = from_retain o U (λ b. nat_lt b.number 0) b h in let l = ltb-true b.number 0 p.1 in absurd (omega arith)) (λ b h. absurd (no-empty o b h)))
      ∙ len-empty block_cmp in
      omega (arith, none)
  free_and_taken (suc n) =
      let ih = free_and_taken n in
      let m = one_more n in
      let w = weight (len (at_number n)) (at_most_one n) in
      omega (arith, ih, m, w)
