-- What waits in a window becomes Free.
use Rattle.std.proofs.Common.{◌≡◌, ℕ, ◌*◌, ◌+◌, ◌/◌, ◌%◌, ◌<◌, ◌≤◌, Bool, true, false, ◌||◌, arith, refl, ap, sym, ◌∙◌, ⊎_elim}
use Rattle.std.proofs.lemmas.Bool.{cases_eq, cases_lt}
use Rattle.zalloc.specs.declared.set.NumberSet.{NumberSet}
use Rattle.zalloc.specs.Bits.{is_one}
use Rattle.zalloc.specs.Sets.{word_at, is_held, IsFirst, IsWritten}
use Rattle.zalloc.proofs.Words.{no_ones}

or_false : (a : Bool) → (a || false) ≡ a
or_false true = refl
or_false false = refl

module _ (x y v z : NumberSet) (w c d e : ℕ) (a : IsWritten w c x v) (b : IsWritten w 0 y z) (bits : (i : ℕ) → is_one c i ≡ (is_one d i || is_one e i)) (xs : d ≡ word_at x.fill x.words.items w) (ys : e ≡ word_at y.fill y.words.items w) where
  one : (k : ℕ) → k / 64 ≡ w → is_one d (k % 64) ≡ is_held x k
  one k q = ap (λ z. is_one z (k % 64)) (xs ∙ ap (word_at x.fill x.words.items) (sym q))

  two : (k : ℕ) → k / 64 ≡ w → is_one e (k % 64) ≡ is_held y k
  two k q = ap (λ z. is_one z (k % 64)) (ys ∙ ap (word_at y.fill y.words.items) (sym q))

  emptied : (k : ℕ) → k < x.numbers → k / 64 ≡ w → is_held z k ≡ false
  emptied k h q = b.here k q ∙ no_ones (k % 64)

  pub freed_either : (k : ℕ) → k < x.numbers → (is_held v k || is_held z k) ≡ (is_held x k || is_held y k)
  freed_either k h =
      ⊎_elim
      (λ (q : k / 64 ≡ w). (λ i. (a.here k q ∙ bits (k % 64)) i || emptied k h q i) ∙ or_false (is_one d (k % 64) || is_one e (k % 64)) ∙ (λ i. one k q i || two k q i))
      (λ (ne : k / 64 ≡ w → ⊥). (λ i. a.there k ne i || b.there k ne i))
      (cases_eq (k / 64) w)

  pub freed_apart : (k : ℕ) → k < x.numbers → (is_held x k ≡ true → is_held y k ≡ false) → is_held v k ≡ true → is_held z k ≡ false
  freed_apart k h before t =
      ⊎_elim
      (λ (q : k / 64 ≡ w). emptied k h q)
      (λ (ne : k / 64 ≡ w → ⊥). b.there k ne ∙ before (sym (a.there k ne) ∙ t))
      (cases_eq (k / 64) w)

  pub freed_below : (from f : ℕ) → IsFirst y.fill y.words.items from f → f / 64 ≡ w → (k : ℕ) → k < x.numbers → (k < from → is_held y k ≡ false) → k < (w + 1) * 64 → is_held z k ≡ false
  freed_below from f first at k h before p =
      ⊎_elim
      (λ (q : k / 64 ≡ w). emptied k h q)
      (λ (ne : k / 64 ≡ w → ⊥). b.there k ne
      ∙ ⊎_elim
      (λ (lt : k < from). before lt)
      (λ (ge : from ≤ k). first.below k ge (omega (arith, ne, p, at)))
      (cases_lt k from))
      (cases_eq (k / 64) w)
