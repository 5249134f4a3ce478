-- Levels of words.
use Rattle.std.proofs.Common.{◌≡◌, ◌≢◌, ℕ, ◌+◌, ◌*◌, ◌/◌, ◌%◌, ◌<◌, ◌≤◌, ◌⊎◌, inl, inr, false, not, List, length, get_or, arith, ap, sym, ◌∙◌, subst, ⊎_elim}
use Rattle.std.proofs.lemmas.Bool.{cases_eq, cases_lt, true≢false, ne_eqb}
use Rattle.std.proofs.lemmas.List.{get_or_past}
use Rattle.zalloc.specs.Bits.{is_one, IsEven}
use Rattle.zalloc.specs.declared.set.NumberSet.{NumberSet}
use Rattle.zalloc.specs.Sets.{word_at, bit_in, has_one, is_held, Tells, HasNone, IsFirst, IsWritten}
use Rattle.std.proofs.lemmas.Grind.{get_or_default_zero}
use Rattle.zalloc.proofs.Words.{all_ones, no_ones}

past_words : (fill : ℕ) (words : List ℕ) (i : ℕ) → length words ≤ i → word_at fill words i ≡ fill
past_words fill words i h = get_or_past words i fill h

-- a word without a one
no_word : (word : ℕ) → has_one word ≡ false → word ≡ 0
no_word word h = ⊎_elim (λ (e : word ≡ 0). e) (λ (ne : word ≡ 0 → ⊥). absurd (true≢false (sym (ap not (ne_eqb word 0 ne)) ∙ h))) (cases_eq word 0)

empty_word : (fill : ℕ) (words : List ℕ) (i : ℕ) → has_one (word_at fill words (i / 64)) ≡ false → bit_in fill words i ≡ false
empty_word fill words i h = ap (λ x. is_one x (i % 64)) (no_word (word_at fill words (i / 64)) h) ∙ no_ones (i % 64)

-- a level still tells of the one below, after a word of that was put and its bit
pub still_tells : (fill : ℕ) (upper lower uppers lowers : List ℕ) (w : ℕ) → Tells fill upper lower → bit_in fill uppers w ≡ has_one (word_at fill lowers w) → ((k : ℕ) → k ≢ w → bit_in fill uppers k ≡ bit_in fill upper k) → ((i : ℕ) → i ≢ w → word_at fill lowers i ≡ word_at fill lower i) → Tells fill uppers lowers
still_tells fill upper lower uppers lowers w t here there others i =
    ⊎_elim
    (λ (e : i ≡ w). subst (λ j. bit_in fill uppers j ≡ has_one (word_at fill lowers j)) (sym e) here)
    (λ (ne : i ≡ w → ⊥). there i ne ∙ t i ∙ ap has_one (sym (others i ne)))
    (cases_eq i w)

-- the first bit from one on, found through the level above
module _ (fill : ℕ) (upper lower : List ℕ) (start : ℕ) (t : Tells fill upper lower) (none : (i : ℕ) → start ≤ i → i / 64 ≡ start / 64 → bit_in fill lower i ≡ false) where
  passed : (i : ℕ) → start ≤ i → bit_in fill upper (i / 64) ≡ false → bit_in fill lower i ≡ false
  passed i p e = empty_word fill lower i (sym (t (i / 64)) ∙ e)

  pub first_through : (w k : ℕ) → IsFirst fill upper (start / 64 + 1) w → IsFirst fill lower (w * 64) k → k / 64 ≡ w → IsFirst fill lower start k
  first_through w k u l same = record {
    from = omega (arith, u.from, l.from);
    one = l.one;
    below = λ i p q.
        ⊎_elim
        (λ (e : i / 64 ≡ start / 64). none i p e)
        (λ (ne : i / 64 ≡ start / 64 → ⊥). ⊎_elim
        (λ (lt : i < w * 64). passed i p (u.below (i / 64) (omega (arith, p, ne)) (omega (arith, lt))))
        (λ (ge : w * 64 ≤ i). l.below i ge q)
        (cases_lt i (w * 64)))
        (cases_eq (i / 64) (start / 64));
  }

  pub none_through : HasNone fill upper (start / 64 + 1) → HasNone fill lower start
  none_through u i p =
      ⊎_elim
      (λ (e : i / 64 ≡ start / 64). none i p e)
      (λ (ne : i / 64 ≡ start / 64 → ⊥). passed i p (u (i / 64) (omega (arith, p, ne))))
      (cases_eq (i / 64) (start / 64))

-- word by word
pub first_after : (fill : ℕ) (words : List ℕ) (from start k : ℕ) → from ≤ start → ((i : ℕ) → from ≤ i → i < start → bit_in fill words i ≡ false) → IsFirst fill words start k → IsFirst fill words from k
first_after fill words from start k p below f = record {
  from = omega (arith, p, f.from);
  one = f.one;
  below = λ i q r. ⊎_elim (λ (lt : i < start). below i q lt) (λ (ge : start ≤ i). f.below i ge r) (cases_lt i start);
}

past_bit : (fill : ℕ) (words : List ℕ) (i : ℕ) → length words ≤ i / 64 → bit_in fill words i ≡ is_one fill (i % 64)
past_bit fill words i h = ap (λ x. is_one x (i % 64)) (past_words fill words (i / 64) h)

pub first_past : (fill : ℕ) (words : List ℕ) (start : ℕ) → IsEven fill → fill ≢ 0 → length words ≤ start / 64 → IsFirst fill words start start
first_past fill words start (inl z) ne h = absurd (ne z)
first_past fill words start (inr m) ne h = record {
  from = omega arith;
  one = past_bit fill words start h ∙ ap (λ x. is_one x (start % 64)) m ∙ all_ones (start % 64) (omega arith);
  below = λ i p q. absurd (omega (arith, p, q));
}

-- the windows of a list that are still to be copied
abbrev pub AreLeft : NumberSet → NumberSet → List ℕ → ℕ → Type 0
AreLeft x y ws i = (k : ℕ) → k < x.numbers → (is_held x k ≡ is_held y k) ⊎ ((j : ℕ) × (i ≤ j) × (j < length ws) × (get_or ws j (k / 64) ≡ k / 64))

pub left_fewer : (x y v : NumberSet) (ws : List ℕ) (i w c : ℕ) → IsWritten w c x v → c ≡ word_at y.fill y.words.items w → get_or ws i 0 ≡ w → i < length ws → AreLeft x y ws i → AreLeft v y ws (i + 1)
left_fewer x y v ws i w c a word e lt left k h =
    ⊎_elim
    (λ (q : k / 64 ≡ w). inl (a.here k q ∙ ap (λ z. is_one z (k % 64)) (word ∙ ap (word_at y.fill y.words.items) (sym q))))
    (λ (ne : k / 64 ≡ w → ⊥). ⊎_elim
    (λ (q : is_held x k ≡ is_held y k). inl (a.there k ne ∙ q))
    (λ (t : (j : ℕ) × (i ≤ j) × (j < length ws) × (get_or ws j (k / 64) ≡ k / 64)).
    let other : t.0 ≢ i = λ z. ne (sym t.3 ∙ ap (λ j. get_or ws j (k / 64)) z ∙ get_or_default_zero ws i (k / 64) lt ∙ e) in
    inr (t.0, omega (arith, t.1, other), t.2, t.3))
    (left k (omega (arith, h, a.numbers))))
    (cases_eq (k / 64) w)

pub left_none : (x y : NumberSet) (ws : List ℕ) (i : ℕ) → length ws ≤ i → AreLeft x y ws i → (k : ℕ) → k < x.numbers → is_held x k ≡ is_held y k
left_none x y ws i past left k h =
    ⊎_elim
    (λ (q : is_held x k ≡ is_held y k). q)
    (λ (t : (j : ℕ) × (i ≤ j) × (j < length ws) × (get_or ws j (k / 64) ≡ k / 64)). absurd (omega (arith, t.1, t.2, past)))
    (left k h)
