-- The bits of a word.
use Rattle.std.proofs.Common.{◌≡◌, ℕ, ◌-◌, ◌*◌, ◌%◌, ◌^◌, ◌<◌, ◌≤◌, min, max, zero, suc, true, false, ◌||◌, arith, refl, ap, sym, ◌∙◌, ⊎_elim}
use Rattle.std.specs.Prelude.{◌==◌}
use Rattle.std.proofs.Common.{bit_and, bit_or, w64}
use Rattle.std.specs.Int.{bit_at, trailing_zeros}
use Rattle.std.proofs.lemmas.Bool.{eq-eqb, ne_eqb, cases_lt}
use Rattle.std.proofs.lemmas.Nat.{and_le_l}
use Rattle.std.proofs.lemmas.Nat.Bits.{bit_at-zero, bit_at_ones, bit_at_and, bit_at_or, bit_at-lt, bit_at_mask_inside, bit_at_mask_below, bit_at-trailing_zeros, ones_shl}
use Rattle.zalloc.specs.Bits.{is_one, IsLowest}

pub one_from : (word i : ℕ) → bit_at word i ≡ 1 → is_one word i ≡ true
one_from word i h = eq-eqb (bit_at word i) 1 h

pub none_from : (word i : ℕ) → bit_at word i ≡ 0 → is_one word i ≡ false
none_from word i h = ne_eqb (bit_at word i) 1 (λ e. absurd (omega (arith, e, h)))

pub same_bit : (a b i j : ℕ) → bit_at a i ≡ bit_at b j → is_one a i ≡ is_one b j
same_bit a b i j h = ap (λ (x : ℕ). x == 1) h

pub all_ones : (i : ℕ) → i < 64 → is_one 18446744073709551615 i ≡ true
all_ones i h = one_from 18446744073709551615 i (bit_at_ones 64 i h)

pub no_ones : (i : ℕ) → is_one 0 i ≡ false
no_ones i = none_from 0 i (bit_at-zero i)

-- the bits of two words
max_one : (x y : ℕ) → x < 2 → y < 2 → (max x y == 1) ≡ ((x == 1) || (y == 1))
max_one zero zero p q = refl
max_one zero (suc zero) p q = refl
max_one (suc zero) zero p q = refl
max_one (suc zero) (suc zero) p q = refl
max_one x (suc (suc y)) p q = absurd (omega arith)
max_one (suc (suc x)) y p q = absurd (omega arith)

pub either_one : (a b i : ℕ) → is_one (bit_or a b) i ≡ (is_one a i || is_one b i)
either_one a b i = ap (λ (x : ℕ). x == 1) (bit_at_or a b i) ∙ max_one (bit_at a i) (bit_at b i) (bit_at-lt a i) (bit_at-lt b i)

pub lowest_of : (word : ℕ) → word < 2 ^ 64 → 0 < word → IsLowest word 0 (trailing_zeros w64 word)
lowest_of word fits some =
    let t = bit_at-trailing_zeros w64 word some fits in
    record {
      from = omega arith;
      within = t.0;
      one = one_from word (trailing_zeros w64 word) t.1;
      below = λ i p q. none_from word i (t.2 i q);
    }

-- the bits from one on
abbrev pub high : ℕ → ℕ → ℕ
high word start = bit_and word (18446744073709551615 * 2 ^ start % 18446744073709551616)

mask_is : (start : ℕ) → start < 64 → 18446744073709551615 * 2 ^ start % 18446744073709551616 ≡ 18446744073709551616 - 2 ^ start
mask_is start p = ones_shl 64 start (omega arith)

min_one : (x : ℕ) → x < 2 → min x 1 ≡ x
min_one x p = omega arith

min_none : (x : ℕ) → min x 0 ≡ 0
min_none x = omega arith

high_same : (word start i : ℕ) → start < 64 → start ≤ i → i < 64 → bit_at (high word start) i ≡ bit_at word i
high_same word start i s p q =
    bit_at_and word (18446744073709551615 * 2 ^ start % 18446744073709551616) i
    ∙ ap (λ m. min (bit_at word i) (bit_at m i)) (mask_is start s) ∙ ap (λ x. min (bit_at word i) x) (bit_at_mask_inside start 64 i p q) ∙ min_one (bit_at word i) (bit_at-lt word i)

high_none : (word start i : ℕ) → start < 64 → i < start → bit_at (high word start) i ≡ 0
high_none word start i s p =
    bit_at_and word (18446744073709551615 * 2 ^ start % 18446744073709551616) i
    ∙ ap (λ m. min (bit_at word i) (bit_at m i)) (mask_is start s) ∙ ap (λ x. min (bit_at word i) x) (bit_at_mask_below start 64 i p) ∙ min_none (bit_at word i)

pub no_higher : (word start : ℕ) → start < 64 → high word start ≡ 0 → (i : ℕ) → start ≤ i → i < 64 → is_one word i ≡ false
no_higher word start s e i p q = none_from word i (sym (high_same word start i s p q) ∙ ap (λ x. bit_at x i) e ∙ bit_at-zero i)

pub lowest_higher : (word start : ℕ) → start < 64 → word < 2 ^ 64 → 0 < high word start → IsLowest word start (trailing_zeros w64 (high word start))
lowest_higher word start s fits some =
    let h = high word start in
    let b = trailing_zeros w64 h in
    let le = and_le_l word (18446744073709551615 * 2 ^ start % 18446744073709551616) in
    let t = bit_at-trailing_zeros w64 h some (omega (arith, le, fits)) in
    let from : start ≤ b = ⊎_elim (λ (p : b < start). absurd (omega (arith, high_none word start b s p, t.1))) (λ (p : start ≤ b). p) (cases_lt b start) in
    record {
      from = from;
      within = t.0;
      one = one_from word b (sym (high_same word start b s from t.0) ∙ t.1);
      below = λ i p q. none_from word i (sym (high_same word start i s p (omega (arith, q, t.0))) ∙ t.2 i q);
    }
