-- A number's one spelling.
use Rattle.std.proofs.Common.{◌≡◌, ℕ, ◌+◌, ◌-◌, ◌*◌, ◌^◌, ◌<◌, ◌≤◌, nat_le, ◌&&◌, ◌⊎◌, inl, inr, Bool, true, false, eqb, cond, List, [], ◌∷◌, Option, None, Some, get_or, eq-eqb, eqb-true, ne_eqb, refl, sym, ap, subst, ◌∙◌, arith, rules}
use Rattle.std.specs.Str.{all_ascii_digits, bytes_eq}
use Rattle.std.specs.Fmt.{decimal, digits}
use Rattle.std.proofs.lemmas.Bool.{le-leb, cases_lt, false≢true}
use Rattle.std.proofs.lemmas.Str.Parse.{IsNumeralModel, numerals_by_fold}
use Rattle.std.proofs.lemmas.Fmt.{decimal-digits_value, digits_decimal, digits_value-decimal, first_decimal, decimal_digit}
use Rattle.script.specs.Words.{number_from, number_up_to}
use Rattle.script.specs.Examples.{HasOneSpelling}

-- the number of digits after n
abbrev read_on : ℕ → List ℕ → ℕ
read_on n [] = n
read_on n (c ∷ cs) = read_on (10 * n + (c - 48)) cs

own : IsNumeralModel (λ ds. all_ascii_digits ds ≡ true) (read_on 0)
own = numerals_by_fold _ (search rules) read_on (search rules)

unwrap_zero : Option ℕ → ℕ
unwrap_zero None = 0
unwrap_zero (Some n) = n

Some-value : (m n : ℕ) → Some m ≡ Some n → m ≡ n
unfolding unwrap_zero
Some-value m n e = ap unwrap_zero e

is_there : Option ℕ → Bool
is_there None = false
is_there (Some n) = true

no_None : {A : Type 0} (n : ℕ) (o : Option ℕ) → is_there o ≡ false → o ≡ Some n → A
unfolding is_there
no_None n o none e = absurd (false≢true (sym none ∙ ap is_there e))

none_there : is_there None ≡ false
unfolding is_there
none_there = refl

-- a digit more was read
step : (digit fits : Bool) (rest : Option ℕ) (n : ℕ) → cond digit (cond fits rest None) None ≡ Some n → (digit ≡ true) × (fits ≡ true) × (rest ≡ Some n)
step true true rest n e = (refl, refl, e)
step true false rest n e = no_None n None none_there e
step false fits rest n e = no_None n None none_there e

-- what was read is digits with this value, within the limit
number_from-reads : (most m : ℕ) (ds : List ℕ) (n : ℕ) → number_from most m ds ≡ Some n → (all_ascii_digits ds ≡ true) × (read_on m ds ≡ n)
number_from-reads most m [] n e = (refl, Some-value m n e)
number_from-reads most m (c ∷ cs) n e =
    let s = step (nat_le 48 c && nat_le c 57) (nat_le (10 * m + (c - 48)) most) (number_from most (10 * m + (c - 48)) cs) n e in
    let rest = number_from-reads most (10 * m + (c - 48)) cs n s.2 in
    (ap (λ b. b && all_ascii_digits cs) s.0 ∙ rest.0, rest.1)

read_on-le : (m : ℕ) (ds : List ℕ) → m ≤ read_on m ds
read_on-le m [] = omega arith
read_on-le m (c ∷ cs) = omega (arith, read_on-le (10 * m + (c - 48)) cs)

both : (a b : Bool) → (a && b) ≡ true → (a ≡ true) × (b ≡ true)
both true b e = (refl, e)
both false b e = absurd (false≢true e)

-- digits with a value within the limit are read
number_from-of_digits : (most m : ℕ) (ds : List ℕ) → all_ascii_digits ds ≡ true → read_on m ds ≤ most → number_from most m ds ≡ Some (read_on m ds)
number_from-of_digits most m [] d h = refl
number_from-of_digits most m (c ∷ cs) d h =
    let parts = both (nat_le 48 c && nat_le c 57) (all_ascii_digits cs) d in
    let fits : nat_le (10 * m + (c - 48)) most ≡ true = le-leb _ _ (omega (arith, read_on-le (10 * m + (c - 48)) cs)) in
    ap (λ b. cond b (cond (nat_le (10 * m + (c - 48)) most) (number_from most (10 * m + (c - 48)) cs) None) None) parts.0
    ∙ ap (λ b. cond b (number_from most (10 * m + (c - 48)) cs) None) fits
    ∙ number_from-of_digits most (10 * m + (c - 48)) cs parts.1 h

module _ (most : ℕ) (small : most < 2 ^ 64) where
  -- a word that begins with another digit than 0
  to_over_zero : (c : ℕ) (cs : List ℕ) (n : ℕ) → n ≤ most → eqb c 48 ≡ false → number_from most 0 (c ∷ cs) ≡ Some n → c ∷ cs ≡ decimal n
  to_over_zero c cs n le other e =
      let reads = number_from-reads most 0 (c ∷ cs) n e in
      sym (decimal-digits_value own (c ∷ cs) reads.0 (omega arith) (λ is. absurd (false≢true (sym other ∙ eq-eqb c 48 is))) (omega (arith, small, le, reads.1)))
      ∙ ap decimal reads.1

  to_zero : (c n : ℕ) → eqb c 48 ≡ true → Some 0 ≡ Some n → c ∷ [] ≡ decimal n
  to_zero c n zero e = ap (λ k. k ∷ []) (eqb-true c 48 zero) ∙ sym (decimal_digit 0 (omega arith)) ∙ ap decimal (Some-value 0 n e)

  to_decimal : (word : List ℕ) (n : ℕ) → n ≤ most → number_up_to most word ≡ Some n → word ≡ decimal n
  unfolding number_up_to
  to_decimal [] n le e = no_None n None none_there e
  to_decimal (c ∷ []) n le e = at (eqb c 48) refl e
    where
      at : (b : Bool) → eqb c 48 ≡ b → cond (b && true) (Some 0) (cond b None (number_from most 0 (c ∷ []))) ≡ Some n → c ∷ [] ≡ decimal n
      at true is e = to_zero c n is e
      at false is e = to_over_zero c [] n le is e
  to_decimal (c ∷ d ∷ ds) n le e = at (eqb c 48) refl e
    where
      at : (b : Bool) → eqb c 48 ≡ b → cond (b && false) (Some 0) (cond b None (number_from most 0 (c ∷ d ∷ ds))) ≡ Some n → c ∷ d ∷ ds ≡ decimal n
      at true is e = no_None n None none_there e
      at false is e = to_over_zero c (d ∷ ds) n le is e

  of_over_zero : (d : List ℕ) → 48 < get_or d 0 0 → all_ascii_digits d ≡ true → read_on 0 d ≤ most → number_up_to most d ≡ Some (read_on 0 d)
  unfolding number_up_to
  of_over_zero [] first digits h = absurd (omega arith)
  of_over_zero (c ∷ cs) first digits h =
      ap (λ b. cond (b && bytes_eq cs []) (Some 0) (cond b None (number_from most 0 (c ∷ cs)))) (ne_eqb c 48 (λ e. omega arith))
      ∙ number_from-of_digits most 0 (c ∷ cs) digits h

  of_zero : number_up_to most (48 ∷ []) ≡ Some 0
  unfolding number_up_to
  of_zero = refl

  of_decimal : (n : ℕ) → n ≤ most → number_up_to most (decimal n) ≡ Some n
  of_decimal n le = at (cases_lt 0 n)
    where
      at : (0 < n) ⊎ (n ≤ 0) → number_up_to most (decimal n) ≡ Some n
      at (inl more) =
          let fits : n < 2 ^ 64 = omega (arith, small, le) in
          let value : read_on 0 (decimal n) ≡ n = digits_value-decimal own n fits in
          of_over_zero (decimal n) (first_decimal n more fits) (digits_decimal own n fits) (omega (arith, le, value)) ∙ ap Some value
      at (inr none) =
          let zero : 0 ≡ n = omega arith in
          subst (λ k. number_up_to most (decimal k) ≡ Some k) zero (ap (number_up_to most) (decimal_digit 0 (omega arith)) ∙ of_zero)

pub one_spelling : HasOneSpelling
one_spelling most word n small le = (to_decimal most small word n le, λ e. ap (number_up_to most) e ∙ of_decimal most small n le)
