-- Indices of keys, a level at a time.
use Rattle.std.proofs.Common.{◌≡◌, ◌≢◌, ℕ, zero, suc, ◌≤◌, ◌+◌, ◌*◌, ◌/◌, ◌%◌, ◌^◌, ◌<◌, Bool, true, false, refl, sym, ap, ◌∙◌, arith}
use Rattle.std.specs.Prelude.{◌==◌}
use Rattle.std.proofs.lemmas.Bool.{eqb-true}
use Rattle.std.proofs.lemmas.Nat.{pow-add}
use Rattle.std.proofs.Math.Nat.{div-div-eq-div-mul, div-eq_of_lt, mod-lt, mul-add-div_right}
use Rattle.std.proofs.Math.Arith.{mod-mul}
use Rattle.node.proofs.Order.{span_positive}

pub both_ways : (a b : Bool) → (a ≡ true → b ≡ true) → (b ≡ true → a ≡ true) → a ≡ b
both_ways true true f g = refl
both_ways true false f g = sym (f refl)
both_ways false true f g = g refl
both_ways false false f g = refl

pub eq_not : (a b : ℕ) → a ≢ b → (a == b) ≡ false
eq_not a b h = elim (a == b) as (λ t. (a == b) ≡ t → t ≡ false) [ true ↦ λ e. absurd (h (eqb-true a b e)) | false ↦ λ e. refl ] refl

-- an index of a lower level, at the higher one
pub high_digits : (r lv d l : ℕ) → lv + d ≡ l → (r / 16 ^ lv) / 16 ^ d ≡ r / 16 ^ l
high_digits r lv d l e = div-div-eq-div-mul r (16 ^ lv) (16 ^ d) ∙ ap (λ x. r / x) (sym (pow-add 16 lv d)) ∙ ap (λ n. r / 16 ^ n) e

pub low_digits : (r lv d l : ℕ) → lv + d ≡ l → (r / 16 ^ lv) % 16 ^ d ≡ (r % 16 ^ l) / 16 ^ lv
low_digits r lv d l e =
    let c = span_positive lv in
    let m = span_positive d in
    let turn : 16 ^ lv * 16 ^ d ≡ 16 ^ d * 16 ^ lv = omega arith in
    let power : 16 ^ l ≡ 16 ^ d * 16 ^ lv = ap (λ n. 16 ^ n) (sym e) ∙ pow-add 16 lv d ∙ turn in
    let split : r % (16 ^ d * 16 ^ lv) ≡ (r / 16 ^ lv % 16 ^ d) * 16 ^ lv + r % 16 ^ lv = mod-mul r {m = 16 ^ d} {c = 16 ^ lv} m c in
    let small : r % 16 ^ lv < 16 ^ lv = mod-lt r c in
    let none : (r % 16 ^ lv) / 16 ^ lv ≡ 0 = div-eq_of_lt small in
    let parts : (r % 16 ^ l) / 16 ^ lv ≡ (r / 16 ^ lv % 16 ^ d) + (r % 16 ^ lv) / 16 ^ lv =
    ap (λ x. (r % x) / 16 ^ lv) power ∙ ap (λ x. x / 16 ^ lv) split ∙ mul-add-div_right c (r / 16 ^ lv % 16 ^ d) (r % 16 ^ lv) in
    omega (arith, none, parts)

pub within_place : (q l : ℕ) → q % 16 ^ l < 16 ^ l
within_place q l = mod-lt q (span_positive l)

-- a digit of sixteen is four of two
pub power : (d : ℕ) → d ≤ 5 → 1 * 2 ^ (4 * d) % 4294967296 ≡ 16 ^ d
power zero h = refl
power (suc zero) h = refl
power (suc (suc zero)) h = refl
power (suc (suc (suc zero))) h = refl
power (suc (suc (suc (suc zero)))) h = refl
power (suc (suc (suc (suc (suc zero))))) h = refl
power (suc (suc (suc (suc (suc (suc d)))))) h = absurd (omega arith)
