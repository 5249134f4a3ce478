-- The digits of a block that ends in zeros.
use Rattle.std.proofs.Common.{◌≡◌, ℕ, zero, suc, ◌+◌, ◌-◌, ◌*◌, ◌<◌, ◌≤◌, ◌==◌, ◌&&◌, Bool, true, false, List, [], ◌∷◌, ◌++◌, length, take, drop, replicate, slice_set, refl, sym, ap, ◌∙◌, length-take, length-drop, slice_index_or, eqb-true, true≢false, arith}
use Rattle.std.specs.Prelude.{slice_range}
use Rattle.std.specs.List.{list_all}
use Rattle.std.proofs.lemmas.List.Folds.{list_all_more}
use Rattle.std.proofs.lemmas.List.{take-append-drop, drop-drop, drop-replicate, length-replicate, drop-append-le, append_assoc}
use lib.ListN.{replicate-append-replicate}
use Rattle.hex.specs.Hex.{encode_with, encode_lower, lower_digits}
use Rattle.script.proofs.PartLemmas.{encode-append}

both_true : (x y : Bool) → (x && y) ≡ true → (x ≡ true) × (y ≡ true)
both_true true y e = (refl, e)
both_true false y e = absurd (true≢false (sym e))

zeros_alone : (l : List ℕ) → list_all (λ b. b == 0) l ≡ true → l ≡ replicate (length l) 0
zeros_alone [] e = refl
zeros_alone (b ∷ l) e =
    let h = both_true (b == 0) (list_all (λ k. k == 0) l) e in
    let first : b ≡ 0 = eqb-true b 0 h.0 in
    let rest : l ≡ replicate (length l) 0 = zeros_alone l h.1 in
    λ i. first i ∷ rest i

-- one more byte is looked at
pub zeros_next : (are : Bool) (l : List ℕ) (i : ℕ) → i < length l → are ≡ list_all (λ b. b == 0) (take i l) → (are && (slice_index_or l i 0 == 0)) ≡ list_all (λ b. b == 0) (take (i + 1) l)
zeros_next are l i within e = ap (λ x. x && (slice_index_or l i 0 == 0)) e ∙ sym (list_all_more (λ b. b == 0) l i 0 within)

-- so many zeros more
pub more_zeros : (l : List ℕ) (at next : ℕ) → length l ≡ 512 → at ≤ next → next ≤ 512 → list_all (λ b. b == 0) (slice_range l at next) ≡ true → drop next l ≡ replicate (512 - next) 0
    → drop at l ≡ replicate (512 - at) 0
more_zeros l at next long low high e before =
    let n = next - at in
    let to : at + n ≡ next = omega (arith, low) in
    let wide : length (slice_range l at next) ≡ n = omega (arith, length-take n (drop at l), length-drop at l) in
    let part : take n (drop at l) ≡ replicate n 0 = zeros_alone (slice_range l at next) e ∙ ap (λ k. replicate k 0) wide in
    let after : drop n (drop at l) ≡ replicate (512 - next) 0 = drop-drop n at l ∙ ap (λ k. drop k l) to ∙ before in
    let all : n + (512 - next) ≡ 512 - at = omega (arith, low, high) in
    sym (take-append-drop n (drop at l)) ∙ (λ i. part i ++ after i) ∙ replicate-append-replicate n (512 - next) 0 ∙ ap (λ k. replicate k 0) all

encode_zeros : (n : ℕ) → encode_lower (replicate n 0) ≡ replicate (2 * n) 48
unfolding encode_with
encode_zeros zero = refl
encode_zeros (suc n) = let e : suc (suc (2 * n)) ≡ 2 * suc n = omega arith in ap (λ l. 48 ∷ 48 ∷ l) (encode_zeros n) ∙ ap (λ k. replicate k 48) e

last_set : (n : ℕ) → slice_set {A = ℕ} (replicate (suc n) 48) n 10 ≡ replicate n 48 ++ 10 ∷ []
last_set zero = refl
last_set (suc n) = ap (λ l. 48 ∷ l) (last_set n)

-- the line of a block of zeros, and the digits of what stands before the zeros over its front
pub block_line : (bytes digits : List ℕ) (end : ℕ) → end ≤ 512 → drop end bytes ≡ replicate (512 - end) 0 → digits ≡ encode_lower (take end bytes)
    → digits ++ drop (2 * end) (slice_set {A = ℕ} (replicate 1025 48) 1024 10) ≡ encode_lower bytes ++ 10 ∷ []
block_line bytes digits end low zeros e =
    let wide : 1024 - 2 * end ≡ 2 * (512 - end) = omega arith in
    let n = length-replicate {A = ℕ} 1024 48 in
    let left : drop (2 * end) (slice_set {A = ℕ} (replicate 1025 48) 1024 10) ≡ encode_lower (drop end bytes) ++ 10 ∷ [] =
    ap (drop (2 * end)) (last_set 1024) ∙ drop-append-le (2 * end) (replicate 1024 48) (10 ∷ []) (omega (arith, n, low))
    ∙ ap (λ l. l ++ 10 ∷ []) (drop-replicate (2 * end) 1024 48 ∙ ap (λ k. replicate k 48) wide ∙ sym (encode_zeros (512 - end)) ∙ ap encode_lower (sym zeros)) in
    (λ i. e i ++ left i) ∙ sym (append_assoc (encode_lower (take end bytes)) (encode_lower (drop end bytes)) (10 ∷ []))
    ∙ ap (λ l. l ++ 10 ∷ []) (sym (encode-append lower_digits (take end bytes) (drop end bytes)) ∙ ap encode_lower (take-append-drop end bytes))
