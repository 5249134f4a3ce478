-- Lemmas on words.
use Rattle.std.proofs.Common.{◌≡◌, ◌≢◌, ℕ, ◌+◌, ◌-◌, ◌<◌, ◌≤◌, eqb, List, [], ◌∷◌, ◌++◌, All, None, Some, Result, Ok, Err, length, take, drop, replicate, refl, sym, ap, subst, ◌∙◌, arith, append_assoc, take_all, length-drop, ◌*◌, ◌/◌, nat_lt, cond, slice_index, inl, inr}
use Rattle.std.proofs.lemmas.List.{take-append-drop, drop-replicate, get_or-drop}
use Rattle.std.proofs.lemmas.Bool.{le-ltb, cases_lt}
use Rattle.std.proofs.lemmas.List.Splits.{slice_split_none, slice_split_at}
use Rattle.std.specs.Result.{MatchResult, is_ok}
use Rattle.std.specs.Bool.{OnTrue, OnFalse}
use Rattle.std.proofs.Common.{Bool, true, false, true≢false}
use Rattle.memchr.specs.Find.{Nowhere, NoneBefore, Passes, is_byte}
use Rattle.hex.specs.Hex.{decode_of}
use Rattle.hex.specs.declared.error.FromHexError.{FromHexError}
use Rattle.script.specs.Words.{words_of, filled, block_of_word}
use Rattle.script.proofs.LinesLemmas.{none_before, take_through_byte, all_false}

-- the first word and the rest
pub words_of-space : (line : List ℕ) (k : ℕ) → k < length line → Nowhere (Passes (is_byte 32) line) 0 k → Passes (is_byte 32) line k
    → words_of line ≡ take k line ∷ words_of (drop (k + 1) line)
words_of-space line k within none hit =
    let parts : take k line ++ 32 ∷ drop (k + 1) line ≡ line =
    sym (append_assoc (take k line) (32 ∷ []) (drop (k + 1) line)) ∙ ap (λ l. l ++ drop (k + 1) line) (sym (take_through_byte 32 line k within hit))
    ∙ take-append-drop (k + 1) line in
    ap words_of (sym parts)
    ∙ slice_split_at (λ b. eqb b 32) (take k line) 32 (drop (k + 1) line) (all_false 32 (take k line) (none_before 32 line k (omega arith) none)) refl

-- what stands from place n on, as a range of a slice
pub range_from : (l : List ℕ) (n : ℕ) → take (length l - n) (drop n l) ≡ drop n l
range_from l n = take_all (length l - n) (drop n l) (omega (arith, length-drop n l))

-- a lone word
pub words_of-none : (line : List ℕ) → Nowhere (Passes (is_byte 32) line) 0 (length line) → words_of line ≡ line ∷ []
words_of-none line none =
    slice_split_none (λ b. eqb b 32) line
    (all_false 32 line (subst (All (λ b. b ≢ 32)) (take_all (length line) line (omega arith)) (none_before 32 line (length line) (omega arith) none)))

-- what was decoded, and what was not
pub decoded_true : (d e : Result (List ℕ) FromHexError) (r : Result (Unit {0}) FromHexError) (out : List ℕ) (b : Bool) → e ≡ d
    → MatchResult d (λ bytes. (r ≡ Ok tt) × (out ≡ bytes)) (λ x. r ≡ Err x) → b ≡ is_ok r → OnTrue b (e ≡ Ok out)
decoded_true (Ok bytes) e r out true same h is = same ∙ ap Ok (sym h.1)
decoded_true (Ok bytes) e r out false same h is = tt
decoded_true (Err x) e r out true same h is = absurd (true≢false (is ∙ ap is_ok h))
decoded_true (Err x) e r out false same h is = tt

pub decoded_false : (d e : Result (List ℕ) FromHexError) (r : Result (Unit {0}) FromHexError) (out : List ℕ) (b : Bool) → e ≡ d
    → MatchResult d (λ bytes. (r ≡ Ok tt) × (out ≡ bytes)) (λ x. r ≡ Err x) → b ≡ is_ok r → OnFalse b (filled e ≡ None)
decoded_false (Ok bytes) e r out true same h is = tt
decoded_false (Ok bytes) e r out false same h is = absurd (true≢false (sym (is ∙ ap is_ok h.0)))
decoded_false (Err x) e r out true same h is = tt
decoded_false (Err x) e r out false same h is = ap filled same

-- the block that a word gives
pub block_of_word-ok : (word out : List ℕ) → 2 ≤ length word → length word ≤ 1024 → decode_of word ≡ Ok out
    → block_of_word word ≡ Some (out ++ replicate (512 - length out) 0)
unfolding block_of_word
block_of_word-ok word out low high e =
    ap (λ b. cond b None (cond (nat_lt 1024 (length word)) None (filled (decode_of word)))) (le-ltb (length word) 2 low)
    ∙ ap (λ b. cond b None (filled (decode_of word))) (le-ltb 1024 (length word) high)
    ∙ ap filled e

-- a block of zeros that was filled from a word
pub block-filled : (b : Bool) (word block out : List ℕ) → 2 ≤ length word → length word ≤ 1024 → length word ≡ 2 * length out → block ≡ replicate 512 0
    → OnTrue b (decode_of word ≡ Ok out) → OnTrue b (block_of_word word ≡ Some (out ++ drop (length word / 2) block))
block-filled false word block out low high len zeros h = tt
block-filled true word block out low high len zeros h =
    let n = length word / 2 in
    let long : 512 - n ≡ 512 - length out = omega (arith, len) in
    block_of_word-ok word out low high h
    ∙ sym (ap (λ l. Some (out ++ drop n l)) zeros ∙ ap (λ l. Some (out ++ l)) (drop-replicate n 512 0 ∙ ap (λ k. replicate k 0) long))

-- ---- the first space, in the bytes at hand and behind them

module _ (line : List ℕ) (near : ℕ) where
  abbrev behind : List ℕ
  behind = take (length line - near) (drop near line)

  later : (m : ℕ) → slice_index behind m ≡ slice_index line (near + m)
  later m = ap (λ l. slice_index l m) (range_from line near) ∙ get_or-drop near line m 0

  long : length behind ≡ length line - near
  long = ap length (range_from line near) ∙ length-drop near line

  none_later : Nowhere (Passes (is_byte 32) line) 0 near → (m : ℕ) → Nowhere (Passes (is_byte 32) behind) 0 m → Nowhere (Passes (is_byte 32) line) 0 (near + m)
  none_later none m none' k low high hit =
      elim (cases_lt k near) [
        | inl within ↦ none k low within hit
        | inr past ↦
            let at : near + (k - near) ≡ k = omega arith in
            none' (k - near) (omega arith) (omega arith) (ap (is_byte 32) (later (k - near) ∙ ap (slice_index line) at) ∙ hit)
      ]

  pub no_space : Nowhere (Passes (is_byte 32) line) 0 near → near ≤ length line → Nowhere (Passes (is_byte 32) behind) 0 (length behind) → Nowhere (Passes (is_byte 32) line) 0 (length line)
  no_space none within none' k low high = none_later none (length behind) none' k low (omega (arith, long))

  pub first_space : (m : ℕ) → Nowhere (Passes (is_byte 32) line) 0 near → near ≤ length line → NoneBefore (Passes (is_byte 32) behind) 0 (length behind) m × Passes (is_byte 32) behind m
      → NoneBefore (Passes (is_byte 32) line) 0 (length line) (near + m) × Passes (is_byte 32) line (near + m)
  first_space m none within (first, hit) =
      let high = first.high in
      (record { low = omega arith; high = omega (arith, high, long); before = none_later none m first.before }, ap (is_byte 32) (sym (later m)) ∙ hit)
