-- Words that single spaces join, seen byte by byte.
use Rattle.std.proofs.Common.{◌≡◌, ℕ, ◌<◌, ◌≤◌, ◌+◌, ◌-◌, ◌&&◌, not, Bool, true, false, cond, List, [], ◌∷◌, length, take, drop, length-drop, nat_eq, nat_le, slice_index_or, refl, sym, ap, subst, ◌∙◌, zero, suc, arith}
use Rattle.std.specs.List.{list_all, onto_first}
use Rattle.std.proofs.lemmas.Bool.{lt-ltb}
use Rattle.std.proofs.lemmas.List.{get_or-drop, drop-drop}
use Rattle.script.specs.Words.{is_printable, may_follow, is_word, words_of, joins, joins_from}

-- bytes join behind a space or another byte, and no space is the last
abbrev joined : Bool → List ℕ → Bool
joined after_space [] = not after_space
joined after_space (b ∷ bs) = may_follow (after_space, b) && joined (nat_eq b 32) bs

none_with : (x : Bool) → (x && false) ≡ false
none_with false = refl
none_with true = refl

all_with : (x : Bool) → (x && true) ≡ x
all_with false = refl
all_with true = refl

three : (x y z : Bool) → (x && (y && z)) ≡ ((x && y) && z)
three false y z = refl
three true y z = refl

-- a byte more in the first word
longer : (b : ℕ) (words : List (List ℕ)) → list_all is_word (onto_first b words) ≡ list_all is_word (drop 1 words)
longer b [] = refl
longer b (word ∷ words) = ap (λ x. x && list_all is_word words) (lt-ltb 0 (suc (length word)) (omega arith))

others : (b : ℕ) (words : List (List ℕ)) → drop 1 (onto_first b words) ≡ drop 1 words
others b [] = refl
others b (word ∷ words) = refl

-- after a space each word is looked at, and within one those after it
module _ (b : ℕ) (bs : List ℕ) where
  after_space : (s : Bool) → joined false bs ≡ (list_all is_printable bs && list_all is_word (drop 1 (words_of bs)))
      → ((is_printable b && not (s && true)) && joined s bs) ≡ ((is_printable b && list_all is_printable bs) && list_all is_word (cond s ([] ∷ words_of bs) (onto_first b (words_of bs))))
  after_space true e = ap (λ x. x && joined true bs) (none_with (is_printable b)) ∙ sym (none_with (is_printable b && list_all is_printable bs))
  after_space false e =
      (λ i. all_with (is_printable b) i && e i) ∙ three (is_printable b) (list_all is_printable bs) (list_all is_word (drop 1 (words_of bs)))
      ∙ ap (λ x. (is_printable b && list_all is_printable bs) && x) (sym (longer b (words_of bs)))

  within : (s : Bool) → joined true bs ≡ (list_all is_printable bs && list_all is_word (words_of bs)) → joined false bs ≡ (list_all is_printable bs && list_all is_word (drop 1 (words_of bs)))
      → ((is_printable b && not (s && false)) && joined s bs) ≡ ((is_printable b && list_all is_printable bs) && list_all is_word (drop 1 (cond s ([] ∷ words_of bs) (onto_first b (words_of bs)))))
  within true e f = (λ i. all_with (is_printable b) i && e i) ∙ three (is_printable b) (list_all is_printable bs) (list_all is_word (words_of bs))
  within false e f =
      (λ i. all_with (is_printable b) i && f i) ∙ three (is_printable b) (list_all is_printable bs) (list_all is_word (drop 1 (words_of bs)))
      ∙ ap (λ x. (is_printable b && list_all is_printable bs) && list_all is_word x) (sym (others b (words_of bs)))

both : (bs : List ℕ) → (joined true bs ≡ (list_all is_printable bs && list_all is_word (words_of bs))) × (joined false bs ≡ (list_all is_printable bs && list_all is_word (drop 1 (words_of bs))))
both [] = (refl, refl)
both (b ∷ bs) = (after_space b bs (nat_eq b 32) (both bs).1, within b bs (nat_eq b 32) (both bs).0 (both bs).1)

joined_words : (line : List ℕ) → joined true line ≡ (list_all is_printable line && list_all is_word (words_of line))
joined_words line = (both line).0

spread : (o x y n j : Bool) → ((((o && x) && y) && n) && j) ≡ (o && (((x && y) && n) && j))
spread false x y n j = refl
spread true false y n j = refl
spread true true false n j = refl
spread true true true n j = refl

-- one byte further
module _ (ok after : Bool) where
  abbrev pub Goes : List ℕ → ℕ → ℕ → Type 0
  Goes bytes i k =
      ((((ok && nat_le 32 (slice_index_or bytes i 0)) && nat_le (slice_index_or bytes i 0) 126) && not (nat_eq (slice_index_or bytes i 0) 32 && after)) && joins (nat_eq (slice_index_or bytes i 0) 32) (drop k bytes))
      ≡ (ok && joins after (drop i bytes))

  next : (bytes : List ℕ) (i : ℕ) → i < length bytes → Goes bytes i (suc i)
  next [] i lt = absurd (omega (arith, lt))
  next (b ∷ bs) zero lt = spread ok (nat_le 32 b) (nat_le b 126) (not (nat_eq b 32 && after)) (joins (nat_eq b 32) bs)
  next (b ∷ bs) (suc i) lt = next bs i (omega (arith, lt))

  pub joins_next : (bytes : List ℕ) (i : ℕ) → i < length bytes → Goes bytes i (i + 1)
  joins_next bytes i lt = let one : suc i ≡ i + 1 = omega arith in subst (Goes bytes i) one (next bytes i lt)

-- at the end
pub joins_end : (ok after : Bool) (bytes : List ℕ) (i : ℕ) → length bytes ≤ i → (ok && joins after (drop i bytes)) ≡ ok
joins_end true after [] zero h = refl
joins_end false after [] zero h = refl
joins_end true after [] (suc i) h = refl
joins_end false after [] (suc i) h = refl
joins_end ok after (b ∷ bs) zero h = absurd (omega (arith, h))
joins_end ok after (b ∷ bs) (suc i) h = joins_end ok after bs i (omega (arith, h))

-- ---- many bytes at a time

-- whether a space stands before place n, or before these bytes
abbrev behind : Bool → List ℕ → ℕ → Bool
behind after bs zero = after
behind after bs (suc n) = nat_eq (slice_index_or bs n 0) 32

behind_next : (after : Bool) (b : ℕ) (bs : List ℕ) (n : ℕ) → behind (nat_eq b 32) bs n ≡ behind after (b ∷ bs) (suc n)
behind_next after b bs zero = refl
behind_next after b bs (suc n) = refl

-- so many bytes, and those after them
cut : (n : ℕ) (after : Bool) (bs : List ℕ) → n ≤ length bs → joins after bs ≡ (joins after (take n bs) && joins (behind after bs n) (drop n bs))
cut zero after bs h = refl
cut (suc n) after [] h = absurd (omega (arith, h))
cut (suc n) after (b ∷ bs) h =
    ap (λ x. may_follow (after, b) && x) (cut n (nat_eq b 32) bs (omega (arith, h)) ∙ ap (λ s. joins (nat_eq b 32) (take n bs) && joins s (drop n bs)) (behind_next after b bs n))
    ∙ three (may_follow (after, b)) (joins (nat_eq b 32) (take n bs)) (joins (behind after (b ∷ bs) (suc n)) (drop n bs))

-- no space stands at the end of bytes that join
whole : (after : Bool) (bs : List ℕ) → joined after bs ≡ (joins after bs && not (behind after bs (length bs)))
whole after [] = refl
whole after (b ∷ bs) =
    ap (λ x. may_follow (after, b) && x) (whole (nat_eq b 32) bs ∙ ap (λ s. joins (nat_eq b 32) bs && not s) (behind_next after b bs (length bs)))
    ∙ three (may_follow (after, b)) (joins (nat_eq b 32) bs) (not (behind after (b ∷ bs) (suc (length bs))))

behind_at : (after : Bool) (bs : List ℕ) (n : ℕ) → 0 < n → behind after bs n ≡ nat_eq (slice_index_or bs (n - 1) 0) 32
behind_at after bs zero h = absurd (omega (arith, h))
behind_at after bs (suc n) h = let one : n ≡ suc n - 1 = omega arith in ap (λ k. nat_eq (slice_index_or bs k 0) 32) one

-- the first byte, which stands behind nothing
pub begins : (line : List ℕ) → 0 < length line → (joins true (take 1 line) && joins_from 1 line) ≡ joins true line
begins line h = sym (cut 1 true line (omega (arith, h)))

-- what is left behind so many bytes that join
pub left_on : (line : List ℕ) (n step : ℕ) → 0 < step → n + step ≤ length line → joins (nat_eq (slice_index_or line (n - 1) 0) 32) (take (n + step - n) (drop n line)) ≡ true
    → joins_from (n + step) line ≡ joins_from n line
left_on line n step some high h =
    let after = nat_eq (slice_index_or line (n - 1) 0) 32 in
    let at : n + (step - 1) ≡ n + step - 1 = omega (arith, some) in
    let long : step ≡ n + step - n = omega arith in
    sym (cut step after (drop n line) (omega (arith, high, length-drop n line))
    ∙ ap (λ x. x && joins (behind after (drop n line) step) (drop step (drop n line))) (ap (λ k. joins after (take k (drop n line))) long ∙ h)
    ∙ ap (λ s. joins s (drop step (drop n line))) (behind_at after (drop n line) step some)
    ∙ ap (λ b. joins (nat_eq b 32) (drop step (drop n line))) (get_or-drop n line (step - 1) 0 ∙ ap (λ k. slice_index_or line k 0) at)
    ∙ ap (joins (nat_eq (slice_index_or line (n + step - 1) 0) 32)) (drop-drop step n line))

-- the whole line, by what is left of it and its last byte
pub joins_all : (line : List ℕ) → 0 < length line → (joins true line && not (nat_eq (slice_index_or line (length line - 1) 0) 32)) ≡ (list_all is_printable line && list_all is_word (words_of line))
joins_all line h = ap (λ s. joins true line && not s) (sym (behind_at true line (length line) h)) ∙ sym (whole true line) ∙ joined_words line
