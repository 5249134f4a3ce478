-- Lemmas on a stream's digits, written part by part.
use Rattle.std.proofs.Common.{◌≡◌, ℕ, List, [], ◌∷◌, ◌++◌, ◌/◌, ◌%◌, slice_index, length, take, drop, arith, Option, refl, sym, ap, subst, ◌∙◌, append_assoc}
use Rattle.std.proofs.lemmas.List.{append-nil, take-append-drop}
use Rattle.std.specs.Io.KnownBytes.{Appends}
use Rattle.std.proofs.KnownBytes.{Appends-nil, Appends-trans}
use Rattle.hex.specs.Hex.{encode_with, encode_lower, lower_digits}

-- the digits of all these bytes but the ones that are left are written
pub record IsWrittenBut (held held' : Option (List ℕ)) (bytes left : List ℕ) : Type 0 where
  pub front : List ℕ
  pub split : bytes ≡ front ++ left
  pub written : Appends held held' (encode_lower front)

pub encode-append : (t xs ys : List ℕ) → encode_with t (xs ++ ys) ≡ encode_with t xs ++ encode_with t ys
unfolding encode_with
encode-append t [] ys = refl
encode-append t (x ∷ xs) ys = ap (λ l. slice_index t (x / 16) ∷ slice_index t (x % 16) ∷ l) (encode-append t xs ys)

pub none_written : (held : Option (List ℕ)) (bytes : List ℕ) → IsWrittenBut held held bytes bytes
unfolding encode_with
none_written held bytes = record { front = []; split = refl; written = Appends-nil held }

-- one part more
pub more_written : (a b c : Option (List ℕ)) (bytes left part more : List ℕ) (n : ℕ) → IsWrittenBut a b bytes left → part ≡ take n left → more ≡ drop n left
    → Appends b c (encode_lower part) → IsWrittenBut a c bytes more
more_written a b c bytes left part more n w front back next =
    let parts : left ≡ part ++ more = sym (ap (λ l. l ++ more) front ∙ ap (λ l. take n left ++ l) back ∙ take-append-drop n left) in
    record {
      front = w.front ++ part;
      split = w.split ∙ ap (λ l. w.front ++ l) parts ∙ sym (append_assoc w.front part more);
      written = subst (Appends a c) (sym (encode-append lower_digits w.front part)) (Appends-trans a b c _ _ w.written next);
    }

-- nothing is left, and the line feed came
pub all_written : (a b c : Option (List ℕ)) (bytes left : List ℕ) → IsWrittenBut a b bytes left → length left ≡ 0 → Appends b c (10 ∷ [])
    → Appends a c (encode_lower bytes ++ 10 ∷ [])
all_written a b c bytes left w none last =
    let all : bytes ≡ w.front = w.split ∙ ap (λ l. w.front ++ l) (empty left none) ∙ append-nil w.front in
    subst (λ l. Appends a c (encode_lower l ++ 10 ∷ [])) (sym all) (Appends-trans a b c _ _ w.written last)
  where
    empty : (l : List ℕ) → length l ≡ 0 → l ≡ []
    empty [] e = refl
    empty (x ∷ xs) e = absurd (omega arith)
