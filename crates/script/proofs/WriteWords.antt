-- The words of a write.
use Rattle.std.proofs.Common.{◌≡◌, ◌⊎◌, inl, inr, ℕ, eqb, Bool, true, false, true≢false, cond, nat_lt, List, [], ◌∷◌, length, Option, Some, None, Result, Ok, Err, refl, sym, ap, ◌∙◌}
use Rattle.std.proofs.lemmas.Bool.{eqb-true}
use Rattle.std.proofs.lemmas.List.Elements.{All-head, All-tail}
use Rattle.std.specs.List.{AllPass, onto_first}
use Rattle.base.specs.Reading.{target_of}
use Rattle.base.specs.declared.refusal.Refusal.TheVariants.{BadLine}
use Rattle.hex.specs.Hex.{decode_of, is_hex_digit}
use Rattle.hex.specs.declared.error.FromHexError.{FromHexError}
use Rattle.hex.proofs.HexLemmas.{decode_of-ok}
use Rattle.model.specs.declared.request.Request.TheVariants.{Write}
use Rattle.script.specs.Words.{words_of, filled, block_of_word, number_of_word}
use Rattle.script.specs.Meaning.{Meaning, Faulty, Asks, shaped, named, four_of, write_of, written_of}

abbrev Several : List (List ℕ) → Type 0
Several words = (x : List ℕ) × (y : List ℕ) × (ws : List (List ℕ)) × (words ≡ x ∷ y ∷ ws)

-- bytes are one word, or more, of which a space is no digit
abbrev Is : List ℕ → List (List ℕ) → Type 0
Is bytes words = (words ≡ bytes ∷ []) ⊎ (Several words × (AllPass is_hex_digit bytes → ⊥))

abbrev is_so : ℕ → Type 0
is_so c = is_hex_digit c ≡ true

module _ (b : ℕ) (bs : List ℕ) where
  longer : (space : Bool) → eqb b 32 ≡ space → Is bs (words_of bs) → Is (b ∷ bs) (cond space ([] ∷ words_of bs) (onto_first b (words_of bs)))
  longer true e is =
      let bad = λ (h : AllPass is_hex_digit (b ∷ bs)). true≢false (sym (All-head is_so b bs h) ∙ ap is_hex_digit (eqb-true b 32 e)) in
      elim is [
        | inl lone ↦ inr (([], bs, [], ap (λ ws. [] ∷ ws) lone), bad)
        | inr more ↦ inr (([], more.0.0, more.0.1 ∷ more.0.2, ap (λ ws. [] ∷ ws) more.0.3), bad)
      ]
  longer false e is =
      elim is [
        | inl lone ↦ inl (ap (onto_first b) lone)
        | inr more ↦ inr ((b ∷ more.0.0, more.0.1, more.0.2, ap (onto_first b) more.0.3), λ h. more.1 (All-tail is_so b bs h))
      ]

is : (bytes : List ℕ) → Is bytes (words_of bytes)
is [] = inl refl
is (b ∷ bs) = longer b bs (eqb b 32) refl (is bs)

none_if : (short long : Bool) (o : Option (List ℕ)) → o ≡ None → cond short None (cond long None o) ≡ None
none_if true long o e = refl
none_if false true o e = refl
none_if false false o e = e

undecoded : (bytes : List ℕ) → (AllPass is_hex_digit bytes → ⊥) → (r : Result (List ℕ) FromHexError) → decode_of bytes ≡ r → filled r ≡ None
undecoded bytes h (Ok out) e = absurd (h (decode_of-ok bytes out e).1)
undecoded bytes h (Err x) e = refl

no_block : (bytes : List ℕ) → (AllPass is_hex_digit bytes → ⊥) → block_of_word bytes ≡ None
unfolding block_of_word
no_block bytes h = none_if (nat_lt (length bytes) 2) (nat_lt 1024 (length bytes)) (filled (decode_of bytes)) (undecoded bytes h (decode_of bytes) refl)

at_fault : (o b : Option ℕ) (more : ℕ → ℕ → List ℕ → Meaning) → shaped o (λ x. shaped b (λ y. shaped (let n : Option (List ℕ) = None in n) (more x y))) ≡ Faulty BadLine
at_fault None b more = refl
at_fault (Some x) None more = refl
at_fault (Some x) (Some y) more = refl

-- what a write asks, by its first three words and what is left
pub written : (target object block digits : List ℕ) → write_of (target ∷ object ∷ block ∷ words_of digits) ≡ written_of target object block digits
unfolding write_of written_of
written target object block digits =
    elim (is digits) [
      | inl lone ↦ ap (λ ws. write_of (target ∷ object ∷ block ∷ ws)) lone
      | inr more ↦
          ap (λ ws. write_of (target ∷ object ∷ block ∷ ws)) more.0.3
          ∙ sym (ap (λ k. shaped (number_of_word object) (λ o. shaped (number_of_word block) (λ b. shaped k (λ bytes. named (target_of target) (λ t. Asks (Write t o b bytes))))))
          (no_block digits more.1)
          ∙ at_fault (number_of_word object) (number_of_word block) (λ o b bytes. named (target_of target) (λ t. Asks (Write t o b bytes))))
    ]

-- too few operands
pub unwritten : (operands : List (List ℕ)) → four_of operands ≡ None → write_of operands ≡ Faulty BadLine
unfolding write_of
unwritten operands e = rw e refl
