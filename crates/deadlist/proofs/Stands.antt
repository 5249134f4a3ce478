-- Whether a cut stands there.
use Rattle.std.proofs.Common.{◌≡◌, ℕ, zero, suc, ◌+◌, ◌≤◌, ◌<◌, inl, inr, Bool, true, false, ◌||◌, eqb, List, [], ◌∷◌, get_or, arith, refl}
use Rattle.std.proofs.lemmas.Bool.{lt-leb, le-leb, ne_eqb, false≢true, false_from_ne_true}
use Rattle.std.proofs.lemmas.Bool.Decides.{leb_tells, eqb_tells}
use Rattle.base.specs.declared.number.Dead.{Dead}
use Rattle.deadlist.specs.Spans.{Span}
use Rattle.deadlist.specs.Segments.{AreCut, AreBornFrom, upper_of, ended, has_cut, pile_at}
use Rattle.deadlist.proofs.Births.{born_from_weaker}

-- no cut stands below where the segments begin
pub has_cut_from : (xs : List Span) (from g : ℕ) (last : List Dead) → AreCut from xs last → has_cut g xs ≡ true → from ≤ g
has_cut_from [] from g last c e = absurd (false≢true e)
has_cut_from (s ∷ ss) from g last c e =
    elim (eqb_tells (upper_of s) g) [
      | inl h ↦ omega (arith, c.0, h.1)
      | inr h ↦
          let e' = rw h.0 at e in
          let k = has_cut_from ss (upper_of s + 1) g last c.3 e' in
          omega (arith, c.0, k)
    ]

pub ended_none : (xs : List Span) (from g : ℕ) (last : List Dead) → AreCut from xs last → g < from → ended g xs ≡ 0
ended_none [] from g last c lt = refl
ended_none (s ∷ ss) from g last c lt =
    let e = lt-leb (upper_of s) g (omega (arith, c.0)) in
    rw e refl

pub ended_from : (xs : List Span) (from g : ℕ) (last : List Dead) → AreCut from xs last → 0 < ended g xs → from ≤ g
ended_from [] from g last c lt = absurd (omega arith)
ended_from (s ∷ ss) from g last c lt =
    elim (leb_tells (upper_of s) g) [
      | inl h ↦ omega (arith, c.0, h.1)
      | inr h ↦ let k = rw h.0 at lt in absurd (omega (arith, k))
    ]

pub ended_pos : (xs : List Span) (from g : ℕ) (last : List Dead) → AreCut from xs last → has_cut g xs ≡ true → 0 < ended g xs
ended_pos [] from g last c e = absurd (false≢true e)
ended_pos (s ∷ ss) from g last c e =
    elim (leb_tells (upper_of s) g) [
      | inl h ↦ rw h.0 (omega arith)
      | inr h ↦
          let ne = ne_eqb (upper_of s) g (λ q. absurd (omega (arith, q, h.1))) in
          let e' = rw ne at e in
          let k = has_cut_from ss (upper_of s + 1) g last c.3 e' in
          absurd (omega (arith, h.1, k))
    ]

pub no_stand : (xs : List Span) (from g : ℕ) (last : List Dead) → AreCut from xs last → ended g xs ≡ 0 → has_cut g xs ≡ false
no_stand xs from g last c e = false_from_ne_true (has_cut g xs) (λ t. let k = ended_pos xs from g last c t in absurd (omega (arith, e, k)))

or_right_false : (b t : Bool) → t ≡ false → (b || t) ≡ b
or_right_false true t e = refl
or_right_false false t e = e

pub stands_at : (xs : List Span) (from g : ℕ) (last : List Dead) (k : ℕ) (d : Span) → AreCut from xs last → suc k ≡ ended g xs → has_cut g xs ≡ eqb (upper_of (get_or xs k d)) g
stands_at [] from g last k d c e = absurd (omega arith)
stands_at (s ∷ ss) from g last zero d c e =
    elim (leb_tells (upper_of s) g) [
      | inl h ↦
          let e' = rw h.0 at e in
          or_right_false (eqb (upper_of s) g) (has_cut g ss) (no_stand ss (upper_of s + 1) g last c.3 (omega (arith, e')))
      | inr h ↦ let e' = rw h.0 at e in absurd (omega (arith, e'))
    ]
stands_at (s ∷ ss) from g last (suc k) d c e =
    elim (leb_tells (upper_of s) g) [
      | inl h ↦
          let e' = rw h.0 at e in
          let up = ended_from ss (upper_of s + 1) g last c.3 (omega (arith, e')) in
          let ne = ne_eqb (upper_of s) g (λ q. absurd (omega (arith, q, up))) in
          rw ne (stands_at ss (upper_of s + 1) g last k d c.3 (omega (arith, e')))
      | inr h ↦ let e' = rw h.0 at e in absurd (omega (arith, e'))
    ]

first_from : (xs : List Span) (from : ℕ) (last : List Dead) → AreCut from xs last → AreBornFrom from (pile_at xs last 0)
first_from [] from last c = c
first_from (s ∷ ss) from last c = c.1

-- where the cut stands, the next segment was born after it
pub stands_divided : (xs : List Span) (from g : ℕ) (last : List Dead) → AreCut from xs last → has_cut g xs ≡ true → AreBornFrom (g + 1) (pile_at xs last (ended g xs))
stands_divided [] from g last c e = absurd (false≢true e)
stands_divided (s ∷ ss) from g last c e =
    elim (eqb_tells (upper_of s) g) [
      | inl h ↦
          let le = le-leb (upper_of s) g (omega (arith, h.1)) in
          let none = ended_none ss (upper_of s + 1) g last c.3 (omega (arith, h.1)) in
          let first = first_from ss (upper_of s + 1) last c.3 in
          let first' : AreBornFrom (g + 1) (pile_at ss last 0) = born_from_weaker (upper_of s + 1) (g + 1) (pile_at ss last 0) first (omega (arith, h.1)) in
          rw le (rw none first')
      | inr h ↦
          let e' = rw h.0 at e in
          let k = has_cut_from ss (upper_of s + 1) g last c.3 e' in
          let le = le-leb (upper_of s) g (omega (arith, k)) in
          rw le (stands_divided ss (upper_of s + 1) g last c.3 e')
    ]
