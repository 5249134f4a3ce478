-- One cut less.
use Rattle.std.proofs.Common.{◌≡◌, ℕ, zero, suc, ◌+◌, ◌<◌, inl, inr, true, false, eqb, List, [], ◌∷◌, ◌++◌, length, take, drop, arith, refl, ap, sym, ◌∙◌}
use Rattle.std.proofs.lemmas.Bool.{le-leb, ne_eqb, or_parts, false≢true}
use Rattle.std.proofs.lemmas.Bool.Decides.{eqb_tells}
use Rattle.std.proofs.lemmas.List.{append_assoc, append-nil}
use Rattle.base.specs.declared.number.Dead.{Dead}
use Rattle.deadlist.specs.Spans.{Span}
use Rattle.deadlist.specs.Segments.{AreCut, upper_of, uppers, entries_in, ended, has_cut, without_cut, pile_at, with_pile, last_with}
use Rattle.deadlist.proofs.Births.{born_from_weaker, born_by_weaker, born_from_append, born_by_append}
use Rattle.deadlist.proofs.Splits.{uppers-with_pile}
use Rattle.deadlist.proofs.Stands.{has_cut_from, ended_none, ended_pos}

-- the entries of two neighbours
abbrev pub both_piles : List Span → List Dead → ℕ → List Dead
both_piles xs last k = pile_at xs last k ++ pile_at xs last (suc k)

-- the segments without the one with that index, whose entries go to the next
abbrev pub joined : List Span → List Dead → ℕ → List Span
joined xs last k = with_pile (take k xs ++ drop (suc k) xs) k (both_piles xs last k)

abbrev pub joined_last : List Span → List Dead → ℕ → List Dead
joined_last xs last k = last_with (take k xs ++ drop (suc k) xs) last k (both_piles xs last k)

pub joined_entries : (xs : List Span) (last : List Dead) (k : ℕ) → k < length xs → entries_in (joined xs last k) ++ joined_last xs last k ≡ entries_in xs ++ last
joined_entries [] last k lt = absurd (omega arith)
joined_entries (s ∷ []) last zero lt = ap (λ (x : List Dead). x ++ last) (sym (append-nil s.pile))
joined_entries (s ∷ t ∷ ts) last zero lt = ap (λ (x : List Dead). x ++ last) (append_assoc s.pile t.pile (entries_in ts))
joined_entries (s ∷ ss) last (suc k) lt =
    let ih = joined_entries ss last k (omega arith) in
    append_assoc s.pile (entries_in (joined ss last k)) (joined_last ss last k) ∙ ap (λ (x : List Dead). s.pile ++ x) ih ∙ sym (append_assoc s.pile (entries_in ss) last)

pub joined_cut : (xs : List Span) (from : ℕ) (last : List Dead) (k : ℕ) → AreCut from xs last → k < length xs → AreCut from (joined xs last k) (joined_last xs last k)
joined_cut [] from last k c lt = absurd (omega arith)
joined_cut (s ∷ []) from last zero c lt = born_from_append from s.pile last c.1 (born_from_weaker (upper_of s + 1) from last c.3 (omega (arith, c.0)))
joined_cut (s ∷ t ∷ ts) from last zero c lt =
    let n = c.3 in
    (omega (arith, c.0, n.0), born_from_append from s.pile t.pile c.1 (born_from_weaker (upper_of s + 1) from t.pile n.1 (omega (arith, c.0))), born_by_append (upper_of t) s.pile t.pile (born_by_weaker (upper_of s) (upper_of t) s.pile c.2 (omega (arith, n.0))) n.2, n.3)
joined_cut (s ∷ ss) from last (suc k) c lt = (c.0, c.1, c.2, joined_cut ss (upper_of s + 1) last k c.3 (omega arith))

all_others : (xs : List Span) (from g : ℕ) (last : List Dead) → AreCut from xs last → g < from → uppers xs ≡ without_cut g (uppers xs)
all_others [] from g last c lt = refl
all_others (s ∷ ss) from g last c lt =
    let ne = ne_eqb (upper_of s) g (λ q. absurd (omega (arith, q, c.0))) in
    rw ne (ap (λ (us : List ℕ). upper_of s ∷ us) (all_others ss (upper_of s + 1) g last c.3 (omega (arith, c.0))))

removed_uppers : (xs : List Span) (from g : ℕ) (last : List Dead) (k : ℕ) → AreCut from xs last → has_cut g xs ≡ true → suc k ≡ ended g xs → uppers (take k xs ++ drop (suc k) xs) ≡ without_cut g (uppers xs)
removed_uppers [] from g last k c e f = absurd (false≢true e)
removed_uppers (s ∷ ss) from g last zero c e f =
    elim (eqb_tells (upper_of s) g) [
      | inl h ↦ rw h.0 (all_others ss (upper_of s + 1) g last c.3 (omega (arith, h.1)))
      | inr h ↦
          let e' = rw h.0 at e in
          let k = has_cut_from ss (upper_of s + 1) g last c.3 e' in
          let le = le-leb (upper_of s) g (omega (arith, k)) in
          let f' = rw le at f in
          let pos = ended_pos ss (upper_of s + 1) g last c.3 e' in
          absurd (omega (arith, f', pos))
    ]
removed_uppers (s ∷ ss) from g last (suc k) c e f =
    elim (eqb_tells (upper_of s) g) [
      | inl h ↦
          let le = le-leb (upper_of s) g (omega (arith, h.1)) in
          let none = ended_none ss (upper_of s + 1) g last c.3 (omega (arith, h.1)) in
          let f' = rw le at f in
          absurd (omega (arith, f', none))
      | inr h ↦
          let e' = rw h.0 at e in
          let up = has_cut_from ss (upper_of s + 1) g last c.3 e' in
          let le = le-leb (upper_of s) g (omega (arith, up)) in
          let f' = rw le at f in
          rw h.0 (ap (λ (us : List ℕ). upper_of s ∷ us) (removed_uppers ss (upper_of s + 1) g last k c.3 e' (omega (arith, f'))))
    ]

pub joined_uppers : (xs : List Span) (from g : ℕ) (last : List Dead) (k : ℕ) → AreCut from xs last → has_cut g xs ≡ true → suc k ≡ ended g xs → uppers (joined xs last k) ≡ without_cut g (uppers xs)
joined_uppers xs from g last k c e f = uppers-with_pile (take k xs ++ drop (suc k) xs) k (both_piles xs last k) ∙ removed_uppers xs from g last k c e f

-- without a cut that doesn't stand there, nothing changes
pub absent_uppers : (xs : List Span) (g : ℕ) → has_cut g xs ≡ false → uppers xs ≡ without_cut g (uppers xs)
absent_uppers [] g e = refl
absent_uppers (s ∷ ss) g e =
    let es = or_parts (eqb (upper_of s) g) (has_cut g ss) e in
    let ne = es.0 in
    rw ne (ap (λ (us : List ℕ). upper_of s ∷ us) (absent_uppers ss g es.1))
