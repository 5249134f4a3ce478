-- One more cut.
use Rattle.std.proofs.Common.{◌≡◌, ◌≢◌, ℕ, suc, ◌+◌, ◌≤◌, ◌<◌, inl, inr, true, false, not, ltb, eqb, List, [], ◌∷◌, ◌++◌, filter, take, drop, arith, refl, ap, sym, ◌∙◌}
use Rattle.std.proofs.lemmas.Bool.{lt-ltb, le-ltb, eq-eqb, or_parts, false≢true}
use Rattle.std.proofs.lemmas.Bool.Decides.{leb_tells, eqb_tells}
use Rattle.std.proofs.lemmas.List.{append_assoc, append-nil}
use Rattle.std.proofs.lemmas.List.Sorted.{IsPermutation-append_left, IsPermutation-append_right, IsPermutation-filter_both}
use Rattle.std.specs.List.Sorted.{IsPermutation}
use Rattle.base.specs.declared.number.Dead.{Dead}
use Rattle.deadlist.specs.Spans.{Span}
use Rattle.deadlist.specs.Entries.{is_after, is_upto}
use Rattle.deadlist.specs.Segments.{AreCut, upper_of, uppers, entries_in, ended, has_cut, with_cut, pile_at, with_pile, last_with}
use Rattle.deadlist.proofs.Births.{born_from_filter, born_by_filter, born_by_cut, born_after_cut, all_cuts}
use Rattle.deadlist.proofs.Puts.{perm_same}
use Rattle.deadlist.proofs.Stands.{has_cut_from}

-- an entry was born by the group or after it
upto_or_after : (g : ℕ) (d : Dead) → is_after g d ≡ not (is_upto g d)
upto_or_after g d =
    elim (leb_tells d.birth.0 g) [
      | inl h ↦ let e = le-ltb g d.birth.0 h.1 in rw (h.0, e) refl
      | inr h ↦ let e = lt-ltb g d.birth.0 h.1 in rw (h.0, e) refl
    ]

pub divided_entries : (g : ℕ) (p : List Dead) → IsPermutation p (filter (is_upto g) p ++ filter (is_after g) p)
divided_entries g p = IsPermutation-filter_both (is_upto g) (is_after g) (upto_or_after g) p

-- a segment of the entries born by the group
abbrev pub low_segment : ℕ → List Dead → Span
low_segment g p = record { upper = record { 0 = g }; pile = filter (is_upto g) p }

-- the segments with it in front of the one that is divided, and that one with the entries born after the group
abbrev pub cut_segments : ℕ → List Span → List Dead → List Span
cut_segments g xs last = with_pile (take (ended g xs) xs ++ low_segment g (pile_at xs last (ended g xs)) ∷ drop (ended g xs) xs) (suc (ended g xs)) (filter (is_after g) (pile_at xs last (ended g xs)))

abbrev pub cut_last : ℕ → List Span → List Dead → List Dead
cut_last g xs last = last_with (take (ended g xs) xs ++ low_segment g (pile_at xs last (ended g xs)) ∷ drop (ended g xs) xs) last (suc (ended g xs)) (filter (is_after g) (pile_at xs last (ended g xs)))

pub cut_entries : (xs : List Span) (g : ℕ) (last : List Dead) → IsPermutation (entries_in xs ++ last) (entries_in (cut_segments g xs last) ++ cut_last g xs last)
cut_entries [] g last = rw append-nil (divided_entries g last)
cut_entries (s ∷ ss) g last =
    elim (leb_tells (upper_of s) g) [
      | inl h ↦ rw h.0 (perm_same ((s.pile ++ entries_in ss) ++ last) ((s.pile ++ entries_in (cut_segments g ss last)) ++ cut_last g ss last) (s.pile ++ (entries_in ss ++ last)) (s.pile ++ (entries_in (cut_segments g ss last) ++ cut_last g ss last))
          (append_assoc s.pile (entries_in ss) last)
          (append_assoc s.pile (entries_in (cut_segments g ss last)) (cut_last g ss last))
          (IsPermutation-append_right s.pile (entries_in ss ++ last) (entries_in (cut_segments g ss last) ++ cut_last g ss last) (cut_entries ss g last)))
      | inr h ↦
          let low = filter (is_upto g) s.pile in
          let high = filter (is_after g) s.pile in
          rw h.0 (perm_same ((s.pile ++ entries_in ss) ++ last) ((low ++ (high ++ entries_in ss)) ++ last) (s.pile ++ (entries_in ss ++ last)) ((low ++ high) ++ (entries_in ss ++ last))
          (append_assoc s.pile (entries_in ss) last)
          (ap (λ (x : List Dead). x ++ last) (sym (append_assoc low high (entries_in ss))) ∙ append_assoc (low ++ high) (entries_in ss) last)
          (IsPermutation-append_left (entries_in ss ++ last) s.pile (low ++ high) (divided_entries g s.pile)))
    ]

pub cut_cut : (xs : List Span) (from g : ℕ) (last : List Dead) → AreCut from xs last → from ≤ g → has_cut g xs ≡ false → AreCut from (cut_segments g xs last) (cut_last g xs last)
cut_cut [] from g last c le e = (le, born_from_filter from (is_upto g) last c, born_by_cut g last, born_after_cut g last)
cut_cut (s ∷ ss) from g last c le e =
    let es = or_parts (eqb (upper_of s) g) (has_cut g ss) e in
    elim (leb_tells (upper_of s) g) [
      | inl h ↦
          let ne : upper_of s ≢ g = λ q. false≢true (sym es.0 ∙ eq-eqb (upper_of s) g q) in
          rw h.0 (c.0, c.1, c.2, cut_cut ss (upper_of s + 1) g last c.3 (omega (arith, h.1)) es.1)
      | inr h ↦ rw h.0 (le, born_from_filter from (is_upto g) s.pile c.1, born_by_cut g s.pile, (omega (arith, h.1), born_after_cut g s.pile, born_by_filter (upper_of s) (is_after g) s.pile c.2, c.3))
    ]

pub none_below : (xs : List Span) (from g : ℕ) (last : List Dead) → AreCut from xs last → g < from → filter (λ c. ltb c g) (uppers xs) ≡ []
none_below [] from g last c lt = refl
none_below (s ∷ ss) from g last c lt =
    let e = le-ltb (upper_of s) g (omega (arith, c.0)) in
    rw e (none_below ss (upper_of s + 1) g last c.3 (omega (arith, c.0)))

pub cut_uppers : (xs : List Span) (from g : ℕ) (last : List Dead) → AreCut from xs last → has_cut g xs ≡ false → uppers (cut_segments g xs last) ≡ with_cut g (uppers xs)
cut_uppers [] from g last c e = refl
cut_uppers (s ∷ ss) from g last c e =
    let es = or_parts (eqb (upper_of s) g) (has_cut g ss) e in
    elim (leb_tells (upper_of s) g) [
      | inl h ↦
          let ne : upper_of s ≢ g = λ q. false≢true (sym es.0 ∙ eq-eqb (upper_of s) g q) in
          let up = lt-ltb (upper_of s) g (omega (arith, h.1)) in
          let down = le-ltb g (upper_of s) h.1 in
          rw (h.0, up, down) (ap (λ (us : List ℕ). upper_of s ∷ us) (cut_uppers ss (upper_of s + 1) g last c.3 es.1))
      | inr h ↦
          let up = le-ltb (upper_of s) g (omega (arith, h.1)) in
          let down = lt-ltb g (upper_of s) h.1 in
          let none = none_below ss (upper_of s + 1) g last c.3 (omega (arith, h.1)) in
          let all = all_cuts ss (upper_of s + 1) g last c.3 (omega (arith, h.1)) in
          rw (h.0, up, down) cc
    ]

-- where the cut stands, one more is none
pub stands_uppers : (xs : List Span) (from g : ℕ) (last : List Dead) → AreCut from xs last → has_cut g xs ≡ true → uppers xs ≡ with_cut g (uppers xs)
stands_uppers [] from g last c e = absurd (false≢true e)
stands_uppers (s ∷ ss) from g last c e =
    elim (eqb_tells (upper_of s) g) [
      | inl h ↦
          let up = le-ltb (upper_of s) g (omega (arith, h.1)) in
          let down = le-ltb g (upper_of s) (omega (arith, h.1)) in
          let none = none_below ss (upper_of s + 1) g last c.3 (omega (arith, h.1)) in
          let all = all_cuts ss (upper_of s + 1) g last c.3 (omega (arith, h.1)) in
          let same : upper_of s ≡ g = h.1 in
          rw (up, down) cc
      | inr h ↦
          let e' = rw h.0 at e in
          let k = has_cut_from ss (upper_of s + 1) g last c.3 e' in
          let up = lt-ltb (upper_of s) g (omega (arith, k)) in
          let down = le-ltb g (upper_of s) (omega (arith, k)) in
          rw (up, down) (ap (λ (us : List ℕ). upper_of s ∷ us) (stands_uppers ss (upper_of s + 1) g last c.3 e'))
    ]
