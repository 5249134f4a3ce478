-- A cut through the segments: what lies by it, and what lies after it.
use Rattle.std.proofs.Common.{◌≡◌, ℕ, zero, suc, ◌+◌, inl, inr, leb, ltb, List, [], ◌∷◌, ◌++◌, filter, take, drop, arith, refl, ap, sym, ◌∙◌}
use Rattle.std.proofs.lemmas.Bool.{lt-ltb, le-ltb}
use Rattle.std.proofs.lemmas.Bool.Decides.{leb_tells}
use Rattle.std.proofs.lemmas.List.{append_assoc, append-nil}
use Rattle.std.proofs.lemmas.List.Elements.{filter-append}
use Rattle.base.specs.declared.number.Dead.{Dead}
use Rattle.deadlist.specs.Spans.{Span}
use Rattle.deadlist.specs.Entries.{is_after, is_upto}
use Rattle.deadlist.specs.Segments.{AreCut, upper_of, uppers, entries_in, ended, pile_at, with_pile, last_with}
use Rattle.deadlist.proofs.Births.{upto_born_by, after_born_by, born_from_filter, born_by_filter, born_from_zero, none_upto, all_after, none_cuts, all_cuts}

-- the entries of the segment that the cut may divide
abbrev pub divided : ℕ → List Span → List Dead → List Dead
divided cut xs last = pile_at xs last (ended cut xs)

pub kept_entries : (xs : List Span) (from cut : ℕ) (last : List Dead) → AreCut from xs last → entries_in (take (ended cut xs) xs) ++ filter (is_upto cut) (divided cut xs last) ≡ filter (is_upto cut) (entries_in xs ++ last)
kept_entries [] from cut last c = refl
kept_entries (s ∷ ss) from cut last c =
    let assoc = append_assoc s.pile (entries_in ss) last in
    let both = filter-append (is_upto cut) s.pile (entries_in ss ++ last) in
    elim (leb_tells (upper_of s) cut) [
      | inl h ↦
          let ih = kept_entries ss (upper_of s + 1) cut last c.3 in
          let own = upto_born_by (upper_of s) cut s.pile c.2 h.1 in
          let left = append_assoc s.pile (entries_in (take (ended cut ss) ss)) (filter (is_upto cut) (divided cut ss last)) in
          rw h.0 cc
      | inr h ↦
          let rest = none_upto ss (upper_of s + 1) cut last c.3 (omega (arith, h.1)) in
          let own = append-nil (filter (is_upto cut) s.pile) in
          rw h.0 cc
    ]

pub taken_entries : (xs : List Span) (from cut : ℕ) (last : List Dead) → AreCut from xs last → entries_in (with_pile (drop (ended cut xs) xs) 0 (filter (is_after cut) (divided cut xs last))) ++ last_with (drop (ended cut xs) xs) last 0 (filter (is_after cut) (divided cut xs last)) ≡ filter (is_after cut) (entries_in xs ++ last)
taken_entries [] from cut last c = refl
taken_entries (s ∷ ss) from cut last c =
    let assoc = append_assoc s.pile (entries_in ss) last in
    let both = filter-append (is_after cut) s.pile (entries_in ss ++ last) in
    elim (leb_tells (upper_of s) cut) [
      | inl h ↦
          let ih = taken_entries ss (upper_of s + 1) cut last c.3 in
          let own = after_born_by (upper_of s) cut s.pile c.2 h.1 in
          rw h.0 cc
      | inr h ↦
          let rest = all_after ss (upper_of s + 1) cut last c.3 (omega (arith, h.1)) in
          let left = append_assoc (filter (is_after cut) s.pile) (entries_in ss) last in
          rw h.0 cc
    ]

pub kept_cuts : (xs : List Span) (from cut : ℕ) (last : List Dead) → AreCut from xs last → uppers (take (ended cut xs) xs) ≡ filter (λ c. leb c cut) (uppers xs)
kept_cuts [] from cut last c = refl
kept_cuts (s ∷ ss) from cut last c =
    elim (leb_tells (upper_of s) cut) [
      | inl h ↦ rw h.0 (ap (λ (us : List ℕ). upper_of s ∷ us) (kept_cuts ss (upper_of s + 1) cut last c.3))
      | inr h ↦ rw h.0 (sym (none_cuts ss (upper_of s + 1) cut last c.3 (omega (arith, h.1))))
    ]

pub uppers-with_pile : (xs : List Span) (i : ℕ) (p : List Dead) → uppers (with_pile xs i p) ≡ uppers xs
uppers-with_pile [] i p = refl
uppers-with_pile (s ∷ ss) zero p = refl
uppers-with_pile (s ∷ ss) (suc i) p = ap (λ (us : List ℕ). upper_of s ∷ us) (uppers-with_pile ss i p)

pub dropped_cuts : (xs : List Span) (from cut : ℕ) (last : List Dead) → AreCut from xs last → uppers (drop (ended cut xs) xs) ≡ filter (λ c. ltb cut c) (uppers xs)
dropped_cuts [] from cut last c = refl
dropped_cuts (s ∷ ss) from cut last c =
    elim (leb_tells (upper_of s) cut) [
      | inl h ↦
          let e = le-ltb cut (upper_of s) h.1 in
          rw (h.0, e) (dropped_cuts ss (upper_of s + 1) cut last c.3)
      | inr h ↦
          let e = lt-ltb cut (upper_of s) h.1 in
          rw (h.0, e) (ap (λ (us : List ℕ). upper_of s ∷ us) (sym (all_cuts ss (upper_of s + 1) cut last c.3 (omega (arith, h.1)))))
    ]

pub taken_cuts : (xs : List Span) (from cut : ℕ) (last p : List Dead) → AreCut from xs last → uppers (with_pile (drop (ended cut xs) xs) 0 p) ≡ filter (λ c. ltb cut c) (uppers xs)
taken_cuts xs from cut last p c = uppers-with_pile (drop (ended cut xs) xs) 0 p ∙ dropped_cuts xs from cut last c

pub kept_cut : (xs : List Span) (from cut : ℕ) (last : List Dead) → AreCut from xs last → AreCut from (take (ended cut xs) xs) (filter (is_upto cut) (divided cut xs last))
kept_cut [] from cut last c = born_from_filter from (is_upto cut) last c
kept_cut (s ∷ ss) from cut last c =
    elim (leb_tells (upper_of s) cut) [
      | inl h ↦ rw h.0 (c.0, c.1, c.2, kept_cut ss (upper_of s + 1) cut last c.3)
      | inr h ↦ rw h.0 (born_from_filter from (is_upto cut) s.pile c.1)
    ]

pub taken_cut : (xs : List Span) (from cut : ℕ) (last : List Dead) → AreCut from xs last → AreCut 0 (with_pile (drop (ended cut xs) xs) 0 (filter (is_after cut) (divided cut xs last))) (last_with (drop (ended cut xs) xs) last 0 (filter (is_after cut) (divided cut xs last)))
taken_cut [] from cut last c = born_from_zero (filter (is_after cut) last)
taken_cut (s ∷ ss) from cut last c =
    elim (leb_tells (upper_of s) cut) [
      | inl h ↦ rw h.0 (taken_cut ss (upper_of s + 1) cut last c.3)
      | inr h ↦ rw h.0 (omega arith, born_from_zero (filter (is_after cut) s.pile), born_by_filter (upper_of s) (is_after cut) s.pile c.2, c.3)
    ]
