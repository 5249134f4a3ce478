-- More entries in one segment.
use Rattle.std.proofs.Common.{◌≡◌, ℕ, zero, suc, ◌+◌, ◌≤◌, inl, inr, List, [], ◌∷◌, ◌++◌, arith, refl, ap, ◌∙◌}
use Rattle.std.proofs.lemmas.List.{append_assoc}
use Rattle.std.proofs.lemmas.List.Sorted.{IsPermutation-refl, IsPermutation-append_right, IsPermutation-append_comm}
use Rattle.std.specs.List.Sorted.{IsPermutation}
use Rattle.base.specs.declared.number.Dead.{Dead}
use Rattle.deadlist.specs.Spans.{Span}
use Rattle.deadlist.specs.Segments.{AreCut, AreBornFrom, FitsAt, upper_of, entries_in, begun, pile_at, with_pile, last_with}
use Rattle.deadlist.proofs.Births.{ltb_tells, born_from_weaker, born_from_append, born_by_append}

-- the same, between equal lists
pub perm_same : {X : Type 0} (xs ys us vs : List X) → xs ≡ us → ys ≡ vs → IsPermutation us vs → IsPermutation xs ys
perm_same xs ys us vs e f h = rw (e, f) h

-- more elements inside a list
pub perm_insert : {X : Type 0} (ls rs q : List X) → IsPermutation ((ls ++ rs) ++ q) (ls ++ (q ++ rs))
perm_insert ls rs q = rw append_assoc (IsPermutation-append_right ls (rs ++ q) (q ++ rs) (IsPermutation-append_comm rs q))

pub with_pile_twice : (xs : List Span) (i : ℕ) (p q : List Dead) → with_pile (with_pile xs i p) i q ≡ with_pile xs i q
with_pile_twice [] i p q = refl
with_pile_twice (s ∷ ss) zero p q = refl
with_pile_twice (s ∷ ss) (suc i) p q = ap (λ (ys : List Span). s ∷ ys) (with_pile_twice ss i p q)

pub last_with_twice : (xs : List Span) (last : List Dead) (i : ℕ) (p q : List Dead) → last_with (with_pile xs i p) (last_with xs last i p) i q ≡ last_with xs last i q
last_with_twice [] last i p q = refl
last_with_twice (s ∷ ss) last zero p q = refl
last_with_twice (s ∷ ss) last (suc i) p q = last_with_twice ss last i p q

pub put_entries : (xs : List Span) (last : List Dead) (i : ℕ) (q : List Dead) → IsPermutation ((entries_in xs ++ last) ++ q) (entries_in (with_pile xs i (pile_at xs last i ++ q)) ++ last_with xs last i (pile_at xs last i ++ q))
put_entries [] last i q = IsPermutation-refl (last ++ q)
put_entries (s ∷ ss) last zero q =
    let p = s.pile in
    let es = entries_in ss in
    perm_same (((p ++ es) ++ last) ++ q) (((p ++ q) ++ es) ++ last) ((p ++ (es ++ last)) ++ q) (p ++ (q ++ (es ++ last)))
    (ap (λ (x : List Dead). x ++ q) (append_assoc p es last))
    (append_assoc (p ++ q) es last ∙ append_assoc p q (es ++ last))
    (perm_insert p (es ++ last) q)
put_entries (s ∷ ss) last (suc i) q =
    let p = s.pile in
    let es = entries_in ss in
    let new = pile_at ss last i ++ q in
    let fs = entries_in (with_pile ss i new) in
    let end = last_with ss last i new in
    perm_same (((p ++ es) ++ last) ++ q) ((p ++ fs) ++ end) (p ++ ((es ++ last) ++ q)) (p ++ (fs ++ end))
    (ap (λ (x : List Dead). x ++ q) (append_assoc p es last) ∙ append_assoc p (es ++ last) q)
    (append_assoc p fs end)
    (IsPermutation-append_right p ((es ++ last) ++ q) (fs ++ end) (put_entries ss last i q))

pub put_cut : (xs : List Span) (from group : ℕ) (last q : List Dead) → AreCut from xs last → from ≤ group → AreBornFrom group q → FitsAt xs (begun group xs) q → AreCut from (with_pile xs (begun group xs) (pile_at xs last (begun group xs) ++ q)) (last_with xs last (begun group xs) (pile_at xs last (begun group xs) ++ q))
put_cut [] from group last q c le b = λ f. born_from_append from last q c (born_from_weaker group from q b le)
put_cut (s ∷ ss) from group last q c le b =
    elim (ltb_tells (upper_of s) group) [
      | inl h ↦ rw h.0 (λ f. (c.0, c.1, c.2, put_cut ss (upper_of s + 1) group last q c.3 (omega (arith, h.1)) b f))
      | inr h ↦ rw h.0 (λ f. (c.0, born_from_append from s.pile q c.1 (born_from_weaker group from q b le), born_by_append (upper_of s) s.pile q c.2 f, c.3))
    ]

-- one entry fits the segment that its birth lies in
pub fits_one : (xs : List Span) (d : Dead) → FitsAt xs (begun d.birth.0 xs) (d ∷ [])
fits_one [] d = tt
fits_one (s ∷ ss) d =
    elim (ltb_tells (upper_of s) d.birth.0) [
      | inl h ↦ rw h.0 (fits_one ss d)
      | inr h ↦ rw h.0 (h.1, tt)
    ]
