-- The same entries in another order: births, and segments.
use Rattle.std.proofs.Common.{◌≡◌, ℕ, zero, suc, ◌+◌, ◌≤◌, List, [], ◌∷◌, ◌++◌, refl}
use Rattle.std.proofs.lemmas.List.{append_assoc}
use Rattle.std.proofs.lemmas.List.Elements.{All-nil, All-cons, All-head, All-tail}
use Rattle.std.proofs.lemmas.List.Sorted.{All-permutation, IsPermutation-append_left, IsPermutation-append_right}
use Rattle.std.specs.List.{All}
use Rattle.std.specs.List.Sorted.{IsPermutation}
use Rattle.base.specs.declared.number.Dead.{Dead}
use Rattle.deadlist.specs.Spans.{Span}
use Rattle.deadlist.specs.Segments.{AreCut, AreBornFrom, AreBornBy, upper_of, entries_in, pile_at, with_pile, last_with}
use Rattle.deadlist.specs.Entries.{run_items, run_entries}
use Rattle.std.proofs.lemmas.List.Concat.{flat_map-append}
use Rattle.std.proofs.lemmas.List.Sorted.{IsPermutation-refl}
use Rattle.deadlist.proofs.Merges.{perm_four}
use Rattle.deadlist.proofs.Puts.{perm_same}

all_from : (from : ℕ) (p : List Dead) → AreBornFrom from p → All (λ (d : Dead). from ≤ d.birth.0) p
all_from from [] h = All-nil (λ (d : Dead). from ≤ d.birth.0)
all_from from (d ∷ ds) h = All-cons (λ (e : Dead). from ≤ e.birth.0) d ds h.0 (all_from from ds h.1)

from_all : (from : ℕ) (p : List Dead) → All (λ (d : Dead). from ≤ d.birth.0) p → AreBornFrom from p
from_all from [] h = tt
from_all from (d ∷ ds) h = (All-head (λ (e : Dead). from ≤ e.birth.0) d ds h, from_all from ds (All-tail (λ (e : Dead). from ≤ e.birth.0) d ds h))

all_by : (to : ℕ) (p : List Dead) → AreBornBy to p → All (λ (d : Dead). d.birth.0 ≤ to) p
all_by to [] h = All-nil (λ (d : Dead). d.birth.0 ≤ to)
all_by to (d ∷ ds) h = All-cons (λ (e : Dead). e.birth.0 ≤ to) d ds h.0 (all_by to ds h.1)

by_all : (to : ℕ) (p : List Dead) → All (λ (d : Dead). d.birth.0 ≤ to) p → AreBornBy to p
by_all to [] h = tt
by_all to (d ∷ ds) h = (All-head (λ (e : Dead). e.birth.0 ≤ to) d ds h, by_all to ds (All-tail (λ (e : Dead). e.birth.0 ≤ to) d ds h))

pub born_from_permuted : (from : ℕ) (p q : List Dead) → AreBornFrom from p → IsPermutation p q → AreBornFrom from q
born_from_permuted from p q h s = from_all from q (All-permutation (λ (d : Dead). from ≤ d.birth.0) p q s (all_from from p h))

pub born_by_permuted : (to : ℕ) (p q : List Dead) → AreBornBy to p → IsPermutation p q → AreBornBy to q
born_by_permuted to p q h s = by_all to q (All-permutation (λ (d : Dead). d.birth.0 ≤ to) p q s (all_by to p h))

-- ---- one segment in another order

pub pile_at_with : (xs : List Span) (last : List Dead) (i : ℕ) (p : List Dead) → pile_at (with_pile xs i p) (last_with xs last i p) i ≡ p
pile_at_with [] last i p = refl
pile_at_with (s ∷ ss) last zero p = refl
pile_at_with (s ∷ ss) last (suc i) p = pile_at_with ss last i p

pub entries_permuted : (xs : List Span) (last : List Dead) (i : ℕ) (p q : List Dead) → IsPermutation p q → IsPermutation (entries_in (with_pile xs i p) ++ last_with xs last i p) (entries_in (with_pile xs i q) ++ last_with xs last i q)
entries_permuted [] last i p q h = h
entries_permuted (s ∷ ss) last zero p q h = IsPermutation-append_left last (p ++ entries_in ss) (q ++ entries_in ss) (IsPermutation-append_left (entries_in ss) p q h)
entries_permuted (s ∷ ss) last (suc i) p q h =
    let es = entries_in (with_pile ss i p) in
    let fs = entries_in (with_pile ss i q) in
    perm_same ((s.pile ++ es) ++ last_with ss last i p) ((s.pile ++ fs) ++ last_with ss last i q) (s.pile ++ (es ++ last_with ss last i p)) (s.pile ++ (fs ++ last_with ss last i q))
    (append_assoc s.pile es (last_with ss last i p))
    (append_assoc s.pile fs (last_with ss last i q))
    (IsPermutation-append_right s.pile (es ++ last_with ss last i p) (fs ++ last_with ss last i q) (entries_permuted ss last i p q h))

pub cut_permuted : (xs : List Span) (from : ℕ) (last : List Dead) (i : ℕ) (p q : List Dead) → IsPermutation p q → AreCut from (with_pile xs i p) (last_with xs last i p) → AreCut from (with_pile xs i q) (last_with xs last i q)
cut_permuted [] from last i p q h c = born_from_permuted from p q c h
cut_permuted (s ∷ ss) from last zero p q h c = (c.0, born_from_permuted from p q c.1 h, born_by_permuted (upper_of s) p q c.2 h, c.3)
cut_permuted (s ∷ ss) from last (suc i) p q h c = (c.0, c.1, c.2, cut_permuted ss (upper_of s + 1) last i p q h c.3)

-- the last one
pub cut_last_permuted : (xs : List Span) (from : ℕ) (last new : List Dead) → IsPermutation last new → AreCut from xs last → AreCut from xs new
cut_last_permuted [] from last new h c = born_from_permuted from last new c h
cut_last_permuted (s ∷ ss) from last new h c = (c.0, c.1, c.2, cut_last_permuted ss (upper_of s + 1) last new h c.3)

-- ---- runs and waiting entries of two piles

pub united_permuted : (rs us qs : List (List Dead)) (ts vs ws : List Dead) → qs ≡ rs ++ us → ws ≡ ts ++ vs → IsPermutation ((run_entries rs ++ ts) ++ (run_entries us ++ vs)) (run_entries qs ++ ws)
united_permuted rs us qs ts vs ws e f =
    let all = flat_map-append run_items rs us in
    rw (e, f, all) (perm_four (run_entries rs) ts (run_entries us) vs (run_entries rs ++ run_entries us) (IsPermutation-refl (run_entries rs ++ run_entries us)))
