-- Numbers of entries by a cut and after it.
use Rattle.std.proofs.Common.{◌≡◌, ℕ, zero, suc, ◌+◌, ◌≤◌, ◌<◌, inl, inr, true, ◌||◌, leb, ltb, eqb, List, [], ◌∷◌, ◌++◌, length, get_or, filter, take, drop, arith, refl, ap, sym, ◌∙◌, length-append}
use Rattle.std.proofs.lemmas.Bool.Decides.{leb_tells}
use Rattle.std.proofs.lemmas.List.{append_assoc, length-map, length-take-le, get_or-map}
use Rattle.std.proofs.lemmas.List.Elements.{filter-append}
use Rattle.std.specs.List.{list_any}
use Rattle.base.specs.declared.number.Dead.{Dead}
use Rattle.deadlist.specs.declared.parts.Segment.{Segment}
use Rattle.deadlist.specs.Spans.{Span, span_of, spans}
use Rattle.deadlist.specs.Entries.{is_after, is_upto}
use Rattle.deadlist.specs.Segments.{AreCut, upper_of, uppers, entries_in, ended, has_cut, pile_at}
use Rattle.deadlist.proofs.Births.{after_born_by, upto_born_from, all_after}
use Rattle.std.proofs.lemmas.List.{take-append-drop}
use Rattle.std.proofs.lemmas.List.Concat.{flat_map-append}
use Rattle.deadlist.specs.Segments.{pile_of}
use Rattle.deadlist.proofs.Merges.{flat_map_take}
use Rattle.deadlist.proofs.Filters.{split_length}
use Rattle.deadlist.proofs.Places.{front_le}
use Rattle.deadlist.proofs.Splits.{kept_entries, kept_cuts, dropped_cuts}
use Rattle.deadlist.proofs.Stands.{stands_divided}

pub upto_count : (xs : List Span) (cut : ℕ) (last : List Dead) → AreCut 0 xs last → length (entries_in (take (ended cut xs) xs)) + length (filter (is_upto cut) (pile_at xs last (ended cut xs))) ≡ length (filter (is_upto cut) (entries_in xs ++ last))
upto_count xs cut last c = sym (length-append (entries_in (take (ended cut xs) xs)) (filter (is_upto cut) (pile_at xs last (ended cut xs)))) ∙ ap length (kept_entries xs 0 cut last c)

pub after_count : (xs : List Span) (from cut : ℕ) (last : List Dead) → AreCut from xs last → length (filter (is_after cut) (entries_in xs ++ last)) + length (filter (is_upto cut) (pile_at xs last (ended cut xs))) ≡ length (entries_in (drop (ended cut xs) xs) ++ last)
after_count [] from cut last c = let e = split_length cut last in omega (arith, e)
after_count (s ∷ ss) from cut last c =
    let assoc = append_assoc s.pile (entries_in ss) last in
    let both = filter-append (is_after cut) s.pile (entries_in ss ++ last) in
    let split = split_length cut s.pile in
    elim (leb_tells (upper_of s) cut) [
      | inl h ↦
          let ih = after_count ss (upper_of s + 1) cut last c.3 in
          let own = after_born_by (upper_of s) cut s.pile c.2 h.1 in
          rw (h.0, assoc, both, own) ih
      | inr h ↦
          let rest = all_after ss (upper_of s + 1) cut last c.3 (omega (arith, h.1)) in
          let l = length-append (filter (is_after cut) s.pile) (entries_in ss ++ last) in
          let m = length-append s.pile (entries_in ss ++ last) in
          rw (h.0, assoc, both, rest) (omega (arith, l, m, split))
    ]

-- where the cut stands, the next segment has no entry born by it
pub stands_none : (xs : List Span) (cut : ℕ) (last : List Dead) → AreCut 0 xs last → has_cut cut xs ≡ true → filter (is_upto cut) (pile_at xs last (ended cut xs)) ≡ []
stands_none xs cut last c e = upto_born_from (cut + 1) cut (pile_at xs last (ended cut xs)) (stands_divided xs 0 cut last c e) (omega arith)

pub has_cut_any : (xs : List Span) (g : ℕ) → has_cut g xs ≡ list_any (λ c. eqb c g) (uppers xs)
has_cut_any [] g = refl
has_cut_any (s ∷ ss) g = ap (λ b. eqb (upper_of s) g || b) (has_cut_any ss g)

pub upto_cuts : (xs : List Span) (cut : ℕ) (last : List Dead) → AreCut 0 xs last → length (filter (λ c. leb c cut) (uppers xs)) ≡ ended cut xs
upto_cuts xs cut last c =
    let le = front_le (λ u. leb u cut) xs in
    ap length (sym (kept_cuts xs 0 cut last c)) ∙ length-map (take (ended cut xs) xs) upper_of ∙ length-take-le (ended cut xs) xs le

pub after_cuts : (xs : List Span) (cut : ℕ) (last : List Dead) → AreCut 0 xs last → length (filter (λ c. ltb cut c) (uppers xs)) ≡ length (drop (ended cut xs) xs)
after_cuts xs cut last c = ap length (sym (dropped_cuts xs 0 cut last c)) ∙ length-map (drop (ended cut xs) xs) upper_of

-- the segments at the front and the next have no more than all
pub part_le : (xs : List Segment) (i : ℕ) (x : Segment) → i < length xs → x ≡ get_or xs i x → length (entries_in (take i (spans xs))) + length x.pile.entries ≤ length (entries_in (spans xs))
part_le [] i x lt e = absurd (omega arith)
part_le (s ∷ ss) zero x lt e =
    let l = length-append s.pile.entries (entries_in (spans ss)) in
    let same = ap (λ (y : Segment). length y.pile.entries) e in
    omega (arith, l, same)
part_le (s ∷ ss) (suc i) x lt e =
    let l = length-append s.pile.entries (entries_in (spans ss)) in
    let m = length-append s.pile.entries (entries_in (take i (spans ss))) in
    let ih = part_le ss i x (omega arith) e in
    omega (arith, l, m, ih)

-- a segment that is read by its index, as its cut and its entries tell it
pub span_read : (xs : List Segment) (i : ℕ) (x : Segment) → i < length xs → x ≡ get_or xs i x → span_of x ≡ get_or (spans xs) i (span_of x)
span_read xs i x lt e = ap span_of e ∙ sym (get_or-map span_of xs i x (span_of x) lt)

pub take_pile : (xs : List Segment) (i : ℕ) (x : Segment) → i < length xs → x ≡ get_or xs i x → length (entries_in (take (i + 1) (spans xs))) ≡ length (entries_in (take i (spans xs))) + length x.pile.entries
take_pile xs i x lt e =
    let l = length-map xs span_of in
    ap length (flat_map_take pile_of (spans xs) i (span_of x) (omega (arith, l)) (span_read xs i x lt e)) ∙ length-append (entries_in (take i (spans xs))) x.pile.entries

pub cut_length : (xs : List Span) (i : ℕ) → length (entries_in (take i xs)) + length (entries_in (drop i xs)) ≡ length (entries_in xs)
cut_length xs i =
    sym (length-append (entries_in (take i xs)) (entries_in (drop i xs)))
    ∙ ap length (sym (flat_map-append pile_of (take i xs) (drop i xs)) ∙ ap entries_in (take-append-drop i xs))
