-- The segment with an index, and how many segments pass a test of their cut.
use Rattle.std.proofs.Common.{◌≡◌, ℕ, zero, suc, ◌+◌, ◌≤◌, ◌<◌, Bool, true, false, cond, List, [], ◌∷◌, ◌++◌, length, get_or, set, take, drop, arith, refl, ap, sym, ◌∙◌}
use Rattle.std.specs.Prelude.{Some, slice_get}
use Rattle.std.specs.Option.{option_map}
use Rattle.std.specs.List.{AllWithin}
use Rattle.std.specs.List.Sorted.{IsNonDecreasingBy}
use Rattle.base.specs.declared.number.Dead.{Dead}
use Rattle.deadlist.specs.declared.parts.Segment.{Segment}
use Rattle.deadlist.specs.Piled.{Piled}
use Rattle.deadlist.specs.Spans.{Span, span_of, spans}
use Rattle.std.proofs.lemmas.List.{length-map, get_or-map}
use Rattle.deadlist.specs.Segments.{AreCut, upper_of, uppers, front, pile_at, with_pile, last_with}

-- the entries of a segment that is read by its index
pub pile_at_read : (xs : List Segment) (i : ℕ) (x : Segment) (last : List Dead) → i < length xs → x ≡ get_or xs i x → x.pile.entries ≡ pile_at (spans xs) last i
pile_at_read [] i x last h e = absurd (omega arith)
pile_at_read (s ∷ ss) zero x last h e = ap (λ (y : Segment). y.pile.entries) e
pile_at_read (s ∷ ss) (suc i) x last h e = pile_at_read ss i x last (omega arith) e

pub pile_at_past : (xs : List Segment) (i : ℕ) (last : List Dead) → length xs ≤ i → last ≡ pile_at (spans xs) last i
pile_at_past [] i last h = refl
pile_at_past (s ∷ ss) zero last h = absurd (omega arith)
pile_at_past (s ∷ ss) (suc i) last h = pile_at_past ss i last (omega arith)

-- a write of the entries of a segment
pub with_pile_is : (xs : List Segment) (i : ℕ) (x : Segment) (p : Piled) → i < length xs → x ≡ get_or xs i x → spans (set xs i (record { upper = x.upper; pile = p })) ≡ with_pile (spans xs) i p.entries
with_pile_is [] i x p h e = absurd (omega arith)
with_pile_is (s ∷ ss) zero x p h e = ap (λ (y : Segment). record { upper = y.upper; pile = p.entries } ∷ spans ss) e
with_pile_is (s ∷ ss) (suc i) x p h e = ap (λ (ys : List Span). span_of s ∷ ys) (with_pile_is ss i x p (omega arith) e)

pub with_pile_past : (xs : List Segment) (i : ℕ) (p : List Dead) → length xs ≤ i → spans xs ≡ with_pile (spans xs) i p
with_pile_past [] i p h = refl
with_pile_past (s ∷ ss) zero p h = absurd (omega arith)
with_pile_past (s ∷ ss) (suc i) p h = ap (λ (ys : List Span). span_of s ∷ ys) (with_pile_past ss i p (omega arith))

pub last_with_in : (xs : List Segment) (i : ℕ) (last p : List Dead) → i < length xs → last ≡ last_with (spans xs) last i p
last_with_in [] i last p h = absurd (omega arith)
last_with_in (s ∷ ss) zero last p h = refl
last_with_in (s ∷ ss) (suc i) last p h = last_with_in ss i last p (omega arith)

pub last_with_past : (xs : List Segment) (i : ℕ) (last p : List Dead) → length xs ≤ i → p ≡ last_with (spans xs) last i p
last_with_past [] i last p h = refl
last_with_past (s ∷ ss) zero last p h = absurd (omega arith)
last_with_past (s ∷ ss) (suc i) last p h = last_with_past ss i last p (omega arith)

-- cuts are no lower than where the segments begin
pub uppers_from : (xs : List Span) (from : ℕ) (last : List Dead) → AreCut from xs last → (j : ℕ) (d : Span) → j < length xs → from ≤ upper_of (get_or xs j d)
uppers_from [] from last c j d h = absurd (omega arith)
uppers_from (s ∷ ss) from last c zero d h = c.0
uppers_from (s ∷ ss) from last c (suc j) d h =
    let k = uppers_from ss (upper_of s + 1) last c.3 j d (omega arith) in
    omega (arith, c.0, k)

-- cuts rise
pub uppers_rise : (xs : List Span) (from : ℕ) (last : List Dead) → AreCut from xs last → IsNonDecreasingBy upper_of xs
uppers_rise [] from last c i j d le h = absurd (omega arith)
uppers_rise (s ∷ ss) from last c zero zero d le h = omega arith
uppers_rise (s ∷ ss) from last c zero (suc j) d le h =
    let k = uppers_from ss (upper_of s + 1) last c.3 j d (omega arith) in
    omega (arith, k)
uppers_rise (s ∷ ss) from last c (suc i) zero d le h = absurd (omega arith)
uppers_rise (s ∷ ss) from last c (suc i) (suc j) d le h = uppers_rise ss (upper_of s + 1) last c.3 i j d (omega arith) (omega arith)

-- the same of segments as they stand
abbrev pub closed_upper : Segment → ℕ
closed_upper s = s.upper.0

pub closed_rise : (xs : List Segment) (from : ℕ) (last : List Dead) → AreCut from (spans xs) last → IsNonDecreasingBy closed_upper xs
closed_rise xs from last c i j d le h =
    let lt : i < length xs = omega arith in
    let own = length-map xs span_of in
    let low = ap upper_of (get_or-map span_of xs i d (span_of d) lt) in
    let high = ap upper_of (get_or-map span_of xs j d (span_of d) h) in
    let k = uppers_rise (spans xs) from last c i j (span_of d) le (omega (arith, own)) in
    omega (arith, low, high, k)

-- those that pass are at the front
pub front_is : (p : ℕ → Bool) (xs : List Segment) (i : ℕ) → i ≤ length xs → AllWithin (λ (s : Segment). p (closed_upper s) ≡ true) xs 0 i → AllWithin (λ (s : Segment). p (closed_upper s) ≡ false) xs i (length xs) → i ≡ front p (spans xs)
front_is p [] i le pass fail = omega arith
front_is p (s ∷ ss) zero le pass fail =
    let e : p (closed_upper s) ≡ false = fail 0 s (omega arith) (omega arith) in
    ap (λ b. cond b (suc (front p (spans ss))) zero) (sym e)
front_is p (s ∷ ss) (suc i) le pass fail =
    let e : p (closed_upper s) ≡ true = pass 0 s (omega arith) (omega arith) in
    let k = front_is p ss i (omega arith) (λ k d l h. pass (suc k) d (omega arith) (omega arith)) (λ k d l h. fail (suc k) d (omega arith) (omega arith)) in
    ap suc k ∙ ap (λ b. cond b (suc (front p (spans ss))) zero) (sym e)

pub front_le : (p : ℕ → Bool) (xs : List Span) → front p xs ≤ length xs
front_le p [] = omega arith
front_le p (s ∷ ss) = elim (p (upper_of s)) as (λ b. cond b (suc (front p ss)) zero ≤ suc (length ss)) [ true ↦ omega (arith, front_le p ss) | false ↦ omega arith ]

pub front_within : (p : ℕ → Bool) (xs : List Segment) → front p (spans xs) ≤ length xs
front_within p xs = omega (arith, front_le p (spans xs), length-map xs span_of)

-- each cut is below the next
pub uppers_strict : (xs : List Span) (from : ℕ) (last : List Dead) → AreCut from xs last → (k : ℕ) → suc k < length (uppers xs) → get_or (uppers xs) k 0 < get_or (uppers xs) (suc k) 0
uppers_strict [] from last c k h = absurd (omega arith)
uppers_strict (s ∷ []) from last c k h = absurd (omega arith)
uppers_strict (s ∷ t ∷ ts) from last c zero h = let n = c.3 in omega (arith, n.0)
uppers_strict (s ∷ t ∷ ts) from last c (suc k) h = uppers_strict (t ∷ ts) (upper_of s + 1) last c.3 k (omega arith)

-- a segment put among others
pub spans_insert : (xs : List Segment) (i : ℕ) (x : Segment) → spans (take i xs ++ x ∷ drop i xs) ≡ take i (spans xs) ++ span_of x ∷ drop i (spans xs)
spans_insert xs zero x = refl
spans_insert [] (suc i) x = refl
spans_insert (s ∷ ss) (suc i) x = ap (λ (ys : List Span). span_of s ∷ ys) (spans_insert ss i x)

-- a cut that is read by its index
pub cut_read : (xs : List Segment) (i : ℕ) (x : Segment) → Some x ≡ slice_get xs i → Some (closed_upper x) ≡ slice_get (uppers (spans xs)) i
cut_read [] zero x e = cc
cut_read [] (suc i) x e = cc
cut_read (s ∷ ss) zero x e = ap (option_map closed_upper) e
cut_read (s ∷ ss) (suc i) x e = cut_read ss i x e
