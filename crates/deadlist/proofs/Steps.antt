-- How many entries a sum looks at.
use Rattle.std.proofs.Common.{◌≡◌, ℕ, zero, suc, ◌+◌, ◌*◌, ◌≤◌, ◌<◌, List, [], ◌∷◌, ◌++◌, length, get_or, set, take, drop, arith, ap, sym, length-append}
use Rattle.std.specs.Prelude.{max}
use Rattle.std.proofs.lemmas.List.Sums.{sum_by-cons}
use Rattle.deadlist.specs.Bits.{bits}
use Rattle.base.specs.declared.number.Dead.{Dead}
use Rattle.deadlist.specs.Entries.{run_entries, run_steps, runs_steps, AreHalvedFrom, last_length}
use Rattle.deadlist.specs.Segments.{most_steps, entries_in, pile_at}
use Rattle.deadlist.specs.Spans.{Span}
use Rattle.deadlist.specs.declared.parts.Segment.{Segment}
use Rattle.deadlist.proofs.Logs.{bits_le, bits_half, bits_double, square_le}

-- ---- runs that halve
pub halved_front : (rs us : List (List Dead)) (above : ℕ) → AreHalvedFrom above (rs ++ us) → AreHalvedFrom above rs
halved_front [] us above h = tt
halved_front (r ∷ rs) us above h = (h.0, halved_front rs us (length r) h.1)

pub halved_push : (rs : List (List Dead)) (r : List Dead) (above : ℕ) → AreHalvedFrom above rs → length r + length r < last_length above rs → AreHalvedFrom above (rs ++ r ∷ [])
halved_push [] r above h lt = (lt, tt)
halved_push (s ∷ rs) r above h lt = (h.0, halved_push rs r (length s) h.1 lt)

pub last_length_is : (rs : List (List Dead)) (r d : List Dead) (above k : ℕ) → suc k ≡ length rs → r ≡ get_or rs k d → last_length above rs ≡ length r
last_length_is [] r d above k n e = absurd (omega arith)
last_length_is (s ∷ []) r d above zero n e = ap length (sym e)
last_length_is (s ∷ []) r d above (suc k) n e = absurd (omega arith)
last_length_is (s ∷ t ∷ ts) r d above zero n e = absurd (omega arith)
last_length_is (s ∷ t ∷ ts) r d above (suc k) n e = last_length_is (t ∷ ts) r d (length s) k (omega arith) e

-- the digits of their lengths fall, so they sum up to no more than the square of the first ones
square_self : (k : ℕ) → k ≤ k * k
square_self zero = omega arith
square_self (suc k) = omega arith

halved_steps : (rs : List (List Dead)) (above k : ℕ) → AreHalvedFrom above rs → bits above ≤ suc k → runs_steps rs ≤ k * k
halved_steps [] above k h le = omega arith
halved_steps (r ∷ []) above k h le =
    let half = bits_half (length r) above (omega (arith, h.0)) (omega (arith, h.0)) in
    omega (arith, half, square_self k)
halved_steps (r ∷ s ∷ rs) above zero h le =
    let next = h.1 in
    let half = bits_half (length r) above (omega (arith, h.0)) (omega (arith, h.0)) in
    let more = bits_half (length s) (length r) (omega (arith, next.0)) (omega (arith, next.0)) in
    absurd (omega (arith, half, more))
halved_steps (r ∷ s ∷ rs) above (suc k) h le =
    let half = bits_half (length r) above (omega (arith, h.0)) (omega (arith, h.0)) in
    let ih = halved_steps (s ∷ rs) (length r) k h.1 (omega (arith, half)) in
    let sum = sum_by-cons run_steps r (s ∷ rs) in
    omega (arith, half, ih, sum)

pub halved_few : (rs : List (List Dead)) (above n : ℕ) → AreHalvedFrom above rs → length (run_entries rs) ≤ n → runs_steps rs ≤ bits n * bits n
halved_few [] above n h le = omega arith
halved_few (r ∷ rs) above n h le =
    let l = length-append r (run_entries rs) in
    let all = halved_steps (r ∷ rs) (suc (length r + length r)) (bits (length r)) (omega arith, h.1) (bits_double (length r)) in
    let more = square_le (bits (length r)) (bits n) (bits_le (length r) n (omega (arith, l))) in
    omega (arith, all, more)

-- ---- segments
pub steps_read : (xs : List Segment) (i : ℕ) (x : Segment) → i < length xs → x ≡ get_or xs i x → x.pile.steps ≤ most_steps xs
steps_read [] i x h e = absurd (omega arith)
steps_read (s ∷ ss) zero x h e = let same = ap (λ (y : Segment). y.pile.steps) e in omega (arith, same)
steps_read (s ∷ ss) (suc i) x h e = let ih = steps_read ss i x (omega arith) e in omega (arith, ih)

pub steps_set : (xs : List Segment) (i : ℕ) (x : Segment) → i < length xs → most_steps (set xs i x) ≤ max (most_steps xs) x.pile.steps
steps_set [] i x h = absurd (omega arith)
steps_set (s ∷ ss) zero x h = omega arith
steps_set (s ∷ ss) (suc i) x h = let ih = steps_set ss i x (omega arith) in omega (arith, ih)

pub steps_take : (xs : List Segment) (i : ℕ) → most_steps (take i xs) ≤ most_steps xs
steps_take xs zero = omega arith
steps_take [] (suc i) = omega arith
steps_take (s ∷ ss) (suc i) = let ih = steps_take ss i in omega (arith, ih)

pub steps_drop : (xs : List Segment) (i : ℕ) → most_steps (drop i xs) ≤ most_steps xs
steps_drop xs zero = omega arith
steps_drop [] (suc i) = omega arith
steps_drop (s ∷ ss) (suc i) = let ih = steps_drop ss i in omega (arith, ih)

pub steps_append : (xs ys : List Segment) → most_steps (xs ++ ys) ≡ max (most_steps xs) (most_steps ys)
steps_append [] ys = omega arith
steps_append (s ∷ ss) ys = let ih = steps_append ss ys in omega (arith, ih)

-- one segment has no more entries than all
pub pile_at_few : (xs : List Span) (last : List Dead) (i : ℕ) → length (pile_at xs last i) ≤ length (entries_in xs ++ last)
pile_at_few [] last i = omega arith
pile_at_few (s ∷ ss) last zero =
    let l = length-append (s.pile ++ entries_in ss) last in
    let m = length-append s.pile (entries_in ss) in
    omega (arith, l, m)
pile_at_few (s ∷ ss) last (suc i) =
    let l = length-append (s.pile ++ entries_in ss) last in
    let m = length-append s.pile (entries_in ss) in
    let n = length-append (entries_in ss) last in
    let ih = pile_at_few ss last i in
    omega (arith, l, m, n, ih)
