-- Segments of a dead list: each but the last with an upper cut, in rising order (profile).
use Rattle.std.specs.Prelude.{◌≡◌, ◌≤◌, ℕ, ◌+◌, zero, suc, Bool, false, cond, List, [], ◌∷◌, ◌++◌, map, filter, not, length, nat_le, nat_lt, max, ◌==◌, ◌||◌, Option, None, Some, if◌then◌else◌}
use Rattle.std.specs.List.{flat_map, list_any}
use Rattle.std.specs.List.Sorted.{IsPermutation}
use Rattle.base.specs.declared.number.Dead.{Dead}
use Rattle.deadlist.specs.declared.parts.Segment.{Segment}
use Rattle.deadlist.specs.Spans.{Span, spans}
use Rattle.deadlist.specs.declared.parts.Parts.{Parts}
pub use Rattle.deadlist.specs.Entries.{AreBornFrom, AreBornBy}

-- the upper cut
abbrev pub upper_of : Span → ℕ
upper_of s = s.upper.0

-- the entries of a segment
abbrev pub pile_of : Span → List Dead
pile_of s = s.pile

-- the upper cuts
abbrev pub uppers : List Span → List ℕ
uppers = map upper_of

-- the entries, segment by segment
abbrev pub entries_in : List Span → List Dead
entries_in = flat_map pile_of

-- the cuts rise from the group on, and each entry lies between its segment's cuts
abbrev pub AreCut : ℕ → List Span → List Dead → Type 0
AreCut from [] last = AreBornFrom from last
AreCut from (s ∷ ss) last = (from ≤ upper_of s) × AreBornFrom from s.pile × AreBornBy (upper_of s) s.pile × AreCut (upper_of s + 1) ss last

-- how many segments at the front have a cut that passes
abbrev pub front : (ℕ → Bool) → List Span → ℕ
front p [] = zero
front p (s ∷ ss) = cond (p (upper_of s)) (suc (front p ss)) zero

-- whether a cut stands there
abbrev pub has_cut : ℕ → List Span → Bool
has_cut g [] = false
has_cut g (s ∷ ss) = (upper_of s == g) || has_cut g ss

-- the entries of the segment with that index, the last one past the others
abbrev pub pile_at : List Span → List Dead → ℕ → List Dead
pile_at [] last i = last
pile_at (s ∷ ss) last zero = s.pile
pile_at (s ∷ ss) last (suc i) = pile_at ss last i

-- the segments with other entries in one of them
abbrev pub with_pile : List Span → ℕ → List Dead → List Span
with_pile [] i p = []
with_pile (s ∷ ss) zero p = record s { pile = p } ∷ ss
with_pile (s ∷ ss) (suc i) p = s ∷ with_pile ss i p

-- and what the last one then has
abbrev pub last_with : List Span → List Dead → ℕ → List Dead → List Dead
last_with [] last i p = p
last_with (s ∷ ss) last zero p = last
last_with (s ∷ ss) last (suc i) p = last_with ss last i p

-- the entries were born by the cut of the segment with that index
abbrev pub FitsAt : List Span → ℕ → List Dead → Type 0
FitsAt [] i q = Unit {0}
FitsAt (s ∷ ss) zero q = AreBornBy (upper_of s) q
FitsAt (s ∷ ss) (suc i) q = FitsAt ss i q

-- how many segments end by the cut
abbrev pub ended : ℕ → List Span → ℕ
ended cut xs = front (λ u. nat_le u cut) xs

-- how many segments end before the group
abbrev pub begun : ℕ → List Span → ℕ
begun group xs = front (λ u. nat_lt u group) xs

-- the cuts with one more, and without one
abbrev pub with_cut : ℕ → List ℕ → List ℕ
with_cut g cs = filter (λ c. nat_lt c g) cs ++ g ∷ filter (λ c. nat_lt g c) cs

abbrev pub with_cuts : List ℕ → List ℕ → List ℕ
with_cuts cs [] = cs
with_cuts cs (g ∷ gs) = with_cuts (with_cut g cs) gs

abbrev pub without_cut : ℕ → List ℕ → List ℕ
without_cut g cs = filter (λ c. not (c == g)) cs

-- the entries were born by the group, where there is one
abbrev pub AreBornByIf : Option ℕ → List Dead → Type 0
AreBornByIf None q = Unit {0}
AreBornByIf (Some to) q = AreBornBy to q

-- how many segments have an entry by the cut, or after it, as their cuts tell
abbrev pub reached_upto : ℕ → List ℕ → ℕ
reached_upto cut cs = length (filter (λ c. nat_le c cut) cs) + (if list_any (λ c. c == cut) cs then 0 else 1)

abbrev pub reached_after : ℕ → List ℕ → ℕ
reached_after cut cs = length (filter (λ c. nat_lt cut c) cs) + 1

-- the entries of a list, segment by segment
abbrev pub entries_of : Parts → List Dead
entries_of p = entries_in (spans p.closed.items) ++ p.last.entries

-- its cuts
abbrev pub cuts_of : Parts → List ℕ
cuts_of p = uppers (spans p.closed.items)

-- its cuts rise, and each entry lies between its segment's cuts
abbrev pub IsCut : Parts → Type 0
IsCut p = AreCut 0 (spans p.closed.items) p.last.entries

-- the same cuts, and in each segment the same entries, in any order
abbrev pub AreAlike : List Span → List Span → Type 0
AreAlike [] [] = Unit {0}
AreAlike [] (t ∷ ts) = ⊥
AreAlike (s ∷ ss) [] = ⊥
AreAlike (s ∷ ss) (t ∷ ts) = (s.upper ≡ t.upper) × IsPermutation s.pile t.pile × AreAlike ss ts

-- how many entries a sum looks at in one of the segments, at most
abbrev pub most_steps : List Segment → ℕ
most_steps [] = 0
most_steps (s ∷ ss) = max s.pile.steps (most_steps ss)

abbrev pub steps_of : Parts → ℕ
steps_of p = max p.last.steps (most_steps p.closed.items)
