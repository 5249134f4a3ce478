-- What an iterator over a dead list has left.
use Rattle.std.specs.Prelude.{ℕ, ◌+◌, List, [], ◌++◌, Option, None, Some, length, min}
use Rattle.std.specs.Borrow.{Bor}
use Rattle.base.specs.declared.number.Dead.{Dead}
use Rattle.deadlist.specs.declared.iter.Iter.{Iter}
use Rattle.deadlist.specs.Entries.{run_entries}
use Rattle.deadlist.specs.Piled.{Piled}
use Rattle.deadlist.specs.Segments.{entries_in}
use Rattle.deadlist.specs.Spans.{spans}

-- the entries behind a reference, where there is one
abbrev pub entries_behind : Option (Bor (List Dead)) → List Dead
entries_behind None = []
entries_behind (Some b) = b.now

-- the entries of a pile behind a reference, where there is one
abbrev pub pile_behind : Option (Bor Piled) → List Dead
pile_behind None = []
pile_behind (Some b) = b.now.entries

-- 1 where there is one
abbrev pub one_behind : {X : Type 0} → Option (Bor X) → ℕ
one_behind None = 0
one_behind (Some b) = 1

-- what is left of the segment under way
abbrev pub left_here : Iter → List Dead
left_here s = s.now.now ++ (run_entries s.runs.now ++ s.tail.now)

-- how many slices of it haven't been begun
abbrev pub unread : Iter → ℕ
unread s = length s.runs.now + min 1 (length s.tail.now)

-- what lies beyond it
abbrev pub left_beyond : Iter → List Dead
left_beyond s = entries_in (spans s.closed.now) ++ (pile_behind s.last ++ entries_behind s.fresh)

-- the entries that are left
abbrev pub left : Iter → List Dead
left s = left_here s ++ left_beyond s

-- how many parts it hasn't begun
abbrev pub unopened : Iter → ℕ
unopened s = length s.closed.now + (one_behind s.last + one_behind s.fresh)
