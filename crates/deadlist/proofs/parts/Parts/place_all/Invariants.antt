use Rattle.std.proofs.Common.{◌≡◌, ◌++◌, take}
use Rattle.std.specs.List.Sorted.{IsPermutation}
use Rattle.deadlist.specs.Segments.{IsCut, entries_of, cuts_of}
use Rattle.deadlist.proofs.parts.Parts.place_all.Given as goal

abbrev pub invariant-loop-dead : goal.invariant-loop-dead
invariant-loop-dead l = IsPermutation (entries_of l.fn.self ++ take l.dead-index l.entries) (entries_of l.self) × (cuts_of l.self ≡ cuts_of l.fn.self) × IsCut l.self
