use Rattle.std.proofs.Common.{◌≡◌, ◌++◌, take}
use Rattle.std.specs.List.Sorted.{IsPermutation}
use Rattle.deadlist.specs.Entries.{run_entries}
use Rattle.deadlist.specs.Segments.{IsCut, entries_of, cuts_of}
use Rattle.deadlist.proofs.parts.Parts.place_pile.Given as goal

abbrev pub invariant-loop-run : goal.invariant-loop-run
invariant-loop-run l = IsPermutation (entries_of l.fn.self ++ run_entries (take l.run-index l.runs)) (entries_of l.self) × (cuts_of l.self ≡ cuts_of l.fn.self) × IsCut l.self
