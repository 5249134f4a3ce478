use Rattle.std.proofs.Common.{◌++◌, length, arith, length-append}
use Rattle.std.proofs.lemmas.List.Sorted.{length_permutation}
use Rattle.std.specs.List.Sorted.{IsPermutation}
use Rattle.deadlist.specs.Segments.{entries_in}
use Rattle.deadlist.specs.Spans.{spans}
use Rattle.deadlist.proofs.Logs.{search_steps_le}
use Rattle.deadlist.proofs.Alike.{alike_entries, alike_cuts, alike_cut}
use Rattle.deadlist.proofs.parts.Parts.settled.Goals as goal

pub returns-clause-entries : goal.returns-clause-entries
returns-clause-entries c =
    let s = c.args.self.now in
    alike_entries (spans s.closed.items) (spans c.in_ok-closed.closed.items) s.last.entries c.in_ok-last.last.entries (rw c.as_slice.ensures.value at c.in_ok-closed.ensures.alike) c.in_ok-last.ensures.entries

pub returns-clause-cuts : goal.returns-clause-cuts
returns-clause-cuts c =
    let s = c.args.self.now in
    alike_cuts (spans s.closed.items) (spans c.in_ok-closed.closed.items) (rw c.as_slice.ensures.value at c.in_ok-closed.ensures.alike)

pub returns-clause-cut : goal.returns-clause-cut
returns-clause-cut c =
    let s = c.args.self.now in
    alike_cut (spans s.closed.items) (spans c.in_ok-closed.closed.items) 0 s.last.entries c.in_ok-last.last.entries (rw c.as_slice.ensures.value at c.in_ok-closed.ensures.alike) c.in_ok-last.ensures.entries c.requires

pub returns-clause-steps : goal.returns-clause-steps
returns-clause-steps c =
    let s = c.args.self.now in
    let xs = spans s.closed.items in
    let ys = spans c.in_ok-closed.closed.items in
    let old = entries_in xs ++ s.last.entries in
    let new = entries_in ys ++ c.in_ok-last.last.entries in
    let perm : IsPermutation old new = alike_entries xs ys s.last.entries c.in_ok-last.last.entries (rw c.as_slice.ensures.value at c.in_ok-closed.ensures.alike) c.in_ok-last.ensures.entries in
    let many = length_permutation old new perm in
    let l = length-append (entries_in xs) s.last.entries in
    let closed = rw c.as_slice.ensures.value at c.in_ok-closed.ensures.steps in
    let last = c.in_ok-last.ensures.steps in
    let a = search_steps_le (length (entries_in xs)) (length new) (omega (arith, many, l)) in
    let b = search_steps_le (length s.last.entries) (length new) (omega (arith, many, l)) in
    omega (arith, closed, last, a, b)
