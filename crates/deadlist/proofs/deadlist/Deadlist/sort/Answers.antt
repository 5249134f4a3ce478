use Rattle.std.proofs.Common.{◌≡◌, ◌++◌, length, arith, ap, sym, ◌∙◌}
use Rattle.std.specs.List.Sorted.{IsPermutation}
use Rattle.std.proofs.lemmas.List.Sorted.{length_permutation}
use Rattle.std.proofs.lemmas.List.{append-nil}
use Rattle.deadlist.specs.Bits.{search_steps}
use Rattle.deadlist.specs.Held.{Held}
use Rattle.deadlist.specs.Segments.{entries_of}
use Rattle.deadlist.proofs.Orders.{born_from_permuted, born_by_permuted}
use Rattle.deadlist.proofs.deadlist.Deadlist.sort.Goals as goal

pub invariant_of-self-2 : goal.invariant_of-self-2
invariant_of-self-2 c =
    let s = c.self.inside in
    let old = entries_of s.parts ++ s.fresh.items in
    let new = entries_of c.in_ok-sorted.sorted in
    let perm : IsPermutation old new = rw c.as_slice.ensures.value at c.in_ok-sorted.ensures.entries in
    let none = append-nil new in (
      c.in_ok-sorted.ensures.cut,
      rw (c.clear.ensures.items, none) (c.self.invariant.1 ∙ sym (length_permutation old new perm)),
      rw (c.clear.ensures.items, none) (born_from_permuted s.low old new c.self.invariant.2 perm),
      rw (c.clear.ensures.items, none) (born_by_permuted s.high old new c.self.invariant.3 perm),
    )

pub returns-clause-steps : goal.returns-clause-steps
returns-clause-steps c =
    let s = c.self.inside in
    let old = entries_of s.parts ++ s.fresh.items in
    let new = entries_of c.in_ok-sorted.sorted in
    let perm : IsPermutation old new = rw c.as_slice.ensures.value at c.in_ok-sorted.ensures.entries in
    let many : length new ≡ length c.args.self.now.entries = length_permutation old new perm ∙ ap (λ (h : Held). length h.entries) c.self.view_is in
    let steps = c.in_ok-sorted.ensures.steps in
    let same = ap search_steps many in
    omega (arith, steps, same)
