use Rattle.std.proofs.Common.{◌++◌, ◌^◌, ◌∙◌, length, length-append, arith, ap, sym}
use Rattle.std.proofs.lemmas.List.Sorted.{IsPermutation-append_left, IsPermutation-trans, length_permutation}
use Rattle.std.specs.List.Sorted.{IsPermutation}
use Rattle.deadlist.specs.Entries.{run_entries}
use Rattle.deadlist.specs.Bits.{search_steps}
use Rattle.deadlist.specs.Piled.{Piled}
use Rattle.deadlist.proofs.Steps.{halved_few}
use Rattle.deadlist.proofs.Orders.{born_from_permuted, born_by_permuted}
use Rattle.deadlist.proofs.pile.Pile.settled.Goals as goal

pub invariant_of-result : goal.invariant_of-result
invariant_of-result c =
    let s = c.self.inside in
    let es = run_entries s.runs.items in
    let mid = run_entries c.in_ok-runs.runs.items in
    let new = run_entries c.stack_many.new.runs.items ++ c.in_ok-tail.tail.items in
    let runs : IsPermutation es mid = rw c.as_slice.ensures.value at c.in_ok-runs.ensures.entries in
    let tail : IsPermutation (mid ++ s.tail.items) new = rw c.as_slice-2.ensures.value at c.in_ok-tail.ensures.entries in
    let all = IsPermutation-trans (es ++ s.tail.items) (mid ++ s.tail.items) new (IsPermutation-append_left s.tail.items es mid runs) tail in (
      c.self.invariant.0 ∙ sym (length_permutation (es ++ s.tail.items) new all),
      born_from_permuted s.low (es ++ s.tail.items) new c.self.invariant.1 all,
      born_by_permuted s.high (es ++ s.tail.items) new c.self.invariant.2 all,
    )

pub returns-clause-entries : goal.returns-clause-entries
returns-clause-entries c =
    let s = c.self.inside in
    let es = run_entries s.runs.items in
    let mid = run_entries c.in_ok-runs.runs.items in
    let new = run_entries c.stack_many.new.runs.items ++ c.in_ok-tail.tail.items in
    let runs : IsPermutation es mid = rw c.as_slice.ensures.value at c.in_ok-runs.ensures.entries in
    let tail : IsPermutation (mid ++ s.tail.items) new = rw c.as_slice-2.ensures.value at c.in_ok-tail.ensures.entries in
    rw (← c.self.view_is) (IsPermutation-trans (es ++ s.tail.items) (mid ++ s.tail.items) new (IsPermutation-append_left s.tail.items es mid runs) tail)

pub returns-clause-steps : goal.returns-clause-steps
unfolding search_steps
returns-clause-steps c =
    let s = c.self.inside in
    let es = run_entries s.runs.items in
    let mid = run_entries c.in_ok-runs.runs.items in
    let rs = c.stack_many.new.runs.items in
    let new = run_entries rs ++ c.in_ok-tail.tail.items in
    let runs : IsPermutation es mid = rw c.as_slice.ensures.value at c.in_ok-runs.ensures.entries in
    let tail : IsPermutation (mid ++ s.tail.items) new = rw c.as_slice-2.ensures.value at c.in_ok-tail.ensures.entries in
    let all = IsPermutation-trans (es ++ s.tail.items) (mid ++ s.tail.items) new (IsPermutation-append_left s.tail.items es mid runs) tail in
    let many = length_permutation (es ++ s.tail.items) new all in
    let is = ap (λ (p : Piled). length p.entries) c.self.view_is in
    let l = length-append (run_entries rs) c.in_ok-tail.tail.items in
    let few = halved_few rs (2 ^ 65) (length c.args.self.now.entries) c.in_ok-tail.ensures.halved (omega (arith, many, is, l)) in
    omega (arith, few, c.in_ok-tail.ensures.few)
