use Rattle.std.proofs.Common.{◌≡◌, ◌++◌, List, arith, ap, sym, subst, ◌∙◌, length, length-append}
use Rattle.std.specs.List.Sorted.{IsPermutation}
use Rattle.std.proofs.lemmas.List.Sorted.{IsPermutation-trans, length_permutation}
use Rattle.base.specs.declared.number.Dead.{Dead}
use Rattle.deadlist.specs.Segments.{AreBornFrom, AreBornBy, entries_of}
use Rattle.deadlist.proofs.Logs.{search_steps_le}
use Rattle.deadlist.proofs.Births.{born_from_weaker, born_by_weaker, born_from_append, born_by_append}
use Rattle.deadlist.proofs.Orders.{born_from_permuted, born_by_permuted}
use Rattle.deadlist.proofs.Merges.{perm_four}
use Rattle.deadlist.proofs.deadlist.Deadlist.both.Goals as goal

pub invariant_of-result : goal.invariant_of-result
invariant_of-result c =
    let p = c.self.inside.parts in
    let o = c.other.inside.parts in
    let fs = c.self.inside.fresh.items in
    let gs = c.other.inside.fresh.items in
    let new = c.in_ok-parts-2.parts in
    let merged : IsPermutation (entries_of p ++ entries_of o) (entries_of c.merge.new.self) = rw (c.in_ok-parts.ensures.closed, c.in_ok-parts.ensures.last) at c.in_ok-merge.ensures.entries in
    let all = IsPermutation-trans (entries_of p ++ entries_of o) (entries_of c.merge.new.self) (entries_of new) merged c.in_ok-parts-2.ensures.entries in
    let fresh : c.extend_from_slice.new.self.items ≡ fs ++ gs =
    c.in_ok-extend_from_slice.ensures.items ∙ (λ i. (c.in_ok-fresh.ensures.items ∙ c.as_slice.ensures.value) i ++ c.as_slice-2.ensures.value i) in
    let perm = perm_four (entries_of p) fs (entries_of o) gs (entries_of new) all in
    let many = length_permutation ((entries_of p ++ fs) ++ (entries_of o ++ gs)) (entries_of new ++ (fs ++ gs)) perm in
    let two = length-append (entries_of p ++ fs) (entries_of o ++ gs) in
    let same = ap (λ (ds : List Dead). length (entries_of new ++ ds)) fresh in
    let own = c.self.invariant.1 in
    let other = c.other.invariant.1 in
    let sum = c.in-Some.ensures.1 in
    let low = c.min.ensures in
    let high = c.max.ensures in
    let two_from = born_from_append c.min.result (entries_of p ++ fs) (entries_of o ++ gs) (born_from_weaker c.self.inside.low c.min.result (entries_of p ++ fs) c.self.invariant.2 (omega (arith, low))) (born_from_weaker c.other.inside.low c.min.result (entries_of o ++ gs) c.other.invariant.2 (omega (arith, low))) in
    let two_by = born_by_append c.max.result (entries_of p ++ fs) (entries_of o ++ gs) (born_by_weaker c.self.inside.high c.max.result (entries_of p ++ fs) c.self.invariant.3 (omega (arith, high))) (born_by_weaker c.other.inside.high c.max.result (entries_of o ++ gs) c.other.invariant.3 (omega (arith, high))) in (
      c.in_ok-parts-2.ensures.cut,
      omega (arith, many, two, same, own, other, sum),
      subst (λ (ds : List Dead). AreBornFrom c.min.result (entries_of new ++ ds)) (sym fresh) (born_from_permuted c.min.result ((entries_of p ++ fs) ++ (entries_of o ++ gs)) (entries_of new ++ (fs ++ gs)) two_from perm),
      subst (λ (ds : List Dead). AreBornBy c.max.result (entries_of new ++ ds)) (sym fresh) (born_by_permuted c.max.result ((entries_of p ++ fs) ++ (entries_of o ++ gs)) (entries_of new ++ (fs ++ gs)) two_by perm),
    )

pub returns-clause-entries : goal.returns-clause-entries
returns-clause-entries c =
    let p = c.self.inside.parts in
    let o = c.other.inside.parts in
    let fs = c.self.inside.fresh.items in
    let gs = c.other.inside.fresh.items in
    let new = c.in_ok-parts-2.parts in
    let merged : IsPermutation (entries_of p ++ entries_of o) (entries_of c.merge.new.self) = rw (c.in_ok-parts.ensures.closed, c.in_ok-parts.ensures.last) at c.in_ok-merge.ensures.entries in
    let all = IsPermutation-trans (entries_of p ++ entries_of o) (entries_of c.merge.new.self) (entries_of new) merged c.in_ok-parts-2.ensures.entries in
    let fresh : c.extend_from_slice.new.self.items ≡ fs ++ gs =
    c.in_ok-extend_from_slice.ensures.items ∙ (λ i. (c.in_ok-fresh.ensures.items ∙ c.as_slice.ensures.value) i ++ c.as_slice-2.ensures.value i) in
    let perm = perm_four (entries_of p) fs (entries_of o) gs (entries_of new) all in
    rw (← c.self.view_is, ← c.other.view_is) (subst (λ (ds : List Dead). IsPermutation ((entries_of p ++ fs) ++ (entries_of o ++ gs)) (entries_of new ++ ds)) (sym fresh) perm)

pub returns-clause-steps : goal.returns-clause-steps
returns-clause-steps c =
    let new = c.in_ok-parts-2.parts in
    let l = length-append (entries_of new) c.extend_from_slice.new.self.items in
    let le = search_steps_le (length (entries_of new)) (length (entries_of new ++ c.extend_from_slice.new.self.items)) (omega (arith, l)) in
    omega (arith, le, c.in_ok-parts-2.ensures.steps)
