use Rattle.std.proofs.Common.{◌++◌, length, filter, arith, ap, sym, ◌∙◌, length-append}
use Rattle.deadlist.specs.Held.{Held}
use Rattle.deadlist.specs.Entries.{is_after, is_upto}
use Rattle.deadlist.specs.Segments.{entries_of}
use Rattle.std.proofs.lemmas.List.Elements.{filter-append}
use Rattle.deadlist.proofs.Births.{upto_born_by, upto_born_from}
use Rattle.deadlist.proofs.Filters.{filter_le, split_length}
use Rattle.deadlist.proofs.deadlist.Deadlist.count_upto.Goals as goal

pub returns-then-self-cut-clause-count : goal.returns-then-self-cut-clause-count
returns-then-self-cut-clause-count c =
    let s = c.self.inside in
    let all = entries_of s.parts ++ s.fresh.items in
    rw (← c.self.view_is) (c.self.invariant.1 ∙ ap length (sym (upto_born_by s.high c.args.cut all c.self.invariant.3 c.if-self-cut.true)))

pub returns-then-cut-self-clause-count : goal.returns-then-cut-self-clause-count
returns-then-cut-self-clause-count c =
    let s = c.self.inside in
    let all = entries_of s.parts ++ s.fresh.items in
    rw (← c.self.view_is) (ap length (sym (upto_born_from s.low c.args.cut all c.self.invariant.2 c.if-cut-self.true)))

pub overflow_sub-result : goal.overflow_sub-result
overflow_sub-result c = omega (arith, c.count_in.ensures.few)

pub overflow_add-result : goal.overflow_add-result
overflow_add-result c =
    let es = entries_of c.self.inside.parts in
    let fs = c.self.inside.fresh.items in
    let t = is_upto c.args.cut in
    let le = filter_le t es in
    let two = length-append es fs in
    let sum = c.sum_upto-sum.ensures.sum in
    let same = ap length c.as_slice-fresh.ensures.value in
    let all = c.self.invariant.1 in
    omega (arith, le, two, sum, same, all)

pub returns-clause-count : goal.returns-clause-count
returns-clause-count c =
    let es = entries_of c.self.inside.parts in
    let fs = c.self.inside.fresh.items in
    let t = is_upto c.args.cut in
    let two = ap length (filter-append t es fs) ∙ length-append (filter t es) (filter t fs) in
    let split = split_length c.args.cut fs in
    let sum = c.sum_upto-sum.ensures.sum in
    let same = ap length c.as_slice-fresh.ensures.value in
    let some = c.count_in.ensures.count ∙ ap (λ ds. length (filter (is_after c.args.cut) ds)) c.as_slice-fresh.ensures.value in
    rw (← c.self.view_is) (omega (arith, two, split, sum, same, some))

pub returns-clause-looked : goal.returns-clause-looked
returns-clause-looked c =
    let steps = ap (λ (h : Held). h.steps) c.self.view_is in
    let waiting = ap (λ (h : Held). h.waiting) c.self.view_is in
    let same = ap length c.as_slice-fresh.ensures.value in
    omega (arith, steps, waiting, same, c.sum_upto-sum.ensures.looked, c.count_in.ensures.looked)
