use Rattle.std.proofs.Common.{◌++◌, length, filter, arith, ap, sym, ◌∙◌, length-append}
use Rattle.deadlist.specs.Held.{Held}
use Rattle.deadlist.specs.Entries.{is_after}
use Rattle.deadlist.specs.Segments.{entries_of}
use Rattle.std.proofs.lemmas.List.Elements.{filter-append}
use Rattle.deadlist.proofs.Births.{after_born_by, after_born_from}
use Rattle.deadlist.proofs.Filters.{filter_le}
use Rattle.deadlist.proofs.deadlist.Deadlist.count_after.Goals as goal

pub returns-then-self-cut-clause-count : goal.returns-then-self-cut-clause-count
returns-then-self-cut-clause-count c =
    let s = c.self.inside in
    let all = entries_of s.parts ++ s.fresh.items in
    rw (← c.self.view_is) (ap length (sym (after_born_by s.high c.args.cut all c.self.invariant.3 c.if-self-cut.true)))

pub returns-then-cut-self-clause-count : goal.returns-then-cut-self-clause-count
returns-then-cut-self-clause-count c =
    let s = c.self.inside in
    let all = entries_of s.parts ++ s.fresh.items in
    rw (← c.self.view_is) (c.self.invariant.1 ∙ ap length (sym (after_born_from s.low c.args.cut all c.self.invariant.2 c.if-cut-self.true)))

pub overflow_add-result : goal.overflow_add-result
overflow_add-result c =
    let es = entries_of c.self.inside.parts in
    let le = filter_le (is_after c.args.cut) es in
    let two = length-append es c.self.inside.fresh.items in
    let sum = c.sum_after-sum.ensures.sum in
    let same = ap length c.as_slice.ensures.value in
    let all = c.self.invariant.1 in
    omega (arith, le, two, sum, same, c.count_in.ensures.few, all)

pub returns-clause-count : goal.returns-clause-count
returns-clause-count c =
    let es = entries_of c.self.inside.parts in
    let fs = c.self.inside.fresh.items in
    let t = is_after c.args.cut in
    let two = ap length (filter-append t es fs) ∙ length-append (filter t es) (filter t fs) in
    let sum = c.sum_after-sum.ensures.sum in
    let some = c.count_in.ensures.count ∙ ap (λ ds. length (filter t ds)) c.as_slice.ensures.value in
    rw (← c.self.view_is) (omega (arith, two, sum, some))

pub returns-clause-looked : goal.returns-clause-looked
returns-clause-looked c =
    let steps = ap (λ (h : Held). h.steps) c.self.view_is in
    let waiting = ap (λ (h : Held). h.waiting) c.self.view_is in
    let same = ap length c.as_slice.ensures.value in
    omega (arith, steps, waiting, same, c.sum_after-sum.ensures.looked, c.count_in.ensures.looked)
