use Rattle.std.proofs.Common.{◌≡◌, ◌<◌, length, filter, arith, take, ap, ◌∙◌, length-append}
use Rattle.std.proofs.lemmas.List.{take_all}
use Rattle.std.proofs.lemmas.List.Elements.{filter-append}
use Rattle.deadlist.specs.Entries.{is_upto, is_after, run_items, run_entries}
use Rattle.deadlist.specs.Entries.{run_steps}
use Rattle.deadlist.specs.Piled.{Piled}
use Rattle.std.proofs.lemmas.List.Sums.{sum_by-take-le}
use Rattle.deadlist.proofs.Filters.{filter_part_le, filter_whole_le, split_length}
use Rattle.deadlist.proofs.pile.Pile.counted_upto.Goals as goal

pub overflow_add-count : goal.overflow_add-count
overflow_add-count c =
    let s = c.self.inside in
    let lt : c.loop-run.run-index < length s.runs.items = grind arith in
    let h = filter_part_le (is_upto c.args.cut) run_items s.runs.items c.loop-run.run-index c.run-item.result s.tail.items lt in
    grind arith

pub overflow_add-result : goal.overflow_add-result
overflow_add-result c =
    let s = c.self.inside in
    let h = filter_whole_le (is_upto c.args.cut) run_items s.runs.items s.tail.items in
    let all : take c.loop-run.run-index s.runs.items ≡ s.runs.items = take_all _ _ (grind arith) in
    let was = c.loop-run.invariant.count ∙ ap (λ rs. length (filter (is_upto c.args.cut) (run_entries rs))) all in
    let split = split_length c.args.cut s.tail.items in
    let same = ap length c.as_slice-tail.ensures.value in
    let some = c.count_in.ensures.count ∙ ap (λ ds. length (filter (is_after c.args.cut) ds)) c.as_slice-tail.ensures.value in
    grind arith

pub returns-clause-count : goal.returns-clause-count
returns-clause-count c =
    let s = c.self.inside in
    let t = is_upto c.args.cut in
    let es = run_entries s.runs.items in
    let all : take c.loop-run.run-index s.runs.items ≡ s.runs.items = take_all _ _ (grind arith) in
    let was = c.loop-run.invariant.count ∙ ap (λ rs. length (filter t (run_entries rs))) all in
    let split = split_length c.args.cut s.tail.items in
    let same = ap length c.as_slice-tail.ensures.value in
    let some = c.count_in.ensures.count ∙ ap (λ ds. length (filter (is_after c.args.cut) ds)) c.as_slice-tail.ensures.value in
    let two = ap length (filter-append t es s.tail.items) ∙ length-append (filter t es) (filter t s.tail.items) in
    rw (← c.self.view_is) (omega (arith, was, split, same, some, two))

pub returns-clause-looked : goal.returns-clause-looked
returns-clause-looked c =
    let s = c.self.inside in
    let is = ap (λ (p : Piled). p.steps) c.self.view_is in
    let part = sum_by-take-le run_steps s.runs.items c.loop-run.run-index in
    let same = ap length c.as_slice-tail.ensures.value in
    let was = c.loop-run.invariant.looked in
    omega (arith, is, part, same, was, c.count_in.ensures.looked)
