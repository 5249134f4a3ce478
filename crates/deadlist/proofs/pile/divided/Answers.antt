use Rattle.std.proofs.Common.{◌<◌, ◌++◌, length, filter, take, arith, ap, sym, ◌∙◌}
use Rattle.std.proofs.lemmas.List.Elements.{filter-append}
use Rattle.std.proofs.lemmas.List.Sums.{sum_by_more}
use Rattle.deadlist.specs.Entries.{is_after, is_upto, run_items, run_entries, run_steps}
use Rattle.deadlist.proofs.Filters.{filter_le}
use Rattle.deadlist.proofs.Logs.{bits_le}
use Rattle.deadlist.proofs.Merges.{flat_map_take}
use Rattle.deadlist.proofs.pile.divided.Goals as goal

pub loop-run-preserved : goal.loop-run-preserved
loop-run-preserved c =
    let xs = c.args.runs.now in
    let i = c.loop-run.run-index in
    let x = c.run-item.result in
    let lt : i < length xs = omega arith in
    let upto = is_upto c.args.cut in
    let after = is_after c.args.cut in
    let next = flat_map_take run_items xs i x lt c.run-item.is in
    let sum = sum_by_more run_steps xs i x lt in
    let own = ap run_steps c.run-item.is in
    let was = c.loop-run.invariant in
    let first = c.in_ok-first.ensures.0 in
    let rest = c.in_ok-first.ensures.1 in
    let low_few = bits_le (length c.in_ok-first.first) (length x) (let l = ap length first in omega (arith, l, filter_le upto x)) in
    let high_few = bits_le (length c.in_ok-first.rest) (length x) (let l = ap length rest in omega (arith, l, filter_le after x)) in
    record {
      low = c.in_ok-push_some.ensures.ok ∙ (λ k. was.low k ++ first k) ∙ sym (filter-append upto (run_entries (take i xs)) x) ∙ ap (filter upto) (sym next);
      high = c.in_ok-push_some-2.ensures.ok ∙ (λ k. was.high k ++ rest k) ∙ sym (filter-append after (run_entries (take i xs)) x) ∙ ap (filter after) (sym next);
      low_steps = omega (arith, sum, own, low_few, was.low_steps, c.in_ok-push_some.ensures.steps);
      high_steps = omega (arith, sum, own, high_few, was.high_steps, c.in_ok-push_some-2.ensures.steps);
    }
