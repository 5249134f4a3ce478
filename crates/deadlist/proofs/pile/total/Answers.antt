use Rattle.std.proofs.Common.{◌<◌, length, arith, ap}
use Rattle.std.proofs.lemmas.List.Folds.{length-flat_map-take}
use Rattle.deadlist.specs.Entries.{run_items}
use Rattle.deadlist.proofs.pile.total.Goals as goal

pub overflow_add-total : goal.overflow_add-total
overflow_add-total c =
    let xs = c.args.runs.now in
    let i = c.loop-run.run-index in
    let lt : i < length xs = omega arith in
    let few = length-flat_map-take run_items xs i c.run-item.result lt in
    let same = ap length c.run-item.is in
    omega (arith, few, same, c.loop-run.invariant, c.len.ensures, c.requires)
