use Rattle.std.proofs.Common.{◌∙◌, arith}
use Rattle.std.specs.FinMap.{keys}
use Rattle.limits.proofs.Order.{keys_count}
use Rattle.limits.proofs.Ways.{step_low, step_fits, step_next}
use Rattle.limits.proofs.change.next_change.Goals as goal

pub offset_bounds-lines-parent : goal.offset_bounds-lines-parent
offset_bounds-lines-parent c =
    let w = c.in_ok-parent.ensures.some.within in
    let l = c.requires.long in
    let k = keys_count c.args.table.now.file_systems in
    omega (arith, w, l, k)

pub bounds-lines-parent : goal.bounds-lines-parent
bounds-lines-parent c =
    let w = c.in_ok-parent.ensures.some.within in
    let l = c.requires.long in
    let k = keys_count c.args.table.now.file_systems in
    omega (arith, w, l, k)

pub bounds-lines-parent-in_ok-parent : goal.bounds-lines-parent-in_ok-parent
bounds-lines-parent-in_ok-parent c =
    let w = c.in_ok-parent.ensures.some.within in
    let l = c.requires.long in
    let k = keys_count c.args.table.now.file_systems in
    omega (arith, w, l, k)

pub overflow_sub-result : goal.overflow_sub-result
overflow_sub-result c =
    step_low (keys c.args.table.now.file_systems) c.args.lines.now (c.requires.long ∙ keys_count c.args.table.now.file_systems) c.args.place c.in_ok-parent.parent
    c.index-lines-place.result c.index-lines-parent.result c.requires.within c.index-lines-place.is c.in_ok-parent.ensures.some
    c.requires.counted c.charge-before.result c.charge-before.ensures.value

pub overflow_add-result : goal.overflow_add-result
overflow_add-result c =
    let f = step_fits (keys c.args.table.now.file_systems) c.args.lines.now (c.requires.long ∙ keys_count c.args.table.now.file_systems) c.args.place c.in_ok-parent.parent
    c.index-lines-place.result c.index-lines-parent.result c.requires.within c.index-lines-place.is c.in_ok-parent.ensures.some
    c.requires.counted c.charge-before.result c.charge-before.ensures.value c.requires.little c.args.after c.requires.small in
    omega (arith, f)

pub returns-clause-some : goal.returns-clause-some
returns-clause-some c =
    step_next (keys c.args.table.now.file_systems) c.args.lines.now (c.requires.long ∙ keys_count c.args.table.now.file_systems) c.args.place c.in_ok-parent.parent
    c.index-lines-place.result c.index-lines-parent.result c.requires.within c.index-lines-place.is c.in_ok-parent.ensures.some
    c.requires.counted c.charge-before.result c.charge-before.ensures.value c.args.after
