use Rattle.std.proofs.Common.{ap, ◌∙◌, arith, map}
use Rattle.std.specs.Arc.{arc_value}
use Rattle.lookups.specs.Used.{own_in}
use Rattle.lookups.proofs.Families.{total_item, within_less}
use Rattle.lookups.proofs.space.family.own_together.Goals as goal

pub own-sum-requires : goal.own-sum-requires
own-sum-requires c =
    let e = ap own_in c.deref-then-is_in_family.ensures in
    let l = total_item arc_value own_in c.args.file_systems.now c.loop-file_system.file_system-index c.file_system-item.result c.loop-file_system-test.true c.file_system-item.is in
    omega (arith, e, l, c.requires)

pub overflow_add-sum : goal.overflow_add-sum
overflow_add-sum c =
    let e = c.own-sum.ensures ∙ ap own_in c.deref-then-is_in_family.ensures in
    let l = total_item arc_value own_in c.args.file_systems.now c.loop-file_system.file_system-index c.file_system-item.result c.loop-file_system-test.true c.file_system-item.is in
    let w = within_less c.args.name.now (map arc_value c.args.file_systems.now) in
    let i = c.loop-file_system.invariant in
    omega (arith, e, l, w, i, c.requires)
