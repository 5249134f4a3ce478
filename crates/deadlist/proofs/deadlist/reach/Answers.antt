use Rattle.std.proofs.Common.{arith, ap, ◌∙◌}
use Rattle.base.specs.Counting.{counted, most}
use Rattle.deadlist.proofs.Meters.{counted_none, counted_more}
use Rattle.deadlist.proofs.deadlist.reach.Goals as goal

pub loop-i-init : goal.loop-i-init
loop-i-init c =
    let e = c.count-before.ensures in
    let small = c.count-before.type_inv in
    counted_none c.args.meter.now (omega (arith, e, small))

pub loop-i-preserved : goal.loop-i-preserved
loop-i-preserved c = c.add_one.ensures.metered ∙ ap (λ m. counted m 1) c.loop-i.invariant ∙ counted_more c.args.meter.now c.loop-i._i 1

pub returns-clause-never_lower : goal.returns-clause-never_lower
unfolding counted most
returns-clause-never_lower c = omega (arith, c.loop-i.invariant, c.count-before.ensures, c.count-before.type_inv)
