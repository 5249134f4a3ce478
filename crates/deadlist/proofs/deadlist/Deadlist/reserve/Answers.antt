use Rattle.std.proofs.Common.{length, arith, inr, ap, ◌∙◌}
use Rattle.base.specs.Counting.{counted}
use Rattle.deadlist.specs.Held.{Held}
use Rattle.deadlist.proofs.deadlist.Deadlist.reserve.Goals as goal

pub returns-then-len-max-clause-room : goal.returns-then-len-max-clause-room
returns-then-len-max-clause-room c = omega (arith, c.in_ok-reserve.ensures.ok)

pub returns-in_err-sort-clause-meter : goal.returns-in_err-sort-clause-meter
returns-in_err-sort-clause-meter c = inr (c.reach.ensures.metered ∙ ap (counted c.args.meter.now) c.segments-segments.ensures.count)

pub returns-clause-meter : goal.returns-clause-meter
returns-clause-meter c = inr (c.reach.ensures.metered ∙ ap (counted c.args.meter.now) c.segments-segments.ensures.count)

pub returns-then-len-max-clause-waiting : goal.returns-then-len-max-clause-waiting
returns-then-len-max-clause-waiting c =
    let s = c.self.inside in
    let items = ap length c.in_ok-reserve.ensures.items in
    omega (arith, items, s.fresh.ok.0, c.len.ensures, c.if-len-max.true, c.max.ensures, c.segments-segments.ensures.count)

pub returns-then-len-max-clause-steps : goal.returns-then-len-max-clause-steps
returns-then-len-max-clause-steps c =
    let was = ap (λ (h : Held). h.steps) c.self.view_is in
    omega (arith, was)
