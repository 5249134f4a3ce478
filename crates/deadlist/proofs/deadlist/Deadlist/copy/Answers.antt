use Rattle.std.proofs.Common.{ap, ◌∙◌}
use Rattle.base.specs.Counting.{counted}
use Rattle.deadlist.specs.Held.{Held}
use Rattle.deadlist.proofs.deadlist.Deadlist.copy.Goals as goal

pub invariant_of-result : goal.invariant_of-result
invariant_of-result c =
    rw (c.in_ok-parts.ensures.closed, c.in_ok-parts.ensures.last, c.in_ok-fresh.ensures.items, c.as_slice.ensures.value) c.self.invariant

pub returns-clause-entries : goal.returns-clause-entries
returns-clause-entries c =
    rw (c.in_ok-parts.ensures.closed, c.in_ok-parts.ensures.last, c.in_ok-fresh.ensures.items, c.as_slice.ensures.value) (ap (λ (h : Held). h.entries) c.self.view_is)

pub returns-clause-waiting : goal.returns-clause-waiting
returns-clause-waiting c =
    rw (c.in_ok-fresh.ensures.items, c.as_slice.ensures.value) (ap (λ (h : Held). h.waiting) c.self.view_is)

pub returns-clause-steps : goal.returns-clause-steps
returns-clause-steps c =
    rw (c.in_ok-parts.ensures.closed, c.in_ok-parts.ensures.last) (ap (λ (h : Held). h.steps) c.self.view_is)

pub returns-in_err-parts-clause-meter : goal.returns-in_err-parts-clause-meter
returns-in_err-parts-clause-meter c = c.reach.ensures.metered ∙ ap (counted c.args.meter.now) c.segments.ensures.count

pub returns-in_err-fresh-clause-meter : goal.returns-in_err-fresh-clause-meter
returns-in_err-fresh-clause-meter c = c.reach.ensures.metered ∙ ap (counted c.args.meter.now) c.segments.ensures.count

pub returns-clause-meter : goal.returns-clause-meter
returns-clause-meter c = c.reach.ensures.metered ∙ ap (counted c.args.meter.now) c.segments.ensures.count
