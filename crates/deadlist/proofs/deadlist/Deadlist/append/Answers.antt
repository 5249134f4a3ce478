use Rattle.std.proofs.Common.{◌≡◌, ◌+◌, length, arith, ap, ◌∙◌}
use Rattle.base.specs.Counting.{counted}
use Rattle.deadlist.proofs.Meters.{counted_more}
use Rattle.deadlist.proofs.deadlist.Deadlist.append.Goals as goal

pub returns-in-Ok-clause-meter : goal.returns-in-Ok-clause-meter
returns-in-Ok-clause-meter c =
    let n : c.segments.result + c.segments-2.result ≡ (length c.args.self.now.cuts + 1) + (length c.args.other.cuts + 1) = omega (arith, c.segments.ensures.count, c.segments-2.ensures.count) in
    c.reach-2.ensures.metered ∙ ap (λ m. counted m c.segments-2.result) c.reach.ensures.metered ∙ counted_more c.args.meter.now c.segments.result c.segments-2.result ∙ ap (counted c.args.meter.now) n

pub returns-in-Err-clause-meter : goal.returns-in-Err-clause-meter
returns-in-Err-clause-meter c =
    let n : c.segments.result + c.segments-2.result ≡ (length c.args.self.now.cuts + 1) + (length c.args.other.cuts + 1) = omega (arith, c.segments.ensures.count, c.segments-2.ensures.count) in
    c.reach-2.ensures.metered ∙ ap (λ m. counted m c.segments-2.result) c.reach.ensures.metered ∙ counted_more c.args.meter.now c.segments.result c.segments-2.result ∙ ap (counted c.args.meter.now) n

pub returns-in-Ok-clause-entries : goal.returns-in-Ok-clause-entries
returns-in-Ok-clause-entries c = c.in-Ok.ensures.entries

pub returns-in-Ok-clause-cuts : goal.returns-in-Ok-clause-cuts
returns-in-Ok-clause-cuts c = c.in-Ok.ensures.cuts

pub returns-in-Err-clause-unchanged : goal.returns-in-Err-clause-unchanged
returns-in-Err-clause-unchanged c = c.in-Err.ensures.unchanged

pub returns-in-Ok-clause-waiting : goal.returns-in-Ok-clause-waiting
returns-in-Ok-clause-waiting c = c.in-Ok.ensures.waiting

pub returns-in-Ok-clause-steps : goal.returns-in-Ok-clause-steps
returns-in-Ok-clause-steps c = c.in-Ok.ensures.steps
