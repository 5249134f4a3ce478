use Rattle.std.proofs.Common.{arith, ap, ◌∙◌}
use Rattle.base.specs.Counting.{counted}
use Rattle.deadlist.specs.Held.{Held}
use Rattle.deadlist.specs.Segments.{reached_upto}
use Rattle.deadlist.proofs.Meters.{counted_most}
use Rattle.deadlist.proofs.deadlist.Deadlist.space_upto.Goals as goal

pub returns-clause-reached : goal.returns-clause-reached
returns-clause-reached c =
    let all = c.reached_upto.ensures ∙ ap (λ (h : Held). reached_upto c.args.cut.0 h.cuts) c.self.view_is in
    let is = c.reach.ensures.metered ∙ ap (counted c.args.meter.now) all in
    omega (arith, is, c.count_upto.ensures.never_lower)

pub returns-clause-looked : goal.returns-clause-looked
returns-clause-looked c =
    let all = c.reached_upto.ensures ∙ ap (λ (h : Held). reached_upto c.args.cut.0 h.cuts) c.self.view_is in
    let most = counted_most c.args.meter.now c.reached_upto.result in
    omega (arith, all, most, c.reach.ensures.metered, c.count_upto.ensures.looked)
