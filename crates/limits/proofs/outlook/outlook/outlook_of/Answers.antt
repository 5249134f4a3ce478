use Rattle.std.proofs.Common.{arith}
use Rattle.limits.proofs.outlook.outlook.outlook_of.Goals as goal

pub returns-clause-ok : goal.returns-clause-ok
returns-clause-ok c = λ s ch k.
    let t = c.in_ok-tally.ensures.ok s ch k in
    let h = t.here in
    record {
      here = omega (arith, h, c.saturating_sub.ensures);
      referenced = t.referenced;
      waiting = t.waiting;
    }
