use Rattle.std.proofs.Common.{◌≡◌, ◌+◌, ◌-◌, ◌/◌, length, arith, ap, sym, ◌∙◌}
use Rattle.std.proofs.lemmas.List.{length-take-le}
use Rattle.deadlist.proofs.Logs.{bits_half}
use Rattle.deadlist.proofs.Meters.{counted_most}
use Rattle.deadlist.proofs.Runs.{split_filters, upto_within, after_within}
use Rattle.deadlist.proofs.run.Run.count_upto.Goals as goal

pub loop-low-preserved-then-birth_at-cut : goal.loop-low-preserved-then-birth_at-cut
loop-low-preserved-then-birth_at-cut c =
    let low = c.loop-low.low in
    let high = c.loop-low.high in
    let at = low + (high - low) / 2 in
    let half = bits_half (high - (at + 1)) (high - low) (omega arith) (omega arith) in
    let one = counted_most c.loop-low.meter 1 in
    let was = c.loop-low.invariant in
    record {
      order = omega arith;
      within = was.within;
      pass = upto_within c.args.cut c.args.self.now at c.birth_at.result c.birth_at.ensures.rising (omega arith) c.birth_at.ensures.birth c.if-birth_at-cut.true;
      fail = was.fail;
      looked = omega (arith, half, one);
      never_lower = omega arith;
    }

pub loop-low-preserved : goal.loop-low-preserved
loop-low-preserved c =
    let low = c.loop-low.low in
    let high = c.loop-low.high in
    let at = low + (high - low) / 2 in
    let half = bits_half (at - low) (high - low) (omega arith) (omega arith) in
    let one = counted_most c.loop-low.meter 1 in
    let was = c.loop-low.invariant in
    record {
      order = omega arith;
      within = omega arith;
      pass = was.pass;
      fail = after_within c.args.cut c.args.self.now at c.birth_at.result c.birth_at.ensures.rising c.birth_at.ensures.birth (omega arith);
      looked = omega (arith, half, one);
      never_lower = omega arith;
    }

pub returns-clause-count : goal.returns-clause-count
returns-clause-count c =
    let xs = c.args.self.now in
    let low = c.loop-low.low in
    let was = c.loop-low.invariant in
    let end : c.loop-low.high ≡ low = omega arith in
    let parts = split_filters c.args.cut xs low (omega arith) was.pass (rw end at was.fail) in
    sym (length-take-le low xs (omega arith)) ∙ ap length parts.0
