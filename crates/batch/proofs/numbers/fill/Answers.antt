use Rattle.std.proofs.Common.{◌<◌, Some, None, drop, length, ap, ◌∙◌, arith}
use Rattle.batch.proofs.NumberLaws.{filled_step, filled_end, fresh_step, first_here, drop_one}
use Rattle.batch.proofs.numbers.fill.Goals as goal
use Rattle.batch.proofs.numbers.fill.Goals.{in-Some, in-None}

pub loop-claim-preserved : goal.loop-claim-preserved
loop-claim-preserved c =
    let cs = c.args.claims.now in
    let ts = c.args.taken.now in
    let i = c.loop-claim.claim-index in
    elim c.match-claim.branch [
      | in-Some w ↦
          let f = fresh_step cs i (record { key = record { level = 0; index = 0 }; kept = None }) (Some w.in-Some.dead) c.loop-claim-test.true w.in-Some.is in
          record {
            got = filled_step cs ts i c.loop-claim.next c.match-claim.next (record { key = record { level = 0; index = 0 }; kept = None }) (Some w.in-Some.dead) c.match-claim.block c.loop-claim.out.items c.push.new.self.items _ c.loop-claim-test.true w.in-Some.is w.block-is (ap (λ n. drop n ts) w.next-is) c.in_ok-push.ensures.items c.loop-claim.invariant.got;
            left = omega (arith, f, w.next-is, c.loop-claim.invariant.left);
          }
      | in-None w ↦
          let f = fresh_step cs i (record { key = record { level = 0; index = 0 }; kept = None }) None c.loop-claim-test.true w.in-None.is in
          let l : c.loop-claim.next < length ts = omega (arith, f, c.loop-claim.invariant.left) in
          record {
            got = filled_step cs ts i c.loop-claim.next c.match-claim.next (record { key = record { level = 0; index = 0 }; kept = None }) None c.match-claim.block c.loop-claim.out.items c.push.new.self.items _ c.loop-claim-test.true w.in-None.is (w.block-is ∙ first_here ts c.loop-claim.next _ l) (ap (λ n. drop n ts) w.next-is ∙ drop_one ts c.loop-claim.next) c.in_ok-push.ensures.items c.loop-claim.invariant.got;
            left = omega (arith, f, w.next-is, c.loop-claim.invariant.left);
          }
    ]

pub returns : goal.returns
returns c = filled_end c.args.claims.now (drop c.loop-claim.next c.args.taken.now) c.loop-claim.claim-index c.loop-claim.out.items _ c.loop-claim-test.false c.loop-claim.invariant.got
