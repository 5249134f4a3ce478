use Rattle.std.proofs.Common.{◌≤◌, ◌+◌, length, ◌∙◌, sym, arith}
use Rattle.script.proofs.Joined.{left_on}
use Rattle.script.proofs.words.goes_on_by.Goals as goal

pub loop-seen-preserved : goal.loop-seen-preserved
loop-seen-preserved c =
    let seen = c.loop-seen.invariant in
    let high : c.loop-seen.seen + c.args.step ≤ length c.args.line.now = omega (arith, c.loop-seen-test.true, seen.within) in
    record {
      behind = omega (arith, seen.behind);
      within = high;
      left = left_on c.args.line.now c.loop-seen.seen c.args.step c.requires.steps high (sym c.goes_on.ensures ∙ c.if-goes_on.true) ∙ seen.left;
    }
