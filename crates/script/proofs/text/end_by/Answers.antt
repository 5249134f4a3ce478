use Rattle.std.proofs.Common.{◌≡◌, ◌-◌, ◌≤◌, length, sym, ◌∙◌, arith}
use Rattle.script.proofs.Zeros.{more_zeros}
use Rattle.script.proofs.text.end_by.Goals as goal

pub loop-end-init : goal.loop-end-init
loop-end-init c = record { within = c.requires.within; zeros = c.requires.zeros }

pub loop-end-preserved : goal.loop-end-preserved
loop-end-preserved c =
    let at = c.loop-end.end - c.args.step in
    let long : length c.args.bytes.now ≡ 512 = omega arith in
    let low : at ≤ c.loop-end.end = omega arith in
    let high = c.loop-end.invariant.within in
    record {
      within = omega (arith, low, high);
      zeros = more_zeros c.args.bytes.now at c.loop-end.end long low high (sym c.are_zeros.ensures ∙ c.if-are_zeros.true) c.loop-end.invariant.zeros;
    }
