use Rattle.std.proofs.Common.{eqb-true, sym}
use Rattle.std.proofs.lemmas.Result.{on_ok_weaker}
use Rattle.script.proofs.PartLemmas.{none_written, more_written, all_written}
use Rattle.script.proofs.text.write_digits.Goals as goal

pub loop-left-init : goal.loop-left-init
loop-left-init g c = none_written _ c.args.bytes.now

pub loop-left-preserved : goal.loop-left-preserved
loop-left-preserved g c =
    more_written _ _ _ c.args.bytes.now c.loop-left.left.now _ _ _ c.loop-left.invariant c.split_at.ensures.front c.split_at.ensures.back
    c.in_ok-write_part.ensures

pub returns : goal.returns
returns g c =
    let none = eqb-true _ 0 (sym c.loop-left-test.ensures) in
    on_ok_weaker c.put.result (λ last. all_written _ _ _ c.args.bytes.now c.loop-left.left.now c.loop-left.invariant none last) c.put.ensures.bytes
