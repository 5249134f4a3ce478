use Rattle.std.proofs.Common.{sym, ◌∙◌, arith}
use Rattle.node.specs.Node.{shared_part}
use Rattle.tree.proofs.Sides.{alike_forest, nothing_at}
use Rattle.tree.proofs.copy.keep_below.Goals as goal

pub keep_pair-requires-clause-left : goal.keep_pair-requires-clause-left
keep_pair-requires-clause-left g c =
    (nothing_at c.args.kids.now c.loop-at.kids c.loop-at.at _ (omega (arith, c.loop-at.invariant.eight, c.loop-at-test.true)) c.requires.empty (c.loop-at.invariant.rest c.loop-at.at (omega arith))).0

pub keep_pair-requires-clause-right : goal.keep_pair-requires-clause-right
keep_pair-requires-clause-right g c =
    (nothing_at c.args.kids.now c.loop-at.kids c.loop-at.at _ (omega (arith, c.loop-at.invariant.eight, c.loop-at-test.true)) c.requires.empty (c.loop-at.invariant.rest c.loop-at.at (omega arith))).1

pub returns : goal.returns
returns g c =
    alike_forest (shared_part g.C.Level.part) c.loop-at.kids c.args.from.now (c.loop-at.invariant.eight ∙ sym c.type_inv.from)
    (λ i n. c.loop-at.invariant.same i (omega (arith, n, c.loop-at.invariant.eight, c.loop-at-test.false)))
