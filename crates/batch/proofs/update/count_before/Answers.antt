use Rattle.std.proofs.Common.{◌-◌, ◌<◌, ◌≤◌, length, subst, arith}
use Rattle.std.proofs.lemmas.Option.{slice_get_within}
use Rattle.batch.proofs.SaidLaws.{ends_by, past_here}
use Rattle.batch.proofs.update.count_before.Goals as goal

pub loop-back-init : goal.loop-back-init
loop-back-init c = λ i u h e. let w = slice_get_within c.args.updates.now i u e in absurd (omega arith)

pub returns-then-past-leaf-clause-before : goal.returns-then-past-leaf-clause-before
returns-then-past-leaf-clause-before c = ends_by c.args.updates.now (length c.args.updates.now - c.loop-back.back) c.args.leaf _ c.requires (omega arith) (omega arith) (subst (λ n. n ≤ c.args.leaf) c.past.ensures c.if-past-leaf.true)

pub returns-then-past-leaf-clause-after : goal.returns-then-past-leaf-clause-after
returns-then-past-leaf-clause-after c = λ i u h e. c.loop-back.invariant i u h e

pub loop-back-preserved : goal.loop-back-preserved
loop-back-preserved c = λ i u h e. past_here c.args.updates.now (length c.args.updates.now - c.loop-back.back) c.args.leaf _ (omega arith) (subst (λ n. c.args.leaf < n) c.past.ensures c.if-past-leaf.false) c.loop-back.invariant i u (omega arith) e

pub returns-clause-after : goal.returns-clause-after
returns-clause-after c = λ i u h e. c.loop-back.invariant i u (omega arith) e
