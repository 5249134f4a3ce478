use Rattle.std.proofs.Common.{sym, subst}
use Rattle.model.specs.declared.request.Request.TheVariants.{Hold}
use Rattle.marks.specs.Requests.{held_in}
use Rattle.steps.specs.Edits.{datasets_of}
use Rattle.steps.specs.Handed.{IsAccounted}
use Rattle.steps.proofs.ledgers.Labels.{hold_accounted}
use Rattle.steps.proofs.requests.Holding as steps
use Rattle.pool.specs.Pools.{state_in}
use Rattle.pool.proofs.Performed.{exits, on_err, same_table, placed}
use Rattle.pool.proofs.keep.Keep.hold.Goals as goal

pub returns-in_err-hold-clause-performed : goal.returns-in_err-hold-clause-performed
returns-in_err-hold-clause-performed c =
    let s = state_in c.args.self.now c.args.world.now in
    exits s c.args.self.now.numbers.present _ (Hold c.args.tag.now c.args.target.now) c.from_residual.result c.in_err-hold.field-0.0 c.from_residual.ensures.1
    (steps.hold_refused s c.args.tag.now c.args.target.now c.in_err-hold.field-0.0 c.in_err-hold.ensures.only)

pub returns-in_err-hold-clause-unchanged : goal.returns-in_err-hold-clause-unchanged
returns-in_err-hold-clause-unchanged c = on_err c.from_residual.result _ (same_table c.args.world.now c.hold.new.table c.in_err-hold.ensures.unchanged)

pub returns-clause-performed : goal.returns-clause-performed
returns-clause-performed c =
    let s = state_in c.args.self.now c.args.world.now in
    placed c.args.self.now c.args.world.now c.requires (held_in (datasets_of s) c.args.tag.now c.args.target.now) c.hold.new.table c.in_ok-hold.ensures.ok (steps.hold_can s c.args.tag.now c.args.target.now c.requires.sound.steady c.in_ok-hold.ensures.can) c.args.world.now.ledger (subst (λ t. IsAccounted t c.args.world.now.ledger) (sym c.in_ok-hold.ensures.ok) (hold_accounted s c.args.tag.now c.args.target.now c.requires.sound.steady c.in_ok-hold.ensures.can c.args.world.now.ledger c.requires.now))
    (Hold c.args.tag.now c.args.target.now) (steps.hold_done s c.args.tag.now c.args.target.now c.requires.sound.steady c.in_ok-hold.ensures.can)
