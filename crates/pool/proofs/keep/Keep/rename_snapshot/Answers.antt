use Rattle.std.proofs.Common.{sym, subst}
use Rattle.model.specs.declared.request.Request.TheVariants.{RenameSnapshot}
use Rattle.marks.specs.Naming.{snaps_renamed_in}
use Rattle.steps.specs.Edits.{datasets_of}
use Rattle.steps.specs.Handed.{IsAccounted}
use Rattle.steps.proofs.ledgers.Labels.{naming_accounted}
use Rattle.steps.proofs.requests.Naming as steps
use Rattle.pool.specs.Pools.{state_in}
use Rattle.pool.proofs.Performed.{exits, on_err, same_table, placed}
use Rattle.pool.proofs.keep.Keep.rename_snapshot.Goals as goal

pub returns-in_err-rename_snapshot-clause-performed : goal.returns-in_err-rename_snapshot-clause-performed
returns-in_err-rename_snapshot-clause-performed c =
    let s = state_in c.args.self.now c.args.world.now in
    exits s c.args.self.now.numbers.present _ (RenameSnapshot c.args.name.now c.args.to.now c.args.recursive) c.from_residual.result c.in_err-rename_snapshot.field-0.0 c.from_residual.ensures.1
    (steps.naming_refused s c.args.name.now c.args.to.now c.args.recursive c.in_err-rename_snapshot.field-0.0 c.in_err-rename_snapshot.ensures.only)

pub returns-in_err-rename_snapshot-clause-unchanged : goal.returns-in_err-rename_snapshot-clause-unchanged
returns-in_err-rename_snapshot-clause-unchanged c = on_err c.from_residual.result _ (same_table c.args.world.now c.rename_snapshot.new.table c.in_err-rename_snapshot.ensures.unchanged)

pub returns-clause-performed : goal.returns-clause-performed
returns-clause-performed c =
    let s = state_in c.args.self.now c.args.world.now in
    placed c.args.self.now c.args.world.now c.requires (snaps_renamed_in (datasets_of s) c.args.name.now c.args.to.now c.args.recursive) c.rename_snapshot.new.table c.in_ok-rename_snapshot.ensures.ok (steps.naming_can s c.args.name.now c.args.to.now c.args.recursive c.requires.sound.steady c.in_ok-rename_snapshot.ensures.can) c.args.world.now.ledger (subst (λ t. IsAccounted t c.args.world.now.ledger) (sym c.in_ok-rename_snapshot.ensures.ok) (naming_accounted s c.args.name.now c.args.to.now c.args.recursive c.requires.sound.steady c.in_ok-rename_snapshot.ensures.can c.args.world.now.ledger c.requires.now))
    (RenameSnapshot c.args.name.now c.args.to.now c.args.recursive) (steps.naming_done s c.args.name.now c.args.to.now c.args.recursive c.requires.sound.steady c.in_ok-rename_snapshot.ensures.can)
