use Rattle.std.proofs.Common.{sym, subst}
use Rattle.model.specs.declared.request.Request.TheVariants.{Clone}
use Rattle.snap.specs.Requests.{cloned}
use Rattle.steps.specs.Edits.{datasets_of}
use Rattle.steps.specs.Limiting.{CanRecount}
use Rattle.steps.proofs.ledgers.More.{clone_more}
use Rattle.steps.proofs.requests.Cloning as steps
use Rattle.pool.specs.Pools.{state_in}
use Rattle.pool.proofs.Performed.{exits, on_err, same_table, bare, few, placed}
use Rattle.pool.proofs.keep.Keep.clone_snapshot.Goals as goal

pub returns-in_err-clone_snapshot-clause-performed : goal.returns-in_err-clone_snapshot-clause-performed
returns-in_err-clone_snapshot-clause-performed c =
    let s = state_in c.args.self.now c.args.world.now in
    exits s c.args.self.now.numbers.present _ (Clone c.args.target.now c.args.name.now) c.from_residual.result c.in_err-clone_snapshot.field-0.0 c.from_residual.ensures.1
    (steps.clone_refused s c.args.target.now c.args.name.now c.in_err-clone_snapshot.field-0.0 c.in_err-clone_snapshot.ensures.only)

pub returns-in_err-clone_snapshot-clause-unchanged : goal.returns-in_err-clone_snapshot-clause-unchanged
returns-in_err-clone_snapshot-clause-unchanged c = on_err c.from_residual.result _ (same_table c.args.world.now c.clone_snapshot.new.table c.in_err-clone_snapshot.ensures.unchanged)

pub recount-requires-clause-unlimited : goal.recount-requires-clause-unlimited
recount-requires-clause-unlimited c =
    let s = state_in c.args.self.now c.args.world.now in
    bare c.args.self.now c.args.world.now c.requires (cloned (datasets_of s) c.args.target.now c.args.name.now) c.clone_snapshot.new.table c.in_ok-clone_snapshot.ensures.ok (steps.clone_unlimited s c.requires.sound.steady c.args.target.now c.args.name.now c.in_ok-clone_snapshot.ensures.can)

pub recount-requires-clause-few : goal.recount-requires-clause-few
recount-requires-clause-few c =
    let s = state_in c.args.self.now c.args.world.now in
    few c.args.self.now c.args.world.now c.requires (cloned (datasets_of s) c.args.target.now c.args.name.now) c.clone_snapshot.new.table c.in_ok-clone_snapshot.ensures.ok (steps.clone_can s c.requires.sound.steady c.args.target.now c.args.name.now c.in_ok-clone_snapshot.ensures.can)

pub recount-requires-clause-before : goal.recount-requires-clause-before
recount-requires-clause-before c =
    let s = state_in c.args.self.now c.args.world.now in (
      datasets_of s,
      subst (λ t. CanRecount (datasets_of s) t c.args.name.now c.args.world.now.ledger) (sym c.in_ok-clone_snapshot.ensures.ok)
          (clone_more s c.requires.sound.steady c.args.target.now c.args.name.now c.in_ok-clone_snapshot.ensures.can c.args.world.now.ledger c.requires.now),
    )

pub returns-clause-performed : goal.returns-clause-performed
returns-clause-performed c =
    let s = state_in c.args.self.now c.args.world.now in
    placed c.args.self.now c.args.world.now c.requires (cloned (datasets_of s) c.args.target.now c.args.name.now) c.clone_snapshot.new.table c.in_ok-clone_snapshot.ensures.ok (steps.clone_can s c.requires.sound.steady c.args.target.now c.args.name.now c.in_ok-clone_snapshot.ensures.can) c.recount.new.ledger c.recount.ensures
    (Clone c.args.target.now c.args.name.now) (steps.clone_done s c.args.target.now c.args.name.now c.requires.sound.steady c.in_ok-clone_snapshot.ensures.can)
