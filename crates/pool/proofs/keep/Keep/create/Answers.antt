use Rattle.std.proofs.Common.{sym, subst, inl, inr, ◌∙◌}
use Rattle.model.specs.World.{empty_file_system}
use Rattle.model.specs.declared.request.Request.TheVariants.{Create}
use Rattle.world.specs.Tables.{with_system}
use Rattle.steps.specs.Edits.{datasets_of}
use Rattle.steps.specs.Limiting.{CanRecount}
use Rattle.steps.proofs.ledgers.More.{create_more}
use Rattle.steps.proofs.requests.Creating as creates
use Rattle.pool.specs.Pools.{state_in}
use Rattle.pool.proofs.Performed.{exits, on_err, same_table, bare, few, placed}
use Rattle.pool.proofs.keep.Keep.create.Goals as goal

pub returns-in-Some-clause-performed : goal.returns-in-Some-clause-performed
returns-in-Some-clause-performed c =
    creates.create_refused (state_in c.args.self.now c.args.world.now) c.args.name.now c.in-Some.refusal (inl (sym c.create_refusal.ensures ∙ c.in-Some.is))

pub returns-in_err-create-clause-performed : goal.returns-in_err-create-clause-performed
returns-in_err-create-clause-performed c =
    let s = state_in c.args.self.now c.args.world.now in
    exits s c.args.self.now.numbers.present _ (Create c.args.name.now) c.from_residual.result c.in_err-create.field-0.0 c.from_residual.ensures.1
    (creates.create_refused s c.args.name.now c.in_err-create.field-0.0 (inr c.in_err-create.ensures.only))

pub returns-in_err-create-clause-unchanged : goal.returns-in_err-create-clause-unchanged
returns-in_err-create-clause-unchanged c = on_err c.from_residual.result _ (same_table c.args.world.now c.create.new.self c.in_err-create.ensures.err)

pub recount-requires-clause-unlimited : goal.recount-requires-clause-unlimited
recount-requires-clause-unlimited c =
    let s = state_in c.args.self.now c.args.world.now in
    bare c.args.self.now c.args.world.now c.requires (with_system (datasets_of s) c.args.name.now empty_file_system) c.create.new.self c.in_ok-create.ensures.ok
    (creates.create_unlimited s c.args.name.now)

pub recount-requires-clause-few : goal.recount-requires-clause-few
recount-requires-clause-few c =
    let s = state_in c.args.self.now c.args.world.now in
    few c.args.self.now c.args.world.now c.requires (with_system (datasets_of s) c.args.name.now empty_file_system) c.create.new.self c.in_ok-create.ensures.ok
    (creates.create_can s c.requires.sound.steady c.args.name.now (sym c.create_refusal.ensures ∙ c.in_default.is))

pub recount-requires-clause-before : goal.recount-requires-clause-before
recount-requires-clause-before c =
    let s = state_in c.args.self.now c.args.world.now in (
      datasets_of s,
      subst (λ t. CanRecount (datasets_of s) t c.args.name.now c.args.world.now.ledger) (sym c.in_ok-create.ensures.ok)
          (create_more s c.requires.sound.steady c.args.name.now (sym c.create_refusal.ensures ∙ c.in_default.is) c.args.world.now.ledger c.requires.now),
    )

pub returns-clause-performed : goal.returns-clause-performed
returns-clause-performed c =
    let s = state_in c.args.self.now c.args.world.now in
    let none = sym c.create_refusal.ensures ∙ c.in_default.is in
    placed c.args.self.now c.args.world.now c.requires (with_system (datasets_of s) c.args.name.now empty_file_system) c.create.new.self c.in_ok-create.ensures.ok
    (creates.create_can s c.requires.sound.steady c.args.name.now none) c.recount.new.ledger c.recount.ensures (Create c.args.name.now)
    (creates.create_done s c.args.name.now c.requires.sound.steady none)
