use Rattle.std.proofs.Common.{Ok, refl, sym, subst, ◌∙◌}
use Rattle.std.specs.FinSet as set
use Rattle.model.specs.declared.request.Request.TheVariants.{Promote}
use Rattle.snap.specs.Requests.{promoted}
use Rattle.steps.specs.Edits.{datasets_of}
use Rattle.steps.specs.Limiting.{IsOver}
use Rattle.steps.proofs.requests.Promoting as steps
use Rattle.pool.specs.Effects.{IsPerformed}
use Rattle.pool.specs.Pools.{state_in}
use Rattle.pool.specs.declared.effect.Effect.TheVariants.{Nothing}
use Rattle.pool.proofs.Performed.{exits, on_err, same_table, bare, unlimited, placed}
use Rattle.pool.proofs.Fitting.{promote_few, promote_over, promote_can, promote_done}
use Rattle.pool.proofs.keep.Keep.promote.Goals as goal

pub returns-in_err-promote-clause-performed : goal.returns-in_err-promote-clause-performed
returns-in_err-promote-clause-performed c =
    let s = state_in c.args.self.now c.args.world.now in
    exits s c.args.self.now.numbers.present _ (Promote c.args.name.now) c.from_residual.result c.in_err-promote.field-0.0 c.from_residual.ensures.1
    (steps.promote_refused s c.args.name.now c.in_err-promote.field-0.0 c.in_err-promote.ensures.only)

pub returns-in_err-promote-clause-unchanged : goal.returns-in_err-promote-clause-unchanged
returns-in_err-promote-clause-unchanged c = on_err c.from_residual.result _ (λ none. same_table c.args.world.now c.promote.new.table c.in_err-promote.ensures.unchanged)

pub over-requires-clause-unlimited : goal.over-requires-clause-unlimited
over-requires-clause-unlimited c =
    let s = state_in c.args.self.now c.args.world.now in
    bare c.args.self.now c.args.world.now c.requires (promoted (datasets_of s) c.args.name.now) c.promote.new.table c.in_ok-promote.ensures.ok (steps.promote_unlimited s c.args.name.now)

pub over-requires-clause-few : goal.over-requires-clause-few
over-requires-clause-few c = promote_few (state_in c.args.self.now c.args.world.now) c.args.self.now.numbers.present c.requires.sound c.args.name.now c.in_ok-promote.ensures.can c.promote.new.table c.in_ok-promote.ensures.ok

pub returns-in-Some-clause-performed : goal.returns-in-Some-clause-performed
returns-in-Some-clause-performed c =
    let s = state_in c.args.self.now c.args.world.now in
    promote_over s c.args.self.now.numbers.present c.requires.sound c.args.name.now c.in_ok-promote.ensures.can c.promote.new.table c.in_ok-promote.ensures.ok c.in-Some.refusal
    (subst (IsOver s c.promote.new.table (set.len c.args.world.now.freeing)) c.in-Some.is (c.over.ensures.over s c.requires.sound refl (unlimited c.args.self.now c.args.world.now c.requires)))

pub returns-in-Some-clause-unchanged : goal.returns-in-Some-clause-unchanged
returns-in-Some-clause-unchanged c none = let e = sym c.in-Some.is ∙ c.over.ensures.none none in absurd cc

pub returns-in-None-clause-performed : goal.returns-in-None-clause-performed
returns-in-None-clause-performed c =
    let s = state_in c.args.self.now c.args.world.now in
    let fits = subst (IsOver s c.promote.new.table (set.len c.args.world.now.freeing)) c.in-None.is (c.over.ensures.over s c.requires.sound refl (unlimited c.args.self.now c.args.world.now c.requires)) in
    subst (λ w. IsPerformed s c.args.self.now.numbers.present w (Promote c.args.name.now) (Ok Nothing)) (sym c.over.ensures.same)
    (placed c.args.self.now c.args.world.now c.requires c.promote.new.table c.promote.new.table refl
    (promote_can s c.args.self.now.numbers.present c.requires.sound c.args.name.now c.in_ok-promote.ensures.can c.promote.new.table c.in_ok-promote.ensures.ok fits) c.over.new.world.ledger c.over.ensures.ledger
    (Promote c.args.name.now) (promote_done s c.args.self.now.numbers.present c.requires.sound c.args.name.now c.in_ok-promote.ensures.can c.promote.new.table c.in_ok-promote.ensures.ok fits))
