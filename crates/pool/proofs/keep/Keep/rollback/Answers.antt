use Rattle.std.proofs.Common.{Ok, refl, sym, subst, ◌∙◌}
use Rattle.std.specs.FinSet as set
use Rattle.model.specs.declared.request.Request.TheVariants.{Rollback}
use Rattle.removals.specs.Requests.{rolled}
use Rattle.steps.specs.Edits.{datasets_of}
use Rattle.steps.specs.Limiting.{IsOver}
use Rattle.steps.proofs.requests.Rolling as steps
use Rattle.pool.specs.Effects.{IsPerformed}
use Rattle.pool.specs.Pools.{state_in}
use Rattle.pool.specs.declared.effect.Effect.TheVariants.{Nothing}
use Rattle.pool.proofs.Performed.{exits, on_err, same_both, apart, bare, unlimited, lost_placed}
use Rattle.pool.proofs.Fitting.{rollback_few, rollback_over, rollback_can, rollback_done}
use Rattle.pool.proofs.keep.Keep.rollback.Goals as goal

pub rollback-requires : goal.rollback-requires
rollback-requires c = record { apart = apart c.args.self.now c.args.world.now c.requires }

pub returns-in_err-rollback-clause-performed : goal.returns-in_err-rollback-clause-performed
returns-in_err-rollback-clause-performed c =
    let s = state_in c.args.self.now c.args.world.now in
    exits s c.args.self.now.numbers.present _ (Rollback c.args.target.now c.args.later) c.from_residual.result c.in_err-rollback.field-0.0 c.from_residual.ensures.1
    (steps.rollback_refused_before s c.args.target.now c.args.later c.in_err-rollback.field-0.0 c.in_err-rollback.ensures.only)

pub returns-in_err-rollback-clause-unchanged : goal.returns-in_err-rollback-clause-unchanged
returns-in_err-rollback-clause-unchanged c =
    on_err c.from_residual.result _ (λ none. same_both c.args.world.now c.rollback.new.table c.rollback.new.freeing c.in_err-rollback.ensures.unchanged c.in_err-rollback.ensures.kept)

pub over-requires-clause-unlimited : goal.over-requires-clause-unlimited
over-requires-clause-unlimited c =
    let s = state_in c.args.self.now c.args.world.now in
    bare c.args.self.now c.args.world.now c.requires (rolled (datasets_of s) c.args.target.now) c.rollback.new.table c.in_ok-rollback.ensures.ok (steps.rollback_unlimited s c.requires.sound.steady c.args.target.now c.args.later c.in_ok-rollback.ensures.can)

pub over-requires-clause-few : goal.over-requires-clause-few
over-requires-clause-few c = rollback_few (state_in c.args.self.now c.args.world.now) c.args.self.now.numbers.present c.requires.sound c.args.target.now c.args.later c.in_ok-rollback.ensures.can c.rollback.new.table c.in_ok-rollback.ensures.ok c.rollback.new.freeing c.in_ok-rollback.ensures.lost

pub returns-in-Some-clause-performed : goal.returns-in-Some-clause-performed
returns-in-Some-clause-performed c =
    let s = state_in c.args.self.now c.args.world.now in
    rollback_over s c.args.self.now.numbers.present c.requires.sound c.args.target.now c.args.later c.in_ok-rollback.ensures.can c.rollback.new.table c.in_ok-rollback.ensures.ok c.rollback.new.freeing c.in_ok-rollback.ensures.lost c.in-Some.refusal
    (subst (IsOver s c.rollback.new.table (set.len c.rollback.new.freeing)) c.in-Some.is (c.over.ensures.over s c.requires.sound refl (unlimited c.args.self.now c.args.world.now c.requires)))

pub returns-in-Some-clause-unchanged : goal.returns-in-Some-clause-unchanged
returns-in-Some-clause-unchanged c none = let e = sym c.in-Some.is ∙ c.over.ensures.none none in absurd cc

pub returns-in-None-clause-performed : goal.returns-in-None-clause-performed
returns-in-None-clause-performed c =
    let s = state_in c.args.self.now c.args.world.now in
    let fits = subst (IsOver s c.rollback.new.table (set.len c.rollback.new.freeing)) c.in-None.is (c.over.ensures.over s c.requires.sound refl (unlimited c.args.self.now c.args.world.now c.requires)) in
    subst (λ w. IsPerformed s c.args.self.now.numbers.present w (Rollback c.args.target.now c.args.later) (Ok Nothing)) (sym c.over.ensures.same)
    (lost_placed c.args.self.now c.args.world.now c.requires c.rollback.new.table c.rollback.new.table refl c.rollback.new.freeing c.in_ok-rollback.ensures.lost
    (rollback_can s c.args.self.now.numbers.present c.requires.sound c.args.target.now c.args.later c.in_ok-rollback.ensures.can c.rollback.new.table c.in_ok-rollback.ensures.ok c.rollback.new.freeing c.in_ok-rollback.ensures.lost fits) c.over.new.world.ledger c.over.ensures.ledger
    (Rollback c.args.target.now c.args.later) (rollback_done s c.args.self.now.numbers.present c.requires.sound c.args.target.now c.args.later c.in_ok-rollback.ensures.can c.rollback.new.table c.in_ok-rollback.ensures.ok c.rollback.new.freeing c.in_ok-rollback.ensures.lost fits))
