use Rattle.std.proofs.Common.{Ok, refl, sym, subst, ◌∙◌}
use Rattle.std.specs.FinSet as set
use Rattle.model.specs.declared.request.Request.TheVariants.{Rename}
use Rattle.datasets.specs.Renames.{with_names}
use Rattle.steps.specs.Edits.{datasets_of}
use Rattle.steps.specs.Limiting.{IsOver}
use Rattle.steps.proofs.requests.Renaming as steps
use Rattle.pool.specs.Effects.{IsPerformed}
use Rattle.pool.specs.Pools.{state_in}
use Rattle.pool.specs.declared.effect.Effect.TheVariants.{Nothing}
use Rattle.pool.proofs.Performed.{exits, on_err, same_table, bare, unlimited, placed}
use Rattle.pool.proofs.Fitting.{rename_few, rename_over, rename_can, rename_done}
use Rattle.pool.proofs.keep.Keep.rename.Goals as goal

pub returns-in_err-rename-clause-performed : goal.returns-in_err-rename-clause-performed
returns-in_err-rename-clause-performed c =
    let s = state_in c.args.self.now c.args.world.now in
    exits s c.args.self.now.numbers.present _ (Rename c.args.name.now c.args.to.now) c.from_residual.result c.in_err-rename.field-0.0 c.from_residual.ensures.1
    (steps.rename_refused s c.args.name.now c.args.to.now c.in_err-rename.field-0.0 c.in_err-rename.ensures.only)

pub returns-in_err-rename-clause-unchanged : goal.returns-in_err-rename-clause-unchanged
returns-in_err-rename-clause-unchanged c = on_err c.from_residual.result _ (λ none. same_table c.args.world.now c.rename.new.table c.in_err-rename.ensures.unchanged)

pub over-requires-clause-unlimited : goal.over-requires-clause-unlimited
over-requires-clause-unlimited c =
    let s = state_in c.args.self.now c.args.world.now in
    bare c.args.self.now c.args.world.now c.requires (with_names (datasets_of s) c.args.name.now c.args.to.now) c.rename.new.table c.in_ok-rename.ensures.ok (steps.rename_unlimited s c.args.name.now c.args.to.now c.in_ok-rename.ensures.can)

pub over-requires-clause-few : goal.over-requires-clause-few
over-requires-clause-few c = rename_few (state_in c.args.self.now c.args.world.now) c.args.self.now.numbers.present c.requires.sound c.args.name.now c.args.to.now c.in_ok-rename.ensures.can c.rename.new.table c.in_ok-rename.ensures.ok

pub returns-in-Some-clause-performed : goal.returns-in-Some-clause-performed
returns-in-Some-clause-performed c =
    let s = state_in c.args.self.now c.args.world.now in
    rename_over s c.args.self.now.numbers.present c.requires.sound c.args.name.now c.args.to.now c.in_ok-rename.ensures.can c.rename.new.table c.in_ok-rename.ensures.ok c.in-Some.refusal
    (subst (IsOver s c.rename.new.table (set.len c.args.world.now.freeing)) c.in-Some.is (c.over.ensures.over s c.requires.sound refl (unlimited c.args.self.now c.args.world.now c.requires)))

pub returns-in-Some-clause-unchanged : goal.returns-in-Some-clause-unchanged
returns-in-Some-clause-unchanged c none = let e = sym c.in-Some.is ∙ c.over.ensures.none none in absurd cc

pub returns-in-None-clause-performed : goal.returns-in-None-clause-performed
returns-in-None-clause-performed c =
    let s = state_in c.args.self.now c.args.world.now in
    let fits = subst (IsOver s c.rename.new.table (set.len c.args.world.now.freeing)) c.in-None.is (c.over.ensures.over s c.requires.sound refl (unlimited c.args.self.now c.args.world.now c.requires)) in
    subst (λ w. IsPerformed s c.args.self.now.numbers.present w (Rename c.args.name.now c.args.to.now) (Ok Nothing)) (sym c.over.ensures.same)
    (placed c.args.self.now c.args.world.now c.requires c.rename.new.table c.rename.new.table refl
    (rename_can s c.args.self.now.numbers.present c.requires.sound c.args.name.now c.args.to.now c.in_ok-rename.ensures.can c.rename.new.table c.in_ok-rename.ensures.ok fits) c.over.new.world.ledger c.over.ensures.ledger
    (Rename c.args.name.now c.args.to.now) (rename_done s c.args.self.now.numbers.present c.requires.sound c.args.name.now c.args.to.now c.in_ok-rename.ensures.can c.rename.new.table c.in_ok-rename.ensures.ok fits))
