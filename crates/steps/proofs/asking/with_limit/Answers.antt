use Rattle.std.proofs.Common.{None, Some, Err, not, refl, sym, ap, ◌∙◌, arith}
use Rattle.std.specs.FinMap.{get}
use Rattle.model.specs.declared.request.Request.TheVariants.{Set}
use Rattle.model.specs.declared.reply.Reply.TheVariants.{Refused}
use Rattle.model.specs.Step.{Step}
use Rattle.world.specs.Tables.{Datasets}
use Rattle.datasets.specs.Limits.{with_limit_of}
use Rattle.steps.proofs.asked.Asked.{refused_by, set_few, set_not, set_over, set_fits}
use Rattle.steps.proofs.asking.with_limit.Goals as goal

pub returns-in_err-set_limit-clause-err : goal.returns-in_err-set_limit-clause-err
returns-in_err-set_limit-clause-err c s is =
    refused_by c.from_residual-in_err-set_limit.result c.in_err-set_limit.field-0.0 (λ e. Step s (Set c.args.name.now c.args.limit c.args.amount) (Refused e) s)
    c.from_residual-in_err-set_limit.ensures.1
    (set_not s c.args.table.now c.args.space is c.args.name.now c.args.limit c.args.amount c.in_err-set_limit.field-0.0
    (λ e. ap (λ (t : Datasets). get t.file_systems c.args.name.now) (sym c.in_ok-to.ensures.ok) ∙ c.in_err-set_limit.ensures.no_dataset.0 (ap Err e)) c.in_err-set_limit.ensures.only)

pub fill-requires : goal.fill-requires
fill-requires c = record {
  few =
      set_few c.requires.state.0 c.args.table.now c.args.space c.requires.state.1 c.args.name.now c.args.limit c.args.amount (omega arith) c.set_limit.new.self
      (c.in_ok-set_limit.ensures.ok ∙ ap (λ (t : Datasets). with_limit_of t c.args.name.now c.args.limit c.args.amount) c.in_ok-to.ensures.ok);
}

pub refilled-requires : goal.refilled-requires
refilled-requires c = record {
  few =
      set_few c.requires.state.0 c.args.table.now c.args.space c.requires.state.1 c.args.name.now c.args.limit c.args.amount (omega arith) c.set_limit.new.self
      (c.in_ok-set_limit.ensures.ok ∙ ap (λ (t : Datasets). with_limit_of t c.args.name.now c.args.limit c.args.amount) c.in_ok-to.ensures.ok);
}

pub returns-in-Some-clause-err : goal.returns-in-Some-clause-err
returns-in-Some-clause-err c s is =
    set_over s c.args.table.now c.args.space is c.args.name.now c.args.limit c.args.amount c.set_limit.new.self
    (c.in_ok-set_limit.ensures.ok ∙ ap (λ (t : Datasets). with_limit_of t c.args.name.now c.args.limit c.args.amount) c.in_ok-to.ensures.ok)
    (Some c.in-Some.refusal) c.in-Some.ensures.over
    (λ none. let e = c.in_ok-set_limit.ensures.no_dataset.1 (ap (λ (t : Datasets). get t.file_systems c.args.name.now) c.in_ok-to.ensures.ok ∙ none) in cc)
    (c.is_none.ensures ∙ ap not c.if-is_none.false) c.in-Some.refusal refl

pub returns-in-None-clause-fits : goal.returns-in-None-clause-fits
returns-in-None-clause-fits c s is some =
    set_fits s c.args.table.now c.args.space is c.args.name.now c.args.limit c.args.amount c.set_limit.new.self
    (c.in_ok-set_limit.ensures.ok ∙ ap (λ (t : Datasets). with_limit_of t c.args.name.now c.args.limit c.args.amount) c.in_ok-to.ensures.ok)
    None c.in-None.ensures.over refl
