use Rattle.std.proofs.Common.{sym, subst, ap}
use Rattle.std.specs.Option.{option_copied}
use Rattle.model.specs.declared.request.Request.TheVariants.{Read}
use Rattle.model.specs.declared.reply.Reply.TheVariants.{Data}
use Rattle.model.specs.Step.{Step}
use Rattle.steps.proofs.questions.Reading.{read_absent, read_refused, read_done}
use Rattle.steps.proofs.naming.read.Goals as goal

pub returns-in_default-clause-step : goal.returns-in_default-clause-step
returns-in_default-clause-step c s steady is = read_absent s steady c.args.table.now is c.args.target.now c.args.object c.args.block c.in_default.ensures

pub returns-in-Ok-clause-step : goal.returns-in-Ok-clause-step
returns-in-Ok-clause-step c s steady is =
    subst (λ r. Step s (Read c.args.target.now c.args.object c.args.block) r s) (sym (ap Data c.copied.ensures))
    (read_done s steady c.args.table.now is c.args.target.now c.args.object c.args.block c.in-Some.tree.now c.in-Some.ensures
    c.in-Ok.bytes (option_copied c.in-Ok.bytes) c.in-Ok.ensures.ok c.in-Ok.ensures.bad_key)

pub returns-in-Err-clause-step : goal.returns-in-Err-clause-step
returns-in-Err-clause-step c s steady is =
    read_refused s steady c.args.table.now is c.args.target.now c.args.object c.args.block c.in-Some.tree.now c.in-Some.ensures
    c.in-Err.refusal c.in-Err.ensures.only c.in-Err.ensures.bad_key
