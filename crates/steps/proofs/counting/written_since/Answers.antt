use Rattle.std.proofs.Common.{subst}
use Rattle.model.specs.declared.request.Request.TheVariants.{WrittenSince}
use Rattle.model.specs.declared.reply.Reply.TheVariants.{Value, Refused}
use Rattle.model.specs.Step.{Step}
use Rattle.steps.proofs.questions.Measured.{since_refused, since_told}
use Rattle.steps.proofs.counting.written_since.Goals as goal

pub returns-in-Ok-clause-step : goal.returns-in-Ok-clause-step
returns-in-Ok-clause-step c s steady is =
    subst (λ m. Step s (WrittenSince c.args.target.now m) (Value c.in_bytes.result) s) c.member.ensures.value
    (since_told s steady c.args.table.now is c.args.target.now c.member.result.now
    c.in-Ok.ensures.can c.in-Ok.blocks c.in-Ok.ensures.ok c.in_bytes.result c.in_bytes.ensures)

pub returns-in-Err-clause-step : goal.returns-in-Err-clause-step
returns-in-Err-clause-step c s steady is =
    subst (λ m. Step s (WrittenSince c.args.target.now m) (Refused c.in-Err.refusal) s) c.member.ensures.value
    (since_refused s steady c.args.table.now is c.args.target.now c.member.result.now c.in-Err.refusal c.in-Err.ensures.only)
