use Rattle.std.proofs.Common.{sym, ap, ◌∙◌}
use Rattle.std.specs.Option.{option_copied}
use Rattle.base.specs.declared.name.target.Target.TheVariants.{Snapshot as OfSnapshot}
use Rattle.stream.specs.Records.{records_since}
use Rattle.stream.specs.Spelling.{spell}
use Rattle.steps.proofs.questions.Sent.{refused, sent}
use Rattle.steps.proofs.sending.send.Goals as goal

pub returns-in-Err-clause-step : goal.returns-in-Err-clause-step
returns-in-Err-clause-step c s steady is = refused s steady c.args.table.now is c.args.target.now (option_copied c.args.from) c.in-Err.refusal c.in-Err.ensures.only

pub returns-in-Ok-sent-clause-step : goal.returns-in-Ok-sent-clause-step
returns-in-Ok-sent-clause-step c s steady is =
    sent s steady c.args.table.now is c.args.target.now (option_copied c.args.from) c.in-Ok.ensures.can c.member.result.now (c.in-Snapshot.is ∙ ap OfSnapshot (sym c.member.ensures.value))
    c.in-Some.snapshot.now c.in-Some.ensures c.in-Ok.start c.in-Ok.ensures.ok c.in-Ok-sent.bytes
    (c.in-Ok-sent.ensures.ok ∙ (λ i. spell (record { source = c.source.ensures i; target = c.guid.ensures i; records = records_since (c.tree.ensures i) (c.start.view_is i).group })))
