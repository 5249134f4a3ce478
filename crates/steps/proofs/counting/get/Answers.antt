use Rattle.std.proofs.Common.{sym, ◌∙◌}
use Rattle.steps.proofs.questions.Measured.{get_absent, get_told, get_wanting}
use Rattle.steps.proofs.counting.get.Goals as goal

pub returns-in-Ok-Some-clause-step : goal.returns-in-Ok-Some-clause-step
returns-in-Ok-Some-clause-step c s is free =
    get_told s is.steady c.args.table.now is.datasets c.args.target.now c.args.property
    c.room_asked-room.result (c.room_asked-room.ensures.room s is free) c.in-Ok-Some.value (sym c.in-Ok-Some.field-0-is ∙ c.in-Ok-Some.ensures.ok)

pub returns-in-Ok-None-clause-step : goal.returns-in-Ok-None-clause-step
returns-in-Ok-None-clause-step c s is free =
    get_absent s is.steady c.args.table.now is.datasets c.args.target.now c.args.property
    c.room_asked-room.result (sym c.in-Ok-None.field-0-is ∙ c.in-Ok-None.ensures.ok)

pub returns-in-Err-clause-step : goal.returns-in-Err-clause-step
returns-in-Err-clause-step c s is free = get_wanting s is.steady c.args.table.now is.datasets c.args.target.now c.args.property c.in-Err.refusal c.in-Err.ensures.err
