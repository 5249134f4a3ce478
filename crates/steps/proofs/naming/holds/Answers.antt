use Rattle.steps.proofs.questions.Reading.{holds_refused, holds_told}
use Rattle.steps.proofs.naming.holds.Goals as goal

pub returns-in-Ok : goal.returns-in-Ok
returns-in-Ok c s steady is =
    holds_told s steady c.args.table.now is c.args.target.now c.in-Ok.ensures.can c.in-Ok.tags.items c.in-Ok.ensures.ok c.from.result c.from.ensures

pub returns-in-Err : goal.returns-in-Err
returns-in-Err c s steady is = holds_refused s steady c.args.table.now is c.args.target.now c.in-Err.refusal c.in-Err.ensures.only
