use Rattle.snap.proofs.Shared.{shared_are}
use Rattle.steps.proofs.questions.Reading.{names_listed, names_refused}
use Rattle.steps.proofs.naming.list.Goals as goal

pub returns-in-Ok : goal.returns-in-Ok
returns-in-Ok c s steady is =
    names_listed s steady c.args.table.now is c.in-Ok.names.items _
    (shared_are c.args.table.now.file_systems c.file_systems.result.now c.file_systems.ensures) c.in-Ok.ensures.ok c.from.result c.from.ensures

pub returns-in-Err : goal.returns-in-Err
returns-in-Err c s steady is = names_refused s steady c.args.table.now is c.in-Err.refusal c.in-Err.ensures.err
