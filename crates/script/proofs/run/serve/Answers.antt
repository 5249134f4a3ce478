use Rattle.script.proofs.RunLemmas.{served-reply}
use Rattle.script.proofs.run.serve.Goals as goal

pub returns-then-ask-clause-ok : goal.returns-then-ask-clause-ok
returns-then-ask-clause-ok g c =
    let e = c.report.ensures in
    (served-reply g.C.Caller.asks c.args.request c.ask.new.reply _ _ _ c.args.caller.now c.ask.new.self c.report.result c.if-ask.ensures e.line e.refusal e.err e.fits).0

pub returns-then-ask-clause-err : goal.returns-then-ask-clause-err
returns-then-ask-clause-err g c =
    let e = c.report.ensures in
    (served-reply g.C.Caller.asks c.args.request c.ask.new.reply _ _ _ c.args.caller.now c.ask.new.self c.report.result c.if-ask.ensures e.line e.refusal e.err e.fits).1
