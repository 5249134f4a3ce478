use Rattle.script.specs.Meaning.{request_of}
use Rattle.script.proofs.RunLemmas.{served-fault}
use Rattle.script.proofs.run.serve_request.Goals as goal

pub returns-in-Err : goal.returns-in-Err
returns-in-Err g c =
    let e = c.refuse.ensures in
    let s = served-fault g.C.Caller.asks (request_of c.args.line.now) c.in-Err.refusal _ _ _ c.args.caller.now c.refuse.result c.in-Err.ensures e.ok e.no_memory e.err e.fits in
    record { ok = s.0; err = s.1 }
