use Rattle.std.proofs.Common.{◌≡◌, arith, rules}
use Rattle.base.specs.declared.refusal.Refusal.TheVariants.{NoMemory}
use Rattle.model.specs.declared.reply.Reply.TheVariants.{Refused}
use Rattle.session.specs.Entering.{Ran}
use Rattle.session.specs.Works.{HadMemory, work_request}
use Rattle.session.proofs.Works.{stopped_work, unentered_work, starved_work, more_work, few_more}
use Rattle.session.proofs.workers.run_work.Goals as goal

pub turns-preserved : goal.turns-preserved
turns-preserved g c =
    let i = c.turns.invariant in
    let ran : Ran c.turns.seat (work_request c.args.work) c.in-Ok.field-0.receipt c.ask.new.seat = rw (← c.request.ensures) c.in-Ok.ensures.ok in
    let had : HadMemory c.in-Ok.field-0.receipt = search rules in
    record {
      work = more_work g.K.Opening.opening c.args.seat.now c.turns.seat c.ask.new.seat (work_request c.args.work) c.turns.ran c.in-Ok.field-0.receipt i.work ran c.in-Ok.ensures.there had;
      spent = omega (arith, i.spent, c.turns-test.ensures.answer.0);
      few = λ some. few_more _ _ c.turns.ran i.spent c.turn.ensures.few i.few;
    }

pub returns-then-lacked : goal.returns-then-lacked
returns-then-lacked g c =
    let ran : Ran c.turns.seat (work_request c.args.work) c.in-Ok.field-0.receipt c.ask.new.seat = rw (← c.request.ensures) c.in-Ok.ensures.ok in
    let lacked : c.in-Ok.field-0.receipt.entry.reply ≡ Refused NoMemory = search rules in
    starved_work g.K.Opening.opening c.args.seat.now c.turns.seat c.ask.new.seat (work_request c.args.work) _ c.turns.ran _ _ c.in-Ok.field-0.receipt c.turns.invariant.work ran c.in-Ok.ensures.there
    (omega (arith, c.turns.invariant.spent, c.turns-test.ensures.answer.0)) c.turns-test.ensures.answer.1 lacked

pub returns-in-Err : goal.returns-in-Err
returns-in-Err g c =
    rw (c.in-Err.ensures.err) (unentered_work _ _ _ _ _ _ _ _ _ c.turns.invariant.work (omega (arith, c.turns.invariant.spent, c.turns-test.ensures.answer.0)) c.turns-test.ensures.answer.1 c.in-Err.ensures.refusal)

pub returns : goal.returns
returns g c = stopped_work _ _ _ _ _ _ _ _ c.turns.invariant.work (omega (arith, c.turns.invariant.spent, c.turns-test.ensures.answer.0)) c.turns-test.ensures.answer.1
