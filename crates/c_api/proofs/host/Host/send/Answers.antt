use Rattle.std.proofs.Common.{List, ℕ, length, ap}
use Rattle.c_api.proofs.Handles.{sent}
use Rattle.c_api.proofs.host.Host.send.Goals as goal

pub returns : goal.returns
returns c =
    sent _ _ _ c.args.self.now c.ask_read_one-reply.new.self c.keep-answer.new.self c.ask_read_one-reply.result _
    (c.ask_read_one-reply.ensures.asked _ c.ask_send-request.ensures) c.ask_read_one-reply.ensures.results
    c.keep-answer.ensures.answer c.keep-answer.ensures.stream c.keep-answer.ensures.reply c.keep-answer.ensures.names c.keep-answer.ensures.pool (ap (λ (bs : List ℕ). length bs) c.as_slice.ensures)
