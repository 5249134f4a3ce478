use Rattle.std.proofs.Common.{List, ℕ, length, ap}
use Rattle.c_api.proofs.Handles.{listed}
use Rattle.c_api.proofs.host.Host.keep_names.Goals as goal

pub returns : goal.returns
returns c read h =
    listed read _ c.args.self.now c.ask_read_one-reply.new.self c.keep_listed-answer.new.self c.ask_read_one-reply.result _
    (c.ask_read_one-reply.ensures.asked read h) c.ask_read_one-reply.ensures.results
    c.keep_listed-answer.ensures.answer c.keep_listed-answer.ensures.names c.keep_listed-answer.ensures.reply c.keep_listed-answer.ensures.stream
    c.keep_listed-answer.ensures.pool (ap (λ (ns : List (List ℕ)). length ns) c.as_slice.ensures)
