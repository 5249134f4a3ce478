use Rattle.std.proofs.Common.{rules, ◌≡◌, true, length}
use Rattle.std.specs.Prelude.{◌==◌}
use Rattle.c_api.specs.Answers.{answer_of}
use Rattle.c_api.specs.Calls.{ReadInto}
use Rattle.c_api.proofs.Handles.{said, reads}
use Rattle.c_api.proofs.host.Host.read.Goals as goal

pub returns : goal.returns
returns c =
    let is : (length c.args.buffer.now == 512) ≡ true = search rules in
    reads _ _ _ _ _ _ _ _ _ _ is (
      said _ _ _ c.ask_read_one-reply.result (λ reply. (c.fill.result ≡ answer_of reply) × ReadInto reply c.args.buffer.now c.args.is_hole.now c.fill.new.buffer c.fill.new.is_hole)
          (c.ask_read_one-reply.ensures.asked _ c.ask_read-request.ensures) (c.fill.ensures.answer, c.fill.ensures.filled),
      c.ask_read_one-reply.ensures.results,
    )
