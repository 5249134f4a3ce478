use Rattle.std.proofs.Common.{◌≡◌}
use Rattle.c_api.specs.Answers.{answer_of, view_in}
use Rattle.c_api.proofs.Handles.{said}
use Rattle.c_api.proofs.host.Host.open_view.Goals as goal

pub returns : goal.returns
returns c = (
  said _ _ _ c.ask_read_one-reply.result (λ reply. (c.of.result ≡ answer_of reply) × (c.tell_view.new.view ≡ view_in reply c.args.view.now))
      (c.ask_read_one-reply.ensures.asked _ c.ask_open_view-request.ensures) (c.of.ensures, c.tell_view.ensures),
  c.ask_read_one-reply.ensures.results,
)
