use Rattle.std.proofs.Common.{◌≡◌}
use Rattle.c_api.specs.Answers.{got_answer, number_in}
use Rattle.c_api.proofs.Handles.{said}
use Rattle.c_api.proofs.host.Host.tell_number_of.Goals as goal

pub returns : goal.returns
returns c read h = (
  said _ _ _ c.ask_read_one-reply.result (λ reply. (c.of_number.result ≡ got_answer reply) × (c.tell_number.new.value ≡ number_in reply c.args.value.now))
      (c.ask_read_one-reply.ensures.asked read h) (c.of_number.ensures, c.tell_number.ensures),
  c.ask_read_one-reply.ensures.results,
)
