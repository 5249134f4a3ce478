use Rattle.std.proofs.Common.{◌≡◌}
use Rattle.c_api.specs.Answers.{answer_of}
use Rattle.c_api.proofs.Handles.{said}
use Rattle.c_api.proofs.host.Host.tell.Goals as goal

pub returns : goal.returns
returns c read h = (said _ _ _ c.ask_read_one.result (λ reply. c.of.result ≡ answer_of reply) (c.ask_read_one.ensures.asked read h) c.of.ensures, c.ask_read_one.ensures.results)
