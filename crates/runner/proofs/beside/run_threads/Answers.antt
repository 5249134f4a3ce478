use Rattle.std.proofs.Common.{rules}
use Rattle.runner.proofs.beside.run_threads.Goals as goal

pub returns : goal.returns
returns g c = search rules
