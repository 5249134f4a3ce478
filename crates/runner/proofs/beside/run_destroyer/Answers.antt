use Rattle.runner.proofs.Asking.{asks_on}
use Rattle.runner.proofs.beside.run_destroyer.Goals as goal

pub returns : goal.returns
returns g c = asks_on _ _ _ _ _ _ _ _ _ c.run_destroyer.ensures
