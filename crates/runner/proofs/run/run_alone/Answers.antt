use Rattle.runner.proofs.Rans.{ran_as}
use Rattle.runner.proofs.run.run_alone.Goals as goal

pub returns-clause-ran : goal.returns-clause-ran
returns-clause-ran g c = λ low. ran_as _ _ _ _ _ _ _ _ (c.run_on-status.ensures.ran low)
