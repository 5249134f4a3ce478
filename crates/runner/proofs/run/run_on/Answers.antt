use Rattle.std.proofs.Common.{rules}
use Rattle.runner.proofs.run.run_on.Goals as goal

pub returns-after-refused-clause-ran : goal.returns-after-refused-clause-ran
returns-after-refused-clause-ran g c = search rules

pub returns-after-refused-clause-fault : goal.returns-after-refused-clause-fault
returns-after-refused-clause-fault g c = search rules

pub returns-in-Err-flushed-clause-ran : goal.returns-in-Err-flushed-clause-ran
returns-in-Err-flushed-clause-ran g c = search rules

pub returns-in-Err-flushed-clause-fault : goal.returns-in-Err-flushed-clause-fault
returns-in-Err-flushed-clause-fault g c = search rules

pub returns-in-Err-clause-ran : goal.returns-in-Err-clause-ran
returns-in-Err-clause-ran g c = search rules

pub returns-in-Err-clause-fault : goal.returns-in-Err-clause-fault
returns-in-Err-clause-fault g c = search rules
