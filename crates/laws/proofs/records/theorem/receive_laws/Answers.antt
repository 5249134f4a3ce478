use Rattle.laws.proofs.Received.{rewrite_changes_contents, receives_difference, full_receives}
use Rattle.laws.proofs.records.theorem.receive_laws.Goals as goal

pub returns-clause-change : goal.returns-clause-change
returns-clause-change c = rewrite_changes_contents

pub returns-clause-difference : goal.returns-clause-difference
returns-clause-difference c = receives_difference

pub returns-clause-full : goal.returns-clause-full
returns-clause-full c = full_receives
