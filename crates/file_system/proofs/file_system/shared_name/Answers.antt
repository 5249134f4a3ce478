use Rattle.std.proofs.Common.{◌∙◌}
use Rattle.file_system.proofs.file_system.shared_name.Goals as goal

-- the copy is the name
pub returns-clause-ok : goal.returns-clause-ok
returns-clause-ok c = c.in_ok-new.ensures.ok ∙ c.in_ok-own.ensures.ok
