use Rattle.std.proofs.Common.{rules}
use Rattle.tree_rows.proofs.rig.Rig.is_asked.Goals as goal

pub returns : goal.returns
returns c = λ _. record { batch = search rules; young = search rules; born = search rules; allocated = search rules }
