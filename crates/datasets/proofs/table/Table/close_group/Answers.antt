use Rattle.std.proofs.Common.{arith}
use Rattle.datasets.proofs.Kept.{later_table}
use Rattle.datasets.proofs.table.Table.close_group.Goals as goal

-- the facts hold of a later group
pub invariant_of-self : goal.invariant_of-self
invariant_of-self c = later_table (record { file_systems = c.self.inside.systems; group = c.self.inside.group.0 }) _ (omega arith) c.self.invariant
