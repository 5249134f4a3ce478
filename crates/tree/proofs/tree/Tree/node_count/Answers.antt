use Rattle.std.proofs.Common.{sym, ap, subst, ◌∙◌}
use Rattle.std.specs.FinMap as fin
use Rattle.node.specs.Kid.{birth_of}
use Rattle.node.specs.Node.{whole, root_forest}
use Rattle.node.specs.Unique.{IsUnique}
use Rattle.node.proofs.Find.{len-map_of}
use Rattle.tree.proofs.tree.Tree.node_count.Goals as goal

pub returns-clause-count : goal.returns-clause-count
returns-clause-count c = c.self.invariant.counted ∙ sym (len-map_of (birth_of (whole c.self.inside.root)) (root_forest c.self.inside.root) c.self.invariant.well) ∙ ap fin.len c.self.view_is

-- no two blocks have one number
pub returns-clause-unique : goal.returns-clause-unique
returns-clause-unique c = subst IsUnique c.self.view_is c.self.invariant.unique
