-- What a shared node of any level stands for, as the top of a branch.
use Rattle.std.specs.Prelude.{◌≡◌, ℕ}
use Rattle.std.specs.FinMap as finmap
use Rattle.base.specs.declared.number.Key.{Key}
use Rattle.base.specs.Key.{IsKey}
use Rattle.tree.specs.declared.subtree.Node.{Node}
use Rattle.tree.specs.declared.subtree.Node.TheVariants.{Leaf, First, Second, Third, Fourth, Root}
use Rattle.tree.specs.Branch.{Branch}
use Rattle.node.specs.Entries.{entries_from}
use Rattle.node.specs.Kid.{IsSound}
use Rattle.node.specs.Node.{leaf_part, inner_part, shared_part, root_part}
use Rattle.node.specs.Shape.{Part, grown, done}

-- (profile)
abbrev pub node_part : Node → Part
node_part (Leaf a) = shared_part leaf_part a
node_part (First a) = shared_part (inner_part leaf_part) a
node_part (Second a) = shared_part (inner_part (inner_part leaf_part)) a
node_part (Third a) = shared_part (inner_part (inner_part (inner_part leaf_part))) a
node_part (Fourth a) = shared_part (inner_part (inner_part (inner_part (inner_part leaf_part)))) a
node_part (Root a) = shared_part root_part a

-- (profile)
abbrev pub node_level : Node → ℕ
node_level (Leaf a) = 0
node_level (First a) = 1
node_level (Second a) = 2
node_level (Third a) = 3
node_level (Fourth a) = 4
node_level (Root a) = 5

-- the branch of a part that stands at a key (profile)
unfoldable pub branch_at : Key → Part → Branch
branch_at k p = record { key = k; map = finmap.from_sorted (entries_from k.level k.index (grown p.cell p.below done)) }

-- the key is one of the node's level, and the node has the shape of its level (profile)
pub record IsSoundBranch (k : Key) (n : Node) : Type 0 where
  pub is_key : IsKey k
  pub level : k.level ≡ node_level n
  pub sound : IsSound (node_level n) (node_part n)
