-- What a bookmark promises: the set that its snapshot held serves as a source for each later dataset of the lineage.
use Rattle.std.specs.Prelude.{◌≡◌, ℕ, zero, suc, ◌≤◌, Some}
use Rattle.world.specs.Sets.{Has}
use Rattle.world.specs.Blocks.{Block, BlockSet}
use Rattle.world.specs.Lineage.{Row, Rows}

module _ {D : Type 0} where
  -- e stands k places before d in its lineage
  abbrev pub IsAncestor : Rows D → ℕ → D → D → Type 0
  IsAncestor w zero d e = d ≡ e
  IsAncestor w (suc k) d e = (n : Row D) × (p : D) × w d n × (n.prev ≡ Some p) × IsAncestor w k p e

  -- In the lineage of d, each block that was born by t, of a dataset whose group is not below t, is in the set.
  abbrev pub Covers : Rows D → D → ℕ → BlockSet → Type 0
  Covers w d t s = (k : ℕ) (e : D) (n : Row D) (b : Block) → IsAncestor w k d e → w e n → t ≤ n.group → Has n.blocks b → b.birth ≤ t → Has s b
