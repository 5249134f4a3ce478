-- What holds of the root of every tree, and of its count of blocks.
use Rattle.std.specs.Prelude.{◌≡◌, ℕ, Option}
use Rattle.std.specs.declared.sync.Arc.{Arc}
use Rattle.std.specs.declared.alloc.Global.{Global}
use Rattle.node.specs.Entries.{map_of, cell_count, IsWell}
use Rattle.node.specs.Kid.{birth_of}
use Rattle.node.specs.Node.{Root, root_forest, whole}
use Rattle.node.specs.Unique.{IsUnique}

-- the levels have their shapes, the stored count is right, and one number stands at one key (profile)
pub record IsSoundTree (root : Option (Arc Root Global)) (count : ℕ) : Type 0 where
  pub well : IsWell 5 (birth_of (whole root)) (root_forest root)
  pub counted : count ≡ cell_count (root_forest root)
  pub unique : IsUnique (map_of (root_forest root))
