-- The first world, what a write loses, and removals one after the other.
use Rattle.std.specs.Prelude.{◌≡◌, ℕ, ◌<◌, [], Some, None}
use Rattle.std.specs.FinSet.{empty}
use Rattle.world.specs.Shapes.{Name, Shapes, IsGood}

-- a world with no file system (On-Disk Specification, chapter 4)
abbrev pub no_systems : Shapes
no_systems name = None

-- one file system without blocks (On-Disk Specification, chapter 4)
abbrev pub FreshIsGood : Type 0
FreshIsGood = (m : Shapes) (name : Name) (g : ℕ) → 0 < g → m name ≡ Some (record { live = empty; snapshots = []; origin = None }) → ((other : Name) → ¬ (other ≡ name) → m other ≡ None) → IsGood m g
