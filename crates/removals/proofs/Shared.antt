-- Rows of a table, and what they tell of its file systems.
use Rattle.std.proofs.Common.{◌≡◌, ℕ, List, Option, Some, None, sym, ap}
use Rattle.std.specs.Option.{option_map}
use Rattle.model.specs.World.{FileSystem}
use Rattle.datasets.specs.Rows.{Row}
use Rattle.datasets.specs.Clones.{row_in}
use Rattle.world.specs.Worlds.{FileSystems}
use Rattle.world.proofs.lists.Maps.{no_value, same_value}

-- what was found under a name
pub told_of : (m : FileSystems) (n : List ℕ) (r : Row) (x : Option FileSystem) → ◌≡◌ {A = Option Row} (Some r) (option_map (λ (f : FileSystem). row_in m (n, f)) x) → (r.name ≡ n) × (x ≡ Some r.system)
told_of m n r None e = absurd (no_value r (sym e))
told_of m n r (Some f) e = let k = same_value r (row_in m (n, f)) e in (ap (λ (y : Row). y.name) k, ap (λ (y : Row). Some y.system) (sym k))
