-- Laws of the definitions.
use Rattle.std.specs.Prelude.{◌≡◌, ◌≤◌, ℕ}
use Rattle.std.specs.Cmp.{IsTotalOrder}
use Rattle.std.specs.FinMap.{IsAntisymmetric, get}
use Rattle.base.specs.declared.number.Key.{Key}
use Rattle.base.specs.Key.{key_cmp}
use Rattle.base.specs.Map.{Map, block_cmp}
use Rattle.base.specs.Rewrite.{Changes, rewrite, cell_after}

-- a rewritten map has at each key the cell that the rule gives it
abbrev pub RewriteIsItsRule : Type 0
RewriteIsItsRule = (m : Map) (c : Changes) (g : ℕ) (number : Key → ℕ) (q : Key) → q.level ≤ 5 → get (rewrite m c g number) q ≡ cell_after m c g number q

-- a total order in which only equal keys tie
abbrev pub KeysAreTold : Type 0
KeysAreTold = IsTotalOrder key_cmp × IsAntisymmetric key_cmp

-- a total order in which only equal blocks tie
abbrev pub BlocksAreTold : Type 0
BlocksAreTold = IsTotalOrder block_cmp × IsAntisymmetric block_cmp
