-- Which blocks a test has for old, and which for next.
use Rattle.std.specs.Prelude.{◌<◌, ◌≤◌, List, Option, IfSome, length}
use Rattle.zalloc.specs.declared.BlockState.{BlockState}
use Rattle.tree.specs.declared.block.Root.{Root}
use Rattle.image.specs.Image.{IsOpen}

-- (profile)
abbrev pub IsOld : List BlockState → Option Root → Type 0
IsOld kept o = IfSome o (λ r. (r.block.0 < 6) × (r.block.0 < length kept))

-- (profile)
abbrev pub IsNext : List BlockState → Option Root → Type 0
IsNext kept o = IfSome o (λ r. (6 ≤ r.block.0) × IsOpen kept r.block.0)
