-- The numbers that new blocks can have.
use Rattle.std.specs.Prelude.{◌≡◌, ◌⊎◌, ℕ, ◌+◌, ◌≤◌, Bool, cond, List, [], ◌∷◌, map, filter, drop, Some, nat_le, slice_get}
use Rattle.base.specs.declared.number.BlockNo.{BlockNo}
use Rattle.base.specs.declared.number.Dead.{Dead}
use Rattle.base.specs.Surveys.{IsIn}
use Rattle.zalloc.specs.declared.BlockState.{BlockState}
use Rattle.zalloc.specs.declared.BlockState.TheVariants.{Free}
use Rattle.zalloc.specs.States.{is_free}

-- (profile)
abbrev pub numbers : List BlockNo → List ℕ
numbers = map (λ b. b.0)

-- whether a block was born from the group y on (profile)
abbrev pub is_young : ℕ → Dead → Bool
is_young y d = nat_le y d.birth.0

-- the numbers of the blocks that were born from the group y on (profile)
unfoldable pub young_numbers : ℕ → List Dead → List ℕ
young_numbers y ds = map (λ d. d.block.0) (filter (is_young y) ds)

-- the Free numbers of these states, the first of which is that of i (profile)
abbrev pub frees : ℕ → List BlockState → List ℕ
frees i [] = []
frees i (s ∷ ss) = cond (is_free s) (i ∷ frees (i + 1) ss) (frees (i + 1) ss)

-- the Free numbers from one on, in their order (profile)
unfoldable pub frees_from : ℕ → List BlockState → List ℕ
frees_from i states = frees i (drop i states)

-- a number for a new block: a Free one, or that of a young block that is let go (profile)
abbrev pub IsAtHand : List BlockState → ℕ → List Dead → ℕ → Type 0
IsAtHand states y ds n = (slice_get states n ≡ Some Free) ⊎ ((d : Dead) × IsIn ds d × (y ≤ d.birth.0) × (d.block.0 ≡ n))
