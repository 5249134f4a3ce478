-- What a change of the present world's blocks releases and takes.
use Rattle.std.specs.Prelude.{◌≡◌, ◌<◌, ◌≤◌, ◌↔◌, ◌⊎◌, ℕ, true, List, nat_lt}
use Rattle.std.specs.FinSet.{union}
use Rattle.base.specs.Map.{Block, BlockSet}
use Rattle.base.specs.Surveys.{IsIn, AreDifferent}
use Rattle.world.specs.Sets.{Has}
use Rattle.world.specs.Reach.{AreNumbersUnique}

-- each number is no block's, or that of a released block born from the group `young` on (profile)
abbrev pub AreTakable : BlockSet → ℕ → ℕ → List Block → List ℕ → Type 0
AreTakable both size young released taken =
    (n : ℕ) → IsIn taken n
    → ((n < size) × ((b : Block) → Has both b → b.number ≡ n → ⊥)) ⊎ ((b : Block) × IsIn released b × (young ≤ b.birth) × (b.number ≡ n))

-- What a change of the present world's blocks, from one set to another, releases and takes. A block that isn't released leaves its
-- number to a block of the new set, and stays where the last synced world has it (profile)
pub record IsSettling (now new last : BlockSet) (g : ℕ) (released : List Block) (taken : List ℕ) : Type 0 where
  pub unique : AreNumbersUnique (union now last)
  pub there : (b : Block) → IsIn released b → Has now b
  pub came : (b : Block) → Has new b → ((a : Block) × Has now a × (a.number ≡ b.number) × (IsIn released a → ⊥)) ⊎ IsIn taken b.number
  pub stays : (b : Block) → Has now b → (IsIn released b → ⊥) → ((a : Block) × Has new a × (a.number ≡ b.number)) × (Has last b → Has new b)
  pub made : (n : ℕ) → IsIn taken n → (b : Block) × Has new b × (b.number ≡ n)
  pub waits : (b : Block) → Has now b → Has last b ↔ (nat_lt b.birth g ≡ true)
  pub once : AreDifferent released
  pub taken_once : AreDifferent taken
