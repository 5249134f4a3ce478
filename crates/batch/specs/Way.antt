-- What the write of one leaf alone does to the keys on the way to it, by the blocks that they have, from the leaf's own up.
use Rattle.std.specs.Prelude.{◌≡◌, ℕ, true, List, ◌++◌, Option, length, count_by, map}
use Rattle.std.specs.List.{flat_map, zip}
use Rattle.base.specs.declared.number.Dead.{Dead}
use Rattle.base.specs.Key.{path}
use Rattle.batch.specs.declared.findings.Claim.{Claim}
use Rattle.batch.specs.declared.draft.Draft.{Draft}
use Rattle.batch.specs.Build.{filled, is_fresh}
use Rattle.batch.specs.Numbers.{numbers, frees_from}
use Rattle.batch.specs.Touch.{let_go, young_one}
use Rattle.zalloc.specs.declared.BlockState.{BlockState}

-- the claims of the keys on a leaf's path, each with its block where that is young (profile)
unfoldable pub way_claims : ℕ → ℕ → List (Option Dead) → List Claim
way_claims y leaf blocks = map (λ p. record { key = p.0; kept = young_one y p.1 }) (zip (path leaf) blocks)

-- the blocks that these keys let go (profile)
unfoldable pub way_released : ℕ → List (Option Dead) → List Dead
way_released y blocks = flat_map (let_go true true y) blocks

-- these claims have their numbers, of which the Free ones are the first, in turn; the others begin at one (profile)
pub record IsNumbered (cs : List Claim) (states : List BlockState) (next : ℕ) (l : Draft) : Type 0 where
  pub enough : length l.taken.items ≡ count_by is_fresh cs
  pub free : frees_from 0 states ≡ numbers l.taken.items ++ frees_from next states
  pub made : l.made.items ≡ filled cs l.taken.items
