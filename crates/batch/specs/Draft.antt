-- What a change is to make, before any node of it is made.
use Rattle.std.specs.Prelude.{◌≡◌, ◌+◌, ℕ, List, Option, length, count_by}
use Rattle.base.specs.Surveys.{IsIn, AreDifferent}
use Rattle.zalloc.specs.declared.BlockState.{BlockState}
use Rattle.batch.specs.declared.draft.Draft.{Draft}
use Rattle.batch.specs.declared.update.Update.{Update}
use Rattle.node.specs.Kid.{cells}
use Rattle.batch.specs.Said.{said, AreSized}
use Rattle.node.specs.Shape.{Part}
use Rattle.batch.specs.Touch.{touched, claims, released}
use Rattle.batch.specs.Build.{filled, is_fresh}
use Rattle.batch.specs.Numbers.{numbers, IsAtHand}

-- the draft of a batch on a root's part: whether it touches any key, the blocks that go, the new blocks, from the last key to the first, each with the number that it keeps or with one of those that are taken, and how many blocks there are afterwards (profile)
pub record IsDraft (o : Option Part) (us : List Update) (young : ℕ) (states : List BlockState) (d : Draft) : Type 0 where
  pub sized : AreSized us
  pub touched : d.touched ≡ touched (said us) 5 0 o
  pub released : d.released.items ≡ released (said us) young 5 0 o
  pub enough : length d.taken.items ≡ count_by is_fresh (claims (said us) young 5 0 o)
  pub at_hand : (n : ℕ) → IsIn (numbers d.taken.items) n → IsAtHand states young d.released.items n
  pub once : AreDifferent (numbers d.taken.items)
  pub made : d.made.items ≡ filled (claims (said us) young 5 0 o) d.taken.items
  pub counted : d.count + length d.released.items ≡ cells o + length d.taken.items
