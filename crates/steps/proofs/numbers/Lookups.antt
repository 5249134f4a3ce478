-- Members of lists that are filtered, and values of options.
use Rattle.std.proofs.Common.{◌≡◌, Bool, true, false, cond, List, [], ◌∷◌, Option, Some, None, refl, sym, true≢false}
use Rattle.std.specs.Prelude.{is_some}
use Rattle.std.specs.List.{filter}
use Rattle.base.specs.Surveys.{AreDifferent}
use Rattle.world.proofs.lists.Finding.{from_filter}

pub some_of : {A : Type 0} (x : Option A) → is_some x ≡ true → (a : A) × (x ≡ Some a)
some_of None h = absurd (true≢false (sym h))
some_of (Some a) h = (a, refl)

-- a list that is filtered
module _ {A : Type 0} (p : A → Bool) where
  pub filter_different : (xs : List A) → AreDifferent xs → AreDifferent (filter p xs)
  filter_different [] d = tt
  filter_different (y ∷ ys) d = at (p y) (filter_different ys d.1)
    where
      at : (b : Bool) → AreDifferent (filter p ys) → AreDifferent (cond b (y ∷ filter p ys) (filter p ys))
      at true ih = ((λ h. d.0 (from_filter p ys y h).0), ih)
      at false ih = ih

-- what a look-up by name found, where its answer has the name beside the value
