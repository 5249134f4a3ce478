-- The exit status.
use Rattle.std.specs.Prelude.{◌≡◌, ◌&&◌, ℕ, Bool, List, Option, if◌then◌else◌}
use Rattle.script.specs.Run.{Relation, HasRun}

-- the script was run from a caller that the making gives, and 1 stands for a refused line that ended it (profile)
pub record RanAs {C : Type 0} (asks : Relation C) (stop : Bool) (told held held' : Option (List ℕ)) (s : C) (status : ℕ) : Type 0 where
  pub after : C
  pub refused : Bool
  pub run : HasRun asks stop told held held' s after refused
  pub is : status ≡ (if refused && stop then 1 else 0)

-- the script was run from one value of the caller to another, and 1 stands for a refused line that ended it (profile)
pub record RanTo {C : Type 0} (asks : Relation C) (stop : Bool) (told held held' : Option (List ℕ)) (s t : C) (status : ℕ) : Type 0 where
  pub refused : Bool
  pub run : HasRun asks stop told held held' s t refused
  pub is : status ≡ (if refused && stop then 1 else 0)
