-- Facts on all elements of the shortest lists.
use Rattle.std.proofs.Common.{◌∷◌, [], zero, suc, arith}
use Rattle.std.specs.Prelude.{All}

pub all_none : {X : Type 0} (P : X → Type 0) → All P []
all_none P k d h = absurd (omega arith)

pub all_one : {X : Type 0} (P : X → Type 0) (x : X) → P x → All P (x ∷ [])
all_one P x p zero d h = p
all_one P x p (suc k) d h = absurd (omega arith)
