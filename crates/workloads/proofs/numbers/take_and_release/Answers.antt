use Rattle.std.proofs.Common.{◌≡◌, ℕ, zero, suc, List, [], ◌∷◌, Some, slice_set, refl, ap, ◌∙◌}
use Rattle.std.specs.List.{slice_get}
use Rattle.workloads.proofs.numbers.take_and_release.Goals as goal

-- what was put where something stood stands there
set_there : {X : Type 0} (xs : List X) (i : ℕ) (a b : X) → slice_get xs i ≡ Some b → slice_get (slice_set xs i a) i ≡ Some a
set_there [] i a b e = absurd cc
set_there (x ∷ xs) zero a b e = refl
set_there (x ∷ xs) (suc i) a b e = set_there xs i a b e

pub release-requires : goal.release-requires
release-requires c = ap (λ states. slice_get states c.in-Some.number.0) c.take.ensures ∙ set_there c.loop.allocator c.in-Some.number.0 _ _ c.in-Some.ensures.found
