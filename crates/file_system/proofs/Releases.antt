-- What stays of the blocks that a tree released.
use Rattle.std.proofs.Common.{◌≡◌, Bool, true, false, cond, List, [], ◌∷◌, map, refl, ap, ◌∙◌}
use Rattle.std.specs.List.{filter}

-- a test of what the elements stand for
pub map_filter : {X Y : Type 0} (h : X → Y) (test : Y → Bool) (xs : List X) → map h (filter (λ x. test (h x)) xs) ≡ filter test (map h xs)
map_filter h test [] = refl
map_filter h test (x ∷ xs) = by (test (h x)) ∙ ap (λ v. cond (test (h x)) (h x ∷ v) v) (map_filter h test xs)
  where
    by : (b : Bool) → map h (cond b (x ∷ filter (λ y. test (h y)) xs) (filter (λ y. test (h y)) xs)) ≡ cond b (h x ∷ map h (filter (λ y. test (h y)) xs)) (map h (filter (λ y. test (h y)) xs))
    by true = refl
    by false = refl
