-- How a part's cells are reached through the list of its places.
use Rattle.std.proofs.Common.{◌≡◌, ◌≢◌, ℕ, zero, suc, ◌+◌, ◌/◌, ◌%◌, ◌-◌, ◌^◌, ◌<◌, List, [], ◌∷◌, length, get_or, Option, Some, None, refl, ap, arith, sub-one}
use Rattle.std.specs.Option.{option_and_then}
use Rattle.base.specs.Counting.{counted, most}
use Rattle.node.specs.Shape.{Part, forest_of, part_at, cell_below, steps_in, steps_below}

-- the part at a place of a list that has one
pub part_at-forest_of : {A : Type 0} (f : A → Part) (xs : List (Option A)) (k : ℕ) (d : Option A) (a : A) → k < length xs → get_or xs k d ≡ Some a → part_at (forest_of f xs) k ≡ Some (f a)
part_at-forest_of f [] k d a h e = absurd (omega arith)
part_at-forest_of f (None ∷ xs) zero d a h e = cc
part_at-forest_of f (None ∷ xs) (suc k) d a h e = part_at-forest_of f xs k d a (omega arith) e
part_at-forest_of f (Some x ∷ xs) zero d a h e = let same : x ≡ a = cc in ap (λ y. Some (f y)) same
part_at-forest_of f (Some x ∷ xs) (suc k) d a h e = part_at-forest_of f xs k d a (omega arith) e

-- a place that is a gap has no part
pub part_at-gap : {A : Type 0} (f : A → Part) (xs : List (Option A)) (k : ℕ) (d : Option A) → get_or xs k d ≡ None → part_at (forest_of f xs) k ≡ None
part_at-gap f [] k d e = refl
part_at-gap f (None ∷ xs) zero d e = refl
part_at-gap f (None ∷ xs) (suc k) d e = part_at-gap f xs k d e
part_at-gap f (Some x ∷ xs) zero d e = cc
part_at-gap f (Some x ∷ xs) (suc k) d e = part_at-gap f xs k d e

pub cell_below-deep : (d : ℕ) (p : Part) (q : ℕ) → d ≢ 0 → cell_below d p q ≡ option_and_then (λ k. cell_below (d - 1) k (q % 16 ^ (d - 1))) (part_at p.below (q / 16 ^ (d - 1)))
cell_below-deep zero p q h = absurd (h refl)
cell_below-deep (suc d) p q h = rw sub-one refl

pub steps_below-deep : (d : ℕ) (p : Part) (q : ℕ) → d ≢ 0 → steps_below d p q ≡ 1 + steps_in (part_at p.below (q / 16 ^ (d - 1))) (λ k. steps_below (d - 1) k (q % 16 ^ (d - 1)))
steps_below-deep zero p q h = absurd (h refl)
steps_below-deep (suc d) p q h = rw sub-one refl

pub counted-counted : (m a b : ℕ) → counted (counted m a) b ≡ counted m (a + b)
unfolding counted most
counted-counted m a b = omega arith

pub counted-none : (m n : ℕ) → m < 2 ^ 64 → n ≡ 0 → m ≡ counted m n
unfolding counted most
counted-none m n h e = let p : 2 ^ 64 ≡ 18446744073709551616 = refl in omega (arith, p)
