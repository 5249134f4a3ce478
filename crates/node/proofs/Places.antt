-- Lists of places, and the forests that they are.
use Rattle.std.proofs.Common.{◌≡◌, ℕ, zero, suc, ◌+◌, ◌-◌, ◌≤◌, List, [], ◌∷◌, length, get_or, replicate, map, Option, Some, None, refl, ap, ◌∙◌, arith, sub-one}
use Rattle.std.specs.Option.{option_map}
use Rattle.node.specs.Shape.{Forest, done, gap, grown, Part, forest_of, part_at}
use Rattle.node.specs.Entries.{IsWell, width, cell_count}
use Rattle.node.specs.Kid.{places, places_of, IsKid, cells}

pub places-forest_of : {A : Type 0} (f : A → Part) (xs : List (Option A)) (i : ℕ) → get_or (places (forest_of f xs)) i None ≡ option_map f (get_or xs i None)
places-forest_of f [] i = refl
places-forest_of f (None ∷ xs) zero = refl
places-forest_of f (None ∷ xs) (suc i) = places-forest_of f xs i
places-forest_of f (Some x ∷ xs) zero = refl
places-forest_of f (Some x ∷ xs) (suc i) = places-forest_of f xs i

pub length-places : {A : Type 0} (f : A → Part) (xs : List (Option A)) → length (places (forest_of f xs)) ≡ length xs
length-places f [] = refl
length-places f (None ∷ xs) = ap suc (length-places f xs)
length-places f (Some x ∷ xs) = ap suc (length-places f xs)

pub forest_of-map : {A : Type 0} (f : A → Part) (xs : List (Option A)) → forest_of (λ p. p) (map (option_map f) xs) ≡ forest_of f xs
forest_of-map f [] = refl
forest_of-map f (None ∷ xs) = ap gap (forest_of-map f xs)
forest_of-map f (Some x ∷ xs) = ap (grown (f x).cell (f x).below) (forest_of-map f xs)

pub part_at-places : (f : Forest) (k : ℕ) → part_at f k ≡ get_or (places f) k None
part_at-places done k = refl
part_at-places (gap r) zero = refl
part_at-places (gap r) (suc k) = part_at-places r k
part_at-places (grown c b r) zero = refl
part_at-places (grown c b r) (suc k) = part_at-places r k

pub forest-places : (f : Forest) → forest_of (λ p. p) (places f) ≡ f
forest-places done = refl
forest-places (gap r) = ap gap (forest-places r)
forest-places (grown c b r) = ap (grown c b) (forest-places r)

pub no_place : (n k : ℕ) → get_or {A = Option Part} (replicate n None) k None ≡ None
no_place zero k = refl
no_place (suc n) zero = refl
no_place (suc n) (suc k) = no_place n k

-- parts that may be absent, under a parent born at g
abbrev pub AreKids : ℕ → ℕ → List (Option Part) → Type 0
AreKids l g [] = Unit {0}
AreKids l g (o ∷ os) = IsKid l g o × AreKids l g os

pub AreKids-places : (l g : ℕ) (f : Forest) → IsWell l g f → AreKids l g (places f)
AreKids-places l g done w = tt
AreKids-places l g (gap r) w = (tt, AreKids-places l g r w)
AreKids-places l g (grown c b r) w = ((w.0, (w.1, w.2)), AreKids-places l g r w.3)

pub AreKids-wider : (l g g' : ℕ) (os : List (Option Part)) → g ≤ g' → AreKids l g os → AreKids l g' os
AreKids-wider l g g' [] h a = tt
AreKids-wider l g g' (None ∷ os) h a = (tt, AreKids-wider l g g' os h a.1)
AreKids-wider l g g' (Some p ∷ os) h a = ((omega (arith, a.0.0), a.0.1), AreKids-wider l g g' os h a.1)

pub AreKids-at : (l g : ℕ) (os : List (Option Part)) (i : ℕ) → AreKids l g os → IsKid l g (get_or os i None)
AreKids-at l g [] i a = tt
AreKids-at l g (o ∷ os) zero a = a.0
AreKids-at l g (o ∷ os) (suc i) a = AreKids-at l g os i a.1

pub length-places-width : (f : Forest) → length (places f) ≡ width f
length-places-width done = refl
length-places-width (gap r) = let h = length-places-width r in omega (arith, h)
length-places-width (grown c b r) = let h = length-places-width r in omega (arith, h)

none_kids : (n l g : ℕ) → AreKids l g (replicate n None)
none_kids zero l g = tt
none_kids (suc n) l g = (tt, none_kids n l g)

-- the places of a part, absent or not, are sixteen kids
pub kids_of : (l g : ℕ) (old : Option Part) → IsKid (suc l) g old → (length (places_of old) ≡ 16) × AreKids l g (places_of old)
kids_of l g None k = (refl, none_kids 16 l g)
kids_of l g (Some p) k =
    let w : IsWell l p.cell.birth p.below = rw sub-one at k.1.1 in
    (length-places-width p.below ∙ k.1.0.0, AreKids-wider l p.cell.birth g (places p.below) k.0 (AreKids-places l p.cell.birth p.below w))

pub forest_width : (os : List (Option Part)) → width (forest_of (λ p. p) os) ≡ length os
forest_width [] = refl
forest_width (None ∷ os) = let h = forest_width os in omega (arith, h)
forest_width (Some p ∷ os) = let h = forest_width os in omega (arith, h)

pub forest_well : (l g : ℕ) (os : List (Option Part)) → AreKids l g os → IsWell l g (forest_of (λ p. p) os)
forest_well l g [] a = tt
forest_well l g (None ∷ os) a = forest_well l g os a.1
forest_well l g (Some p ∷ os) a = (a.0.0, a.0.1.0, a.0.1.1, forest_well l g os a.1)

pub cells-cons : (o : Option Part) (os : List (Option Part)) → cell_count (forest_of (λ p. p) (o ∷ os)) ≡ cells o + cell_count (forest_of (λ p. p) os)
cells-cons None os = omega arith
cells-cons (Some p) os = omega arith

pub cell_count-places : (f : Forest) → cell_count (forest_of (λ p. p) (places f)) ≡ cell_count f
cell_count-places f = ap cell_count (forest-places f)

no_cells : (n : ℕ) → cell_count (forest_of (λ p. p) (replicate n None)) ≡ 0
no_cells zero = refl
no_cells (suc n) = no_cells n

-- how many cells are below a part, absent or not
pub cells-below : (old : Option Part) (n : ℕ) → cells old ≡ n → cell_count (forest_of (λ p. p) (places_of old)) ≡ n - 1
cells-below None n e = let z = no_cells 16 in omega (arith, z, e)
cells-below (Some p) n e = let z = cell_count-places p.below in omega (arith, z, e)
