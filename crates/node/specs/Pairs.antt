-- The places of a node, as its pairs have them.
use Rattle.std.specs.Prelude.{ℕ, zero, suc, List, [], ◌∷◌, Option, Some, None}
use Rattle.std.specs.declared.sync.Arc.{Arc}
use Rattle.std.specs.declared.alloc.Global.{Global}
use Rattle.node.specs.declared.pair.Pair.{Pair}
use Rattle.node.specs.declared.pair.Pair.TheVariants.{Neither, Left, Right, Both}

-- what stands at the left place (profile)
abbrev pub left_of : {C : Type 0} → Pair C → Option (Arc C Global)
left_of Neither = None
left_of (Left a) = Some a
left_of (Right b) = None
left_of (Both a b) = Some a

-- what stands at the right place (profile)
abbrev pub right_of : {C : Type 0} → Pair C → Option (Arc C Global)
right_of Neither = None
right_of (Left a) = None
right_of (Right b) = Some b
right_of (Both a b) = Some b

-- the left place for 0, and else the right one (profile)
abbrev pub side_of : {C : Type 0} → Pair C → ℕ → Option (Arc C Global)
side_of p zero = left_of p
side_of p (suc n) = right_of p

-- the places of pairs in turn (profile)
abbrev pub places_in : {C : Type 0} → List (Pair C) → List (Option (Arc C Global))
places_in [] = []
places_in (p ∷ ps) = left_of p ∷ (right_of p ∷ places_in ps)
