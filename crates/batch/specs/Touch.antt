-- What a batch does to a part: which of its keys are touched, which stay, and which blocks go.
use Rattle.std.specs.Prelude.{ℕ, zero, suc, ◌+◌, ◌*◌, Bool, true, false, cond, not, ◌||◌, ◌&&◌, nat_le, List, [], ◌∷◌, ◌++◌, Option, Some, None, is_some}
use Rattle.std.specs.Option.{option_map}
use Rattle.base.specs.declared.number.Key.{Key}
use Rattle.base.specs.declared.number.Dead.{Dead}
use Rattle.batch.specs.declared.findings.Claim.{Claim}
use Rattle.node.specs.Cells.{dead_of}
use Rattle.node.specs.Entries.{key_at}
use Rattle.node.specs.Kid.{places_of}
use Rattle.batch.specs.Said.{Said, silent, hole, full}
use Rattle.node.specs.Shape.{Part}

-- what places give together, the first of which has the index j (profile)
abbrev pub over_kids : {A : Type 0} → (A → A → A) → A → (ℕ → Option Part → A) → ℕ → List (Option Part) → A
over_kids join none f j [] = none
over_kids join none f j (o ∷ os) = join (f j o) (over_kids join none f (j + 1) os)

-- (profile)
abbrev pub any_kid : (ℕ → Option Part → Bool) → ℕ → List (Option Part) → Bool
any_kid = over_kids (λ a b. a || b) false

-- the lists of places, that of the last one first (profile)
abbrev pub later_first : {A : Type 0} → (ℕ → Option Part → List A) → ℕ → List (Option Part) → List A
later_first = over_kids (λ a b. b ++ a) []

-- (profile)
abbrev pub leaf_touched : Said → Option Part → Bool
leaf_touched silent o = false
leaf_touched hole o = is_some o
leaf_touched (full bytes) o = true

-- (profile)
abbrev pub leaf_stays : Said → Option Part → Bool
leaf_stays silent o = is_some o
leaf_stays hole o = false
leaf_stays (full bytes) o = true

-- whether the part of a level with an index is touched: a leaf of it is written, or is punched and present (On-Disk Specification, chapter 3)
unfoldable pub touched : (ℕ → Said) → ℕ → ℕ → Option Part → Bool
touched s zero j o = leaf_touched (s j) o
touched s (suc l) j o = any_kid (touched s l) (16 * j) (places_of o)

-- whether it is present afterwards: a leaf of it is (profile)
unfoldable pub stays : (ℕ → Said) → ℕ → ℕ → Option Part → Bool
stays s zero j o = leaf_stays (s j) o
stays s (suc l) j o = cond (touched s (suc l) j o) (any_kid (stays s l) (16 * j) (places_of o)) (is_some o)

-- what the keys at and below one give, from the last to the first in their order (profile)
unfoldable pub listing : {A : Type 0} → (ℕ → ℕ → Option Part → List A) → ℕ → ℕ → Option Part → List A
listing own zero j o = own zero j o
listing own (suc l) j o = later_first (listing own l) (16 * j) (places_of o) ++ own (suc l) j o

-- (profile)
abbrev pub own_block : Option Part → Option Dead
own_block = option_map (λ p. dead_of p.cell)

-- a block that was born from the group y on (profile)
abbrev pub young_one : ℕ → Option Dead → Option Dead
young_one y None = None
young_one y (Some d) = cond (nat_le y d.birth.0) (Some d) None

-- the claim of a key, where it is made (profile)
abbrev pub claim_of : Bool → Bool → Key → ℕ → Option Dead → List Claim
claim_of touched stays k y d = cond (touched && stays) (record { key = k; kept = young_one y d } ∷ []) []

-- the block that a key lets go, where it is touched: none that stays in place (profile)
abbrev pub let_go : Bool → Bool → ℕ → Option Dead → List Dead
let_go touched stays y None = []
let_go touched stays y (Some d) = cond (touched && not (stays && nat_le y d.birth.0)) (d ∷ []) []

-- the keys that are made, each with the block that it keeps (profile)
abbrev pub claims : (ℕ → Said) → ℕ → ℕ → ℕ → Option Part → List Claim
claims s y = listing (λ l j o. claim_of (touched s l j o) (stays s l j o) (key_at l j) y (own_block o))

-- the blocks that are let go (profile)
abbrev pub released : (ℕ → Said) → ℕ → ℕ → ℕ → Option Part → List Dead
released s y = listing (λ l j o. let_go (touched s l j o) (stays s l j o) y (own_block o))

-- the blocks that the touched keys had, also those that stay in place (profile)
abbrev pub dropped : (ℕ → Said) → ℕ → ℕ → ℕ → Option Part → List Dead
dropped s y = listing (λ l j o. let_go (touched s l j o) false y (own_block o))
