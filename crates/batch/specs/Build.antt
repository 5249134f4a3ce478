-- A part after a batch, and the numbers of its new blocks.
use Rattle.std.specs.Prelude.{◌≡◌, ℕ, zero, suc, ◌+◌, ◌*◌, Bool, cond, not, ◌&&◌, ◌==◌, List, [], ◌∷◌, ◌++◌, drop, Option, Some, None, is_some, slice_get}
use Rattle.std.specs.Option.{option_map}
use Rattle.base.specs.declared.number.Key.{Key}
use Rattle.base.specs.declared.number.BlockNo.{BlockNo}
use Rattle.base.specs.declared.number.Dead.{Dead}
use Rattle.batch.specs.declared.numbers.NewBlock.{NewBlock}
use Rattle.batch.specs.declared.findings.Claim.{Claim}
use Rattle.node.specs.Entries.{key_at}
use Rattle.node.specs.Kid.{places_of}
use Rattle.batch.specs.Said.{Said, silent, hole, full}
use Rattle.node.specs.Shape.{Part, done, forest_of}
use Rattle.batch.specs.Touch.{over_kids, touched, stays, listing}

-- the keys that are made, from the last to the first (profile)
abbrev pub made_keys : (ℕ → Said) → ℕ → ℕ → Option Part → List Key
made_keys s = listing (λ l j o. cond (touched s l j o && stays s l j o) (key_at l j ∷ []) [])

-- one part for each place (profile)
abbrev pub parts : (ℕ → Option Part → Option Part) → ℕ → List (Option Part) → List (Option Part)
parts f = over_kids (λ a b. a ++ b) [] (λ j o. f j o ∷ [])

-- (profile)
abbrev pub leaf_rebuilt : Said → ℕ → ℕ → Option Part → Option Part
leaf_rebuilt silent n g o = o
leaf_rebuilt hole n g o = None
leaf_rebuilt (full bytes) n g o = Some (record { cell = record { number = n; birth = g; bytes = bytes }; below = done })

-- a part with new places below it, where it is touched and stays (On-Disk Specification, chapter 3)
abbrev pub remade : Bool → Bool → ℕ → ℕ → List (Option Part) → Option Part → Option Part
remade touched stays n g kids o = cond touched (cond stays (Some (record { cell = record { number = n; birth = g; bytes = [] }; below = forest_of (λ p. p) kids })) None) o

-- a part after a batch: each touched key that stays has a new cell, born in group g (On-Disk Specification, chapter 3)
unfoldable pub rebuilt : (ℕ → Said) → (Key → ℕ) → ℕ → ℕ → ℕ → Option Part → Option Part
rebuilt s number g zero j o = leaf_rebuilt (s j) (number (key_at 0 j)) g o
rebuilt s number g (suc l) j o = remade (touched s (suc l) j o) (stays s (suc l) j o) (number (key_at (suc l) j)) g (parts (rebuilt s number g l) (16 * j) (places_of o)) o

-- what stands where there is no new block (profile)
abbrev pub no_block : NewBlock
no_block = record { key = record { level = 0; index = 0 }; block = record { 0 = 0 } }

-- (profile)
abbrev pub is_same : Key → Key → Bool
is_same j k = (j.level == k.level) && (j.index == k.index)

-- the number of a key among new blocks (profile)
unfoldable pub number_of : List NewBlock → Key → ℕ
number_of [] k = 0
number_of (b ∷ bs) k = cond (is_same b.key k) b.block.0 (number_of bs k)

-- the keys of new blocks from a place on begin with these (profile)
unfoldable pub HasKeys : List NewBlock → ℕ → List Key → Type 0
HasKeys bs i [] = Unit {0}
HasKeys bs i (k ∷ ks) = (option_map (λ (b : NewBlock). b.key) (slice_get bs i) ≡ Some k) × HasKeys bs (i + 1) ks

-- (profile)
abbrev pub is_fresh : Claim → Bool
is_fresh c = not (is_some c.kept)

-- (profile)
abbrev pub first_number : List BlockNo → BlockNo
first_number [] = record { 0 = 0 }
first_number (n ∷ ns) = n

-- (profile)
abbrev pub number_for : Option Dead → List BlockNo → BlockNo
number_for None ns = first_number ns
number_for (Some d) ns = d.block

-- (profile)
abbrev pub numbers_after : Option Dead → List BlockNo → List BlockNo
numbers_after None ns = drop 1 ns
numbers_after (Some d) ns = ns

-- the claims with their numbers: each that keeps a block has its number, and the others take the numbers in turn (profile)
unfoldable pub filled : List Claim → List BlockNo → List NewBlock
filled [] ns = []
filled (c ∷ cs) ns = record { key = c.key; block = number_for c.kept ns } ∷ filled cs (numbers_after c.kept ns)
