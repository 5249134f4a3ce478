-- Writes of blocks, one after the other.
use Rattle.std.specs.Prelude.{◌≡◌, ◌==◌, ◌+◌, ◌*◌, ℕ, Bool, true, false, List, [], ◌∷◌, ◌++◌, Some, cond, length, map, take, drop, unwrap_or}
use Rattle.std.specs.Option.{option_map}
use Rattle.std.specs.FinMap.{get}
use Rattle.base.specs.declared.number.BlockNo.{BlockNo}
use Rattle.base.specs.declared.number.Key.{Key}
use Rattle.base.specs.Map.{Map, Cell}
use Rattle.base.specs.Surveys.{IsIn, AreDifferent}
use Rattle.image.specs.ImageBlocks.{bytes_of}

-- the bytes after others were put in from a place on (profile)
unfoldable pub bytes_put : List ℕ → ℕ → List ℕ → List ℕ
bytes_put old at bytes = take at old ++ (bytes ++ drop (at + length bytes) old)

-- the blocks after a write of one (profile)
abbrev pub block_put : (ℕ → List ℕ) → ℕ → List ℕ → ℕ → List ℕ
block_put image number bytes q = cond (q == number) bytes (image q)

-- the blocks after writes in turn, each of a number with its bytes (profile)
abbrev pub blocks_put : (ℕ → List ℕ) → List (ℕ × List ℕ) → ℕ → List ℕ
blocks_put image [] = image
blocks_put image (w ∷ ws) = blocks_put (block_put image w.0 w.1) ws

-- the bytes of the image after writes in turn (profile)
abbrev pub images_put : List ℕ → List (ℕ × List ℕ) → List ℕ
images_put image [] = image
images_put image (w ∷ ws) = images_put (bytes_put image (512 * w.0) w.1) ws

-- the write of a block with its number (profile)
abbrev pub written_pair : BlockNo × List ℕ → ℕ × List ℕ
written_pair b = (b.0.0, b.1)

-- no number that is written is one of a set's (profile)
abbrev pub AreOutside : (ℕ → Type 0) → List (ℕ × List ℕ) → Type 0
AreOutside kept [] = Unit {0}
AreOutside kept (w ∷ ws) = (¬ (kept w.0)) × AreOutside kept ws

-- the same block stands at each number of a set (profile)
abbrev pub AreSameAt : (ℕ → Type 0) → (ℕ → List ℕ) → (ℕ → List ℕ) → Type 0
AreSameAt kept old new = (b : ℕ) → kept b → new b ≡ old b

-- the writes of the blocks that a map has at these keys, each with its number (On-Disk Specification, chapter 3)
abbrev pub writes_of : Map → List (Key × ℕ) → List (ℕ × List ℕ)
writes_of m made = map (λ e. (e.1, unwrap_or (option_map (bytes_of m e.0) (get m e.0)) [])) made

-- these are the writes of the blocks that a map has at touched keys, each once, and no others (On-Disk Specification, chapter 3: a changed block is written anew)
pub record AreWritesOf (m : Map) (touched : Key → Bool) (ws : List (ℕ × List ℕ)) : Type 0 where
  pub each : (k : Key) (c : Cell) → touched k ≡ true → get m k ≡ Some c → IsIn ws (c.number, bytes_of m k c)
  pub only : (w : ℕ × List ℕ) → IsIn ws w → (k : Key) × (c : Cell) × (touched k ≡ true) × (get m k ≡ Some c) × (w.0 ≡ c.number)
  pub once : AreDifferent (map (λ w. w.0) ws)

-- the new blocks that a map has at touched keys have the number of no block of another map that stays (On-Disk Specification, chapter 3: a live block is never overwritten)
abbrev pub AreApart : Map → (Key → Bool) → Map → (Key → Bool) → Type 0
AreApart old stays new touched =
    (j k : Key) (x y : Cell) → get old j ≡ Some x → stays j ≡ false → touched k ≡ true → get new k ≡ Some y → x.number ≡ y.number → ⊥
