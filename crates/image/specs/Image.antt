-- What contracts see of an image.
use Rattle.std.specs.Prelude.{◌≡◌, ◌≢◌, ◌<◌, ◌≤◌, ◌-◌, ◌*◌, ◌/◌, ◌%◌, ◌⊎◌, ℕ, List, [], ◌∷◌, ◌++◌, Some, length, replicate, slice_get, vec_capacity}
use Rattle.std.specs.List.{All}
use Rattle.std.specs.declared.vec.Vec.{Vec}
use Rattle.std.specs.declared.alloc.Global.{Global}
use Rattle.zalloc.specs.declared.TheConstants.{MOST_BLOCKS}
use Rattle.zalloc.specs.declared.BlockState.{BlockState}
use Rattle.zalloc.specs.declared.BlockState.TheVariants.{Free, Allocated}
use Rattle.image.specs.ImageBlocks.{block_at}
use Rattle.base.specs.declared.number.BlockNo.{BlockNo}
use Rattle.base.specs.declared.refusal.Refusal.{Refusal}
use Rattle.base.specs.declared.refusal.Refusal.TheVariants.{BadStream, TooMany, NoMemory}

-- its bytes, the states of the numbers that it keeps, and how often they were put in (profile)
pub record ShownImage : Type 0 where
  pub bytes : List ℕ
  pub kept : List BlockState
  pub keeps : ℕ

-- the image that is read from bytes: it keeps no number (profile)
abbrev pub image_of : List ℕ → ShownImage
image_of bytes = record { bytes = bytes; kept = replicate (length bytes / 512) Free; keeps = 0 }

-- two images have as many blocks, with the same bytes: each walk in one is that in the other (profile)
pub record AreSameBlocks (one other : ShownImage) : Type 0 where
  pub bytes : one.bytes ≡ other.bytes
  pub count : length one.kept ≡ length other.kept

-- bytes, with zeros behind them up to a size (profile)
unfoldable pub padded : ℕ → List ℕ → List ℕ
padded size bytes = bytes ++ replicate (size - length bytes) 0

-- the blocks of an image of n blocks of which these bytes were written (profile)
abbrev pub blocks_in : ℕ → List ℕ → ℕ → List ℕ
blocks_in n written = block_at (padded (512 * n) written)

-- what is written is whole blocks of 512 bytes, of an image of at most 4,194,304 blocks, each with its state, and there is room for all of them (profile)
pub record IsLaid (written : Vec ℕ Global) (blocks : ℕ) (kept : List BlockState) : Type 0 where
  pub states : length kept ≡ blocks
  pub few : blocks ≤ MOST_BLOCKS
  pub whole : length written.items % 512 ≡ 0
  pub within : length written.items ≤ 512 * blocks
  pub room : 512 * blocks ≤ vec_capacity written

-- a number of the image that may be written: the kept states don't have it Allocated (profile)
pub record IsOpen (kept : List BlockState) (number : ℕ) : Type 0 where
  pub within : number < length kept
  pub unkept : slice_get kept number ≢ Some Allocated

-- the bytes of an image that may be read: 512 a block, of 1 to 4,194,304 blocks (profile)
pub record IsImageSize (size : ℕ) : Type 0 where
  pub blocks : ℕ
  pub some : 0 < blocks
  pub few : blocks ≤ MOST_BLOCKS
  pub is : size ≡ 512 * blocks

-- why a read may be refused (profile)
abbrev pub IsBadOrNoMemory : Refusal → Type 0
IsBadOrNoMemory r = (r ≡ BadStream) ⊎ (r ≡ NoMemory)

-- why bytes may be refused (profile)
abbrev pub IsTooManyOrNoMemory : Refusal → Type 0
IsTooManyOrNoMemory r = (r ≡ TooMany) ⊎ (r ≡ NoMemory)

-- writes of blocks to numbers that may be written (profile)
abbrev pub AreOpen : List BlockState → List (ℕ × List ℕ) → Type 0
AreOpen kept [] = Unit {0}
AreOpen kept (w ∷ ws) = (IsOpen kept w.0 × (length w.1 ≡ 512)) × AreOpen kept ws

-- each of these blocks has a number that may be written (profile)
abbrev pub AreAllOpen : List BlockState → List (BlockNo × List ℕ) → Type 0
AreAllOpen kept = All (λ b. IsOpen kept b.0.0)
