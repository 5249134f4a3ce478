-- The writes of a change of one path of a tree: a block that moves is copied from its old number, and of sixteen pointers one is written anew.
use Rattle.std.specs.Prelude.{◌≡◌, ◌==◌, ◌&&◌, ◌*◌, ◌/◌, ◌%◌, ◌^◌, ◌<◌, ◌≤◌, ℕ, zero, suc, Bool, true, false, List, [], ◌∷◌, Option, None, Some, IfSome, IsSome, cond, length, replicate, set, slice_index_or}
use Rattle.std.specs.List.{flat_map, range_with_len}
use Rattle.std.specs.Option.{option_map}
use Rattle.std.specs.FinMap.{get}
use Rattle.base.specs.declared.number.Key.{Key}
use Rattle.base.specs.Key.{covers, parent}
use Rattle.base.specs.Map.{Map, Block, block_of}
use Rattle.tree.specs.Reading.{key_over}
use Rattle.tree.specs.declared.block.Root.{Root}
use Rattle.image.specs.ImageBlocks.{pointer_bytes, pointers_bytes, maybe_block}
use Rattle.zalloc.specs.declared.BlockState.{BlockState}
use Rattle.image.specs.BlockWrites.{bytes_put}
use Rattle.image.specs.Image.{IsOpen}

-- where the blocks of a path are, by their levels (profile)
abbrev pub block_on : List (Option Root) → ℕ → Option Block
block_on path l = maybe_block (slice_index_or path l None)

-- (profile)
abbrev pub is_same_block : Option Block → Option Block → Bool
is_same_block None None = true
is_same_block (Some a) (Some b) = (a.number == b.number) && (a.birth == b.birth)
is_same_block None (Some b) = false
is_same_block (Some a) None = false

-- the write of an indirect block that points to blocks of level l, by where it was and where it is, and where the child at the place i was and is: no write where it stays in its place with the same child (profile)
abbrev pub inner_writes : (ℕ → List ℕ) → ℕ → ℕ → Option Block → Option Block → Option Block → Option Block → List (ℕ × List ℕ)
inner_writes image l i b None c d = []
inner_writes image l i None (Some n) c d = (n.number, pointers_bytes l (set (replicate 16 None) i d)) ∷ []
inner_writes image l i (Some o) (Some n) c d = cond ((o.number == n.number) && is_same_block c d) [] ((n.number, bytes_put (image o.number) (32 * i) (pointer_bytes l d)) ∷ [])

-- (profile)
abbrev pub leaf_writes : Option Block → List ℕ → List (ℕ × List ℕ)
leaf_writes None bytes = []
leaf_writes (Some n) bytes = (n.number, bytes) ∷ []

-- the write of the block of a level over a leaf, which has these bytes (profile)
abbrev pub level_writes : (ℕ → List ℕ) → ℕ → (ℕ → Option Block) → (ℕ → Option Block) → List ℕ → ℕ → List (ℕ × List ℕ)
level_writes image leaf before after bytes zero = leaf_writes (after 0) bytes
level_writes image leaf before after bytes (suc l) = inner_writes image l ((leaf / 16 ^ l) % 16) (before (suc l)) (after (suc l)) (before l) (after l)

-- those of the levels below one (profile)
abbrev pub path_writes : (ℕ → List ℕ) → ℕ → (ℕ → Option Block) → (ℕ → Option Block) → List ℕ → ℕ → List (ℕ × List ℕ)
path_writes image leaf before after bytes levels = flat_map (level_writes image leaf before after bytes) (range_with_len 0 levels)

-- one map becomes another by a change of the path to a leaf, whose blocks were and are there: each key off the path has what it had, unless the block above it is gone (On-Disk Specification, chapter 3)
pub record IsPathChange (old new : Map) (leaf : ℕ) (before after : ℕ → Option Block) (bytes : List ℕ) : Type 0 where
  pub before_is : (l : ℕ) → l ≤ 5 → before l ≡ option_map block_of (get old (key_over leaf l))
  pub after_is : (l : ℕ) → l ≤ 5 → after l ≡ option_map block_of (get new (key_over leaf l))
  pub contents : IfSome (get new (key_over leaf 0)) (λ c. c.bytes ≡ bytes)
  pub rest : (k : Key) → covers k leaf ≡ false → (k.level < 5 → IsSome (get new (parent k))) → get new k ≡ get old k

-- where a block was that moves or stays no other one of the path is written (profile)
abbrev pub AreSourcesApart : (ℕ → Option Block) → (ℕ → Option Block) → Type 0
AreSourcesApart before after =
    (l m : ℕ) (o n k : Block) → l ≤ 5 → m ≤ 5 → before l ≡ Some o → after l ≡ Some n → after m ≡ Some k → k.number ≡ o.number → l ≡ m

-- each block of the path may be written where it is, and those before were blocks of the image (profile)
pub record IsPathOpen (kept : List BlockState) (before after : ℕ → Option Block) : Type 0 where
  pub open_to : (l : ℕ) (n : Block) → l ≤ 5 → after l ≡ Some n → IsOpen kept n.number
  pub there : (l : ℕ) (o : Block) → l ≤ 5 → before l ≡ Some o → o.number < length kept
