-- Laws of images.
use Rattle.std.specs.Prelude.{◌≡◌, ◌<◌, ◌≤◌, ◌*◌, ℕ, List, Option, Some, length, take}
use Rattle.zalloc.specs.declared.BlockState.{BlockState}
use Rattle.base.specs.declared.number.Key.{Key}
use Rattle.base.specs.Map.{Map, Cell, Block, IsTree, block_of, contents}
use Rattle.std.specs.FinMap.{get}
use Rattle.std.specs.Option.{option_map}
use Rattle.tree.specs.Reading.{key_over}
use Rattle.base.specs.Rewrite.{Changes, rewrite, is_touched}
use Rattle.node.specs.Unique.{IsUnique}
use Rattle.tree.specs.Asking.{AreAllocated}
use Rattle.tree.specs.Change.{Shown as Changed, IsChange}
use Rattle.image.specs.ImageBlocks.{block_at}
use Rattle.image.specs.ImageWalk.{walk}
use Rattle.image.specs.HasBlocks.{HasBlocks, IsWritable, root_of}
use Rattle.image.specs.BlockWrites.{blocks_put, images_put, writes_of, AreWritesOf, AreApart}
use Rattle.zalloc.specs.declared.TheConstants.{MOST_BLOCKS}
use Rattle.image.specs.Image.{ShownImage, image_of, IsImageSize, AreOpen, AreSameBlocks}
use Rattle.image.specs.PathWrites.{path_writes, IsPathChange, IsPathOpen, AreSourcesApart}

-- where an image holds a map, the walk from the map's root gives its contents
abbrev pub WalksToContents : Type 0
WalksToContents = (image : ℕ → List ℕ) (n : ℕ) (m : Map) → HasBlocks image m → IsWritable n m → walk image n (root_of m) ≡ Some (contents m)

-- at every moment of writes that are allowed, a map whose numbers are kept can be walked
abbrev pub WalksAtEachMoment : Type 0
WalksAtEachMoment =
    (kept : List BlockState) (image : List ℕ) (ws : List (ℕ × List ℕ)) (m : Map)
    → length image ≡ 512 * length kept → AreOpen kept ws → AreAllocated m kept → IsWritable (length kept) m → HasBlocks (block_at image) m
    → (i : ℕ) → walk (block_at (images_put image (take i ws))) (length kept) (root_of m) ≡ Some (contents m)

-- where an image holds a map, and the new blocks of a rewrite are written, it holds the rewritten map
abbrev pub HoldsTheRewrite : Type 0
HoldsTheRewrite =
    (m : Map) (c : Changes) (g : ℕ) (number : Key → ℕ) (image : ℕ → List ℕ) (ws : List (ℕ × List ℕ))
    → HasBlocks image m → AreWritesOf (rewrite m c g number) (is_touched m c) ws → AreApart m (is_touched m c) (rewrite m c g number) (is_touched m c)
    → HasBlocks (blocks_put image ws) (rewrite m c g number)

-- the new blocks of a change of a tree, as the change tells them, are the writes of the change
abbrev pub ChangesTellTheirWrites : Type 0
ChangesTellTheirWrites =
    (m : Map) (c : Changes) (g young : ℕ) (states : List BlockState) (v : Changed)
    → IsChange m c g young states v → IsUnique v.new → AreWritesOf v.new (is_touched m c) (writes_of v.new v.made)

-- where an image holds a map, and the writes of a change of one path are done, it holds the new map, and at each number that no new block of the path has stands what stood there
abbrev pub HoldsThePath : Type 0
HoldsThePath =
    (n : ℕ) (image : ℕ → List ℕ) (old new : Map) (leaf : ℕ) (before after : ℕ → Option Block) (bytes : List ℕ)
    → IsTree n old → IsTree n new → IsUnique new → IsPathChange old new leaf before after bytes → HasBlocks image old
    → HasBlocks (blocks_put image (path_writes image leaf before after bytes 6)) new
    × ((q : ℕ) → ((l : ℕ) (x : Cell) → l ≤ 5 → get new (key_over leaf l) ≡ Some x → x.number ≡ q → ⊥) → blocks_put image (path_writes image leaf before after bytes 6) q ≡ image q)

-- those writes are allowed: at numbers that are not kept, each of a whole block
abbrev pub WritesOfPathsAreOpen : Type 0
WritesOfPathsAreOpen =
    (image bytes : List ℕ) (kept : List BlockState) (leaf : ℕ) (before after : ℕ → Option Block)
    → length image ≡ 512 * length kept → length bytes ≡ 512 → IsPathOpen kept before after → AreOpen kept (path_writes (block_at image) leaf before after bytes 6)

-- where a change of a tree chose the numbers, no block of a path is overwritten that stays or moves
abbrev pub ChangesKeepTheirSources : Type 0
ChangesKeepTheirSources =
    (m : Map) (c : Changes) (g young : ℕ) (states : List BlockState) (v : Changed) (leaf : ℕ) (before after : ℕ → Option Block)
    → IsChange m c g young states v → IsUnique m → AreAllocated m states
    → ((l : ℕ) → l ≤ 5 → before l ≡ option_map block_of (get m (key_over leaf l))) → ((l : ℕ) → l ≤ 5 → after l ≡ option_map block_of (get v.new (key_over leaf l)))
    → AreSourcesApart before after

-- an image that is read from the bytes of all blocks of another has the same blocks; that they are an image's is so from one block on
abbrev pub ReadsBack : Type 0
ReadsBack =
    (i : ShownImage) → length i.bytes ≡ 512 * length i.kept → 0 < length i.kept → length i.kept ≤ MOST_BLOCKS
    → IsImageSize (length i.bytes) × AreSameBlocks i (image_of i.bytes)
