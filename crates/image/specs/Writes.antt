-- What a change of a live map writes into the image.
use Rattle.std.specs.Prelude.{◌≡◌, ◌↔◌, ◌≤◌, ℕ, List, [], ◌∷◌, Option, None, Some, IsSome, length, map, slice_index_or}
use Rattle.std.specs.List.{All}
use Rattle.std.specs.Option.{option_map}
use Rattle.std.specs.FinMap.{get}
use Rattle.base.specs.declared.number.Key.{Key}
use Rattle.base.specs.Map.{Map, Block, IsTree, block_of}
use Rattle.base.specs.Rewrite.{rewrite}
use Rattle.base.specs.Surveys.{IsIn, IsMadeKey}
use Rattle.batch.specs.Updates.{changes_of, first_of}
use Rattle.batch.specs.declared.numbers.NewBlock.{NewBlock}
use Rattle.batch.specs.declared.update.Update.{Update}
use Rattle.batch.specs.declared.update.Update.TheVariants.{Write, Punch}
use Rattle.tree.specs.ChangeParts.{made_pair}
use Rattle.tree.specs.Reading.{key_over}
use Rattle.tree.specs.declared.block.Root.{Root}
use Rattle.zalloc.specs.declared.BlockState.{BlockState}
use Rattle.image.specs.BlockWrites.{written_pair}
use Rattle.image.specs.Image.{AreAllOpen}
use Rattle.image.specs.PathWrites.{block_on, path_writes, IsPathOpen, AreSourcesApart}
use Rattle.image.specs.Updates.{IsWritten}
use Rattle.image.specs.declared.writes.ChangedPath.{ChangedPath}
use Rattle.image.specs.declared.writes.Writes.{Writes}
use Rattle.image.specs.declared.writes.Writes.TheVariants.{Idle, OnPath, Each}

-- the blocks that are written, each with its number, where the image has these blocks (On-Disk Specification, chapter 3)
abbrev pub writes_in : (ℕ → List ℕ) → Writes → List (ℕ × List ℕ)
writes_in image Idle = []
writes_in image (OnPath path bytes) = path_writes image path.value.leaf (block_on path.value.before) (block_on path.value.after) bytes 6
writes_in image (Each blocks) = map written_pair blocks.items

-- they may be written: at numbers that the kept states don't have Allocated, each of a whole block, none before it is copied (profile)
abbrev pub MayWrite : List BlockState → Writes → Type 0
MayWrite kept Idle = Unit {0}
MayWrite kept (OnPath path bytes) = IsPathOpen kept (block_on path.value.before) (block_on path.value.after) × AreSourcesApart (block_on path.value.before) (block_on path.value.after) × (length bytes ≡ 512)
MayWrite kept (Each blocks) = AreAllOpen kept blocks.items × All (λ b. length b.1 ≡ 512) blocks.items

-- where the blocks are that a map has on the path to a leaf, by their levels (On-Disk Specification, chapter 3)
abbrev pub IsPathOf : Map → ℕ → (ℕ → Option Block) → Type 0
IsPathOf m leaf path = (l : ℕ) → l ≤ 5 → path l ≡ option_map block_of (get m (key_over leaf l))

-- a path is that to the first leaf of an update (profile)
abbrev pub IsBegun : Update → ChangedPath → Type 0
IsBegun u path = path.leaf ≡ first_of u

-- what an update punches stands on the path to its first leaf (profile)
abbrev pub IsThere : List (Option Root) → Update → Type 0
IsThere path (Write leaf bytes) = Unit {0}
IsThere path (Punch key) = IsSome (slice_index_or path key.level None)

-- an update punches what isn't there (profile)
abbrev pub IsMissing : List (Option Root) → Update → Type 0
IsMissing path (Write leaf bytes) = ⊥
IsMissing path (Punch key) = slice_index_or path key.level None ≡ None

-- the map has a block at each of these keys (profile)
abbrev pub ArePresent : Map → List NewBlock → Type 0
ArePresent m = All (λ b. IsSome (get m b.key))

-- a path has just these new blocks of a group, each at its level (On-Disk Specification, chapter 2)
pub record ArePlaced (group : ℕ) (made : List NewBlock) (path : ℕ → Option Block) : Type 0 where
  pub only : (l : ℕ) (b : Block) → l ≤ 5 → path l ≡ Some b → (x : NewBlock) × IsIn made x × (x.key.level ≡ l) × (b ≡ record { number = x.block.0; birth = group })
  pub each : (x : NewBlock) → IsIn made x → x.key.level ≤ 5 → IsSome (path x.key.level)

-- in a group an update has led from one map to another, and these are its new blocks (On-Disk Specification, chapter 3)
pub record HasMade (old : Map) (u : Update) (group : ℕ) (made : List NewBlock) (new : Map) : Type 0 where
  pub number : Key → ℕ
  pub new_is : new ≡ rewrite old (changes_of (u ∷ [])) group number
  pub each : (k : Key) (n : ℕ) → IsIn (map made_pair made) (k, n) ↔ (IsMadeKey old (changes_of (u ∷ [])) k × (number k ≡ n))

-- what an update leaves to be written that has led to this map, where that was the path to its first leaf before (On-Disk Specification,
-- chapter 3)
abbrev pub IsWrittenAs : Map → Update → List (Option Root) → Writes → Type 0
IsWrittenAs m u path Idle = IsMissing path u
IsWrittenAs m u path (OnPath to bytes) = (IsBegun u to.value × IsWritten u bytes × (length bytes ≡ 512)) × (to.value.before ≡ path) × IsPathOf m to.value.leaf (block_on to.value.after) × IsThere path u
IsWrittenAs m u path (Each blocks) = ⊥

-- what an update leaves to be written that has made these blocks in a group, where that was the path to its first leaf before, whatever the
-- maps before and after it are (profile)
abbrev pub IsLeftBy : Update → ℕ → List NewBlock → List (Option Root) → Writes → Type 0
IsLeftBy u group made path writes =
    (n : ℕ) (old new : Map) → IsTree n old → HasMade old u group made new → IsPathOf old (first_of u) (block_on path) → IsWrittenAs new u path writes
