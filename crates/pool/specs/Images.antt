-- What a pool's image has.
use Rattle.std.specs.Prelude.{◌≡◌, ◌*◌, ℕ, Bool, true, false, List, Some, length, if◌then◌else◌}
use Rattle.std.specs.Option.{option_map}
use Rattle.std.specs.FinMap.{entries}
use Rattle.base.specs.Counting.{counted}
use Rattle.base.specs.Map.{Map, contents}
use Rattle.base.specs.Surveys.{IsIn}
use Rattle.model.specs.State.{State}
use Rattle.model.specs.World.{World, reach_of}
use Rattle.model.specs.declared.request.Request.{Request}
use Rattle.model.specs.declared.request.Request.TheVariants.{Sync}
use Rattle.model.specs.declared.reply.Reply.{Reply}
use Rattle.model.specs.declared.reply.Reply.TheVariants.{Group}
use Rattle.world.specs.Worlds.{IsPoolState, maps_of_both}
use Rattle.image.specs.BlockWrites.{blocks_put}
use Rattle.image.specs.Image.{ShownImage}
use Rattle.image.specs.ImageBlocks.{block_at}
use Rattle.image.specs.ImageWalk.{walk}
use Rattle.image.specs.Opened.{KeepsJust}
use Rattle.image.specs.Roots.{RootAt, roots_in, IsRootOf}
use Rattle.image.specs.StepWrites.{AreMade}
use Rattle.image.specs.Stored.{AreStored, IsStored, AllWalk}
use Rattle.image.specs.Writes.{writes_in}
use Rattle.pool.specs.Numbers.{synced_numbers}
use Rattle.image.specs.declared.writes.Writes.{Writes}

-- The image has 512 bytes for each number of the pool, and the blocks of both worlds, and keeps the states of the numbers as the last synced
-- world gives them (On-Disk Specification, chapters 2 and 3)
pub record IsImageOf (s : State) (i : ShownImage) : Type 0 where
  pub count : length i.kept ≡ s.size
  pub size : length i.bytes ≡ 512 * s.size
  pub kept : i.kept ≡ synced_numbers s.size s.last
  pub stored : IsStored s (block_at i.bytes)

-- In the image the walk from each dataset's root is its contents, in the present world and in the last synced one; and just the numbers of
-- the last synced world's blocks are kept (On-Disk Specification, chapters 2 and 3)
pub record IsWalked (s : State) (i : ShownImage) : Type 0 where
  pub now : AllWalk (block_at i.bytes) s.size s.now
  pub last : AllWalk (block_at i.bytes) s.size s.last
  pub kept : KeepsJust (reach_of s.last) i.kept

-- a sync that isn't refused replies with the group that it opens (zpool-sync(8))
abbrev pub is_synced : Reply → Request → Bool
is_synced (Group group) Sync = true
is_synced reply request = false

-- how often states were put in, after a request with this reply: once more after a sync that isn't refused (profile)
abbrev pub keeps_after : Request → Reply → ℕ → ℕ
keeps_after request reply keeps = if is_synced reply request then counted keeps 1 else keeps

-- once these are written, an image of one state has the blocks of both worlds of another, and they are blocks that this step has made (profile)
pub record LeadsTo (s t : State) (writes : Writes) : Type 0 where
  pub stored : (image : ℕ → List ℕ) → IsStored s image → AreStored (maps_of_both t.now t.last) (blocks_put image (writes_in image writes))
  pub made : (image : ℕ → List ℕ) → AreMade s t (writes_in image writes)

-- a root is that of a dataset whose contents are what a read of it from the image gives: its leaves in order, each with its bytes (On-Disk
-- Specification, chapter 3)
pub record IsReadAs (w : World) (i : ShownImage) (r : RootAt) : Type 0 where
  pub map : Map
  pub of : IsRootOf w.file_systems r map
  pub read : option_map entries (walk (block_at i.bytes) (length i.kept) r.root) ≡ Some (entries (contents map))

-- so it is with each root that is told of the present world, and with each that is told of the last synced one
abbrev pub RootsAreRead : Type 0
RootsAreRead =
    (s : State) (i : ShownImage) (r : RootAt) → IsPoolState s → IsImageOf s i → IsWalked s i
    → (IsIn (roots_in s.now.file_systems) r → IsReadAs s.now i r) × (IsIn (roots_in s.last.file_systems) r → IsReadAs s.last i r)
