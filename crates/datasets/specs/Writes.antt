-- A write to a live map of a table.
use Rattle.std.specs.Prelude.{◌≡◌, ◌≤◌, ◌+◌, ℕ, List, Some, max, nat_lt, map, slice_get}
use Rattle.std.specs.List.{filter}
use Rattle.base.specs.Map.{Block}
use Rattle.base.specs.Rewrite.{Changes}
use Rattle.base.specs.Surveys.{dead_block}
use Rattle.batch.specs.declared.update.Update.{Update}
use Rattle.batch.specs.Updates.{IsBatch}
use Rattle.zalloc.specs.declared.BlockState.{BlockState}
use Rattle.zalloc.specs.declared.BlockState.TheVariants.{Allocated}
use Rattle.model.specs.World.{Live, union_of}
use Rattle.batch.specs.declared.draft.Draft.{Draft}
use Rattle.tree.specs.Change.{Shown, IsChange}
use Rattle.tree.specs.ChangeParts.{made_pair}
use Rattle.file_system.specs.Rows.{live_of, with_live}
use Rattle.world.specs.Sets.{Has}
use Rattle.world.specs.Dead.{base_of}
use Rattle.world.specs.Tables.{Datasets, world_of}
pub use Rattle.file_system.specs.Writes.{newest_group}

-- a block of the live map is its own to change in place where it was born after what stands before it and no earlier than this
-- group, which the last sync left open (profile)
abbrev pub young_of : Datasets → List ℕ → ℕ → ℕ
young_of t name synced = max synced (base_of (world_of t) (Live name) + 1)

-- These updates of a live map can be made, where the last sync left this group open and the numbers have these states: they are a
-- batch, that group isn't past the open one, and each number of a dataset's block is Allocated (profile)
pub record AllowsWrite (t : Datasets) (us : List Update) (synced : ℕ) (states : List BlockState) : Type 0 where
  pub batch : IsBatch us
  pub not_after : synced ≤ t.group
  pub allocated : (b : Block) → Has (union_of (world_of t)) b → slice_get states b.number ≡ Some Allocated

-- These changes of a live map are in force: it is rewritten, and of what it drops those blocks are released that were born after
-- what stands before it, which has all others (On-Disk Specification, chapter 4: ds_deadlist_obj)
pub record HasWritten (t u : Datasets) (name : List ℕ) (c : Changes) (synced : ℕ) (states : List BlockState) (done : Draft) : Type 0 where
  pub change : Shown
  pub is : IsChange (live_of t.file_systems name) c t.group (young_of t name synced) states change
  pub to_is : u ≡ record t { file_systems = with_live t.file_systems name change.new }
  pub released : map dead_block done.released.items ≡ filter (λ b. nat_lt (base_of (world_of t) (Live name)) b.birth) change.released
  pub taken : map (λ n. n.0) done.taken.items ≡ change.taken
  pub made : map made_pair done.made.items ≡ change.made
