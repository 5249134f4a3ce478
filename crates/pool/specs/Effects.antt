-- What a request leads to, and what it leaves to be done beside its world.
use Rattle.std.specs.Prelude.{◌≡◌, ℕ, List, [], Result, Ok, Err, map, length}
use Rattle.base.specs.Counting.{counted}
use Rattle.base.specs.Surveys.{dead_block}
use Rattle.base.specs.declared.refusal.Refusal.{Refusal}
use Rattle.zalloc.specs.declared.BlockState.{BlockState}
use Rattle.zalloc.specs.States.{after_group}
use Rattle.batch.specs.declared.draft.Draft.{Draft}
use Rattle.tree.specs.Taking.{takes, AllFree}
use Rattle.model.specs.Edits.{with_now}
use Rattle.model.specs.Ids.{snap_id}
use Rattle.model.specs.State.{State}
use Rattle.model.specs.Step.{Step}
use Rattle.model.specs.World.{World as OneWorld}
use Rattle.model.specs.declared.request.Request.{Request}
use Rattle.model.specs.declared.reply.Reply.{Reply}
use Rattle.model.specs.declared.snapshot_id.SnapshotId.{SnapshotId}
use Rattle.removals.specs.Requests.{IsSweptBut}
use Rattle.model.specs.declared.reply.Reply.TheVariants.{Done, Refused, Count, Group}
use Rattle.steps.specs.Edits.{closed}
use Rattle.steps.specs.Settles.{AllAllocated, releases}
use Rattle.image.specs.BlockWrites.{images_put}
use Rattle.image.specs.Image.{ShownImage}
use Rattle.image.specs.ImageBlocks.{block_at}
use Rattle.pool.specs.Images.{IsImageOf, LeadsTo}
use Rattle.image.specs.Writes.{writes_in, MayWrite}
use Rattle.pool.specs.Numbers.{synced_numbers}
use Rattle.pool.specs.Pools.{world_in, IsSound, IsKept}
use Rattle.pool.specs.declared.worlds.World.{World}
use Rattle.pool.specs.declared.effect.Effect.{Effect}
use Rattle.pool.specs.declared.effect.Effect.TheVariants.{Nothing, Guids, Blocks, Taken, Synced, Abandoned, Closed}

-- the state once that is done beside its present world (profile)
abbrev pub effected : State → Effect → State
effected s Nothing = s
effected s (Guids next) = record s { next_guid = next }
effected s (Blocks draft writes) = s
effected s (Taken taken) = s
effected s (Synced last viewed) = record s { last = world_in last.value }
effected s Abandoned = s
effected s (Closed number) = closed s number

-- the states of numbers after a change with this draft: what it releases, and then what it takes (profile)
abbrev pub turned : ℕ → List BlockState → Draft → List BlockState
turned group numbers draft = takes (releases group numbers (map dead_block draft.released.items)) (map (λ n. n.0) draft.taken.items)

-- the numbers can turn so: what the draft releases is Allocated, and then what it takes is Free (profile)
abbrev pub CanTurn : ℕ → List BlockState → Draft → Type 0
CanTurn group numbers draft =
    AllAllocated group numbers (map dead_block draft.released.items)
    × AllFree (releases group numbers (map dead_block draft.released.items)) (map (λ n. n.0) draft.taken.items)

-- the states of all numbers then, where the last sync left this world, in a pool of so many blocks (profile)
abbrev pub numbers_after : OneWorld → ℕ → List BlockState → Effect → List BlockState
numbers_after last size numbers Nothing = numbers
numbers_after last size numbers (Guids next) = numbers
numbers_after last size numbers (Blocks draft writes) = turned last.group numbers draft.value
numbers_after last size numbers (Taken taken) = releases last.group numbers (map dead_block taken.items)
numbers_after last size numbers (Synced to viewed) = map after_group numbers
numbers_after last size numbers Abandoned = synced_numbers size last
numbers_after last size numbers (Closed number) = numbers

-- A world can be the last synced one, where views show these snapshots: it has its ledger, no other snapshot of it waits for a sweep, and
-- all numbers have the states that it gives them once nothing waits (profile)
pub record CanBeLast (size : ℕ) (numbers : List BlockState) (to : World) (viewed : List SnapshotId) : Type 0 where
  pub kept : IsKept to
  pub swept : IsSweptBut to.table (map snap_id viewed)
  pub states : map after_group numbers ≡ synced_numbers size (world_in to)

-- that can be done: the numbers can turn as the draft says, and what is written may be; what is released is Allocated; and what was synced can
-- be the last synced world (profile)
abbrev pub MaySettle : OneWorld → ℕ → List BlockState → Effect → Type 0
MaySettle last size numbers Nothing = Unit {0}
MaySettle last size numbers (Guids next) = Unit {0}
MaySettle last size numbers (Blocks draft writes) = CanTurn last.group numbers draft.value × MayWrite (synced_numbers size last) writes
MaySettle last size numbers (Taken taken) = AllAllocated last.group numbers (map dead_block taken.items)
MaySettle last size numbers (Synced to viewed) = CanBeLast size numbers to.value viewed.items
MaySettle last size numbers Abandoned = Unit {0}
MaySettle last size numbers (Closed number) = Unit {0}

-- the image of a pool of so many blocks once it is done (profile)
abbrev pub image_after : ℕ → ShownImage → Effect → ShownImage
image_after size i (Blocks draft writes) = record i { bytes = images_put i.bytes (writes_in (block_at i.bytes) writes) }
image_after size i (Synced to viewed) = record i { kept = synced_numbers size (world_in to.value); keeps = counted i.keeps 1 }
image_after size i Nothing = i
image_after size i (Guids next) = i
image_after size i (Taken taken) = i
image_after size i Abandoned = i
image_after size i (Closed number) = i

-- the blocks that are written into an image of these bytes, each with its number (profile)
abbrev pub blocks_written : List ℕ → Effect → List (ℕ × List ℕ)
blocks_written bytes (Blocks draft writes) = writes_in (block_at bytes) writes
blocks_written bytes effect = []

-- how often states were put into it (profile)
abbrev pub keeps_of : ℕ → Effect → ℕ
keeps_of keeps (Synced to viewed) = counted keeps 1
keeps_of keeps effect = keeps

-- a live map has changed, and its blocks are to be written (profile)
abbrev pub WritesBlocks : Effect → Type 0
WritesBlocks (Blocks draft writes) = Unit {0}
WritesBlocks effect = ⊥

-- what is written leads from one state to another (profile)
abbrev pub Leads : State → State → Effect → Type 0
Leads s t (Blocks draft writes) = LeadsTo s t writes
Leads s t effect = Unit {0}

-- the reply to the request (profile)
abbrev pub reply_of : Effect → Reply
reply_of Nothing = Done
reply_of (Guids next) = Done
reply_of (Blocks draft writes) = Done
reply_of (Taken taken) = Count (length taken.items)
reply_of (Synced last viewed) = Group last.value.table.group
reply_of Abandoned = Done
reply_of (Closed number) = Done

-- with this world in place and that done beside it, the pool is sound again (profile)
pub record Settles (s : State) (numbers : List BlockState) (w : World) (e : Effect) : Type 0 where
  pub sound : IsSound (effected (with_now s (world_in w)) e) (numbers_after s.last s.size numbers e)
  pub kept : IsKept w
  pub may : MaySettle s.last s.size numbers e
  pub leads : Leads s (effected (with_now s (world_in w)) e) e

-- an image of the state is one of the state after it, once that is done (profile)
abbrev pub Images : State → World → Effect → Type 0
Images s w e = (i : ShownImage) → IsImageOf s i → IsImageOf (effected (with_now s (world_in w)) e) (image_after s.size i e)

-- a request was done by that, or it was refused, as a step says (profile)
abbrev pub IsPerformed : State → List BlockState → World → Request → Result Effect Refusal → Type 0
IsPerformed s numbers w q (Ok e) = Settles s numbers w e × Step s q (reply_of e) (effected (with_now s (world_in w)) e)
IsPerformed s numbers w q (Err why) = Step s q (Refused why) s
