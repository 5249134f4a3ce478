-- What a step writes into the image.
use Rattle.std.specs.Prelude.{◌≡◌, ℕ, Bool, true, List, [], Some, None, take}
use Rattle.std.specs.FinMap.{get}
use Rattle.base.specs.declared.number.Key.{Key}
use Rattle.base.specs.Map.{Cell}
use Rattle.base.specs.Surveys.{IsIn}
use Rattle.model.specs.State.{State}
use Rattle.model.specs.requests.{rule_of}
use Rattle.model.specs.declared.request.Request.{Request}
use Rattle.model.specs.declared.reply.Reply.{Reply}
use Rattle.model.specs.declared.reply.Reply.TheVariants.{Refused}
use Rattle.datasets.specs.Rows.{live_of}
use Rattle.image.specs.BlockWrites.{images_put}
use Rattle.image.specs.Image.{ShownImage, AreOpen}
use Rattle.image.specs.ImageBlocks.{block_at}
use Rattle.image.specs.Stored.{AllWalk}

-- after a step the live map of a file system has a block of this number, born in the group that was open before it (On-Disk Specification,
-- chapter 3: a changed block is written anew)
pub record IsMade (before after : State) (file_system : List ℕ) (number : ℕ) : Type 0 where
  pub key : Key
  pub cell : Cell
  pub there : get (live_of after.now.file_systems file_system) key ≡ Some cell
  pub is : cell.number ≡ number
  pub born : cell.birth ≡ before.now.group

-- these are writes of blocks that a step has made, all in the live map of one file system: so a freed block's bytes stay until its number is
-- used again (profile)
pub record AreMade (before after : State) (writes : List (ℕ × List ℕ)) : Type 0 where
  pub file_system : List ℕ
  pub each : (w : ℕ × List ℕ) → IsIn writes w → IsMade before after file_system w.0

-- What a step from one state to another writes: blocks of 512 bytes that it has made, each at a number that isn't kept. The new bytes are the
-- old ones once these are written, in this order, and after so many of them, whether none, some or all, the walk of each dataset of the world
-- that was synced last is its contents (On-Disk Specification, chapter 3: a live block is never overwritten)
pub record AreStepWrites (before after : State) (writes : List (ℕ × List ℕ)) (old new : ShownImage) : Type 0 where
  pub allowed : AreOpen old.kept writes
  pub made : AreMade before after writes
  pub bytes : new.bytes ≡ images_put old.bytes writes
  pub moments : (i : ℕ) → AllWalk (block_at (images_put old.bytes (take i writes))) before.size before.last

-- a request that only reads writes nothing, nor does one that is refused (profile)
abbrev pub writes_nothing : Request → Reply → Bool
writes_nothing request (Refused why) = true
writes_nothing request reply = (rule_of request None).only_reads

-- What a step by this request and with this reply has written (profile)
pub record StepWrites (before : State) (request : Request) (reply : Reply) (after : State) (old new : ShownImage) : Type 0 where
  pub writes : List (ℕ × List ℕ)
  pub are : AreStepWrites before after writes old new
  pub none : writes_nothing request reply ≡ true → writes ≡ []
