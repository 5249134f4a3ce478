-- What a request reaches of trees and of dead lists.
use Rattle.std.specs.Prelude.{◌≡◌, ◌≤◌, Bool, true, false}
use Rattle.model.specs.declared.request.Request.{Request}
use Rattle.model.specs.declared.request.Request.TheVariants.{Write, Punch, FreeObject, Rollback, Promote, Destroy, Release, Receive, CloseView, Slice, Abandon, Get, WrittenSince, WouldFree}
use Rattle.model.specs.declared.reply.Reply.{Reply}
use Rattle.lookups.specs.Named.{reads_lists}
use Rattle.steps.specs.Edits.{datasets_of}
use Rattle.steps.specs.Reached.{reaches_nodes, HasRead}
use Rattle.pool.specs.Kinds.{kind_of}
use Rattle.pool.specs.Shown.{Shown}
use Rattle.pool.specs.declared.kind.Kind.TheVariants.{Question}

-- the request changes what a live map has, or frees blocks, and so may reach nodes of trees (profile)
abbrev pub changes_blocks : Request → Bool
changes_blocks (Write target object block bytes) = true
changes_blocks (Punch target object block) = true
changes_blocks (FreeObject target object) = true
changes_blocks (Receive snapshot bytes mode) = true
changes_blocks (Slice count) = true
changes_blocks request = false

-- the request reaches no node of a tree (profile)
abbrev pub ReachesNoNode : Request → Type 0
ReachesNoNode q = (reaches_nodes q ≡ false) × (changes_blocks q ≡ false)

-- the request may reach segments of dead lists: it puts blocks into one, joins or empties some, or asks what one holds (profile)
abbrev pub reaches_lists : Request → Bool
reaches_lists (Write target object block bytes) = true
reaches_lists (Punch target object block) = true
reaches_lists (FreeObject target object) = true
reaches_lists (Rollback target later) = true
reaches_lists (Promote name) = true
reaches_lists (Destroy target recursive defer) = true
reaches_lists (Release tag target) = true
reaches_lists (Receive snapshot bytes mode) = true
reaches_lists (CloseView view) = true
reaches_lists Abandon = true
reaches_lists (Slice count) = true
reaches_lists (Get target property) = reads_lists target property
reaches_lists (WrittenSince target since) = true
reaches_lists (WouldFree name first last) = true
reaches_lists request = false

-- What a request with this reply adds to the counts of a pool: no node and no segment where it reaches none, and where it only reads no more to
-- that of segments than its reply reads of the datasets; neither count falls (profile)
pub record IsMetered (old : Shown) (q : Request) (r : Reply) (new : Shown) : Type 0 where
  pub never_lower : old.nodes ≤ new.nodes
  pub segments_never_lower : old.segments ≤ new.segments
  pub nodes : ReachesNoNode q → new.nodes ≡ old.nodes
  pub segments : reaches_lists q ≡ false → new.segments ≡ old.segments
  pub read : kind_of q ≡ Question → HasRead (datasets_of old.state) q r old.segments new.segments
