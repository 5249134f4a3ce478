-- What one request does to a pool, and a chain of them.
use Rattle.std.specs.Prelude.{◌≡◌, List, [], ◌∷◌}
use Rattle.model.specs.declared.request.Request.{Request}
use Rattle.model.specs.declared.reply.Reply.{Reply}
use Rattle.model.specs.Numbers.{IsNumbered, HasStates}
use Rattle.model.specs.Step.{Step}
use Rattle.model.specs.Sums.{IsBalanced}
use Rattle.world.specs.RunLaws.{IsViewing}
use Rattle.world.specs.Worlds.{IsPoolState, IsSwept}
use Rattle.limits.specs.Limits.{AreQuotasMet}
use Rattle.laws.specs.Lineages.{HasBirths}
use Rattle.laws.specs.Runs.{InBoth}
use Rattle.laws.specs.Both.{AreSnapshotsOne}
use Rattle.image.specs.StepWrites.{StepWrites}
use Rattle.pool.specs.Images.{IsImageOf, IsWalked, keeps_after}
use Rattle.pool.specs.Reached.{IsMetered}
use Rattle.pool.specs.Shown.{Shown}

-- What holds of a pool between two steps (On-Disk Specification, chapters 2 to 4; zfs-destroy(8), -d; zfsprops(7): quota, refquota)
pub record IsBetween (p : Shown) : Type 0 where
  -- one number names one block, over both worlds
  pub numbered : IsNumbered p.state
  -- a number is Allocated where the present world reaches its block, Waiting where the last synced one alone does, and else Free
  pub states : HasStates p.state p.numbers
  -- what is allocated, what waits and what is free add up to the size
  pub balanced : IsBalanced p.state
  -- the laws of runs speak of it
  pub kept : IsPoolState p.state
  -- no file system is above its quota or its refquota
  pub quotas : AreQuotasMet p.state.now
  -- the snapshot of each open view is there
  pub viewing : IsViewing p.state
  -- no snapshot waits for a sweep
  pub swept : IsSwept p.state
  -- no block is younger than the one above it, or than the open group
  pub births : InBoth HasBirths p.state
  -- a snapshot of both worlds has one map
  pub snapshots : AreSnapshotsOne p.state
  -- each dataset can be walked in the image
  pub walked : IsWalked p.state p.image
  -- the image has the blocks of both worlds, and no pointer but theirs
  pub image : IsImageOf p.state p.image

-- What a request with this reply does beside its step: it adds to the counts what it may, writes the blocks that the step made, none of them at a
-- number of the last synced world, and puts states into the image where it is a sync (On-Disk Specification, chapter 3; the counts are profile)
pub record IsApplied (old : Shown) (q : Request) (r : Reply) (new : Shown) : Type 0 where
  pub metered : IsMetered old q r new
  pub writes : StepWrites old.state q r new.state old.image new.image
  pub keeps : new.image.keeps ≡ keeps_after q r old.image.keeps

-- Each request is joined to its reply by a step from a pool to the next one, which does beside it what it may, and between two steps holds what
-- holds of each pool (profile)
abbrev pub AreApplied : Shown → List Request → List Reply → Shown → Type 0
AreApplied old [] [] new = old ≡ new
AreApplied old (q ∷ qs) (r ∷ rs) new = (p : Shown) × Step old.state q r p.state × IsApplied old q r p × IsBetween p × AreApplied p qs rs new
AreApplied old _ _ new = ⊥
