-- What a change of one live map will do to the counts of its file system and of the pool, from the blocks that it drops and how many it makes.
use Rattle.std.specs.Prelude.{◌≡◌, ℕ, ◌+◌, ◌-◌, ◌&&◌, List, length, count_by, nat_le, nat_lt}
use Rattle.std.specs.Option.{unwrap_or}
use Rattle.std.specs.FinSet.{len}
use Rattle.base.specs.Map.{Block}
use Rattle.model.specs.World.{World, FileSystem, Live}
use Rattle.model.specs.State.{State, waiting_of}
use Rattle.model.specs.Sums.{referenced_of, written_of, used_by_dataset, used_by_snapshots}
use Rattle.model.specs.Edits.{with_now}
use Rattle.world.specs.Dead.{base_of}
use Rattle.world.specs.Sums.{origin_group}

-- how many of the blocks were born after a group (On-Disk Specification, chapter 2: birth)
abbrev pub count_after : ℕ → List Block → ℕ
count_after group = count_by (λ b. nat_lt group b.birth)

-- how many were born after one group and by another (On-Disk Specification, chapter 2: birth)
abbrev pub count_between : ℕ → ℕ → List Block → ℕ
count_between low high = count_by (λ b. nat_lt low b.birth && nat_le b.birth high)

-- how many were born after one group and before another (On-Disk Specification, chapter 2: birth)
abbrev pub count_before : ℕ → ℕ → List Block → ℕ
count_before low high = count_by (λ b. nat_lt low b.birth && nat_lt b.birth high)

-- The counts once a change has dropped these blocks of the live map of f and made so many in their place, which gives t: a snapshot keeps a
-- dropped block that was born by its group, and one that the live map alone has waits where it was born before the last synced world's open
-- group (zfsprops(7): referenced, written, usedbydataset, usedbysnapshots; waiting is profile)
pub record IsOutlook (s : State) (new : World) (name : List ℕ) (f t : FileSystem) (dropped : List Block) (made : ℕ) : Type 0 where
  pub referenced : referenced_of new (Live name) + length dropped ≡ referenced_of s.now (Live name) + made
  pub written : written_of new (Live name) + count_after (base_of s.now (Live name)) dropped ≡ written_of s.now (Live name) + made
  pub by_dataset : used_by_dataset new t + count_after (origin_group f) dropped ≡ used_by_dataset s.now f + made
  pub by_snapshots : used_by_snapshots new t ≡ used_by_snapshots s.now f + count_between (origin_group f) (base_of s.now (Live name)) dropped
  pub waiting : len (waiting_of (with_now s new)) ≡ len (waiting_of s) + count_before (base_of s.now (Live name)) s.last.group dropped

-- what of `used` isn't its children's after such a change: what the file system has of its own, and what of its refreservation isn't
-- written; the dropped blocks that the live map alone has count in neither any more (zfsprops(7): used, usedbyrefreservation)
abbrev pub outlook_here : State → List ℕ → FileSystem → List Block → ℕ → ℕ
outlook_here s name f dropped made =
    (used_by_dataset s.now f + used_by_snapshots s.now f + made - count_after (base_of s.now (Live name)) dropped)
    + (unwrap_or f.limits.refreservation 0 - (written_of s.now (Live name) + made - count_after (base_of s.now (Live name)) dropped))
