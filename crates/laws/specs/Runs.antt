-- What holds in a new pool, and again after every run, whatever numbers its steps choose.
use Rattle.std.specs.Prelude.{◌≡◌, ◌<◌, ℕ, Bool, false, List, ◌++◌, Some, length, slice_get}
use Rattle.model.specs.declared.request.Request.{Request}
use Rattle.model.specs.declared.request.Request.TheVariants.{Sync as ToSync, Abandon as ToAbandon, Rename as ToRename}
use Rattle.model.specs.declared.reply.Reply.{Reply}
use Rattle.model.specs.declared.reply.Reply.TheVariants.{Done, Group as GroupIs}
use Rattle.model.specs.World.{World, SnapId, Dataset, Snapped, map_of}
use Rattle.model.specs.Numbers.{IsWorldNumbered, IsNumbered}
use Rattle.model.specs.Hierarchy.{is_in_family}
use Rattle.model.specs.State.{State, fresh_state}
use Rattle.model.specs.Run.{Run}
use Rattle.world.specs.Dead.{IsThere, IsInLine}
use Rattle.world.specs.Worlds.{IsPoolState}
use Rattle.laws.specs.Lineages.{IsOrdered, HasLineages, HasBirths}

-- a run through two lists, one after the other, is two runs (profile)
abbrev pub RunSplits : Type 0
RunSplits =
    (s u : State) (qs more : List Request) (rs others : List Reply) → length qs ≡ length rs → Run s (qs ++ more) (rs ++ others) u
    → (t : State) × Run s qs rs t × Run t more others u

-- it holds of the present world, and of the last synced one, to which Abandon goes back (profile)
abbrev pub InBoth : (World → Type 0) → State → Type 0
InBoth Holds s = Holds s.now × Holds s.last

-- each Abandon of a run that is done comes after a Sync of the run that is done: so it goes back to no world older than the run (profile)
abbrev pub GoesBackWithin : List Request → List Reply → Type 0
GoesBackWithin qs rs =
    (i : ℕ) → slice_get qs i ≡ Some ToAbandon → slice_get rs i ≡ Some Done
    → (j : ℕ) × (g : ℕ) × (j < i) × (slice_get qs j ≡ Some ToSync) × (slice_get rs j ≡ Some (GroupIs g))

-- the names that a step gives to file systems which had others: those that begin with the new name of a rename that is done (zfs-rename(8))
abbrev pub given : Request → Reply → List ℕ → Bool
given (ToRename from to) Done name = is_in_family to name
given q r name = false

-- no step of a run gives this name to a file system (profile)
abbrev pub IsNeverGiven : List ℕ → List Request → List Reply → Type 0
IsNeverGiven name qs rs = (i : ℕ) (q : Request) (r : Reply) → slice_get qs i ≡ Some q → slice_get rs i ≡ Some r → given q r name ≡ false

-- ---- lineages and births

-- a pool has lineages as it is created (profile)
abbrev pub LineagesBegin : Type 0
LineagesBegin = (id size : ℕ) → InBoth HasLineages (fresh_state id size)

-- it has them again after every run, whatever numbers its steps choose (profile)
abbrev pub LineagesLast : Type 0
LineagesLast = (s u : State) (qs : List Request) (rs : List Reply) → InBoth HasLineages s → Run s qs rs u → InBoth HasLineages u

-- A world has them where it is in order, a number names one block, and a block of a dataset is in the one before exactly when it was born by
-- that one's group (On-Disk Specification, chapters 2 and 4: birth, ds_prev_snap_txg)
abbrev pub BlocksGiveLineages : Type 0
BlocksGiveLineages = (size : ℕ) (w : World) → IsWorldNumbered size w → IsOrdered w → ((d : Dataset) → IsThere w d → IsInLine w d) → HasLineages w

-- so each state of a pool has them (profile)
abbrev pub PoolsHaveLineages : Type 0
PoolsHaveLineages = (s : State) → IsPoolState s → InBoth HasLineages s

-- a snapshot that is there before a run and after it has the map that it had, where no Abandon goes back to before the run (zfs-snapshot(8))
abbrev pub SnapshotsKeep : Type 0
SnapshotsKeep =
    (s u : State) (qs : List Request) (rs : List Reply) (id : SnapId) → HasLineages s.now → GoesBackWithin qs rs → Run s qs rs u → IsThere s.now (Snapped id)
    → IsThere u.now (Snapped id) → map_of u.now (Snapped id) ≡ map_of s.now (Snapped id)

-- births are up to the open group and rise in a new pool, and again after every run (On-Disk Specification, chapters 2 and 3)
abbrev pub BirthsBegin : Type 0
BirthsBegin = (id size : ℕ) → InBoth HasBirths (fresh_state id size)

abbrev pub BirthsLast : Type 0
BirthsLast = (s u : State) (qs : List Request) (rs : List Reply) → InBoth HasLineages s → InBoth HasBirths s → Run s qs rs u → InBoth HasBirths u

-- ---- numbers

-- a number names one block, in a new pool and after every run, since each step says so (On-Disk Specification, chapter 2)
abbrev pub NumbersBegin : Type 0
NumbersBegin = (id size : ℕ) → IsNumbered (fresh_state id size)

abbrev pub NumbersLast : Type 0
NumbersLast = (s u : State) (qs : List Request) (rs : List Reply) → IsNumbered s → Run s qs rs u → IsNumbered u
