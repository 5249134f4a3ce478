-- What a pool keeps of limits, and the states that limits are asked of.
use Rattle.std.specs.Prelude.{◌≡◌, ◌⊎◌, ◌<◌, ◌^◌, ℕ, List, Option, None, Some, IsSome}
use Rattle.std.specs.FinMap.{get}
use Rattle.std.specs.FinSet as set
use Rattle.base.specs.Rewrite.{Changes}
use Rattle.base.specs.declared.refusal.Refusal.{Refusal}
use Rattle.base.specs.declared.refusal.Refusal.TheVariants.{NoDataset, NoMemory}
use Rattle.model.specs.State.{State, waiting_of}
use Rattle.model.specs.Hierarchy.{IsHierarchy}
use Rattle.model.specs.Rule.{first_of}
use Rattle.model.specs.Sums.{IsBalanced}
use Rattle.model.specs.requests.Change.{limit_row}
use Rattle.world.specs.Tables.{Datasets, world_of}
use Rattle.limits.specs.Limits.{IsUnlimited}
use Rattle.steps.specs.Asked.{asked_by_change}
use Rattle.steps.specs.Edits.{datasets_of}
use Rattle.steps.specs.Steady.{IsSteady}
use Rattle.limits.specs.Changes.{IsChanged, IsRecounted}
use Rattle.limits.specs.Ledgers.{IsSpaceOf}
use Rattle.limits.specs.declared.line.Line.{Line}
use Rattle.limits.specs.declared.pool_space.Space.{Space}
use Rattle.lookups.specs.Accounted.{IsAccounted}
use Rattle.limits.specs.declared.outlook.outlook.Outlook.{Outlook}

-- a state with these datasets, whose pool has this beside its file systems: its facts hold, and each block is allocated, free or waiting
-- (zpoolprops(7): size, allocated, free, freeing; waiting is profile)
pub record IsStateWith (s : State) (t : Datasets) (space : Space) : Type 0 where
  pub steady : IsSteady s
  pub balanced : IsBalanced s
  pub datasets : datasets_of s ≡ t
  pub beside : IsSpaceOf s space

-- a state with these datasets and with so many blocks to be freed, where as many wait as do in another state (zfsprops(7): reservation)
pub record IsAsked (s : State) (t : Datasets) (freeing : ℕ) (asked : State) : Type 0 where
  pub systems : asked.now.file_systems ≡ t.file_systems
  pub freed : set.len asked.now.freeing ≡ freeing
  pub waiting : set.len (waiting_of asked) ≡ set.len (waiting_of s)
  pub size : asked.size ≡ s.size

-- which limit is broken in such a state, if one is; where no file system has a limit, nothing is said (zfsprops(7): quota, refquota,
-- reservation)
abbrev pub IsOver : State → Datasets → ℕ → Option Refusal → Type 0
IsOver s t freeing r = (IsUnlimited s.now.file_systems × (r ≡ None)) ⊎ ((asked : State) → IsAsked s t freeing asked → r ≡ first_of (limit_row asked))

-- why a change isn't made: there is no memory to ask, no file system of the name, or this limit would be broken (profile)
abbrev pub IsNoChange : State → List ℕ → Changes → Refusal → Type 0
IsNoChange s name c why =
    (why ≡ NoMemory) ⊎ (((why ≡ NoDataset) × (get s.now.file_systems name ≡ None)) ⊎ (IsSome (get s.now.file_systems name) × (first_of (limit_row (asked_by_change s name c)) ≡ Some why)))

-- a change of a live map may be made: no file system has a limit, or the limits hold then (zfsprops(7): quota, refquota, reservation)
abbrev pub MayChange : State → List ℕ → Changes → Type 0
MayChange s name c = IsUnlimited s.now.file_systems ⊎ (first_of (limit_row (asked_by_change s name c)) ≡ None)

-- what a file system comes to with a change of its live map, where that was looked at (zfsprops(7): used, referenced)
abbrev pub Foretells : State → List ℕ → Changes → Option Outlook → Type 0
Foretells s name c None = Unit {0}
Foretells s name c (Some o) = (o.here < 2 ^ 42) × IsChanged (world_of (datasets_of s)) (asked_by_change s name c).now name o.here o.referenced

-- a ledger that is kept is that of earlier datasets, and where the change of a live map was looked at, these differ from them in that alone
-- (profile)
pub record CanSettle (old new : Datasets) (name : List ℕ) (lines : Option (List Line)) (outlook : Option Outlook) : Type 0 where
  pub kept : IsAccounted old lines
  pub hierarchy : IsHierarchy old.file_systems
  pub there : IsSome (get new.file_systems name)
  pub differs : (o : Outlook) → outlook ≡ Some o → (o.here < 2 ^ 42) × IsChanged (world_of old) (world_of new) name o.here o.referenced

-- a ledger that is kept is that of earlier datasets, from which these differ at one name alone: its file system has changed, or it is new or
-- gone (profile)
pub record CanRecount (old new : Datasets) (name : List ℕ) (lines : Option (List Line)) : Type 0 where
  pub kept : IsAccounted old lines
  pub hierarchy : IsHierarchy old.file_systems
  pub differs : IsRecounted (world_of old) (world_of new) name
