-- What a batch of updates asks for.
use Rattle.std.specs.Prelude.{ℕ, ◌+◌, ◌^◌, ◌<◌, ◌≤◌, Bool, false, List, [], ◌∷◌, Option, None, Some}
use Rattle.std.specs.List.{list_any, filter_map}
use Rattle.std.specs.FinMap.{from_entries}
use Rattle.base.specs.Key.{IsKey, covers, first_leaf}
use Rattle.base.specs.Rewrite.{Changes}
use Rattle.batch.specs.declared.update.Update.{Update}
use Rattle.batch.specs.declared.update.Update.TheVariants.{Write, Punch}

-- whether an update punches a leaf (On-Disk Specification, chapter 3)
abbrev pub punches : Update → ℕ → Bool
punches (Write leaf bytes) n = false
punches (Punch key) n = covers key n

-- what an update writes (On-Disk Specification, chapter 3)
abbrev pub written : Update → Option (ℕ × List ℕ)
written (Write leaf bytes) = Some (leaf, bytes.now)
written (Punch key) = None

-- the change of a batch: what all its updates write and punch (profile)
unfoldable pub changes_of : List Update → Changes
changes_of us = record { writes = from_entries (filter_map written us); punches = λ n. list_any (λ u. punches u n) us }

-- the first leaf that an update covers (profile)
abbrev pub first_of : Update → ℕ
first_of (Write leaf bytes) = leaf
first_of (Punch key) = first_leaf key

-- the leaf past the last one that an update covers (profile)
abbrev pub past_of : Update → ℕ
past_of (Write leaf bytes) = leaf + 1
past_of (Punch key) = first_leaf key + 16 ^ key.level

-- an update of leaves that a tree can have (profile)
abbrev pub IsOfTree : Update → Type 0
IsOfTree (Write leaf bytes) = leaf < 1048576
IsOfTree (Punch key) = IsKey key

-- updates of leaves that a tree can have, the first from a leaf on, and each past the one before (profile)
abbrev pub IsBatchFrom : ℕ → List Update → Type 0
IsBatchFrom low [] = Unit {0}
IsBatchFrom low (u ∷ us) = (low ≤ first_of u) × IsOfTree u × IsBatchFrom (past_of u) us

-- updates in the order of their leaves, of which none meets another (profile)
abbrev pub IsBatch : List Update → Type 0
IsBatch = IsBatchFrom 0
