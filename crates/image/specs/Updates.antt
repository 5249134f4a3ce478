-- One update of a tree.
use Rattle.std.specs.Prelude.{◌≡◌, ℕ, List, IsSome}
use Rattle.std.specs.FinMap.{get}
use Rattle.base.specs.declared.number.Key.{Key}
use Rattle.base.specs.Map.{Map}
use Rattle.batch.specs.declared.update.Update.{Update}
use Rattle.batch.specs.declared.update.Update.TheVariants.{Write, Punch}

-- the key that an update is of (On-Disk Specification, chapter 3)
abbrev pub top_of : Update → Key
top_of (Write leaf bytes) = record { level = 0; index = leaf }
top_of (Punch key) = key

-- it changes something: what is punched is there (profile)
abbrev pub ChangesSome : Map → Update → Type 0
ChangesSome m (Write leaf bytes) = Unit {0}
ChangesSome m (Punch key) = IsSome (get m key)

-- where it writes, it writes these bytes (profile)
abbrev pub IsWritten : Update → List ℕ → Type 0
IsWritten (Write leaf own) bytes = bytes ≡ own.now
IsWritten (Punch key) bytes = Unit {0}
