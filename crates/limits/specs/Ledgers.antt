-- The accounts of a world's file systems, and with what their children use the ledger of it.
use Rattle.std.specs.Prelude.{◌≡◌, ℕ, List, map}
use Rattle.std.specs.FinMap.{entries}
use Rattle.std.specs.FinSet.{len}
use Rattle.model.specs.World.{World, FileSystem, Live}
use Rattle.model.specs.State.{State, waiting_of}
use Rattle.model.specs.Sums.{used_here, used_by_children, referenced_of}
use Rattle.limits.specs.declared.account.Account.{Account}
use Rattle.limits.specs.declared.line.Line.{Line}
use Rattle.limits.specs.declared.pool_space.Space.{Space}

-- what a file system has and keeps of its own, what its live map has, and its limits (zfsprops(7): used, referenced, quota, refquota,
-- reservation, refreservation)
abbrev pub account_in : World → List ℕ → FileSystem → Account
account_in w name f = record { here = used_here w name; referenced = referenced_of w (Live name); limits = f.limits }

-- of each file system, in byte order of the names (profile)
unfoldable pub accounts_in : World → List Account
accounts_in w = map (λ e. account_in w e.0 e.1) (entries w.file_systems)

-- its account, and what its children use (zfsprops(7): usedbychildren)
abbrev pub line_in : World → List ℕ × FileSystem → Line
line_in w e = record { account = account_in w e.0 e.1; children = used_by_children w e.0 }

-- of each file system, in byte order of the names (profile)
unfoldable pub ledger_of : World → List Line
ledger_of w = map (line_in w) (entries w.file_systems)

-- what a state's pool has beside its file systems (zpoolprops(7): size, freeing; waiting is profile)
pub record IsSpaceOf (s : State) (space : Space) : Type 0 where
  pub size : space.size ≡ s.size
  pub freeing : space.freeing ≡ len s.now.freeing
  pub waiting : space.waiting ≡ len (waiting_of s)
