-- How the lines of a ledger get what children use: each adds its charge to that of its parent, from the last to the first.
use Rattle.std.specs.Prelude.{◌≡◌, ℕ, ◌+◌, ◌*◌, ◌<◌, ◌≤◌, ◌^◌, false, List, [], map, length, take, drop, slice_index_or}
use Rattle.std.specs.List.{All, filter}
use Rattle.std.specs.Option.{option_map_or}
use Rattle.std.specs.FinMap.{keys}
use Rattle.base.specs.Names.{same_name, parent_of}
use Rattle.model.specs.World.{World}
use Rattle.model.specs.Hierarchy.{FileSystems, IsHierarchy}
use Rattle.world.specs.Trees.{total}
use Rattle.limits.specs.Levels.{charge_of}
use Rattle.limits.specs.declared.account.Account.{Account}
use Rattle.limits.specs.declared.line.Line.{Line}
use Rattle.limits.specs.Ledgers.{accounts_in}

-- an account's line, with no child charged (profile)
abbrev pub fresh : Account → Line
fresh a = record { account = a; children = 0 }

-- the children of a file system among names from a place on (zfs(8))
abbrev pub children_from : List (List ℕ) → ℕ → List ℕ → List (List ℕ)
children_from names i name = filter (λ child. option_map_or (same_name name) (parent_of child) false) (drop i names)

-- of a world with these file systems and these accounts, each line has the charges of its children from a place on (zfsprops(7):
-- usedbychildren)
abbrev pub HasCharges : FileSystems → ℕ → List Line → Type 0
HasCharges m i ls =
    (w : World) → IsHierarchy w.file_systems → keys w.file_systems ≡ keys m → accounts_in w ≡ map (λ l. l.account) ls
    → (j : ℕ) (d : Line) → j < length ls → (slice_index_or ls j d).children ≡ total (charge_of w) (children_from (keys m) i (slice_index_or (keys m) j []))

-- Each line has its children's charges from a place on. There are so few, each of so little, that their sums can be told (profile)
pub record IsCharged (m : FileSystems) (i : ℕ) (ls : List Line) : Type 0 where
  pub charges : HasCharges m i ls
  pub left : total (λ l. l.children) (take i ls) + i * 2 ^ 43 ≤ length ls * 2 ^ 43
  pub most : All (λ l. l.children ≤ 2 ^ 53) ls
  pub here : All (λ l. l.account.here < 2 ^ 42) ls
  pub few : length ls ≤ 1024
