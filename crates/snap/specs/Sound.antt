-- What the open views of a pool keep.
use Rattle.std.specs.Prelude.{◌≡◌, ℕ, ◌+◌, ◌<◌, ◌≤◌, Some, IsTrue, map, length, vec_capacity}
use Rattle.std.specs.Ordering.{nat_cmp}
use Rattle.std.specs.FinMap.{get, is_sorted, from_sorted}
use Rattle.model.specs.World.{SnapId}
use Rattle.model.specs.Targets.{number_limit}
use Rattle.model.specs.requests.OpenView.{view_limit}
use Rattle.snap.specs.Entries.{entry_of}
use Rattle.snap.specs.declared.list.Views.TheInside.{Inside}

-- the numbers rise, and stay below the next one; there are not too many, and there is room for as many as there may be (profile)
pub record IsSound (v : Inside) : Type 0 where
  pub sorted : IsTrue (is_sorted nat_cmp (map entry_of v.open.items))
  pub below : (n : ℕ) (id : SnapId) → get (from_sorted {R = nat_cmp} (map entry_of v.open.items)) n ≡ Some id → n < v.next
  pub few : length v.open.items ≤ view_limit
  pub room : view_limit ≤ vec_capacity v.open
  pub next : v.next ≤ number_limit + 1
