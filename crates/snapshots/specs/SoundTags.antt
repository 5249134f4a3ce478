-- What the tags of a snapshot keep.
use Rattle.std.specs.Prelude.{◌≤◌, ℕ, List, length}
use Rattle.base.specs.Surveys.{AreDifferent}
use Rattle.snapshots.specs.Tags.{tag_limit}

-- each stands once (zfs-hold(8)), and there are not too many (profile)
pub record AreSound (tags : List (List ℕ)) : Type 0 where
  pub once : AreDifferent tags
  pub few : length tags ≤ tag_limit
