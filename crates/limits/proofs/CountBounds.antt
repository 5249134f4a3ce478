-- Each count of blocks is at most that of the blocks that datasets have.
use Rattle.std.proofs.Common.{◌≤◌, List}
use Rattle.std.specs.FinSet.{len, difference}
use Rattle.base.specs.Map.{BlockSet}
use Rattle.model.specs.World.{World, SnapId, same_id, union_of}
use Rattle.model.specs.Sums.{would_free, union_without}
use Rattle.std.specs.List.{list_any}
use Rattle.world.specs.Blocks.{block_order as o}
use Rattle.world.proofs.lists.SetCounts.{len-subset, from_difference}

less : (a b : BlockSet) → len (difference a b) ≤ len a
less a b = len-subset o (difference a b) a (λ k h. (from_difference o a b k h).0)

-- would free
pub would_free_few : (w : World) (ids : List SnapId) → would_free w ids ≤ len (union_of w)
unfolding would_free
would_free_few w ids = less (union_of w) (union_without w (λ id. list_any (same_id id) ids))
