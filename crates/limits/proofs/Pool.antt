-- The pool's sums, from counts that can be stored.
use Rattle.std.proofs.Common.{◌≡◌, ℕ, ◌+◌, sym, ap, ◌∙◌}
use Rattle.std.specs.Prelude.{max, nat_le}
use Rattle.std.specs.FinSet.{len, union}
use Rattle.base.specs.Names.{root_name}
use Rattle.model.specs.World.{World, union_of, reach_of}
use Rattle.model.specs.State.{State, waiting_of}
use Rattle.model.specs.Sums.{used_of, used_here, used_by_children, reservation_of}
use Rattle.model.specs.Fits.{pool_holds}
use Rattle.world.specs.Sets.{AreDisjoint}
use Rattle.world.specs.Blocks.{block_order as o}
use Rattle.world.proofs.lists.SetCounts.{len-union, len-union_disjoint}
use Rattle.world.proofs.changes.Kept.{reach_is}

-- what is reached: what datasets have, and what is to be freed
pub reached_is : (w : World) → AreDisjoint (union_of w) w.freeing → len (reach_of w) ≡ len (union_of w) + len w.freeing
reached_is w apart = ap len (reach_is w) ∙ len-union_disjoint o (union_of w) w.freeing apart

-- the blocks that aren't free: those that are allocated, and those that wait
pub taken_is : (s : State) → len (reach_of s.now) + len (waiting_of s) ≡ len (union (reach_of s.now) (reach_of s.last))
unfolding waiting_of
taken_is s = sym (len-union o (reach_of s.now) (reach_of s.last))

-- the pool's question, of numbers that are stored
pub pool_holds_is : (s : State) (here children reserved freeing waiting : ℕ) → used_here s.now root_name ≡ here → used_by_children s.now root_name ≡ children
    → reservation_of s.now root_name ≡ reserved → len s.now.freeing ≡ freeing → len (waiting_of s) ≡ waiting
    → pool_holds s ≡ nat_le (max (here + children) reserved + freeing + waiting) s.size
unfolding pool_holds used_of
pool_holds_is s here children reserved freeing waiting a b c d e i = nat_le (max (a i + b i) (c i) + d i + e i) s.size
