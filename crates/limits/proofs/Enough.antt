-- The root uses no less than what all datasets have: so where the pool has room, its blocks are enough.
use Rattle.std.proofs.Common.{◌≡◌, ℕ, zero, suc, ◌+◌, ◌≤◌, Bool, true, false, cond, List, Option, Some, None, refl, inr, arith}
use Rattle.std.specs.Prelude.{max}
use Rattle.std.specs.Option.{option_map_or}
use Rattle.std.specs.FinMap.{get, keys}
use Rattle.std.specs.FinMap as finmap
use Rattle.std.specs.FinSet.{len, union}
use Rattle.std.proofs.lemmas.Bool.{leb-true}
use Rattle.base.specs.Names.{root_name}
use Rattle.model.specs.World.{World, FileSystem, union_of, reach_of, children_of}
use Rattle.model.specs.State.{State}
use Rattle.model.specs.Sums.{used_of, used_here, used_by_children, children_within, reservation_of, used_by_dataset, used_by_snapshots, used_by_refreservation}
use Rattle.model.specs.Fits.{pool_holds}
use Rattle.world.specs.Sets.{AreDisjoint}
use Rattle.world.specs.Trees.{total, used_within}
use Rattle.world.specs.Worlds.{AreFileSystems}
use Rattle.limits.specs.Space.{own_of}
use Rattle.limits.proofs.Totals.{sum-total, total_more}
use Rattle.limits.proofs.Names.{is_child, keys_once}
use Rattle.limits.proofs.Root.{own, total_passing, whole_is}
use Rattle.limits.proofs.Pool.{reached_is, taken_is}

module _ (w : World) where
  own_here : (name : List ℕ) → own w name ≤ used_here w name
  unfolding own
  own_here name = at (get w.file_systems name)
    where
      at : (x : Option FileSystem) → option_map_or (own_of w) x 0 ≤ option_map_or (λ s. used_by_dataset w s + used_by_snapshots w s + used_by_refreservation w name s) x 0
      at None = omega arith
      at (Some s) = omega arith

  -- the children have no less than what is below them
  children_more : (f g : List ℕ → ℕ) (name : List ℕ) → ((c : List ℕ) → g c ≤ f c)
      → total (λ c. cond (is_child name c) (g c) 0) (keys w.file_systems) ≤ total f (children_of w name)
  children_more f g name more =
      let p = total_passing (is_child name) f f (keys w.file_systems) (λ c. refl) in
      let m = total_more (λ c. cond (is_child name c) (g c) 0) (λ c. cond (is_child name c) (f c) 0) (keys w.file_systems) (keys w.file_systems) (keys_once w.file_systems)
      (λ c i. inr (at (is_child name c) (more c), i)) in
      omega (arith, p, m)
    where
      at : {m n : ℕ} (b : Bool) → m ≤ n → cond b m 0 ≤ cond b n 0
      at true l = l
      at false l = omega arith

  -- what is used to a depth is no less than the sum to that depth
  within_more : (k : ℕ) (name : List ℕ) → used_within (own w) is_child (keys w.file_systems) k name ≤ used_here w name + children_within w k name
  within_more zero name = let h = own_here name in omega (arith, h)
  within_more (suc k) name =
      let h = own_here name in
      let r = children_more (λ c. max (used_here w c + children_within w k c) (reservation_of w c)) (used_within (own w) is_child (keys w.file_systems) k) name
      (λ c. let l = within_more k c in omega (arith, l)) in
      let s = sum-total (λ c. max (used_here w c + children_within w k c) (reservation_of w c)) (children_of w name) in
      omega (arith, h, r, s)

  -- the root uses at least what datasets have
  pub union_in_root : AreFileSystems w.file_systems w.group → len (union_of w) ≤ used_of w root_name
  unfolding used_of used_by_children
  union_in_root good =
      let a = whole_is w good in
      let b = within_more (finmap.len w.file_systems) root_name in
      omega (arith, a, b)

-- where the pool has room, the blocks that are reached and those that wait are no more than it has
pub room_is_enough : (s : State) → AreFileSystems s.now.file_systems s.now.group → AreDisjoint (union_of s.now) s.now.freeing
    → pool_holds s ≡ true → len (union (reach_of s.now) (reach_of s.last)) ≤ s.size
unfolding pool_holds
room_is_enough s good apart h =
    let l = leb-true _ s.size h in
    let a = reached_is s.now apart in
    let t = taken_is s in
    let r = union_in_root s.now good in
    omega (arith, l, a, t, r)
