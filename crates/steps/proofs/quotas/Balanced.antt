-- What datasets have, and what waits, is no more than the pool has, where each block is allocated, free or waiting.
use Rattle.std.proofs.Common.{◌≡◌, ◌≤◌, ◌<◌, ◌^◌, refl, sym, ap, subst, arith}
use Rattle.std.specs.FinSet as set
use Rattle.model.specs.World.{World, union_of, reach_of}
use Rattle.model.specs.Sums.{allocated_of, waiting_count, IsBalanced}
use Rattle.model.specs.State.{State, waiting_of}
use Rattle.model.specs.Edits.{with_now}
use Rattle.world.specs.Sets.{Has}
use Rattle.world.specs.Blocks.{block_order as o}
use Rattle.world.specs.Tables.{Datasets, world_of}
use Rattle.world.proofs.changes.Kept.{reach_is, union-fields}
use Rattle.world.proofs.lists.SetCounts.{in_union_left, in_union_right, len-difference, len-subset, len-union}
use Rattle.steps.specs.Edits.{datasets_of}
use Rattle.steps.proofs.quotas.Bounded.{IsUnasked}

module _ (s : State) (balanced : IsBalanced s) where
  -- all that are reached are no more than the pool has
  reached_fits : set.len (reach_of s.now) ≤ s.size
  unfolding allocated_of
  reached_fits =
      let b = balanced in
      let a : allocated_of s ≡ set.len (reach_of s.now) = refl in
      omega (arith, a, b)

  -- among them those that are to be freed
  pub freeing_fits : set.len s.now.freeing ≤ s.size
  freeing_fits =
      let l = len-subset o s.now.freeing (reach_of s.now) (λ k h. subst (λ x. Has x k) (sym (reach_is s.now)) (in_union_right o (union_of s.now) s.now.freeing k h)) in
      let r = reached_fits in
      omega (arith, l, r)

  -- so all that datasets have can be counted by so many bits
  pub few : s.size < 2 ^ 32 → set.len (union_of (world_of (datasets_of s))) < 2 ^ 32
  few small =
      let l = len-subset o (union_of s.now) (reach_of s.now) (λ k h. subst (λ x. Has x k) (sym (reach_is s.now)) (in_union_left o (union_of s.now) s.now.freeing k h)) in
      let r = reached_fits in
      let e = ap set.len (union-fields (world_of (datasets_of s)) s.now refl) in
      omega (arith, small, l, r, e)

  -- and those of a state that limits are asked of
  pub few_unasked : (new : State) → IsUnasked s new → s.size < 2 ^ 32 → (to : Datasets) → to.file_systems ≡ new.now.file_systems → set.len (union_of (world_of to)) < 2 ^ 32
  few_unasked new is small to same =
      let l = len-subset o (union_of new.now) (reach_of new.now) (λ k h. subst (λ x. Has x k) (sym (reach_is new.now)) (in_union_left o (union_of new.now) new.now.freeing k h)) in
      let f = reached_fits in
      let r = ap set.len is.reach in
      let u = ap set.len (union-fields (world_of to) new.now same) in
      omega (arith, f, l, r, u, small)

  -- and no more waits than the last synced world has
  pub few_wait : (w : World) → set.len (waiting_of (with_now s w)) ≤ s.size
  unfolding allocated_of waiting_count waiting_of
  few_wait w =
      let b = balanced in
      let d = len-difference o (reach_of s.last) (reach_of w) in
      let l = len-subset o (reach_of s.last) (set.union (reach_of s.now) (reach_of s.last)) (λ k h. in_union_right o (reach_of s.now) (reach_of s.last) k h) in
      let u = len-union o (reach_of s.now) (reach_of s.last) in
      omega (arith, b, d, l, u)
