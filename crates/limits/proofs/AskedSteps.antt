-- A change of a live map that isn't refused leaves every limit as it should be, whatever numbers its new blocks have.
use Rattle.std.proofs.Common.{◌≡◌, Bool, true, false, Some, None, refl, sym, ap, subst, ◌∙◌, ◌⊎◌, inl, inr, arith}
use Rattle.std.specs.FinMap.{get}
use Rattle.base.specs.declared.number.Key.{Key}
use Rattle.base.specs.Map.{Cell, Block, IsTree, block_of, blocks}
use Rattle.base.specs.Rewrite.{Changes, rewrite, is_touched}
use Rattle.base.specs.declared.name.target.Target.TheVariants.{FileSystem as OfFileSystem}
use Rattle.model.specs.World.{World, FileSystem, Live, union_of, reach_of}
use Rattle.model.specs.State.{State}
use Rattle.model.specs.Edits.{with_now, after_change}
use Rattle.model.specs.Sums.{referenced_of}
use Rattle.model.specs.Rule.{Choice}
use Rattle.model.specs.Outcome.{state_after}
use Rattle.model.specs.Refusals.{fresh_number, state_asked, refusal_of}
use Rattle.model.specs.requests.Change.{change_rule}
use Rattle.world.specs.Sets.{Has}
use Rattle.world.specs.Blocks.{block_order as o}
use Rattle.world.specs.Shapes.{Name}
use Rattle.world.specs.Worlds.{AreFileSystems, IsPoolState}
use Rattle.world.proofs.lists.SetCounts.{in_union_left}
use Rattle.world.proofs.lineage.Bridge.{map_of_live}
use Rattle.world.proofs.maps.Cells.{in_blocks, from_blocks}
use Rattle.world.proofs.changes.Kept.{reach_is}
use Rattle.world.proofs.maps.Rewrites.{rewrite_is_change}
use Rattle.world.proofs.changes.TableWrites.{live_systems}
use Rattle.limits.specs.Levels.{IsSameHere}
use Rattle.limits.specs.Limits.{HasLimits}
use Rattle.limits.specs.Asked.{IsNumberedOnce, AreWorldsAlike}
use Rattle.limits.proofs.Asked.{same_here, same_size}
use Rattle.limits.proofs.Steps.{after_limits}
use Rattle.limits.proofs.AskedNumbers.{once_of_pair, fresh_rewrite_once}
use Rattle.limits.proofs.AskedChanges.{after_is, live_there, changes_alike}
use Rattle.limits.proofs.AskedRows.{change_asked, change_limits}

module _ (s : State) (good : IsPoolState s) (name : Name) (x : FileSystem) (at : get s.now.file_systems name ≡ Some x) (c : Changes) where
  abbrev asked : World
  asked = after_change s.now name c (fresh_number s)

  all_once : (q : Name) (y : FileSystem) → get s.now.file_systems q ≡ Some y → IsNumberedOnce y.live
  all_once = once_of_pair s.size s.now s.last good.pair

  -- a block with a fresh number is none that a dataset has
  new_out : (k : Key) (b : Block) → b.number ≡ fresh_number s k → ¬ (Has (union_of s.now) b)
  new_out k b e h =
      let r = subst (λ z. Has z b) (sym (reach_is s.now)) (in_union_left o (union_of s.now) s.now.freeing b h) in
      let l = good.pair.reached.small b (in_union_left o (reach_of s.now) (reach_of s.last) b r) in
      absurd (omega (arith, e, l))

  new_or_old : (b : Block) → Has (blocks (rewrite x.live c s.now.group (fresh_number s))) b → Has (blocks x.live) b ⊎ ((b.birth ≡ s.now.group) × ¬ (Has (union_of s.now) b))
  new_or_old b h = let f = from_blocks (rewrite x.live c s.now.group (fresh_number s)) b h in by_touch f.0 f.1 f.2 f.3 (is_touched x.live c f.0) refl
    where
      by_touch : (k : Key) (y : Cell) → get (rewrite x.live c s.now.group (fresh_number s)) k ≡ Some y → block_of y ≡ b → (t : Bool) → is_touched x.live c k ≡ t
          → Has (blocks x.live) b ⊎ ((b.birth ≡ s.now.group) × ¬ (Has (union_of s.now) b))
      by_touch k y e is true t =
          let m = (rewrite_is_change x.live c s.now.group (fresh_number s)).made k y t e in
          inr (ap (λ (z : Block). z.birth) (sym is) ∙ m.1, new_out k b (ap (λ (z : Block). z.number) (sym is) ∙ m.0))
      by_touch k y e is false t =
          let old = sym ((rewrite_is_change x.live c s.now.group (fresh_number s)).kept k t) ∙ e in
          inl (subst (λ z. Has (blocks x.live) z) is (in_blocks x.live k y old))

  pub asked_systems : AreFileSystems (after_change s.now name c (fresh_number s)).file_systems (after_change s.now name c (fresh_number s)).group
  asked_systems =
      subst (λ (w : World). AreFileSystems w.file_systems w.group) (sym (after_is s.now name x at c (fresh_number s)))
      (live_systems s.now good.now.systems name x at (rewrite x.live c s.now.group (fresh_number s)) new_or_old)

  module _ (choice : Choice) (later : IsPoolState (with_now s (after_change s.now name c choice.number))) where
    pub asked_alike : AreWorldsAlike (after_change s.now name c (fresh_number s)) (after_change s.now name c choice.number)
    asked_alike = changes_alike s.now name x at all_once c (fresh_number s) choice.number
        (fresh_rewrite_once s x.live c s.now.group tree (all_once name x at))
        (once_of_pair s.size (after_change s.now name c choice.number) s.last later.pair name (record x { live = rewrite x.live c s.now.group choice.number })
        (ap (λ (w : World). get w.file_systems name) (after_is s.now name x at c choice.number)
        ∙ live_there s.now name x at (rewrite x.live c s.now.group choice.number) name refl))
      where
        tree : IsTree s.size x.live
        tree = subst (IsTree s.size) (map_of_live s.now name x at) (good.now.trees (Live name))

    -- each file system has of its own what it has in the world that limits are asked of
    pub change_same_here : (q : Name) → IsSameHere (after_change s.now name c (fresh_number s)) (after_change s.now name c choice.number) q
    change_same_here = same_here (after_change s.now name c (fresh_number s)) (after_change s.now name c choice.number) asked_systems later.now.systems asked_alike

    -- and a live map of that size
    pub change_same_size : (q : Name) → referenced_of (after_change s.now name c choice.number) (Live q) ≡ referenced_of (after_change s.now name c (fresh_number s)) (Live q)
    change_same_size = same_size (after_change s.now name c (fresh_number s)) (after_change s.now name c choice.number) asked_systems later.now.systems asked_alike

    module _ (in_range : Bool) (none : refusal_of s (change_rule (OfFileSystem name) c in_range) ≡ None) where
      -- and every quota and refquota holds, after the sweep too
      pub change_limits_after : HasLimits s → HasLimits (state_after s choice (change_rule (OfFileSystem name) c in_range))
      unfolding refusal_of state_asked
      change_limits_after has = after_limits s choice (change_rule (OfFileSystem name) c in_range) later has
          (change_limits s (with_now s asked) (after_change s.now name c choice.number) asked_systems later.now.systems asked_alike
          (change_asked s (with_now s asked) (OfFileSystem name) in_range none) has)
