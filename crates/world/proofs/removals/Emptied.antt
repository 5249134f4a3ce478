-- A file system that is no clone is emptied: its snapshots go, none of which has a clone, and then its live map and its bookmarks.
use Rattle.std.proofs.Common.{◌≡◌, ℕ, [], Option, Some, None, refl, sym, ap, subst, ◌∙◌, true≢false, inl, ⊎_elim, arith}
use Rattle.std.specs.Prelude.{IsSome, is_some}
use Rattle.std.specs.Option.{option_map_or}
use Rattle.std.specs.FinMap.{get, insert}
use Rattle.std.specs.FinMap as finmap
use Rattle.base.specs.Map.{blocks}
use Rattle.base.specs.Surveys.{IsIn}
use Rattle.model.specs.World.{World, FileSystem, Snap, SnapId, id_of, snap_at, empty_file_system, reach_of}
use Rattle.model.specs.State.{State}
use Rattle.model.specs.Edits.{with_now, with_file_system, with_losses}
use Rattle.model.specs.requests.Receive.{vacated}
use Rattle.world.specs.Dead.{HasNoCloneIn}
use Rattle.world.specs.Shapes.{Name, name_order, Writes, IsGood}
use Rattle.world.specs.Worlds.{FileSystems, shape_of, shapes, AreFileSystems, AreMapsFrom, IsWorld, IsPoolState}
use Rattle.world.proofs.changes.Creations.{bare_tidy}
use Rattle.world.proofs.changes.Kept.{world_losses, pair_losses, losses_reach}
use Rattle.world.proofs.lineage.Bridge.{shape_at, start, starts, no_block, from_snap_at, snap_is_at}
use Rattle.world.proofs.lineage.Changes.{write_keeps}
use Rattle.world.proofs.lineage.Put.{put_here, put_other, put_shape, put_shapes, put_tidy, put_hierarchy, put_maps}
use Rattle.world.proofs.lists.Maps.{same_value, key_cases}
use Rattle.world.proofs.removals.Rollbacks.{insert_twice, newer_go}
use Rattle.world.proofs.steps.StateSteps.{seen_keeps}

module _ (w : World) (good : AreFileSystems w.file_systems w.group) (name : Name) (f : FileSystem) (at : get w.file_systems name ≡ Some f) (bare : f.origin ≡ None)
    (none : (u : Snap) → IsIn f.snaps u → HasNoCloneIn w.file_systems (id_of u)) where
  abbrev mid : FileSystem
  mid = record f { snaps = [] }

  -- without its snapshots
  abbrev left : FileSystems
  left = insert w.file_systems name (record f { snaps = [] })

  left_good : AreFileSystems (insert w.file_systems name (record f { snaps = [] })) w.group
  left_good = newer_go w w.group good name f at [] f.snaps refl none

  here : get (insert w.file_systems name (record f { snaps = [] })) name ≡ Some (record f { snaps = [] })
  here = put_here w.file_systems name (record f { snaps = [] })

  -- and without its live map and its bookmarks
  abbrev empty : FileSystem
  empty = record empty_file_system { origin = f.origin; limits = f.limits }

  writes : Writes (shapes left) (shapes (insert left name empty)) name (blocks finmap.empty)
  writes = record {
    system = shape_of mid;
    at = shape_at left name mid here;
    here = put_shape left name empty;
    others = λ other ne. put_shapes left name empty other ne;
  }

  lines : IsGood (shapes (insert left name empty)) w.group
  unfolding writes
  lines = (write_keeps (shapes left) (shapes (insert left name empty)) w.group name (blocks finmap.empty) (start left w.group left_good.lines name mid here) left_good.lines writes
      (starts left w.group left_good.lines name mid here) (λ b h. absurd (no_block b h))).0

  empty_good : AreFileSystems (insert left name empty) w.group
  empty_good = record {
    lines = lines;
    hierarchy = put_hierarchy left name mid empty here left_good.hierarchy;
    tidy = put_tidy left name empty w.group left_good.tidy (let k = bare_tidy w.group finmap.empty f.origin in record { names = k.names; bookmarks = k.bookmarks });
  }

  one_put : insert left name empty ≡ insert w.file_systems name (vacated f)
  one_put = insert_twice w.file_systems name mid empty ∙ (λ i. insert w.file_systems name (record empty_file_system { origin = bare i; limits = f.limits }))

  -- the world then
  pub emptied_is : with_file_system w name vacated ≡ record w { file_systems = insert w.file_systems name (vacated f) }
  emptied_is = ap (λ x. option_map_or (λ (s : FileSystem). record w { file_systems = insert w.file_systems name (vacated s) }) x w) at

  abbrev new : World
  new = record w { file_systems = insert w.file_systems name (vacated f) }

  pub emptied_systems : AreFileSystems (insert w.file_systems name (vacated f)) w.group
  emptied_systems = subst (λ ss. AreFileSystems ss w.group) one_put empty_good

  pub emptied_from : AreMapsFrom w.file_systems (insert w.file_systems name (vacated f))
  emptied_from = put_maps w.file_systems name (vacated f) (λ m h. inl (⊎_elim (λ (e : m ≡ finmap.empty). e) (λ k. absurd k) h))

  -- a snapshot of another file system is there still
  seen : (i : SnapId) → ((u : Snap) → IsIn f.snaps u → id_of u ≡ i → ⊥) → IsSome (snap_at w i) → IsSome (snap_at (with_losses w new) i)
  seen i apart some = by_snap (snap_at w i) refl
    where
      by_snap : (x : Option (Name × Snap)) → snap_at w i ≡ x → IsSome (snap_at (with_losses w new) i)
      by_snap None e = absurd (true≢false (sym some ∙ ap is_some e))
      by_snap (Some o) e =
          let k = from_snap_at w i o e in
          ⊎_elim
          (λ (same : o.0 ≡ name). absurd (apart o.1 (subst (λ (x : FileSystem). IsIn x.snaps o.1) (same_value k.0 f (sym k.1 ∙ ap (get w.file_systems) same ∙ at)) k.2) k.3))
          (λ (other : ¬ (o.0 ≡ name)). ap is_some (snap_is_at (with_losses w new) w.group emptied_systems.lines o.0 k.0 o.1 i (put_other w.file_systems name (vacated f) o.0 other ∙ k.1) k.2 k.3))
          (key_cases name_order o.0 name)

  -- all blocks that were reached are
  pub emptied_reach : (size : ℕ) → IsWorld size w → reach_of (with_losses w (record w { file_systems = insert w.file_systems name (vacated f) })) ≡ reach_of w
  emptied_reach size is = losses_reach size w new is emptied_from emptied_systems refl

-- the state with that world, where no view shows a snapshot that goes
pub emptied_before : (s : State) → IsPoolState s → (name : Name) (f : FileSystem) (at : get s.now.file_systems name ≡ Some f) (bare : f.origin ≡ None)
    (none : (u : Snap) → IsIn f.snaps u → HasNoCloneIn s.now.file_systems (id_of u))
    → ((v : ℕ) (i : SnapId) (u : Snap) → get s.views v ≡ Some i → IsIn f.snaps u → id_of u ≡ i → ⊥)
    → IsPoolState (with_now s (with_losses s.now (record s.now { file_systems = insert s.now.file_systems name (vacated f) })))
emptied_before s good name f at bare none unseen =
    let new = record s.now { file_systems = insert s.now.file_systems name (vacated f) } in
    let from = emptied_from s.now good.now.systems name f at bare none in
    let systems = emptied_systems s.now good.now.systems name f at bare none in
    seen_keeps s good (with_losses s.now new)
    (world_losses s.size s.now new good.now from systems refl)
    (pair_losses s.size s.now new good.now from systems refl s.last (omega arith) good.pair)
    (λ v i e some. seen s.now good.now.systems name f at bare none i (λ u h same. unseen v i u e h same) some)
