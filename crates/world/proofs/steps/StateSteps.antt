-- The state after a step: what holds between two steps holds again, with the sweep.
use Rattle.std.proofs.Common.{◌≡◌, ◌⊎◌, ℕ, ◌<◌, ◌≤◌, Bool, true, false, not, ◌&&◌, List, length, Option, Some, None, refl, sym, ap, subst, ◌∙◌, true≢false, ⊎_elim, arith}
use Rattle.std.specs.Prelude.{IsSome, IsTrue, is_some, nat_lt}
use Rattle.std.specs.List.{filter, list_any}
use Rattle.std.specs.Option.{option_map_or}
use Rattle.std.specs.FinMap.{get, insert, len, values}
use Rattle.std.proofs.lemmas.Bool.{or_cases, or_left, or_right}
use Rattle.base.specs.Names.{root_name}
use Rattle.base.specs.Rewrite.{Changes, rewrite}
use Rattle.base.specs.Surveys.{IsIn}
use Rattle.model.specs.World.{World, FileSystem, Snap, SnapId, id_of, same_id, snap_at, clones_of, empty_file_system}
use Rattle.model.specs.State.{State, is_viewed}
use Rattle.model.specs.Edits.{with_now, with_next_group, after_change, without_snaps, with_losses}
use Rattle.model.specs.requests.Create.{with_new_file_system}
use Rattle.model.specs.Outcome.{is_needed, state_after_sweep}
use Rattle.std.specs.FinSet.{union, difference}
use Rattle.base.specs.declared.name.member.Member.{Member}
use Rattle.base.specs.Map.{BlockSet}
use Rattle.model.specs.World.{Live, map_of_snap, reach_of}
use Rattle.world.specs.Plans.{AreTakable}
use Rattle.zalloc.specs.declared.BlockState.{BlockState}
use Rattle.tree.specs.Change.{Shown, IsChange}
use Rattle.world.specs.Takings.{AreTakable as AreTakableSnaps}
use Rattle.world.specs.Outcomes.{Promotion, promotion_of, promoted_snaps, after_promotion, with_clone, with_snapshots, after_rollback}
use Rattle.world.specs.Dead.{base_of, HasNoCloneIn}
use Rattle.world.proofs.removals.Rollbacks.{rollback_world, rollback_pairs, rollback_seen}
use Rattle.world.proofs.changes.Creations.{clone_keeps, clone_pairs}
use Rattle.model.specs.requests.Rename.{with_renamed}
use Rattle.model.specs.requests.RenameSnapshot.{with_snaps_renamed}
use Rattle.world.proofs.changes.Promotions.{promote_world, promote_pairs, promote_there}
use Rattle.world.proofs.changes.Renames.{CanRename, rename_world, rename_pairs, renamed_there}
use Rattle.world.proofs.changes.SnapNames.{named_world, named_pairs, named_there}
use Rattle.world.proofs.views.ViewedSnapNames.{CanRenameSnaps}
use Rattle.world.proofs.steps.SnapshotLists.{snapshots_keep, snapshots_pair, snapshots_there}
use Rattle.world.proofs.changes.Plans.{plan_world, plan_pairs}
use Rattle.world.specs.Shapes.{Name}
use Rattle.model.specs.Hierarchy.{has_parent}
use Rattle.world.specs.Worlds.{FileSystems, AreFileSystems, IsWorld, ArePaired, IsPoolState, IsSwept}
use Rattle.world.proofs.lists.Maps.{same_value, no_value}
use Rattle.world.proofs.lineage.Bridge.{live_high}
use Rattle.world.proofs.lists.Finding.{filter_all, from_filter}
use Rattle.world.proofs.removals.Sweep.{sweep-idle}
use Rattle.world.proofs.changes.Creations.{create_keeps, create_pairs}
use Rattle.world.proofs.changes.Views.{AreSnapsIn, snap_stays, snaps_in_put}
use Rattle.world.proofs.removals.WithoutSnaps.{from_without, without_at}
use Rattle.world.proofs.removals.Slices.{slice_world, slice_pairs}
use Rattle.world.proofs.steps.States.{in_clones, some_in, from_clones, positive}

-- ---- the sweep

goes_or_needed : (d n : Bool) → (d && not n) ≡ false → d ≡ true → n ≡ true
goes_or_needed true true e h = refl
goes_or_needed true false e h = absurd (true≢false e)
goes_or_needed false n e h = absurd (true≢false (sym h))

no_goer : (d n : Bool) → (d ≡ true → n ≡ true) → not (d && not n) ≡ true
no_goer true true h = refl
no_goer true false h = absurd (true≢false (sym (h refl)))
no_goer false n h = refl

-- with nothing to sweep the state stays
pub swept_idle : (s : State) → IsSwept s → state_after_sweep s ≡ s
swept_idle s swept = sweep-idle s (λ q y at. filter_all (λ (t : Snap). not (t.deferred && not (is_needed s.now s.views t))) y.snaps (λ t h. no_goer t.deferred (is_needed s.now s.views t) (swept q y t at h)))

module _ (s : State) where
  abbrev goes : Snap → Bool
  goes t = t.deferred && not (is_needed s.now s.views t)

  abbrev left : State
  left = with_now s (with_losses s.now (without_snaps s.now goes))

  -- what needed a snapshot needs it still
  needed_still : (t : Snap) → is_needed s.now s.views t ≡ true → is_needed left.now left.views t ≡ true
  needed_still t h = ⊎_elim
      (λ k. or_left (nat_lt 0 (length t.tags)) _ k)
      (λ k. or_right (nat_lt 0 (length t.tags)) _ (⊎_elim
      (λ i. or_left (is_viewed s.views (id_of t)) _ i)
      (λ i. or_right (is_viewed s.views (id_of t)) _ (still i))
      (or_cases (is_viewed s.views (id_of t)) (nat_lt 0 (length (clones_of s.now (id_of t)))) k)))
      (or_cases (nat_lt 0 (length t.tags)) _ h)
    where
      still : nat_lt 0 (length (clones_of s.now (id_of t))) ≡ true → nat_lt 0 (length (clones_of (with_losses s.now (without_snaps s.now goes)) (id_of t))) ≡ true
      still i =
          let q = some_in (clones_of s.now (id_of t)) i in
          let x = from_clones s.now (id_of t) q.0 q.1 in
          positive (clones_of (with_losses s.now (without_snaps s.now goes)) (id_of t)) q.0
          (in_clones (with_losses s.now (without_snaps s.now goes)) (id_of t) q.0 (record x.0 { snaps = filter (λ t. not (goes t)) x.0.snaps }) (without_at s.now goes q.0 x.0 x.1) x.2)

  -- after a sweep there is nothing to sweep
  pub sweep_swept : IsSwept (state_after_sweep s)
  unfolding state_after_sweep
  sweep_swept q x t at h d =
      let k = from_without s.now goes q x at in
      let i = from_filter (λ t. not (goes t)) k.0.snaps t (subst (λ (y : FileSystem). IsIn y.snaps t) k.2 h) in
      needed_still t (goes_or_needed t.deferred (is_needed s.now s.views t) (false_of (goes t) i.1) d)
    where
      false_of : (b : Bool) → not b ≡ true → b ≡ false
      false_of true e = absurd (true≢false (sym e))
      false_of false e = refl

-- ---- steps

pub begun : (ss : FileSystems) (g : ℕ) → AreFileSystems ss g → 0 < g
begun ss g good = by_root (get ss root_name) refl
  where
    by_root : (x : Option FileSystem) → get ss root_name ≡ x → 0 < g
    by_root None e = absurd (true≢false (sym good.hierarchy.root ∙ ap is_some e))
    by_root (Some s) e = let l = live_high ss g good.lines root_name s e in omega arith

-- another present world, in which no snapshot is missing
pub now_keeps : (s : State) → IsPoolState s → (w : World) → IsWorld s.size w → ArePaired s.size w s.last → AreSnapsIn s.now.file_systems w.file_systems → IsPoolState (with_now s w)
now_keeps s good w world pair there = record {
  now = world;
  last = good.last;
  pair = pair;
  views = λ v id e. snap_stays s.now w w.group world.systems.lines there id (good.views v id e);
}

pub create_before : (s : State) → IsPoolState s → (name : Name) → get s.now.file_systems name ≡ None → IsTrue (has_parent s.now.file_systems name) → len s.now.file_systems < 1024
    → IsPoolState (with_now s (with_new_file_system s.now name))
create_before s good name absent p room =
    let b = begun s.now.file_systems s.now.group good.now.systems in
    now_keeps s good (with_new_file_system s.now name)
    (create_keeps s.size s.now good.now name absent p room b)
    (create_pairs s.size s.now good.now name absent p room b s.last good.pair)
    (snaps_in_put s.now.file_systems name empty_file_system (λ x u at h. absurd (no_value x (sym absent ∙ at))))

-- ---- worlds in which snapshots are missing: none that a view sees

pub seen_keeps : (s : State) → IsPoolState s → (w : World) → IsWorld s.size w → ArePaired s.size w s.last
    → ((v : ℕ) (id : SnapId) → get s.views v ≡ Some id → IsSome (snap_at s.now id) → IsSome (snap_at w id)) → IsPoolState (with_now s w)
seen_keeps s good w world pair seen = record { now = world; last = good.last; pair = pair; views = λ v id e. seen v id e (good.views v id e) }

-- ---- a change of a live map

module _ (s : State) (good : IsPoolState s) (name : Name) (x : FileSystem) (at : get s.now.file_systems name ≡ Some x) (ch : Changes) (young : ℕ)
    (late : s.last.group ≤ young) (own_late : base_of s.now (Live name) < young)
    (states : List BlockState) (v : Shown) (is : IsChange x.live ch s.now.group young states v)
    (takable : AreTakable (union (reach_of s.now) (reach_of s.last)) s.size young v.released v.taken) where
  pub change_is : after_change s.now name ch is.number ≡ record s.now { file_systems = insert s.now.file_systems name (record x { live = rewrite x.live ch s.now.group is.number }) }
  change_is = ap (λ y. option_map_or (λ (z : FileSystem). record s.now { file_systems = insert s.now.file_systems name (record z { live = rewrite z.live ch s.now.group is.number }) }) y s.now) at

  pub change_before : IsPoolState (with_now s (after_change s.now name ch is.number))
  change_before = subst (λ y. IsPoolState (with_now s y)) (sym change_is) (now_keeps s good
      (record s.now { file_systems = insert s.now.file_systems name (record x { live = rewrite x.live ch s.now.group is.number }) })
      (plan_world s.size s.now s.last good.now good.last good.pair name x at ch young late own_late states v is takable)
      (plan_pairs s.size s.now s.last good.now good.last good.pair name x at ch young late own_late states v is takable)
      (snaps_in_put s.now.file_systems name (record x { live = rewrite x.live ch s.now.group is.number }) (λ y u i h. (u, subst (λ (z : FileSystem). IsIn z.snaps u) (same_value y x (sym i ∙ at)) h, refl))))

-- ---- snapshots, clone, promote

pub snapshots_before : (s : State) → IsPoolState s → (guid : ℕ) (ms : List Member) → AreTakableSnaps s.now.file_systems ms → IsPoolState (with_now s (with_next_group (with_snapshots s.now guid ms)))
snapshots_before s good guid ms can = now_keeps s good (with_next_group (with_snapshots s.now guid ms))
    (snapshots_keep s.size s.now good.now guid ms can) (snapshots_pair s.size s.now good.now guid ms can s.last good.pair) (snapshots_there s.size s.now good.now guid ms can)

pub clone_before : (s : State) → IsPoolState s → (name : Name) → get s.now.file_systems name ≡ None → IsTrue (has_parent s.now.file_systems name) → len s.now.file_systems < 1024
    → (id : SnapId) (owner : Name × Snap) → snap_at s.now id ≡ Some owner → IsPoolState (with_now s (with_clone s.now id name))
clone_before s good name absent p room id owner there = now_keeps s good (with_clone s.now id name)
    (clone_keeps s.size s.now good.now name absent p room id owner there) (clone_pairs s.size s.now good.now name absent p room id owner there s.last good.pair)
    (snaps_in_put s.now.file_systems name (record empty_file_system { live = map_of_snap s.now (Some id); origin = Some id }) (λ x u at h. absurd (no_value x (sym absent ∙ at))))

pub promote_before : (s : State) → IsPoolState s → (name : Name) (p : Promotion) → promotion_of s.now name ≡ Some p
    → ((t u : Snap) → IsIn (promoted_snaps p) t → IsIn p.clone.snaps u → t.name ≡ u.name → ⊥) → IsPoolState (with_now s (after_promotion s.now name p))
promote_before s good name p is clash = now_keeps s good (after_promotion s.now name p)
    (promote_world s.now good.now.systems name p is clash s.size good.now) (promote_pairs s.now good.now.systems name p is clash s.size good.now s.last good.pair) (promote_there s.now good.now.systems name p is clash)

pub rename_before : (s : State) → IsPoolState s → (from to : Name) → CanRename s.now.file_systems from to → IsPoolState (with_now s (with_renamed s.now from to))
rename_before s good from to can = now_keeps s good (with_renamed s.now from to)
    (rename_world s.now good.now.systems from to can s.size good.now) (rename_pairs s.now good.now.systems from to can s.size good.now s.last good.pair)
    (renamed_there s.now.file_systems from to can)

-- ---- snapshots under another name

pub rename_snapshots_before : (s : State) → IsPoolState s → (m : Member) (to : List ℕ) (recursive : Bool) → CanRenameSnaps s.now s.views m to recursive → IsPoolState (with_now s (with_snaps_renamed s.now m to recursive))
rename_snapshots_before s good m to recursive can = now_keeps s good (with_snaps_renamed s.now m to recursive)
    (named_world m to recursive s.now can.free s.size good.now) (named_pairs m to recursive s.now can.free s.size good.now s.last good.pair)
    (named_there m to recursive s.now)

-- ---- snapshots destroyed, of which none has a clone or a view

-- ---- a rollback, and file systems destroyed

pub rollback_before : (s : State) → IsPoolState s → (id : SnapId) (p : Name × Snap) (found : snap_at s.now id ≡ Some p)
    → ((x : FileSystem) (u : Snap) → get s.now.file_systems p.0 ≡ Some x → IsIn x.snaps u → p.1.group < u.group → HasNoCloneIn s.now.file_systems (id_of u))
    → ((v : ℕ) (i : SnapId) (q : Name) (u : Snap) → get s.views v ≡ Some i → snap_at s.now i ≡ Some (q, u) → q ≡ p.0 → u.group ≤ p.1.group)
    → IsPoolState (with_now s (with_losses s.now (after_rollback s.now id)))
rollback_before s good id p found none unseen = seen_keeps s good (with_losses s.now (after_rollback s.now id))
    (rollback_world s.size s.now good.now id p found none) (rollback_pairs s.size s.now good.now id p found none s.last good.pair)
    (λ v i e some. rollback_seen s.size s.now good.now id p found none i (λ q u f same. unseen v i q u e f same) some)

-- ---- steps that leave nothing to sweep

-- a later state, in which each snapshot is an earlier one or isn't to be destroyed, and each origin is some file system's still
module _ (s new : State) (views : new.views ≡ s.views)
    (snaps : (q : Name) (x : FileSystem) (t : Snap) → get new.now.file_systems q ≡ Some x → IsIn x.snaps t
    → (t.deferred ≡ false) ⊎ ((p : Name) × (y : FileSystem) × (get s.now.file_systems p ≡ Some y) × IsIn y.snaps t))
    (origins : (q : Name) (x : FileSystem) (id : SnapId) → get s.now.file_systems q ≡ Some x → x.origin ≡ Some id
    → (p : Name) × (y : FileSystem) × (get new.now.file_systems p ≡ Some y) × (y.origin ≡ Some id)) where
  still_needed : (t : Snap) → is_needed s.now s.views t ≡ true → is_needed new.now new.views t ≡ true
  still_needed t h = ⊎_elim
      (λ k. or_left (nat_lt 0 (length t.tags)) _ k)
      (λ k. or_right (nat_lt 0 (length t.tags)) _ (⊎_elim
      (λ i. or_left (is_viewed new.views (id_of t)) _ (ap (λ v. list_any (same_id (id_of t)) (values v)) views ∙ i))
      (λ i. or_right (is_viewed new.views (id_of t)) _ (clone_still i))
      (or_cases (is_viewed s.views (id_of t)) (nat_lt 0 (length (clones_of s.now (id_of t)))) k)))
      (or_cases (nat_lt 0 (length t.tags)) _ h)
    where
      clone_still : nat_lt 0 (length (clones_of s.now (id_of t))) ≡ true → nat_lt 0 (length (clones_of new.now (id_of t))) ≡ true
      clone_still i =
          let q = some_in (clones_of s.now (id_of t)) i in
          let x = from_clones s.now (id_of t) q.0 q.1 in
          let y = origins q.0 x.0 (id_of t) x.1 x.2 in
          positive (clones_of new.now (id_of t)) y.0 (in_clones new.now (id_of t) y.0 y.1 y.2 y.3)

  pub swept_stays : IsSwept s → IsSwept new
  swept_stays swept q x t at h d = ⊎_elim
      (λ f. absurd (true≢false (sym d ∙ f)))
      (λ k. still_needed t (swept k.0 k.1 t k.2 k.3 d))
      (snaps q x t at h)

-- ---- a slice, and the way back to the last synced world

pub slice_before : (s : State) → IsPoolState s → (taken : BlockSet) → IsPoolState (with_now s (record s.now { freeing = difference s.now.freeing taken }))
slice_before s good taken = now_keeps s good (record s.now { freeing = difference s.now.freeing taken })
    (slice_world s.size s.now good.now taken) (slice_pairs s.size s.now good.now taken s.last good.pair) (λ q x u at h. (q, x, u, at, h, refl))
