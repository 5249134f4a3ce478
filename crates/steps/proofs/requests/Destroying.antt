-- A destroy: the datasets after it, why it is refused, and its steps.
use Rattle.std.proofs.Common.{◌≡◌, ◌⊎◌, Bool, List, not, ◌&&◌, ◌||◌, Option, Some, None, refl, sym, ap, subst, ◌∙◌, inl, inr, ⊎_elim, true≢false}
use Rattle.std.specs.Prelude.{nat_lt, length}
use Rattle.std.specs.List.{list_any}
use Rattle.std.specs.Option.{option_map_or}
use Rattle.std.specs.FinMap.{get, insert, remove}
use Rattle.std.proofs.lemmas.Bool.{or_left, or_right, and_parts}
use Rattle.base.specs.declared.refusal.Refusal.{Refusal}
use Rattle.base.specs.declared.refusal.Refusal.TheVariants.{NoMemory}
use Rattle.base.specs.Surveys.{IsIn}
use Rattle.base.specs.Names.{same_name}
use Rattle.base.specs.declared.name.member.Member.{Member}
use Rattle.model.specs.declared.destroy_target.DestroyTarget.{DestroyTarget}
use Rattle.model.specs.declared.destroy_target.DestroyTarget.TheVariants.{FileSystem as SystemGoes, Snapshots as SnapshotsGo, Bookmark as MarkGoes}
use Rattle.model.specs.declared.request.Request.TheVariants.{Destroy}
use Rattle.model.specs.declared.reply.Reply.TheVariants.{Done, Refused}
use Rattle.model.specs.World.{World, FileSystem, Snap, id_of, maps_of}
use Rattle.model.specs.State.{State, is_viewed}
use Rattle.model.specs.Outcome.{is_needed, state_after_sweep}
use Rattle.model.specs.Refusals.{refusal_of}
use Rattle.model.specs.Edits.{with_now, with_file_system, with_losses, without_snaps}
use Rattle.model.specs.Step.{Step}
use Rattle.model.specs.requests.Destroy.{file_systems_named, snaps_named, is_one_of, with_deferred, after_destroy, destroy_rule}
use Rattle.world.specs.Worlds.{AreFileSystems, AreMapsFrom, IsSwept}
use Rattle.world.specs.Tables.{Datasets, world_of}
use Rattle.world.proofs.removals.Families.{retained_maps}
use Rattle.world.proofs.steps.Groups.{same_maps}
use Rattle.world.proofs.lineage.Put.{put_maps}
use Rattle.world.proofs.steps.StateSteps.{sweep_swept}
use Rattle.world.proofs.views.Viewed.{IsSafe, safe_then, some_gone}
use Rattle.world.proofs.views.ViewedRequests.{not_true, destroy_asked}
use Rattle.world.proofs.removals.WithoutSnaps.{without_from, losses_twice}
use Rattle.limits.specs.Steps.{AreKept}
use Rattle.limits.proofs.Steps.{shrunk_snaps, kept_trans, kept_shrunk, kept_same, kept_put, kept_without, kept_deferred, kept_names}
use Rattle.removals.specs.Requests.{destroyed, destroy_refusal, swept}
use Rattle.steps.specs.Steady.{IsSteady}
use Rattle.steps.specs.Edits.{datasets_of, lose, StaysUnlimited, CanLose}
use Rattle.steps.proofs.requests.Labelling.{from_changed, changed_maps, maps_fewer}
use Rattle.steps.proofs.requests.Losing.{can_lose}
use Rattle.steps.proofs.quotas.Limits.{kept_limits, unlimited_kept}
use Rattle.steps.proofs.numbers.Ruled.{no_choice, refused_by, no_memory_by, swept_by}
use Rattle.steps.proofs.requests.Seeing.{once, closed, seen_after}

-- a snapshot whose destroy is deferred, where it is one of some
abbrev marked_by : (Snap → Bool) → Snap → Snap
marked_by p t = record t { deferred = t.deferred || p t }

-- the world after a destroy is that of the datasets, with what is to be freed
destroyed_world : (s : State) (target : DestroyTarget) (recursive defer : Bool)
    → after_destroy s.now (λ t. defer && is_needed s.now s.views t) target recursive
    ≡ record s.now { file_systems = (destroyed (datasets_of s) s.views target recursive defer).file_systems }
destroyed_world s (SystemGoes name) recursive defer = refl
destroyed_world s (SnapshotsGo names) recursive defer = refl
destroyed_world s (MarkGoes m) recursive defer = at (get s.now.file_systems m.file_system)
  where
    at : (x : Option FileSystem)
        → option_map_or (λ (f : FileSystem). record s.now { file_systems = insert s.now.file_systems m.file_system (record f { bookmarks = remove f.bookmarks m.component }) }) x s.now
        ≡ record s.now { file_systems = (option_map_or (λ (f : FileSystem). record (world_of (datasets_of s)) { file_systems = insert s.now.file_systems m.file_system (record f { bookmarks = remove f.bookmarks m.component }) }) x (world_of (datasets_of s))).file_systems }
    at None = refl
    at (Some f) = refl

-- the state after it
pub destroyed_state : (s : State) (target : DestroyTarget) (recursive defer : Bool)
    → with_now s (with_losses s.now (after_destroy s.now (λ t. defer && is_needed s.now s.views t) target recursive))
    ≡ lose s (destroyed (datasets_of s) s.views target recursive defer)
destroyed_state s target recursive defer = ap (λ x. with_now s (with_losses s.now x)) (destroyed_world s target recursive defer)

-- ---- what it leaves

module _ (s : State) (steady : IsSteady s) (recursive defer : Bool) where
  -- of snapshots
  module _ (names : List Member) where
    abbrev needed : Snap → Bool
    needed t = defer && is_needed s.now s.views t

    abbrev goes : Snap → Bool
    goes t = is_one_of (snaps_named s.now names recursive) t && not (needed t)

    abbrev stays : Snap → Bool
    stays t = is_one_of (snaps_named s.now names recursive) t && needed t

    left_from : AreMapsFrom s.now.file_systems (with_deferred (without_snaps s.now goes) stays).file_systems
    left_from n f m' at h =
        let a = from_changed (without_snaps s.now goes) (marked_by stays) n f at in
        without_from s.now goes n a.0 m' a.1 (subst (λ l. IsIn l m') (ap maps_of a.2 ∙ changed_maps (marked_by stays) (λ t. refl) a.0) h)

    left_kept : AreKept s.now (with_deferred (without_snaps s.now goes) stays)
    left_kept = kept_trans s.now (without_snaps s.now goes) (with_deferred (without_snaps s.now goes) stays) (kept_without s.now goes) (kept_deferred (without_snaps s.now goes) stays)

  -- of a bookmark, which has no map
  module _ (m : Member) where
    abbrev unmarked : FileSystem → FileSystem
    unmarked f = record f { bookmarks = remove f.bookmarks m.component }

    unmarked_from : AreMapsFrom s.now.file_systems (with_file_system (world_of (datasets_of s)) m.file_system (λ f. record f { bookmarks = remove f.bookmarks m.component })).file_systems
    unmarked_from = at (get s.now.file_systems m.file_system) refl
      where
        at : (x : Option FileSystem) → get s.now.file_systems m.file_system ≡ x
            → AreMapsFrom s.now.file_systems (option_map_or (λ (f : FileSystem). record (world_of (datasets_of s)) { file_systems = insert s.now.file_systems m.file_system (unmarked f) }) x (world_of (datasets_of s))).file_systems
        at None e = same_maps s.now.file_systems
        at (Some f) e = put_maps s.now.file_systems m.file_system (unmarked f) (λ x h. inr (m.file_system, f, e, h))

    unmarked_kept : AreKept s.now (with_file_system (world_of (datasets_of s)) m.file_system (λ f. record f { bookmarks = remove f.bookmarks m.component }))
    unmarked_kept = at (get s.now.file_systems m.file_system) refl
      where
        at : (x : Option FileSystem) → get s.now.file_systems m.file_system ≡ x
            → AreKept s.now (option_map_or (λ (f : FileSystem). record (world_of (datasets_of s)) { file_systems = insert s.now.file_systems m.file_system (unmarked f) }) x (world_of (datasets_of s)))
        at None e = kept_same s.now (world_of (datasets_of s)) refl
        at (Some f) e = kept_put s.now m.file_system f (unmarked f) e (shrunk_snaps f (unmarked f) refl refl refl (λ u i. (u, i, refl, refl)))

  -- what a destroy leaves has maps of what was there, and file systems that were there
  destroy_from : (target : DestroyTarget) → AreMapsFrom s.now.file_systems (destroyed (datasets_of s) s.views target recursive defer).file_systems
  destroy_from (SystemGoes name) = retained_maps s.now.file_systems (λ n. not (list_any (same_name n) (file_systems_named s.now name recursive)))
  destroy_from (SnapshotsGo names) = left_from names
  destroy_from (MarkGoes m) = unmarked_from m

  destroy_kept : (target : DestroyTarget) → AreKept s.now (world_of (destroyed (datasets_of s) s.views target recursive defer))
  destroy_kept (SystemGoes name) = kept_names s.now (λ n. not (list_any (same_name n) (file_systems_named s.now name recursive)))
  destroy_kept (SnapshotsGo names) = left_kept names
  destroy_kept (MarkGoes m) = unmarked_kept m

-- ---- the sweep after it

module _ (s : State) (t : Datasets) (from : AreMapsFrom s.now.file_systems t.file_systems) where
  abbrev unneeded : Snap → Bool
  unneeded u = u.deferred && not (is_needed (world_of t) s.views u)

  abbrev gone_to : World
  gone_to = record s.now { file_systems = t.file_systems; group = t.group }

  abbrev swept_to : World
  swept_to = record s.now { file_systems = (swept t s.views).file_systems; group = t.group }

  -- what is lost first and what the sweep loses are lost together
  pub swept_state : lose s (swept t s.views) ≡ state_after_sweep (lose s t)
  unfolding state_after_sweep
  swept_state = ap (with_now s) (sym (losses_twice s.now gone_to swept_to refl refl (maps_fewer s.now gone_to from) (maps_fewer gone_to swept_to (without_from (world_of t) unneeded))))

  swept_from : AreMapsFrom s.now.file_systems (swept t s.views).file_systems
  swept_from n f m at h = ⊎_elim inl (λ k. from k.0 k.1 m k.2 k.3) (without_from (world_of t) unneeded n f m at h)

  -- a view's snapshot stays
  swept_safe : IsSafe s.views s.now (lose s t).now → IsSafe s.views s.now (without_snaps (lose s t).now (λ u. u.deferred && not (is_needed (world_of t) s.views u)))
  swept_safe safe = safe_then s.views s.now (lose s t).now (without_snaps (lose s t).now unneeded) safe
      (some_gone s.views (lose s t).now unneeded safe.once safe.closed
      (λ name u k seen. not_true (unneeded u) (λ e.
      true≢false (sym (and_parts u.deferred (not (is_needed (world_of t) s.views u)) e).1
      ∙ ap not (or_right (nat_lt 0 (length u.tags)) _ (or_left (is_viewed s.views (id_of u)) _ seen))))))

  swept_kept : AreKept s.now (world_of t) → AreKept s.now (lose s (swept t s.views)).now
  swept_kept kept = kept_trans s.now (world_of t) (lose s (swept t s.views)).now kept (kept_without (world_of t) unneeded)

  -- so the datasets can be put in place once they are swept
  pub swept_can : IsSteady s → AreFileSystems (swept t s.views).file_systems s.now.group → t.group ≡ s.now.group → AreKept s.now (world_of t) → IsSafe s.views s.now (lose s t).now
      → CanLose s (swept t s.views)
  swept_can steady good open_is kept safe = can_lose s steady (swept t s.views) (subst (AreFileSystems (swept t s.views).file_systems) (sym open_is) good) open_is swept_from
      (λ v id e. seen_after s steady (without_snaps (lose s t).now unneeded) (swept_safe safe) v id e)
      (subst IsSwept (sym swept_state) (sweep_swept (lose s t)))
      (λ good. kept_limits s (lose s (swept t s.views)) steady good refl (kept_shrunk s.now (lose s (swept t s.views)).now (swept_kept kept)))

  -- where there was no limit, there is none
  pub swept_unlimited : AreKept s.now (world_of t) → StaysUnlimited s (swept t s.views)
  swept_unlimited kept = unlimited_kept s.now (lose s (swept t s.views)).now (swept_kept kept)

-- ---- steps

module _ (s : State) (steady : IsSteady s) (target : DestroyTarget) (recursive defer : Bool) where
  row_is : refusal_of s (destroy_rule target recursive defer) ≡ destroy_refusal (datasets_of s) s.views target recursive defer
  unfolding refusal_of
  row_is = by_target target
    where
      by_target : (x : DestroyTarget) → refusal_of s (destroy_rule x recursive defer) ≡ destroy_refusal (datasets_of s) s.views x recursive defer
      by_target (SystemGoes name) = refl
      by_target (SnapshotsGo names) = refl
      by_target (MarkGoes m) = refl

  -- what nothing refuses can be put in place once it is swept, where what holds of file systems holds of it
  pub destroy_can : destroy_refusal (datasets_of s) s.views target recursive defer ≡ None
      → AreFileSystems (swept (destroyed (datasets_of s) s.views target recursive defer) s.views).file_systems s.now.group
      → CanLose s (swept (destroyed (datasets_of s) s.views target recursive defer) s.views)
  destroy_can none good =
      let safe = destroy_asked s target recursive defer (once s.size s.now steady.good.now) (closed s.size s.now steady.good.now) (row_is ∙ none) in
      swept_can s (destroyed (datasets_of s) s.views target recursive defer) (destroy_from s steady recursive defer target) steady good refl
      (destroy_kept s steady recursive defer target)
      (subst (λ (x : World). IsSafe s.views s.now (with_losses s.now x)) (destroyed_world s target recursive defer) safe)

  -- where there was no limit, there is none
  pub destroy_unlimited : StaysUnlimited s (swept (destroyed (datasets_of s) s.views target recursive defer) s.views)
  destroy_unlimited = swept_unlimited s (destroyed (datasets_of s) s.views target recursive defer) (destroy_from s steady recursive defer target)
      (destroy_kept s steady recursive defer target)

  -- a destroy that is refused, or has no memory
  pub destroy_refused : (why : Refusal) → (destroy_refusal (datasets_of s) s.views target recursive defer ≡ Some why) ⊎ (why ≡ NoMemory) → Step s (Destroy target recursive defer) (Refused why) s
  destroy_refused why which = ⊎_elim
      (λ e. refused_by (Destroy target recursive defer) (destroy_rule target recursive defer) (None, refl, refl) s why (row_is ∙ e))
      (λ e. subst (λ z. Step s (Destroy target recursive defer) (Refused z) s) (sym e)
      (no_memory_by (Destroy target recursive defer) (destroy_rule target recursive defer) (None, refl, refl) s refl))
      which

  -- and one that nothing refuses, after which what nothing needs any more is swept
  pub destroy_done : destroy_refusal (datasets_of s) s.views target recursive defer ≡ None
      → CanLose s (swept (destroyed (datasets_of s) s.views target recursive defer) s.views)
      → Step s (Destroy target recursive defer) Done (lose s (swept (destroyed (datasets_of s) s.views target recursive defer) s.views))
  destroy_done none can = swept_by (Destroy target recursive defer) (destroy_rule target recursive defer) (None, refl, refl) s no_choice
      (lose s (swept (destroyed (datasets_of s) s.views target recursive defer) s.views)) Done refl refl (row_is ∙ none) refl
      (swept_state s (destroyed (datasets_of s) s.views target recursive defer) (destroy_from s steady recursive defer target)
      ∙ ap state_after_sweep (sym (destroyed_state s target recursive defer)))
      can.steady
