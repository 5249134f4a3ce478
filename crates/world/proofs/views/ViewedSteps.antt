-- What holds of views after a step: each view that isn't closed shows the snapshot that it showed.
use Rattle.std.proofs.Common.{◌≡◌, ℕ, ◌<◌, true, not, ◌&&◌, List, [], ◌∷◌, Option, Some, None, refl, sym, ap, ◌∙◌, true≢false, inl, inr, ⊎_elim, arith}
use Rattle.std.specs.Prelude.{IsSome, is_some, nat_lt, length}
use Rattle.std.specs.Option.{option_map_or}
use Rattle.std.specs.FinMap.{get, insert, remove, entries, values}
use Rattle.std.proofs.lemmas.Bool.{and_parts, or_left, or_right}
use Rattle.base.specs.Surveys.{IsIn}
use Rattle.base.specs.declared.name.target.Target.{Target}
use Rattle.model.specs.declared.request.Request.{Request}
use Rattle.model.specs.declared.request.Request.TheVariants.{CloseView as ToCloseView}
use Rattle.model.specs.declared.reply.Reply.{Reply}
use Rattle.model.specs.declared.reply.Reply.TheVariants.{Done}
use Rattle.model.specs.World.{World, FileSystem, Snap, SnapId, id_of, snap_at}
use Rattle.model.specs.State.{State, Views, is_viewed}
use Rattle.model.specs.Edits.{without_snaps, with_losses}
use Rattle.model.specs.Outcome.{is_needed, state_after_sweep}
use Rattle.model.specs.requests.Rollback.{placed}
use Rattle.model.specs.requests.OpenView.{with_view}
use Rattle.world.specs.RunLaws.{HasIdentities, IsViewing}
use Rattle.world.specs.Shapes.{Name, view_order}
use Rattle.world.specs.Usage.{IsEntry}
use Rattle.world.proofs.lists.Maps.{same_value, no_value, key_cases, entry_of, get-insert_same, get-insert_other, get-remove_same, get-remove_other}
use Rattle.world.proofs.lists.Listed.{map_in}
use Rattle.world.proofs.removals.WithoutSnaps.{any_in}
use Rattle.world.proofs.views.Viewed.{IsSafe, kept_of, snap_found, found_after, safe_same, safe_then, safe_losses, some_gone}
use Rattle.world.proofs.views.ViewedRequests.{not_true, from_placed}

-- What a request that is answered so does to views and to snapshots
pub record IsKeeping (q : Request) (r : Reply) (s t : State) : Type 0 where
  pub safe : IsSafe t.views s.now t.now
  pub numbers : (v : ℕ) (id : SnapId) → get t.views v ≡ Some id → v < t.next_view
  pub known : (v : ℕ) (id : SnapId) → get t.views v ≡ Some id → IsSome (snap_at s.now id)
  pub stays : (v : ℕ) (id : SnapId) → get s.views v ≡ Some id → (q ≡ ToCloseView v → r ≡ Done → ⊥) → get t.views v ≡ Some id
  pub last : HasIdentities t.last

-- ---- what it says of the state after it

entry_in : {K X : Type 0} (es : List (K × X)) (k : K) (x : X) → IsEntry es k x → IsIn es (k, x)
entry_in [] k x h = absurd h
entry_in (e ∷ es) k x h = ⊎_elim (λ i. inl (λ j. (i.0 j, i.1 j))) (λ i. inr (entry_in es k x i)) h

-- a snapshot with an open view is viewed
pub viewed : (views : Views) (v : ℕ) (id : SnapId) → get views v ≡ Some id → is_viewed views id ≡ true
viewed views v id e = any_in (values views) id id (map_in (λ (e : ℕ × SnapId). e.1) (entries views) (v, id) (entry_in (entries views) v id (entry_of view_order views v id e))) refl

-- identities are in order in a world that leaves the snapshots of views
pub identities : (w new : World) (views : Views) → IsSafe views w new → HasIdentities new
identities w new views safe = record { once = safe.once; closed = safe.closed }

module _ (q : Request) (r : Reply) (s t : State) (keeping : IsKeeping q r s t) where
  -- an open view's snapshot is found, as it was
  pub stands_after : (v : ℕ) (id : SnapId) → get t.views v ≡ Some id → (p : Name × Snap) → snap_at s.now id ≡ Some p
      → (p' : Name × Snap) × (snap_at t.now id ≡ Some p') × (kept_of p'.1 ≡ kept_of p.1)
  stands_after v id e = found_after t.views s.now t.now keeping.safe id (viewed t.views v id e)

  pub viewing_after : IsViewing t
  viewing_after = record {
    numbers = keeping.numbers;
    there = λ v id e. by_snap v id e (snap_at s.now id) refl (keeping.known v id e);
    now = identities s.now t.now t.views keeping.safe;
    last = keeping.last;
  }
    where
      by_snap : (v : ℕ) (id : SnapId) → get t.views v ≡ Some id → (x : Option (Name × Snap)) → snap_at s.now id ≡ x → IsSome (snap_at s.now id) → IsSome (snap_at t.now id)
      by_snap v id e None i h = absurd (true≢false (sym h ∙ ap is_some i))
      by_snap v id e (Some p) i h = ap is_some (stands_after v id e p i).1

-- ---- the sweep

pub keeping_swept : (q : Request) (r : Reply) (s t : State) → IsKeeping q r s t → IsKeeping q r s (state_after_sweep t)
unfolding state_after_sweep
keeping_swept q r s t h = record {
  safe = safe_then t.views s.now t.now (with_losses t.now left) h.safe (safe_losses t.views t.now left gone);
  numbers = h.numbers;
  known = h.known;
  stays = h.stays;
  last = h.last;
}
  where
    left : World
    left = without_snaps t.now (λ u. u.deferred && not (is_needed t.now t.views u))

    needed : (u : Snap) → is_viewed t.views (id_of u) ≡ true → is_needed t.now t.views u ≡ true
    needed u seen = or_right (nat_lt 0 (length u.tags)) _ (or_left (is_viewed t.views (id_of u)) _ seen)

    gone : IsSafe t.views t.now left
    gone = some_gone t.views t.now (λ u. u.deferred && not (is_needed t.now t.views u)) h.safe.once h.safe.closed
        (λ name u k seen. not_true (u.deferred && not (is_needed t.now t.views u)) (λ e.
        true≢false (sym (and_parts u.deferred (not (is_needed t.now t.views u)) e).1 ∙ ap not (needed u seen))))

-- ---- views

-- a request that leaves the views
pub worlds_change : (q : Request) (r : Reply) (s : State) (w last : World) (guid : ℕ) → IsViewing s → IsSafe s.views s.now w → HasIdentities last
    → IsKeeping q r s (record s { now = w; last = last; next_guid = guid })
worlds_change q r s w last guid viewing safe ids = record { safe = safe; numbers = viewing.numbers; known = viewing.there; stays = λ v id e unclosed. e; last = ids }

-- and the last synced world
pub views_stay : (q : Request) (r : Reply) (s : State) (w : World) (guid : ℕ) → IsViewing s → IsSafe s.views s.now w → IsKeeping q r s (record s { now = w; next_guid = guid })
views_stay q r s w guid viewing safe = worlds_change q r s w s.last guid viewing safe viewing.last

-- a request that leaves the state
pub state_stays : (q : Request) (r : Reply) (s : State) → IsViewing s → IsKeeping q r s s
state_stays q r s viewing = views_stay q r s s.now s.next_guid viewing (safe_same s.views s.now viewing.now.once viewing.now.closed)

-- a view opened
pub view_opened : (q : Request) (r : Reply) (s : State) (target : Target) → IsViewing s → IsKeeping q r s (option_map_or (λ p. with_view s p.1) (placed s.now target) s)
view_opened q r s target viewing = by_place (placed s.now target) refl
  where
    added : (name : Name) (f : FileSystem) (t : Snap) → get s.now.file_systems name ≡ Some f → IsIn f.snaps t → IsKeeping q r s (with_view s t)
    added name f t at h = record {
      safe = safe_same (insert s.views s.next_view (id_of t)) s.now viewing.now.once viewing.now.closed;
      numbers = λ v id e. ⊎_elim
          (λ (same : v ≡ s.next_view). omega arith)
          (λ (other : ¬ (v ≡ s.next_view)). let l = viewing.numbers v id (sym (get-insert_other view_order s.views s.next_view (id_of t) v other) ∙ e) in omega arith)
          (key_cases view_order v s.next_view);
      known = λ v id e. ⊎_elim
          (λ (same : v ≡ s.next_view). ap is_some (snap_found s.now viewing.now.once name t id (f, at, h)
          (same_value (id_of t) id (sym (get-insert_same view_order s.views s.next_view (id_of t)) ∙ ap (get (insert s.views s.next_view (id_of t))) (sym same) ∙ e))))
          (λ (other : ¬ (v ≡ s.next_view)). viewing.there v id (sym (get-insert_other view_order s.views s.next_view (id_of t) v other) ∙ e))
          (key_cases view_order v s.next_view);
      stays = λ v id e unclosed. get-insert_other view_order s.views s.next_view (id_of t) v (λ same. let l = viewing.numbers v id e in absurd (omega arith)) ∙ e;
      last = viewing.last;
    }

    by_place : (x : Option (FileSystem × Snap)) → placed s.now target ≡ x → IsKeeping q r s (option_map_or (λ p. with_view s p.1) x s)
    by_place None e = state_stays q r s viewing
    by_place (Some p) e = let k = from_placed s.now target p e in added k.0 p.0 p.1 k.1 k.2

-- a view closed
pub view_closed : (s : State) (view : ℕ) → IsViewing s → IsKeeping (ToCloseView view) Done s (record s { views = remove s.views view })
view_closed s view viewing = record {
  safe = safe_same (remove s.views view) s.now viewing.now.once viewing.now.closed;
  numbers = λ v id e. viewing.numbers v id (was v id e);
  known = λ v id e. viewing.there v id (was v id e);
  stays = λ v id e unclosed. get-remove_other view_order s.views view v (λ same. unclosed (ap ToCloseView (sym same)) refl) ∙ e;
  last = viewing.last;
}
  where
    was : (v : ℕ) (id : SnapId) → get (remove s.views view) v ≡ Some id → get s.views v ≡ Some id
    was v id e = ⊎_elim
        (λ (same : v ≡ view). absurd (no_value id (sym (get-remove_same view_order s.views view) ∙ ap (get (remove s.views view)) (sym same) ∙ e)))
        (λ (other : ¬ (v ≡ view)). sym (get-remove_other view_order s.views view v other) ∙ e)
        (key_cases view_order v view)
