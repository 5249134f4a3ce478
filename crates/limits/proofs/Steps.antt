-- The limits at every state: the requests that don't ask keep them, and so does the sweep.
use Rattle.std.proofs.Common.{◌≡◌, ℕ, Bool, true, false, not, Option, Some, None, map, refl, sym, ap, subst, ◌∙◌, inl, inr, ⊎_elim, ◌⊎◌}
use Rattle.std.specs.Prelude.{◌||◌, ◌&&◌, if◌then◌else◌}
use Rattle.std.specs.List.{filter}
use Rattle.std.specs.Option.{option_map, option_map_or}
use Rattle.std.specs.FinMap.{get, insert}
use Rattle.base.specs.Surveys.{IsIn}
use Rattle.model.specs.World.{World, FileSystem, Snap, SnapId, id_of, map_of_snap, empty_file_system}
use Rattle.model.specs.State.{State}
use Rattle.model.specs.Edits.{with_file_system, with_file_systems, with_losses, with_next_group, without_snaps}
use Rattle.model.specs.Rule.{Choice, Rule}
use Rattle.model.specs.Outcome.{is_needed, state_after_sweep, state_after}
use Rattle.model.specs.requests.Create.{with_new_file_system}
use Rattle.model.specs.requests.Destroy.{with_deferred}
use Rattle.world.specs.Shapes.{Name, name_order}
use Rattle.world.specs.Worlds.{IsPoolState}
use Rattle.world.specs.Outcomes.{with_clone, with_names}
use Rattle.world.proofs.lists.Maps.{no_value, same_value, key_cases, get-insert_same, get-insert_other}
use Rattle.world.proofs.lists.Listed.{in_map}
use Rattle.world.proofs.lists.Finding.{from_filter}
use Rattle.world.proofs.removals.Sweep.{get-with_file_systems}
use Rattle.world.proofs.removals.Families.{from_retained}
use Rattle.world.proofs.steps.States.{sweep_keeps}
use Rattle.limits.specs.Limits.{IsShrunk, IsMade, AreShrunk, AreQuotasMet, HasLimits}
use Rattle.limits.specs.Steps.{AreKept}
use Rattle.limits.proofs.Shrinks.{quotas_stay}

-- ---- file systems

pub shrunk_itself : (s : FileSystem) → IsShrunk s s
shrunk_itself s = record {
  live = refl;
  origin = refl;
  snaps = λ u i. (u, i, refl, refl);
  quota = inl refl;
  refquota = inl refl;
  reservation = inl refl;
  refreservation = inl refl;
}

-- other snapshots, each an earlier one but for its tags and its mark; other bookmarks
pub shrunk_snaps : (s t : FileSystem) → t.live ≡ s.live → t.origin ≡ s.origin → t.limits ≡ s.limits
    → ((u : Snap) → IsIn t.snaps u → (v : Snap) × IsIn s.snaps v × (id_of u ≡ id_of v) × (u.map ≡ v.map)) → IsShrunk s t
shrunk_snaps s t live origin limits snaps = record {
  live = live;
  origin = origin;
  snaps = snaps;
  quota = inl (ap (λ l. l.quota) limits);
  refquota = inl (ap (λ l. l.refquota) limits);
  reservation = inl (ap (λ l. l.reservation) limits);
  refreservation = inl (ap (λ l. l.refreservation) limits);
}

pub kept_trans : (a b c : World) → AreKept a b → AreKept b c → AreKept a c
kept_trans a b c h k name u at =
    let y = k name u at in
    let x = h name y.0 y.1 in
    let s = x.0 in
    let t = y.0 in (
      s,
      x.1,
      record {
        live = y.2.live ∙ x.2.live;
        origin = y.2.origin ∙ x.2.origin;
        snaps = λ z i. let p = y.2.snaps z i in let q = x.2.snaps p.0 p.1 in (q.0, q.1, p.2 ∙ q.2, p.3 ∙ q.3);
        quota = both s.limits.quota t.limits.quota u.limits.quota x.2.quota y.2.quota;
        refquota = both s.limits.refquota t.limits.refquota u.limits.refquota x.2.refquota y.2.refquota;
        reservation = both s.limits.reservation t.limits.reservation u.limits.reservation x.2.reservation y.2.reservation;
        refreservation = both s.limits.refreservation t.limits.refreservation u.limits.refreservation x.2.refreservation y.2.refreservation;
      },
    )
  where
    both : (x y z : Option ℕ) → (y ≡ x) ⊎ (y ≡ None) → (z ≡ y) ⊎ (z ≡ None) → (z ≡ x) ⊎ (z ≡ None)
    both x y z (inl e) (inl f) = inl (f ∙ e)
    both x y z (inr e) (inl f) = inr (f ∙ e)
    both x y z h (inr f) = inr f

pub kept_shrunk : (old new : World) → AreKept old new → AreShrunk old new
kept_shrunk old new h name t at = inl (h name t at)

-- ---- worlds

-- the same file systems: Sync, Slice, views, what joins `freeing`
pub kept_same : (old new : World) → new.file_systems ≡ old.file_systems → AreKept old new
kept_same old new e name t at = (t, ap (λ x. get x name) (sym e) ∙ at, shrunk_itself t)

-- one file system changed: Bookmark, Destroy of a bookmark, Set to none
pub kept_put : (w : World) (name : Name) (s t : FileSystem) → get w.file_systems name ≡ Some s → IsShrunk s t → AreKept w (record w { file_systems = insert w.file_systems name t })
kept_put w name s t at k q u is = ⊎_elim
    (λ (same : q ≡ name).
    let e : t ≡ u = same_value t u (sym (get-insert_same name_order w.file_systems name t) ∙ ap (get (insert w.file_systems name t)) (sym same) ∙ is) in
    (s, ap (get w.file_systems) same ∙ at, subst (IsShrunk s) e k))
    (λ other. (u, sym (get-insert_other name_order w.file_systems name t q other) ∙ is, shrunk_itself u))
    (key_cases name_order q name)

pub kept_changed : (w : World) (name : Name) (change : FileSystem → FileSystem) → ((s : FileSystem) → IsShrunk s (change s)) → AreKept w (with_file_system w name change)
kept_changed w name change each = at (get w.file_systems name) refl
  where
    at : (x : Option FileSystem) → get w.file_systems name ≡ x → AreKept w (option_map_or (λ s. record w { file_systems = insert w.file_systems name (change s) }) x w)
    at None e = kept_same w w refl
    at (Some s) e = kept_put w name s (change s) e (each s)

-- every file system changed
pub kept_all : (w : World) (change : Name → FileSystem → FileSystem) → ((q : Name) (s : FileSystem) → IsShrunk s (change q s)) → AreKept w (with_file_systems w change)
kept_all w change each q t at = by_old (get w.file_systems q) refl (sym (get-with_file_systems w change q) ∙ at)
  where
    by_old : (x : Option FileSystem) → get w.file_systems q ≡ x → option_map (change q) x ≡ Some t → (s : FileSystem) × (get w.file_systems q ≡ Some s) × IsShrunk s t
    by_old None e h = absurd (no_value t h)
    by_old (Some s) e h = (s, e, subst (IsShrunk s) (same_value (change q s) t h) (each q s))

-- snapshots gone: Destroy, the sweep
pub kept_without : (w : World) (goes : Snap → Bool) → AreKept w (without_snaps w goes)
kept_without w goes = kept_all w (λ _ s. record s { snaps = filter (λ t. not (goes t)) s.snaps })
    (λ q s. shrunk_snaps s (record s { snaps = filter (λ t. not (goes t)) s.snaps }) refl refl refl (λ u i. (u, (from_filter (λ t. not (goes t)) s.snaps u i).0, refl, refl)))

-- each snapshot changed, but neither its identity nor its map
pub kept_marks : (w : World) (change : Snap → Snap) → ((t : Snap) → (id_of (change t) ≡ id_of t) × ((change t).map ≡ t.map))
    → AreKept w (with_file_systems w (λ _ s. record s { snaps = map change s.snaps }))
kept_marks w change each = kept_all w (λ _ s. record s { snaps = map change s.snaps })
    (λ q s. shrunk_snaps s (record s { snaps = map change s.snaps }) refl refl refl
    (λ u i.
    let v = in_map change s.snaps u i in
    let k = each v.0 in
    (v.0, v.1, ap id_of v.2 ∙ k.0, ap (λ (x : Snap). x.map) v.2 ∙ k.1)))

-- snapshots marked: Destroy with -d
pub kept_deferred : (w : World) (some : Snap → Bool) → AreKept w (with_deferred w some)
kept_deferred w some = kept_marks w (λ t. record t { deferred = t.deferred || some t }) (λ t. (refl, refl))

-- file systems gone: Destroy
pub kept_names : (w : World) (stays : Name → Bool) → AreKept w (with_names w stays)
kept_names w stays q t at = (t, (from_retained w.file_systems stays q t at).1, shrunk_itself t)

-- a file system more: Create, Clone
pub shrunk_made : (w : World) (name : Name) (t : FileSystem) → get w.file_systems name ≡ None → IsMade w t → AreShrunk w (record w { file_systems = insert w.file_systems name t })
shrunk_made w name t gone k q u is = ⊎_elim
    (λ (same : q ≡ name).
    let e : t ≡ u = same_value t u (sym (get-insert_same name_order w.file_systems name t) ∙ ap (get (insert w.file_systems name t)) (sym same) ∙ is) in
    inr (ap (get w.file_systems) same ∙ gone, subst (IsMade w) e k))
    (λ other. inl (u, sym (get-insert_other name_order w.file_systems name t q other) ∙ is, shrunk_itself u))
    (key_cases name_order q name)

pub shrunk_created : (w : World) (name : Name) → get w.file_systems name ≡ None → AreShrunk w (with_new_file_system w name)
shrunk_created w name gone = shrunk_made w name empty_file_system gone (record { live = refl; snaps = refl; limits = refl })

pub shrunk_cloned : (w : World) (id : SnapId) (name : Name) → get w.file_systems name ≡ None → AreShrunk w (with_clone w id name)
shrunk_cloned w id name gone = shrunk_made w name (record empty_file_system { live = map_of_snap w (Some id); origin = Some id }) gone (record { live = refl; snaps = refl; limits = refl })

-- ---- states

-- a request that makes no file system's own numbers more keeps every quota and refquota: Create, Clone, Destroy, Hold, Release,
-- Bookmark, Slice, Set to none, the views and the sweep
pub step_keeps : (s new : State) → IsPoolState s → IsPoolState new → new.last ≡ s.last → AreShrunk s.now new.now → HasLimits s → HasLimits new
step_keeps s new good good' last shrunk has = record {
  now = quotas_stay s.now new.now good.now.systems good'.now.systems shrunk has.now;
  last = subst AreQuotasMet (sym last) has.last;
}

-- where the present world becomes the last one too
pub sync_limits : (s : State) → IsPoolState s → IsPoolState (record s { now = with_next_group s.now; last = with_next_group s.now }) → HasLimits s
    → HasLimits (record s { now = with_next_group s.now; last = with_next_group s.now })
sync_limits s good good' has =
    let met = quotas_stay s.now (with_next_group s.now) good.now.systems good'.now.systems (kept_shrunk s.now (with_next_group s.now) (kept_same s.now (with_next_group s.now) refl)) has.now in
    record { now = met; last = met }

last_stays : (s : State) → (state_after_sweep s).last ≡ s.last
unfolding state_after_sweep
last_stays s = refl

-- the sweep loses snapshots alone
pub swept_shrunk : (s : State) → AreShrunk s.now (state_after_sweep s).now
unfolding state_after_sweep
swept_shrunk s =
    let goes = λ (t : Snap). t.deferred && not (is_needed s.now s.views t) in
    kept_shrunk s.now (with_losses s.now (without_snaps s.now goes))
    (kept_trans s.now (without_snaps s.now goes) (with_losses s.now (without_snaps s.now goes)) (kept_without s.now goes) (kept_same (without_snaps s.now goes) (with_losses s.now (without_snaps s.now goes)) refl))

pub sweep_limits : (s : State) → IsPoolState s → HasLimits s → HasLimits (state_after_sweep s)
sweep_limits s good has = step_keeps s (state_after_sweep s) good (sweep_keeps s good) (last_stays s) (swept_shrunk s) has

-- ---- whole steps, with the sweep

-- a request that has kept them
pub after_limits : (s : State) (c : Choice) (rule : Rule) → IsPoolState (rule.after s c) → HasLimits s → HasLimits (rule.after s c) → HasLimits (state_after s c rule)
unfolding state_after
after_limits s c rule good before has = at rule.only_reads
  where
    at : (b : Bool) → HasLimits (if b then s else state_after_sweep (rule.after s c))
    at true = before
    at false = sweep_limits (rule.after s c) good has
