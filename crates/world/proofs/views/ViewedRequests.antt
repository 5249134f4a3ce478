-- A request that isn't refused leaves the snapshots of open views: what its row says of them.
use Rattle.std.proofs.Common.{◌≡◌, ℕ, Bool, true, false, cond, not, ◌&&◌, ◌||◌, List, [], ◌∷◌, ◌++◌, Option, Some, None, refl, sym, ap, subst, ◌∙◌, true≢false, ◌⊎◌, inl, inr, ⊎_elim, map, length, arith}
use Rattle.std.specs.Prelude.{nat_lt, nat_le, is_some}
use Rattle.std.specs.List.{find, list_any}
use Rattle.std.specs.Option.{option_map, option_map_or, option_and_then}
use Rattle.std.specs.FinMap.{get, insert, remove, contains_key, len, entries, values, len-entries}
use Rattle.std.proofs.lemmas.Bool.{leb-false, lt-ltb, or_cases, or_left, or_right, and_parts, false_from_ne_true, not_from_false}
use Rattle.base.specs.declared.refusal.Refusal.{Refusal}
use Rattle.base.specs.declared.refusal.Refusal.TheVariants.{Exists, Busy}
use Rattle.base.specs.Surveys.{IsIn}
use Rattle.base.specs.declared.name.target.Target.{Target}
use Rattle.base.specs.declared.name.target.Target.TheVariants.{FileSystem as OfFileSystem, Snapshot as OfSnapshot, Bookmark as OfBookmark}
use Rattle.base.specs.Names.{same_name}
use Rattle.model.specs.declared.destroy_target.DestroyTarget.{DestroyTarget}
use Rattle.model.specs.declared.destroy_target.DestroyTarget.TheVariants.{FileSystem as SystemGoes, Snapshots as SnapshotsGo, Bookmark as MarkGoes}
use Rattle.model.specs.World.{World, FileSystem, Snap, SnapId, id_of, snap_at, file_system_at, empty_file_system, map_of_snap}
use Rattle.model.specs.State.{State, Views, is_viewed}
use Rattle.model.specs.Edits.{with_file_system, without_snaps, with_losses}
use Rattle.model.specs.Rule.{Row, first_of}
use Rattle.model.specs.Refusals.{state_asked, refusal_of}
use Rattle.model.specs.Outcome.{is_needed}
use Rattle.model.specs.requests.Create.{create_row, with_new_file_system, create_rule}
use Rattle.model.specs.requests.Clone.{with_clone, clone_row, clone_rule}
use Rattle.model.specs.requests.Rollback.{placed, snaps_after, back_at, after_rollback, rolled_back, newer_snaps, is_busy, rollback_row, rollback_rule}
use Rattle.model.specs.requests.Destroy.{file_systems_named, snaps_named, snaps_within, is_one_of, without_file_systems, with_deferred, after_destroy, destroy_system_row, destroy_snap_row, destroy_rule}
use Rattle.world.specs.RunLaws.{HasSnap}
use Rattle.world.specs.Shapes.{Name}
use Rattle.world.proofs.lists.Maps.{same_value, no_value}
use Rattle.world.proofs.lists.Finding.{from_find, from_filter, in_filter, in_flat, any_none, or_none, one_name}
use Rattle.world.proofs.lists.Listed.{in_map, map_in}
use Rattle.world.proofs.lineage.Put.{put_other, put_cases}
use Rattle.world.proofs.removals.Families.{retained_there, from_retained}
use Rattle.world.proofs.removals.WithoutSnaps.{any_from}
use Rattle.world.proofs.steps.States.{positive}
use Rattle.world.proofs.views.Viewed.{AreOnce, AreClosed, IsSafe, snap_found, safe_fewer, safe_same, safe_then, safe_losses, one_changed, some_gone, some_deferred}

-- ---- rows

-- no condition of a row that refuses nothing holds
pub row_false : (row : Row) → first_of row ≡ None → (r : Bool × Refusal) → IsIn row r → r.0 ≡ false
row_false [] none r h = absurd h
row_false (x ∷ xs) none r h = by_first x.0 refl (λ k. row_false xs k r) none h
  where
    by_first : (b : Bool) → x.0 ≡ b → (first_of xs ≡ None → IsIn xs r → r.0 ≡ false) → cond b (Some x.1) (first_of xs) ≡ None → (r ≡ x) ⊎ IsIn xs r → r.0 ≡ false
    by_first true e rest k i = absurd (no_value x.1 (sym k))
    by_first false e rest k i = ⊎_elim (λ (is : r ≡ x). ap (λ (y : Bool × Refusal). y.0) is ∙ e) (rest k) i

-- the rest of a row that refuses nothing refuses nothing
pub rest_none : (r : Bool × Refusal) (rs : Row) → first_of (r ∷ rs) ≡ None → first_of rs ≡ None
rest_none r rs e = by_first r.0 e
  where
    by_first : (b : Bool) → cond b (Some r.1) (first_of rs) ≡ None → first_of rs ≡ None
    by_first true k = absurd (no_value r.1 (sym k))
    by_first false k = k

-- and so does its front
pub left_none : (xs ys : Row) → first_of (xs ++ ys) ≡ None → first_of xs ≡ None
left_none [] ys e = refl
left_none (x ∷ xs) ys e = by_first x.0 (λ k. left_none xs ys k) e
  where
    by_first : (b : Bool) → (first_of (xs ++ ys) ≡ None → first_of xs ≡ None) → cond b (Some x.1) (first_of (xs ++ ys)) ≡ None → cond b (Some x.1) (first_of xs) ≡ None
    by_first true rest k = absurd (no_value x.1 (sym k))
    by_first false rest k = rest k

-- none of the snapshots has an open view
pub not_viewed : (w : World) (views : Views) (ids : List SnapId) → is_busy w views ids ≡ false → (id : SnapId) → IsIn ids id → is_viewed views id ≡ true → ⊥
not_viewed w views ids e id h seen =
    true≢false (sym seen ∙ (or_none _ _ (any_none (λ id. is_viewed views id || option_map_or (λ (p : Name × Snap). nat_lt 0 (length p.1.tags)) (snap_at w id) false) ids e id h)).0)

-- where no view is open no snapshot has one
pub none_viewed : (views : Views) → nat_lt 0 (len views) ≡ false → (id : SnapId) → is_viewed views id ≡ true → ⊥
none_viewed views none id seen =
    let k = in_map (λ (e : ℕ × SnapId). e.1) (entries views) id (any_from (values views) id seen) in
    true≢false (sym (positive (entries views) k.0 k.1) ∙ sym (ap (nat_lt 0) (len-entries views)) ∙ none)

pub not_true : (b : Bool) → (b ≡ true → ⊥) → not b ≡ true
not_true b wrong = not_from_false b (false_from_ne_true b wrong)

-- ---- create

-- one file system more, without snapshots
pub added_safe : (views : Views) (w : World) (name : Name) (f : FileSystem) → f.snaps ≡ [] → AreOnce w → AreClosed w → get w.file_systems name ≡ None
    → IsSafe views w (record w { file_systems = insert w.file_systems name f })
added_safe views w name f bare once closed absent = safe_fewer views w (record w { file_systems = insert w.file_systems name f }) once closed (omega arith)
    (λ q t h. ⊎_elim
    (λ k. absurd (subst (λ (ts : List Snap). IsIn ts t) (ap (λ (x : FileSystem). x.snaps) k.1 ∙ bare) h.2))
    (λ k. (h.0, k.1, h.2))
    (put_cases w.file_systems name f q h.0 h.1))
    (λ q t h seen. (h.0, put_other w.file_systems name f q (λ same. no_value h.0 (sym absent ∙ ap (get w.file_systems) (sym same) ∙ h.1)) ∙ h.1, h.2))

pub not_some : {A : Type 0} (x : Option A) → is_some x ≡ false → x ≡ None
not_some None e = refl
not_some (Some x) e = absurd (true≢false e)

pub create_asked : (s : State) (name : Name) → AreOnce s.now → AreClosed s.now → refusal_of s (create_rule name) ≡ None → IsSafe s.views s.now (with_new_file_system s.now name)
unfolding refusal_of
create_asked s name once closed none =
    added_safe s.views s.now name empty_file_system refl once closed
    (not_some (get s.now.file_systems name) (row_false (create_row s.now.file_systems name) none (contains_key s.now.file_systems name, Exists) (inl refl)))

-- ---- clone

pub clone_asked : (s : State) (target : Target) (name : Name) (id : SnapId) → AreOnce s.now → AreClosed s.now → refusal_of s (clone_rule target name) ≡ None
    → IsSafe s.views s.now (with_clone s.now id name)
unfolding refusal_of
clone_asked s target name id once closed none =
    added_safe s.views s.now name (record empty_file_system { live = map_of_snap s.now (Some id); origin = Some id }) refl once closed
    (not_some (get s.now.file_systems name) (row_false (clone_row s.now target name) none (contains_key s.now.file_systems name, Exists) (inr (inr (inr (inl refl))))))

-- ---- rollback

-- what a name stands for is there
pub from_placed : (w : World) (target : Target) (p : FileSystem × Snap) → placed w target ≡ Some p → (name : Name) × (get w.file_systems name ≡ Some p.0) × IsIn p.0.snaps p.1
from_placed w (OfFileSystem name) p e = absurd (no_value p e)
from_placed w (OfBookmark m) p e = absurd (no_value p e)
from_placed w (OfSnapshot m) p e = by_system (get w.file_systems m.file_system) refl e
  where
    by_snap : (f : FileSystem) (y : Option Snap) → find (λ t. same_name t.name m.component) f.snaps ≡ y → option_map (λ t. (f, t)) y ≡ Some p → (f ≡ p.0) × IsIn p.0.snaps p.1
    by_snap f None i k = absurd (no_value p k)
    by_snap f (Some t) i k =
        let one = same_value (f, t) p k in
        let here = (from_find (λ t. same_name t.name m.component) f.snaps t i).0 in
        (ap (λ x. x.0) one, subst (λ (x : FileSystem × Snap). IsIn x.0.snaps x.1) one here)

    by_system : (x : Option FileSystem) → get w.file_systems m.file_system ≡ x
        → option_and_then (λ f. option_map (λ t. (f, t)) (option_and_then (λ s. find (λ t. same_name t.name m.component) s.snaps) x)) x ≡ Some p
        → (name : Name) × (get w.file_systems name ≡ Some p.0) × IsIn p.0.snaps p.1
    by_system None i k = absurd (no_value p k)
    by_system (Some f) i k = let r = by_snap f (find (λ t. same_name t.name m.component) f.snaps) refl k in (m.file_system, i ∙ ap Some r.0, r.1)

-- what isn't newer than the snapshot stays
pub back_safe : (views : Views) (w : World) (name : Name) (p : FileSystem × Snap) → AreOnce w → AreClosed w → get w.file_systems name ≡ Some p.0
    → is_busy w views (map id_of (snaps_after p.0 p.1.group)) ≡ false → IsSafe views w (with_file_system w name (λ f. back_at f p.1))
back_safe views w name p once closed at idle = one_changed views w name (λ f. back_at f p.1) once closed
    (λ s t e h. (from_filter (λ (u : Snap). nat_le u.group p.1.group) s.snaps t h).0)
    (λ s t e h seen. in_filter (λ (u : Snap). nat_le u.group p.1.group) s.snaps t h
    (by_group t (subst (λ (x : FileSystem). IsIn x.snaps t) (same_value s p.0 (sym e ∙ at)) h) seen (nat_le t.group p.1.group) refl))
  where
    by_group : (t : Snap) → IsIn p.0.snaps t → is_viewed views (id_of t) ≡ true → (b : Bool) → nat_le t.group p.1.group ≡ b → b ≡ true
    by_group t h seen true e = refl
    by_group t h seen false e = absurd (not_viewed w views (map id_of (snaps_after p.0 p.1.group)) idle (id_of t)
        (map_in (λ (u : Snap). id_of u) (snaps_after p.0 p.1.group) t (in_filter (λ (u : Snap). nat_lt p.1.group u.group) p.0.snaps t h (lt-ltb p.1.group t.group (leb-false t.group p.1.group e)))) seen)

pub rollback_safe : (views : Views) (w : World) (target : Target) → AreOnce w → AreClosed w → is_busy w views (newer_snaps w target) ≡ false → IsSafe views w (rolled_back w target)
rollback_safe views w target once closed idle = by_place (placed w target) refl idle
  where
    by_place : (x : Option (FileSystem × Snap)) → placed w target ≡ x → is_busy w views (option_map_or (λ (p : FileSystem × Snap). map id_of (snaps_after p.0 p.1.group)) x []) ≡ false
        → IsSafe views w (option_map_or (λ (p : FileSystem × Snap). after_rollback w (id_of p.1)) x w)
    by_place None e free = safe_same views w once closed
    by_place (Some p) e free =
        let k = from_placed w target p e in
        let found = snap_found w once k.0 p.1 (id_of p.1) (p.0, k.1, k.2) refl in
        subst (λ x. IsSafe views w (option_map_or (λ (p : Name × Snap). with_file_system w p.0 (λ f. back_at f p.1)) x w)) (sym found)
        (back_safe views w k.0 p once closed k.1 free)

pub rollback_asked : (s : State) (target : Target) (later : Bool) → AreOnce s.now → AreClosed s.now → refusal_of s (rollback_rule target later) ≡ None
    → IsSafe s.views s.now (with_losses s.now (rolled_back s.now target))
unfolding refusal_of
rollback_asked s target later once closed none =
    safe_losses s.views s.now (rolled_back s.now target) (rollback_safe s.views s.now target once closed
    (row_false (rollback_row s (state_asked s (rollback_rule target later)) target later) none (is_busy s.now s.views (newer_snaps s.now target), Busy) (inr (inr (inr (inl refl))))))

-- ---- destroy

-- file systems go, with snapshots of which none is viewed
systems_safe : (views : Views) (w : World) (names : List Name) → AreOnce w → AreClosed w → is_busy w views (snaps_within w names) ≡ false → IsSafe views w (without_file_systems w names)
systems_safe views w names once closed idle = safe_fewer views w (without_file_systems w names) once closed (omega arith)
    (λ q t h. (h.0, (from_retained w.file_systems (λ n. not (list_any (same_name n) names)) q h.0 h.1).1, h.2))
    (λ q t h seen. (h.0, retained_there w.file_systems (λ n. not (list_any (same_name n) names)) q (not_true (list_any (same_name q) names) (λ e. not_viewed w views (snaps_within w names) idle (id_of t) (within q t h (any_name q names e)) seen)) ∙ h.1, h.2))
  where
    any_name : (q : Name) (ns : List Name) → list_any (same_name q) ns ≡ true → IsIn ns q
    any_name q [] e = absurd (true≢false (sym e))
    any_name q (n ∷ ns) e = ⊎_elim (λ k. inl (one_name q n k)) (λ k. inr (any_name q ns k)) (or_cases (same_name q n) (list_any (same_name q) ns) e)

    within : (q : Name) (t : Snap) → HasSnap w q t → IsIn names q → IsIn (snaps_within w names) (id_of t)
    within q t h i = in_flat (λ n. option_map_or (λ (f : FileSystem). map id_of f.snaps) (file_system_at w n) []) names q (id_of t) i
        (subst (λ x. IsIn (option_map_or (λ (f : FileSystem). map id_of f.snaps) x []) (id_of t)) (sym h.1) (map_in (λ (u : Snap). id_of u) h.0.snaps t h.2))

-- snapshots go that nothing needs, and the others are deferred
snaps_safe : (views : Views) (w : World) (ids : List SnapId) (defer : Bool) → AreOnce w → AreClosed w → (not defer && is_busy w views ids) ≡ false
    → IsSafe views w (with_deferred (without_snaps w (λ t. is_one_of ids t && not (defer && is_needed w views t))) (λ t. is_one_of ids t && (defer && is_needed w views t)))
snaps_safe views w ids defer once closed idle = safe_then views w left (with_deferred left (λ t. is_one_of ids t && (defer && is_needed w views t))) gone
    (some_deferred left (λ t. is_one_of ids t && (defer && is_needed w views t)) views gone.once gone.closed)
  where
    left : World
    left = without_snaps w (λ t. is_one_of ids t && not (defer && is_needed w views t))

    gone : IsSafe views w left
    gone = some_gone views w (λ t. is_one_of ids t && not (defer && is_needed w views t)) once closed (λ q t h seen.
        not_true (is_one_of ids t && not (defer && is_needed w views t)) (λ e.
        let k = and_parts (is_one_of ids t) (not (defer && is_needed w views t)) e in by_defer t seen k.0 defer refl k.1))
      where
        by_defer : (t : Snap) → is_viewed views (id_of t) ≡ true → is_one_of ids t ≡ true → (b : Bool) → defer ≡ b → not (b && is_needed w views t) ≡ true → ⊥
        by_defer t seen one true e k = true≢false (sym k ∙ ap not (or_right (nat_lt 0 (length t.tags)) _ (or_left (is_viewed views (id_of t)) _ seen)))
        by_defer t seen one false e k = not_viewed w views ids (sym (ap (λ b. not b && is_busy w views ids) e) ∙ idle) (id_of t) (any_from ids (id_of t) one) seen

pub destroy_asked : (s : State) (target : DestroyTarget) (recursive defer : Bool) → AreOnce s.now → AreClosed s.now → refusal_of s (destroy_rule target recursive defer) ≡ None
    → IsSafe s.views s.now (with_losses s.now (after_destroy s.now (λ t. defer && is_needed s.now s.views t) target recursive))
unfolding refusal_of
destroy_asked s (SystemGoes name) recursive defer once closed none =
    safe_losses s.views s.now (without_file_systems s.now (file_systems_named s.now name recursive))
    (systems_safe s.views s.now (file_systems_named s.now name recursive) once closed
    (row_false (destroy_system_row s.now s.views name recursive defer) none (is_busy s.now s.views (snaps_within s.now (file_systems_named s.now name recursive)), Busy) (inr (inr (inr (inr (inl refl)))))))
destroy_asked s (SnapshotsGo names) recursive defer once closed none =
    safe_losses s.views s.now (after_destroy s.now (λ t. defer && is_needed s.now s.views t) (SnapshotsGo names) recursive)
    (snaps_safe s.views s.now (snaps_named s.now names recursive) defer once closed
    (row_false (destroy_snap_row s.now s.views names recursive defer) none (not defer && is_busy s.now s.views (snaps_named s.now names recursive), Busy) (inr (inl refl))))
destroy_asked s (MarkGoes m) recursive defer once closed none =
    safe_losses s.views s.now (after_destroy s.now (λ t. defer && is_needed s.now s.views t) (MarkGoes m) recursive)
    (one_changed s.views s.now m.file_system (λ f. record f { bookmarks = remove f.bookmarks m.component }) once closed (λ f t e h. h) (λ f t e h seen. h))
