-- What served as a source for a file system serves so after a step, whatever was asked for.
use Rattle.std.proofs.Common.{◌≡◌, ◌<◌, ◌≤◌, ℕ, Option, Some, None, Bool, false, not, ◌&&◌, List, [], ◌∷◌, ◌++◌, refl, sym, ap, subst, ◌∙◌, inl, inr, true≢false, arith}
use Rattle.std.specs.Prelude.{is_some}
use Rattle.std.specs.Option.{option_map_or}
use Rattle.std.specs.FinMap.{get, insert, remove, contains_key}
use Rattle.base.specs.declared.refusal.Refusal.TheVariants.{Exists}
use Rattle.base.specs.Map.{Map}
use Rattle.base.specs.Rewrite.{Changes, rewrite}
use Rattle.base.specs.Surveys.{IsIn}
use Rattle.base.specs.declared.name.member.Member.{Member}
use Rattle.base.specs.declared.name.target.Target.{Target}
use Rattle.base.specs.declared.name.target.Target.TheVariants.{FileSystem as OfFileSystem, Snapshot as OfSnapshot, Bookmark as OfBookmark}
use Rattle.model.specs.declared.destroy_target.DestroyTarget.{DestroyTarget}
use Rattle.model.specs.declared.destroy_target.DestroyTarget.TheVariants.{FileSystem as SystemGoes, Snapshots as SnapshotsGo, Bookmark as MarkGoes}
use Rattle.model.specs.Limits.{limited}
use Rattle.model.specs.declared.limits.Limit.{Limit}
use Rattle.model.specs.declared.request.Request.{Request}
use Rattle.model.specs.declared.request.Request.TheVariants.{Create as ToCreate, Write as ToWrite, Punch as ToPunch, FreeObject as ToFreeObject, Snapshot as ToSnapshot, Read as ToRead, Get as ToGet, PoolGet as ToPoolGet, List as ToList, Rollback as ToRollback, Destroy as ToDestroy, Slice as ToSlice, Sync as ToSync, Abandon as ToAbandon, OpenView as ToOpenView, CloseView as ToCloseView, Clone as ToClone, Promote as ToPromote, Rename as ToRename, RenameSnapshot as ToRenameSnapshot, Hold as ToHold, Release as ToRelease, Holds as ToHolds, Bookmark as ToBookmark, WrittenSince as ToWrittenSince, WouldFree as ToWouldFree, Set as ToSet, Send as ToSend, Receive as ToReceive}
use Rattle.model.specs.declared.reply.Reply.{Reply}
use Rattle.model.specs.World.{World, FileSystem, Snap, SnapId, Bookmark, Snapped, id_of, empty_file_system, map_of, map_of_snap}
use Rattle.model.specs.State.{State}
use Rattle.model.specs.Rule.{Choice}
use Rattle.model.specs.Edits.{with_file_system, with_tags, without_snaps, with_now}
use Rattle.model.specs.Outcome.{is_needed, state_after_sweep}
use Rattle.model.specs.Refusals.{refusal_of}
use Rattle.model.specs.Step.{Step}
use Rattle.model.specs.requests.{rule_of}
use Rattle.model.specs.requests.Bookmark.{bookmarked, bookmark_of_snap}
use Rattle.model.specs.requests.Change.{state_after_change}
use Rattle.model.specs.requests.Clone.{with_clone, clone_row, clone_rule}
use Rattle.model.specs.requests.Create.{with_new_file_system, create_row, create_rule}
use Rattle.model.specs.requests.Destroy.{file_systems_named, snaps_named, is_one_of, after_destroy}
use Rattle.model.specs.requests.Rename.{with_renamed, rename_rule}
use Rattle.model.specs.requests.OpenView.{with_view}
use Rattle.model.specs.requests.Promote.{Promotion, promotion_of, after_promotion}
use Rattle.model.specs.requests.Release.{without_tag}
use Rattle.model.specs.requests.Rollback.{placed, back_at, after_rollback, rolled_back}
use Rattle.model.specs.requests.Set.{after_set}
use Rattle.model.specs.requests.Snapshot.{snapshots_taken, snapshot_names, guid_by}
use Rattle.world.specs.Dead.{IsThere}
use Rattle.world.specs.Shapes.{Name}
use Rattle.world.proofs.lists.Maps.{same_value, no_value}
use Rattle.world.proofs.changes.Renames.{kept_name}
use Rattle.world.proofs.removals.WithoutSnaps.{from_without}
use Rattle.world.proofs.views.ViewedRenames.{rename_can}
use Rattle.world.proofs.views.ViewedRequests.{row_false, from_placed}
use Rattle.laws.specs.Lineages.{IsOrdered, HasLineages, HasBirths}
use Rattle.laws.specs.Bookmarks.{IsSource}
use Rattle.laws.proofs.Before.{world_before, step_joins}
use Rattle.laws.proofs.Edits.{went_same, went_written, went_back, same_later, one_later, without_later, deferred_later, named_later, tagged_later, added_later, empty_later, left_later, taken_later}
use Rattle.laws.proofs.Receiving.{got}
use Rattle.laws.proofs.Lineages.{found}
use Rattle.laws.proofs.Sources.{of_kept, was_there, source_stays, lineages_go_on}
use Rattle.laws.proofs.Moving.{moved_ordered, moved_source, moved_lineages, moved_births, moved_kept}
use Rattle.laws.proofs.Turning.{turned_source, turned_ordered, turned_lineages, turned_births, turned_kept}
use Rattle.laws.proofs.Births.{births_go_on}
use Rattle.laws.proofs.Walking.{IsLater}

-- what served a file system as a source serves it so, where there is one of that name in both
abbrev pub AreSourcesKept : World → World → Type 0
AreSourcesKept w v =
    (name : Name) (f e : FileSystem) → get w.file_systems name ≡ Some f → get v.file_systems name ≡ Some e
    → (group : ℕ) (held : Map) → IsSource w name group held → IsSource v name group held

-- each file system's name is one of the other world's
abbrev pub AreNamesOf : World → World → Type 0
AreNamesOf v new = (name : Name) (f : FileSystem) → get new.file_systems name ≡ Some f → (e : FileSystem) × (get v.file_systems name ≡ Some e)

-- what a promote or a rename leaves in a world
pub record IsTurned (w v : World) : Type 0 where
  pub order : IsOrdered v
  pub lineages : HasLineages w → HasLineages v
  pub births : HasBirths w → HasBirths v
  pub group : v.group ≡ w.group
  pub sources : AreSourcesKept w v
  pub kept : (id : SnapId) → IsThere v (Snapped id) → IsThere w (Snapped id) × (map_of v (Snapped id) ≡ map_of w (Snapped id))

-- its file systems went on; or those of a world did that a promote or a rename led to
pub data Became (w new : World) : Type 0 where
  went : IsLater w new → Became w new
  turned : (v : World) → IsTurned w v → IsLater v new → AreNamesOf v new → Became w new

-- so lineages go on
pub became_lineages : (w new : World) → HasLineages w → IsOrdered new → Became w new → HasLineages new
became_lineages w new lines o' (went later) = lineages_go_on w new lines o' later
became_lineages w new lines o' (turned v turn later names) = lineages_go_on v new (turn.lineages lines) o' later

-- and births are where they are to be
pub became_births : (w new : World) → IsOrdered w → HasBirths w → w.group ≤ new.group → Became w new → HasBirths new
became_births w new o births up (went later) = births_go_on w new o later births up
became_births w new o births up (turned v turn later names) = let g = turn.group in births_go_on v new turn.order later (turn.births births) (omega arith)

-- a snapshot of a closed group was there, with its map
pub became_kept : (w new : World) → IsOrdered w → IsOrdered new → Became w new → (id : SnapId) → id.group < w.group → IsThere new (Snapped id)
    → IsThere w (Snapped id) × (map_of new (Snapped id) ≡ map_of w (Snapped id))
became_kept w new o o' (went later) id low there = let was = was_there w new o o' later id low there in (was, of_kept w new o o' later id was there)
became_kept w new o o' (turned v turn later names) id low there =
    let g = turn.group in
    let mid = was_there v new turn.order o' later id (omega arith) there in
    let was = turn.kept id mid in
    (was.0, of_kept v new turn.order o' later id mid there ∙ was.1)

-- and what served as a source in a bookmark's group serves so
module _ (w new : World) (o : IsOrdered w) (o' : IsOrdered new) (name : Name) (f f' : FileSystem) (is : get w.file_systems name ≡ Some f) (is' : get new.file_systems name ≡ Some f')
    (at : List ℕ) (b : Bookmark) (marked : get f'.bookmarks at ≡ Some b) (closed : b.group < w.group) (held : Map) where
  pub became_source : Became w new → IsSource w name b.group held → IsSource new name b.group held
  became_source (went later) source =
      source_stays w new o o' later name f f' is is' b.group closed (λ v h newest. newest.marks at b marked) held source
  became_source (turned v turn later names) source =
      let k = names name f' is' in
      source_stays v new turn.order o' later name k.0 f' k.1 is' b.group (subst (λ y. b.group < y) (sym turn.group) closed)
      (λ u h newest. newest.marks at b marked) held (turn.sources name f k.0 is k.1 b.group held source)

-- ---- the sweep

became_swept : (w : World) (s : State) → Became w s.now → Became w (state_after_sweep s).now
unfolding state_after_sweep
became_swept w s (went later) = went (without_later w s.now (λ t. t.deferred && not (is_needed s.now s.views t)) later)
became_swept w s (turned v turn later names) = turned v turn (without_later v s.now goes later)
    (λ name f at. let k = from_without s.now goes name f at in names name k.0 k.1)
  where
    goes : Snap → Bool
    goes t = t.deferred && not (is_needed s.now s.views t)

-- ---- requests

absent : {A : Type 0} (x : Option A) → is_some x ≡ false → x ≡ None
absent None e = refl
absent (Some x) e = absurd (true≢false e)

changed : (s : State) (target : Target) (changes : Changes) (c : Choice) → IsLater s.now (state_after_change s target changes c).now
changed s (OfFileSystem name) changes c =
    one_later s.now name (λ f. record f { live = rewrite f.live changes s.now.group c.number }) (λ f at. went_written s.now.group f changes c.number)
changed s (OfSnapshot m) changes c = same_later s.now
changed s (OfBookmark m) changes c = same_later s.now

took : (s : State) (ms : List Member) → IsLater s.now (snapshots_taken s ms).now
took s [] = same_later s.now
took s (m ∷ ms) = taken_later s.now (guid_by s.pool s.next_guid) (m ∷ ms) s.now refl (same_later s.now)

created : (s : State) (name : Name) → refusal_of s (create_rule name) ≡ None → IsLater s.now (with_new_file_system s.now name)
unfolding refusal_of
created s name none = empty_later s.now name
    (absent (get s.now.file_systems name) (row_false (create_row s.now.file_systems name) none (contains_key s.now.file_systems name, Exists) (inl refl)))

cloned : (s : State) (target : Target) (name : Name) → refusal_of s (clone_rule target name) ≡ None
    → IsLater s.now (option_map_or (λ p. with_now s (with_clone s.now (id_of p.1) name)) (placed s.now target) s).now
unfolding refusal_of
cloned s target name none = by_place (placed s.now target) refl
  where
    by_place : (x : Option (FileSystem × Snap)) → placed s.now target ≡ x
        → IsLater s.now (option_map_or (λ (p : FileSystem × Snap). with_now s (with_clone s.now (id_of p.1) name)) x s).now
    by_place None e = same_later s.now
    by_place (Some p) e =
        let k = from_placed s.now target p e in
        added_later s.now name (record empty_file_system { live = map_of_snap s.now (Some (id_of p.1)); origin = Some (id_of p.1) }) refl
        (λ id i.
        let same = same_value (id_of p.1) id i in
        ((k.0, p.0, p.1, k.1, k.2, same), ap (λ y. map_of s.now (Snapped y)) same))
        (λ e. absurd (no_value (id_of p.1) (sym e)))
        (absent (get s.now.file_systems name) (row_false (clone_row s.now target name) none (contains_key s.now.file_systems name, Exists) (inr (inr (inr (inl refl))))))

went_to_snap : (w : World) → IsOrdered w → (target : Target) → IsLater w (rolled_back w target)
went_to_snap w o target = by_place (placed w target) refl
  where
    by_place : (x : Option (FileSystem × Snap)) → placed w target ≡ x
        → IsLater w (option_map_or (λ (p : FileSystem × Snap). after_rollback w (id_of p.1)) x w)
    by_place None e = same_later w
    by_place (Some p) e =
        let k = from_placed w target p e in
        subst (λ x. IsLater w (option_map_or (λ (p : Name × Snap). with_file_system w p.0 (λ f. back_at f p.1)) x w))
        (sym (found w o k.0 p.0 p.1 (id_of p.1) k.1 k.2 refl))
        (one_later w k.0 (λ f. back_at f p.1) (λ f at. went_back w.group f p.1 (subst (λ (x : FileSystem). IsIn x.snaps p.1) (same_value p.0 f (sym k.1 ∙ at)) k.2)))

destroyed : (w : World) (needed : Snap → Bool) (target : DestroyTarget) (recursive : Bool) → IsLater w (after_destroy w needed target recursive)
destroyed w needed (SystemGoes name) recursive = left_later w (file_systems_named w name recursive)
destroyed w needed (SnapshotsGo names) recursive =
    deferred_later w (without_snaps w (λ t. is_one_of (snaps_named w names recursive) t && not (needed t))) (λ t. is_one_of (snaps_named w names recursive) t && needed t)
    (without_later w w (λ t. is_one_of (snaps_named w names recursive) t && not (needed t)) (same_later w))
destroyed w needed (MarkGoes m) recursive =
    one_later w m.file_system (λ f. record f { bookmarks = remove f.bookmarks m.component }) (λ f at. went_same w.group f (record f { bookmarks = remove f.bookmarks m.component }) refl refl refl)

tagged : (s : State) (target : Target) (tags : Snap → List (List ℕ))
    → IsLater s.now (option_map_or (λ (p : FileSystem × Snap). with_tags s.now (id_of p.1) (tags p.1)) (placed s.now target) s.now)
tagged s target tags = by_place (placed s.now target)
  where
    by_place : (x : Option (FileSystem × Snap))
        → IsLater s.now (option_map_or (λ (p : FileSystem × Snap). with_tags s.now (id_of p.1) (tags p.1)) x s.now)
    by_place None = same_later s.now
    by_place (Some p) = tagged_later s.now (id_of p.1) (tags p.1)

noted : (w : World) (target : Target) (mark : Member) → IsLater w (bookmarked w target mark)
noted w target mark = by_place (placed w target)
  where
    by_place : (x : Option (FileSystem × Snap))
        → IsLater w (option_map_or (λ (p : FileSystem × Snap). with_file_system w mark.file_system (λ f. record f { bookmarks = insert f.bookmarks mark.component (bookmark_of_snap p.1) })) x w)
    by_place None = same_later w
    by_place (Some p) = one_later w mark.file_system (λ f. record f { bookmarks = insert f.bookmarks mark.component (bookmark_of_snap p.1) })
        (λ f at. went_same w.group f (record f { bookmarks = insert f.bookmarks mark.component (bookmark_of_snap p.1) }) refl refl refl)

set_one : (w : World) (name : Name) (limit : Limit) (amount : Option ℕ) → IsLater w (after_set w name limit amount)
set_one w name limit amount = one_later w name (λ f. limited f limit amount) (λ f at. went_same w.group f (limited f limit amount) refl refl refl)

opened : (s : State) (target : Target) → IsLater s.now (option_map_or (λ p. with_view s p.1) (placed s.now target) s).now
opened s target = by_place (placed s.now target)
  where
    by_place : (x : Option (FileSystem × Snap)) → IsLater s.now (option_map_or (λ (p : FileSystem × Snap). with_view s p.1) x s).now
    by_place None = same_later s.now
    by_place (Some p) = same_later s.now

-- a promote
turned_over : (s : State) → IsOrdered s.now → (name : Name) → Became s.now (option_map_or (λ p. with_now s (after_promotion s.now name p)) (promotion_of s.now name) s).now
turned_over s o name = by_promotion (promotion_of s.now name) refl
  where
    by_promotion : (x : Option Promotion) → promotion_of s.now name ≡ x → Became s.now (option_map_or (λ p. with_now s (after_promotion s.now name p)) x s).now
    by_promotion None e = went (same_later s.now)
    by_promotion (Some p) e = turned (after_promotion s.now name p) (record {
      order = turned_ordered s.now o name p e;
      lineages = turned_lineages s.now o name p e;
      births = turned_births s.now o name p e;
      group = refl;
      sources = λ q f g at at'. turned_source s.now o name p e q f at;
      kept = turned_kept s.now o name p e;
    }) (same_later (after_promotion s.now name p)) (λ q f at. (f, at))

-- a rename
moved_over : (s : State) → IsOrdered s.now → (name to : Name) → refusal_of s (rename_rule name to) ≡ None → Became s.now (with_renamed s.now name to)
moved_over s o name to none =
    let can = rename_can s name to none in
    turned (with_renamed s.now name to) (record {
      order = moved_ordered s.now o name to can;
      lineages = moved_lineages s.now o name to can;
      births = moved_births s.now o name to can;
      group = refl;
      sources = λ q f g at at' group held source.
          moved_source s.now o name to can q g at' group held (subst (λ n. IsSource s.now n group held) (sym (kept_name s.now.file_systems name to can q f g at at')) source);
      kept = moved_kept s.now o name to can;
    }) (same_later (with_renamed s.now name to)) (λ q f at. (f, at))

-- ---- steps

pub step_became : (q : Request) (r : Reply) (s new : State) → Step s q r new → IsOrdered (world_before s q r) → Became (world_before s q r) new.now
step_became q r s new step =
    step_joins (λ w v. IsOrdered w → Became w v) (λ w o. went (same_later w)) (λ w t k o. became_swept w t (k o)) q r s new step (by_request q)
  where
    by_request : (q : Request) (c : Choice) → refusal_of s (rule_of q step.reading) ≡ None → r ≡ (rule_of q step.reading).reply s
        → IsOrdered (world_before s q r) → Became (world_before s q r) ((rule_of q step.reading).after s c).now
    by_request (ToCreate name) c none is o = went (created s name none)
    by_request (ToWrite target object block bytes) c none is o = went (changed s target _ c)
    by_request (ToPunch target object block) c none is o = went (changed s target _ c)
    by_request (ToFreeObject target object) c none is o = went (changed s target _ c)
    by_request (ToSnapshot names recursive) c none is o = went (took s (snapshot_names s.now names recursive))
    by_request (ToRead target object block) c none is o = went (same_later s.now)
    by_request (ToGet target property) c none is o = went (same_later s.now)
    by_request (ToPoolGet property) c none is o = went (same_later s.now)
    by_request ToList c none is o = went (same_later s.now)
    by_request (ToRollback target later) c none is o = went (went_to_snap s.now o target)
    by_request (ToDestroy target recursive defer) c none is o = went (destroyed s.now (λ t. defer && is_needed s.now s.views t) target recursive)
    by_request (ToSlice count) c none is o = went (same_later s.now)
    by_request ToSync c none is o = went (same_later s.now)
    by_request ToAbandon c none is o = subst (λ x. Became (world_before s ToAbandon x) s.last) (sym is) (went (same_later s.last))
    by_request (ToOpenView target) c none is o = went (opened s target)
    by_request (ToCloseView view) c none is o = went (same_later s.now)
    by_request (ToClone target name) c none is o = went (cloned s target name none)
    by_request (ToPromote name) c none is o = turned_over s o name
    by_request (ToRename name to) c none is o = moved_over s o name to none
    by_request (ToRenameSnapshot name to recursive) c none is o = went (named_later s.now name to recursive)
    by_request (ToHold tag target) c none is o = went (tagged s target (λ t. t.tags ++ tag ∷ []))
    by_request (ToRelease tag target) c none is o = went (tagged s target (λ t. without_tag t.tags tag))
    by_request (ToHolds target) c none is o = went (same_later s.now)
    by_request (ToBookmark target mark) c none is o = went (noted s.now target mark)
    by_request (ToWrittenSince target since) c none is o = went (same_later s.now)
    by_request (ToWouldFree name first last) c none is o = went (same_later s.now)
    by_request (ToSet name limit amount) c none is o = went (set_one s.now name limit amount)
    by_request (ToSend target from) c none is o = went (same_later s.now)
    by_request (ToReceive m bytes mode) c none is o = went (got s o m step.reading mode c.number none)
