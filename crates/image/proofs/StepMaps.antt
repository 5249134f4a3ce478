-- Each request, one by one: but for the changes of live maps, both worlds after it have maps of those before.
use Rattle.std.proofs.Common.{◌≡◌, ℕ, Option, Some, Bool, true, false, not, ◌&&◌, ◌||◌, List, [], ◌∷◌, ◌++◌, None, refl, sym, subst, inl, inr, ⊎_elim, true≢false}
use Rattle.std.specs.Prelude.{if◌then◌else◌}
use Rattle.std.specs.List.{list_any}
use Rattle.std.specs.Option.{option_map_or}
use Rattle.std.specs.FinMap.{insert, remove}
use Rattle.std.specs.FinMap as finmap
use Rattle.std.specs.FinSet.{difference}
use Rattle.base.specs.Names.{same_name}
use Rattle.base.specs.declared.name.member.Member.{Member}
use Rattle.base.specs.declared.name.target.Target.{Target}
use Rattle.model.specs.declared.destroy_target.DestroyTarget.{DestroyTarget}
use Rattle.model.specs.declared.destroy_target.DestroyTarget.TheVariants.{FileSystem as SystemGoes, Snapshots as SnapshotsGo, Bookmark as MarkGoes}
use Rattle.model.specs.Limits.{limited}
use Rattle.model.specs.declared.limits.Limit.{Limit}
use Rattle.model.specs.declared.request.Request.{Request}
use Rattle.model.specs.declared.request.Request.TheVariants.{Create as ToCreate, Write as ToWrite, Punch as ToPunch, FreeObject as ToFreeObject, Snapshot as ToSnapshot, Read as ToRead, Get as ToGet, PoolGet as ToPoolGet, List as ToList, Rollback as ToRollback, Destroy as ToDestroy, Slice as ToSlice, Sync as ToSync, Abandon as ToAbandon, OpenView as ToOpenView, CloseView as ToCloseView, Clone as ToClone, Promote as ToPromote, Rename as ToRename, RenameSnapshot as ToRenameSnapshot, Hold as ToHold, Release as ToRelease, Holds as ToHolds, Bookmark as ToBookmark, WrittenSince as ToWrittenSince, WouldFree as ToWouldFree, Set as ToSet, Send as ToSend, Receive as ToReceive}
use Rattle.model.specs.declared.reply.Reply.{Reply}
use Rattle.model.specs.State.{State}
use Rattle.model.specs.Rule.{Choice, Rule}
use Rattle.model.specs.Outcome.{is_needed, state_after_sweep, state_after}
use Rattle.model.specs.World.{World, FileSystem, Snap, id_of, same_id, empty_file_system}
use Rattle.model.specs.Edits.{with_now, with_file_system, with_losses, with_tags, without_snaps}
use Rattle.model.specs.Step.{Step, Follows, done, refused, out_of_memory}
use Rattle.model.specs.requests.{rule_of}
use Rattle.model.specs.requests.Create.{with_new_file_system}
use Rattle.model.specs.requests.Snapshot.{snapshots_taken, snapshot_names, guid_by}
use Rattle.model.specs.requests.Rollback.{placed, rolled_back, after_rollback}
use Rattle.model.specs.requests.Clone.{with_clone}
use Rattle.model.specs.requests.Promote.{Promotion, promotion_of, after_promotion}
use Rattle.model.specs.requests.Rename.{with_renamed}
use Rattle.model.specs.requests.RenameSnapshot.{with_snaps_renamed}
use Rattle.model.specs.requests.Destroy.{file_systems_named, snaps_named, is_one_of, with_deferred, after_destroy}
use Rattle.model.specs.requests.Release.{without_tag}
use Rattle.model.specs.requests.Set.{after_set}
use Rattle.model.specs.requests.Bookmark.{bookmarked, bookmark_of_snap}
use Rattle.model.specs.requests.OpenView.{with_view}
use Rattle.world.specs.Shapes.{Name}
use Rattle.world.specs.Worlds.{FileSystems, AreMapsFrom}
use Rattle.world.proofs.lineage.Put.{put_maps}
use Rattle.world.proofs.removals.Families.{retained_maps}
use Rattle.world.proofs.removals.WithoutSnaps.{without_from}
use Rattle.world.proofs.changes.Renames.{renamed_of}
use Rattle.world.proofs.changes.SnapNames.{named_from}
use Rattle.world.proofs.steps.Groups.{same_maps}
use Rattle.world.proofs.steps.SnapshotLists.{maps_through}
use Rattle.image.specs.Stored.{AreFromState, MapsStay, changes_maps}
use Rattle.image.proofs.Stays.{changed_from, snaps_changed, clone_from, all_snapped_from, back_from, turned_from}

-- both worlds stay
pub stays : (s : State) → MapsStay s s
stays s = record { now = inl (same_maps s.now.file_systems); last = inr (same_maps s.last.file_systems) }

-- another world of maps of the present one
moves : (s : State) (w : World) → AreMapsFrom s.now.file_systems w.file_systems → MapsStay s (with_now s w)
moves s w from = record { now = inl from; last = inr (same_maps s.last.file_systems) }

through_either : (s : State) (a b : FileSystems) → AreFromState s a → AreMapsFrom a b → AreFromState s b
through_either s a b from k = ⊎_elim (λ f. inl (maps_through s.now.file_systems a b f k)) (λ f. inr (maps_through s.last.file_systems a b f k)) from

-- the sweep
swept : (s t : State) → MapsStay s t → MapsStay s (state_after_sweep t)
unfolding state_after_sweep
swept s t from = record {
  now = through_either s t.now.file_systems (without_snaps t.now (λ u. u.deferred && not (is_needed t.now t.views u))).file_systems from.now (without_from t.now (λ u. u.deferred && not (is_needed t.now t.views u)));
  last = from.last;
}

created : (s : State) (name : Name) → MapsStay s (with_now s (with_new_file_system s.now name))
created s name = moves s (with_new_file_system s.now name) (put_maps s.now.file_systems name empty_file_system (λ m h. ⊎_elim (λ (e : m ≡ finmap.empty). inl e) (λ none. absurd none) h))

took : (s : State) (ks : List Member) → MapsStay s (snapshots_taken s ks)
took s [] = stays s
took s (k ∷ ks) = record { now = inl (all_snapped_from s.now (guid_by s.pool s.next_guid) (k ∷ ks)); last = inr (same_maps s.last.file_systems) }

rolled : (s : State) (target : Target) → MapsStay s (with_now s (with_losses s.now (rolled_back s.now target)))
rolled s target = moves s (with_losses s.now (rolled_back s.now target)) (by_place (placed s.now target))
  where
    by_place : (x : Option (FileSystem × Snap)) → AreMapsFrom s.now.file_systems (option_map_or (λ (p : FileSystem × Snap). after_rollback s.now (id_of p.1)) x s.now).file_systems
    by_place None = same_maps s.now.file_systems
    by_place (Some p) = back_from s.now (id_of p.1)

cloned : (s : State) (target : Target) (name : Name) → MapsStay s (option_map_or (λ p. with_now s (with_clone s.now (id_of p.1) name)) (placed s.now target) s)
cloned s target name = by_place (placed s.now target)
  where
    by_place : (x : Option (FileSystem × Snap)) → MapsStay s (option_map_or (λ (p : FileSystem × Snap). with_now s (with_clone s.now (id_of p.1) name)) x s)
    by_place None = stays s
    by_place (Some p) = moves s (with_clone s.now (id_of p.1) name) (clone_from s.now (id_of p.1) name)

turned : (s : State) (name : Name) → MapsStay s (option_map_or (λ p. with_now s (after_promotion s.now name p)) (promotion_of s.now name) s)
turned s name = by_promotion (promotion_of s.now name) refl
  where
    by_promotion : (x : Option Promotion) → promotion_of s.now name ≡ x → MapsStay s (option_map_or (λ (p : Promotion). with_now s (after_promotion s.now name p)) x s)
    by_promotion None e = stays s
    by_promotion (Some p) e = moves s (after_promotion s.now name p) (turned_from s.now name p e)

renamed : (s : State) (from to : Name) → MapsStay s (with_now s (with_renamed s.now from to))
renamed s from to = moves s (with_renamed s.now from to) (λ n f m at i. let k = renamed_of s.now from to n f at in inr (k.0, f, k.1, i))

-- what a destroy leaves
left_from : (w : World) (needed : Snap → Bool) (target : DestroyTarget) (recursive : Bool) → AreMapsFrom w.file_systems (after_destroy w needed target recursive).file_systems
left_from w needed (SystemGoes name) recursive = retained_maps w.file_systems (λ n. not (list_any (same_name n) (file_systems_named w name recursive)))
left_from w needed (SnapshotsGo names) recursive =
    let goes : Snap → Bool = λ t. is_one_of (snaps_named w names recursive) t && not (needed t) in
    let defers : Snap → Bool = λ t. is_one_of (snaps_named w names recursive) t && needed t in
    maps_through w.file_systems (without_snaps w goes).file_systems (with_deferred (without_snaps w goes) defers).file_systems
    (without_from w goes) (snaps_changed (without_snaps w goes) (λ (t : Snap). record t { deferred = t.deferred || defers t }) (λ t. refl))
left_from w needed (MarkGoes m) recursive = changed_from w m.file_system (λ f. record f { bookmarks = remove f.bookmarks m.component }) (λ f x e h. h)

destroyed : (s : State) (needed : Snap → Bool) (target : DestroyTarget) (recursive : Bool) → MapsStay s (with_now s (with_losses s.now (after_destroy s.now needed target recursive)))
destroyed s needed target recursive = moves s (with_losses s.now (after_destroy s.now needed target recursive)) (left_from s.now needed target recursive)

tagged : (s : State) (target : Target) (tags : Snap → List (List ℕ)) → MapsStay s (with_now s (option_map_or (λ p. with_tags s.now (id_of p.1) (tags p.1)) (placed s.now target) s.now))
tagged s target tags = by_place (placed s.now target)
  where
    by_place : (x : Option (FileSystem × Snap)) → MapsStay s (with_now s (option_map_or (λ (p : FileSystem × Snap). with_tags s.now (id_of p.1) (tags p.1)) x s.now))
    by_place None = stays s
    by_place (Some p) = moves s (with_tags s.now (id_of p.1) (tags p.1)) (snaps_changed s.now (λ (t : Snap). if same_id (id_of t) (id_of p.1) then record t { tags = tags p.1 } else t) (λ t. by_test t (same_id (id_of t) (id_of p.1))))
      where
        by_test : (t : Snap) (b : Bool) → (if b then record t { tags = tags p.1 } else t).map ≡ t.map
        by_test t true = refl
        by_test t false = refl

noted : (s : State) (target : Target) (mark : Member) → MapsStay s (with_now s (bookmarked s.now target mark))
noted s target mark = by_place (placed s.now target)
  where
    by_place : (x : Option (FileSystem × Snap)) → MapsStay s (with_now s (option_map_or (λ (p : FileSystem × Snap). with_file_system s.now mark.file_system (λ f. record f { bookmarks = insert f.bookmarks mark.component (bookmark_of_snap p.1) })) x s.now))
    by_place None = stays s
    by_place (Some p) =
        moves s (with_file_system s.now mark.file_system (λ f. record f { bookmarks = insert f.bookmarks mark.component (bookmark_of_snap p.1) }))
        (changed_from s.now mark.file_system (λ f. record f { bookmarks = insert f.bookmarks mark.component (bookmark_of_snap p.1) }) (λ f m e h. h))

set_one : (s : State) (name : Name) (limit : Limit) (amount : Option ℕ) → MapsStay s (with_now s (after_set s.now name limit amount))
set_one s name limit amount = moves s (after_set s.now name limit amount) (changed_from s.now name (λ f. limited f limit amount) (λ f m e h. h))

viewed : (s : State) (target : Target) → MapsStay s (option_map_or (λ p. with_view s p.1) (placed s.now target) s)
viewed s target = by_place (placed s.now target)
  where
    by_place : (x : Option (FileSystem × Snap)) → MapsStay s (option_map_or (λ (p : FileSystem × Snap). with_view s p.1) x s)
    by_place None = stays s
    by_place (Some p) = record { now = inl (same_maps s.now.file_systems); last = inr (same_maps s.last.file_systems) }

-- a rule
followed : (r : Reply) (s new : State) (rule : Rule) → ((c : Choice) → MapsStay s (rule.after s c)) → Follows s rule r new → MapsStay s new
unfolding state_after
followed r s new rule keeps (done h) = subst (MapsStay s) (sym h.new_is) (by_reading rule.only_reads (swept s (rule.after s h.choice) (keeps h.choice)))
  where
    by_reading : (b : Bool) → MapsStay s (state_after_sweep (rule.after s h.choice)) → MapsStay s (if b then s else state_after_sweep (rule.after s h.choice))
    by_reading true k = stays s
    by_reading false k = k
followed r s new rule keeps (refused h) = subst (MapsStay s) (sym h.unchanged) (stays s)
followed r s new rule keeps (out_of_memory h) = subst (MapsStay s) (sym h.unchanged) (stays s)

changes : {X : Type 0} → true ≡ false → X
changes e = absurd (true≢false e)

-- every step of another request
pub step_maps : (q : Request) (r : Reply) (s new : State) → changes_maps q ≡ false → Step s q r new → MapsStay s new
step_maps q r s new same step = followed r s new (rule_of q step.reading) (by_request q same) step.follows
  where
    by_request : (q : Request) → changes_maps q ≡ false → (c : Choice) → MapsStay s ((rule_of q step.reading).after s c)
    by_request (ToCreate name) e c = created s name
    by_request (ToWrite target object block bytes) e c = changes e
    by_request (ToPunch target object block) e c = changes e
    by_request (ToFreeObject target object) e c = changes e
    by_request (ToSnapshot names recursive) e c = took s (snapshot_names s.now names recursive)
    by_request (ToRead target object block) e c = stays s
    by_request (ToGet target property) e c = stays s
    by_request (ToPoolGet property) e c = stays s
    by_request ToList e c = stays s
    by_request (ToRollback target later) e c = rolled s target
    by_request (ToDestroy target recursive defer) e c = destroyed s (λ t. defer && is_needed s.now s.views t) target recursive
    by_request (ToSlice count) e c = moves s (record s.now { freeing = difference s.now.freeing c.taken }) (same_maps s.now.file_systems)
    by_request ToSync e c = record { now = inl (same_maps s.now.file_systems); last = inl (same_maps s.now.file_systems) }
    by_request ToAbandon e c = record { now = inr (same_maps s.last.file_systems); last = inr (same_maps s.last.file_systems) }
    by_request (ToOpenView target) e c = viewed s target
    by_request (ToClone target name) e c = cloned s target name
    by_request (ToPromote name) e c = turned s name
    by_request (ToRename name to) e c = renamed s name to
    by_request (ToRenameSnapshot name to recursive) e c = moves s (with_snaps_renamed s.now name to recursive) (named_from name to recursive s.now)
    by_request (ToCloseView view) e c = record { now = inl (same_maps s.now.file_systems); last = inr (same_maps s.last.file_systems) }
    by_request (ToHold tag target) e c = tagged s target (λ t. t.tags ++ tag ∷ [])
    by_request (ToRelease tag target) e c = tagged s target (λ t. without_tag t.tags tag)
    by_request (ToHolds target) e c = stays s
    by_request (ToBookmark target mark) e c = noted s target mark
    by_request (ToWrittenSince target since) e c = stays s
    by_request (ToWouldFree name first last) e c = stays s
    by_request (ToSet name limit amount) e c = set_one s name limit amount
    by_request (ToSend target from) e c = stays s
    by_request (ToReceive snapshot bytes mode) e c = changes e
