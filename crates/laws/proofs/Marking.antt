-- Where bookmarks come from: each that stands after a step stood before, or is made in it of a snapshot of its file system.
use Rattle.std.proofs.Common.{◌≡◌, ℕ, ◌+◌, Bool, true, false, not, ◌&&◌, ◌||◌, List, [], ◌∷◌, ◌++◌, Option, Some, None, refl, sym, ap, subst, ◌∙◌, ◌⊎◌, inl, inr, ⊎_elim, map}
use Rattle.std.specs.Prelude.{if◌then◌else◌, ◌==◌}
use Rattle.std.specs.List.{filter, find, list_any}
use Rattle.std.specs.Option.{option_map, option_map_or, option_and_then}
use Rattle.std.specs.FinMap.{get, insert, remove, get-empty}
use Rattle.base.specs.declared.number.Key.{Key}
use Rattle.base.specs.declared.refusal.Refusal.TheVariants.{NotAncestor}
use Rattle.base.specs.Rewrite.{Changes, rewrite}
use Rattle.base.specs.Surveys.{IsIn}
use Rattle.base.specs.Names.{name_cmp, same_name}
use Rattle.base.specs.declared.name.member.Member.{Member}
use Rattle.base.specs.declared.name.target.Target.{Target}
use Rattle.base.specs.declared.name.target.Target.TheVariants.{FileSystem as OfFileSystem, Snapshot as OfSnapshot, Bookmark as OfBookmark}
use Rattle.stream.specs.Records.{changes_of}
use Rattle.stream.specs.Spelling.{Sending}
use Rattle.model.specs.declared.destroy_target.DestroyTarget.{DestroyTarget}
use Rattle.model.specs.declared.destroy_target.DestroyTarget.TheVariants.{FileSystem as SystemGoes, Snapshots as SnapshotsGo, Bookmark as MarkGoes}
use Rattle.model.specs.Limits.{limited}
use Rattle.model.specs.declared.receiving.Receiving.{Receiving}
use Rattle.model.specs.declared.receiving.Receiving.TheVariants.{Plain, Back, Past, Origin, Replace}
use Rattle.model.specs.declared.request.Request.{Request}
use Rattle.model.specs.declared.request.Request.TheVariants.{Create as ToCreate, Write as ToWrite, Punch as ToPunch, FreeObject as ToFreeObject, Snapshot as ToSnapshot, Read as ToRead, Get as ToGet, PoolGet as ToPoolGet, List as ToList, Rollback as ToRollback, Destroy as ToDestroy, Slice as ToSlice, Sync as ToSync, Abandon as ToAbandon, OpenView as ToOpenView, CloseView as ToCloseView, Clone as ToClone, Promote as ToPromote, Rename as ToRename, RenameSnapshot as ToRenameSnapshot, Hold as ToHold, Release as ToRelease, Holds as ToHolds, Bookmark as ToBookmark, WrittenSince as ToWrittenSince, WouldFree as ToWouldFree, Set as ToSet, Send as ToSend, Receive as ToReceive}
use Rattle.model.specs.declared.reply.Reply.{Reply}
use Rattle.model.specs.World.{World, FileSystem, Snap, SnapId, Bookmark, id_of, same_id, snap_at, snap_named, empty_file_system, map_of_snap}
use Rattle.model.specs.State.{State}
use Rattle.model.specs.Rule.{Choice}
use Rattle.model.specs.Edits.{with_file_system, with_file_systems, with_losses, with_tags, with_now, after_change, without_snaps}
use Rattle.model.specs.Outcome.{is_needed, state_after_sweep}
use Rattle.model.specs.Refusals.{refusal_of}
use Rattle.model.specs.Step.{Step}
use Rattle.model.specs.Hierarchy.{is_in_family}
use Rattle.model.specs.requests.{rule_of}
use Rattle.model.specs.requests.Bookmark.{bookmarked, bookmark_of_snap, bookmark_row, bookmark_rule, is_beside}
use Rattle.model.specs.requests.Change.{state_after_change}
use Rattle.model.specs.requests.Clone.{with_clone}
use Rattle.model.specs.requests.Destroy.{file_systems_named, snaps_named, is_one_of, with_deferred, after_destroy}
use Rattle.model.specs.requests.OpenView.{with_view}
use Rattle.model.specs.requests.Promote.{Promotion, promotion_of, promoted, demoted, after_promotion}
use Rattle.model.specs.requests.Receive.{newest_of, source_of, back_to_newest, vacated, before_full, before_incremental, before_receive, received, state_received}
use Rattle.model.specs.requests.Release.{without_tag}
use Rattle.model.specs.requests.Rename.{with_renamed, rename_rule}
use Rattle.model.specs.requests.Rollback.{placed, back_at, after_rollback, rolled_back}
use Rattle.model.specs.requests.Snapshot.{snap_of_live, with_snapshots, snapshots_taken, snapshot_names, guid_by}
use Rattle.world.specs.RunLaws.{HasSnap}
use Rattle.world.specs.Shapes.{Name, name_order}
use Rattle.world.proofs.removals.Families.{from_retained}
use Rattle.world.proofs.lists.Finding.{from_find, one_name}
use Rattle.world.proofs.lists.Names.{exchanged}
use Rattle.world.proofs.lists.Maps.{same_value, no_value, key_cases, get-insert_same, get-insert_other, get-remove_same, get-remove_other}
use Rattle.world.proofs.changes.Promotions.{IsPromotion, promotion_is}
use Rattle.world.proofs.changes.Renames.{CanRename, renamed_at, outside_kept}
use Rattle.world.proofs.lineage.Put.{put_cases}
use Rattle.world.proofs.removals.Sweep.{get-with_file_systems}
use Rattle.world.proofs.views.ViewedRenames.{rename_can}
use Rattle.world.proofs.views.ViewedRequests.{row_false}
use Rattle.laws.specs.Runs.{given}
use Rattle.laws.proofs.Before.{world_before, step_joins}
use Rattle.laws.proofs.Edits.{marks_left}
use Rattle.world.proofs.changes.SnapNames.{with_names}

-- the file system of that name has the bookmark, under this name
abbrev pub HasMark : World → Name → List ℕ → Bookmark → Type 0
HasMark w a at b = (f : FileSystem) × (get w.file_systems a ≡ Some f) × (get f.bookmarks at ≡ Some b)

-- no bookmark is new
abbrev MarksKept : World → World → Type 0
MarksKept w new = (a : Name) (at : List ℕ) (b : Bookmark) → HasMark new a at b → HasMark w a at b

-- each is an earlier one, or is made of a snapshot of its file system, or that has been given its name
abbrev pub MarksFrom : (Name → Bool) → World → World → Type 0
MarksFrom gives w new =
    (a : Name) (at : List ℕ) (b : Bookmark) → HasMark new a at b → HasMark w a at b ⊎ (((t : Snap) × HasSnap w a t × (b ≡ bookmark_of_snap t)) ⊎ (gives a ≡ true))

-- ---- edits

put_kept : (w : World) (name : Name) (x : FileSystem) → ((at : List ℕ) (b : Bookmark) → get x.bookmarks at ≡ Some b → HasMark w name at b)
    → MarksKept w (record w { file_systems = insert w.file_systems name x })
put_kept w name x each a at b (f, is, h) = ⊎_elim
    (λ k. subst (λ n. HasMark w n at b) (sym k.0) (each at b (ap (λ (y : FileSystem). get y.bookmarks at) (sym k.1) ∙ h)))
    (λ k. (f, k.1, h))
    (put_cases w.file_systems name x a f is)

one_kept : (w : World) (name : Name) (change : FileSystem → FileSystem)
    → ((f : FileSystem) (at : List ℕ) (b : Bookmark) → get (change f).bookmarks at ≡ Some b → get f.bookmarks at ≡ Some b) → MarksKept w (with_file_system w name change)
one_kept w name change each = by_system (get w.file_systems name) refl
  where
    by_system : (x : Option FileSystem) → get w.file_systems name ≡ x
        → MarksKept w (option_map_or (λ s. record w { file_systems = insert w.file_systems name (change s) }) x w)
    by_system None e = λ a at b h. h
    by_system (Some s) e = put_kept w name (change s) (λ at b h. (s, e, each s at b h))

all_kept : (w : World) (change : List ℕ → FileSystem → FileSystem) → ((a : Name) (f : FileSystem) → (change a f).bookmarks ≡ f.bookmarks)
    → MarksKept w (with_file_systems w change)
all_kept w change same a at b (later, is, h) = by_old (get w.file_systems a) refl (sym (get-with_file_systems w change a) ∙ is)
  where
    by_old : (x : Option FileSystem) → get w.file_systems a ≡ x → option_map (change a) x ≡ Some later → HasMark w a at b
    by_old None e k = absurd (no_value later k)
    by_old (Some f) e k =
        (f, e, ap (λ m. get m at) (sym (same a f)) ∙ ap (λ (x : FileSystem). get x.bookmarks at) (same_value (change a f) later k) ∙ h)

empty_kept : (w : World) (name : Name) (f : FileSystem) → f.bookmarks ≡ empty_file_system.bookmarks → MarksKept w (record w { file_systems = insert w.file_systems name f })
empty_kept w name f bare = put_kept w name f (λ at b h. absurd (no_value b (sym (get-empty name_cmp at) ∙ ap (λ m. get m at) (sym bare) ∙ h)))

without_kept : (w : World) (goes : Snap → Bool) → MarksKept w (without_snaps w goes)
without_kept w goes = all_kept w (λ _ s. record s { snaps = filter (λ t. not (goes t)) s.snaps }) (λ a f. refl)

deferred_kept : (w : World) (some : Snap → Bool) → MarksKept w (with_deferred w some)
deferred_kept w some = all_kept w (λ _ f. record f { snaps = map {A = Snap} (λ t. record t { deferred = t.deferred || some t }) f.snaps }) (λ a f. refl)

tags_kept : (w : World) (id : SnapId) (tags : List (List ℕ)) → MarksKept w (with_tags w id tags)
tags_kept w id tags = all_kept w (λ _ f. record f { snaps = map {A = Snap} (λ t. if same_id (id_of t) id then record t { tags = tags } else t) f.snaps }) (λ a f. refl)

written_kept : (w : World) (name : Name) (ch : Changes) (number : Key → ℕ) → MarksKept w (after_change w name ch number)
written_kept w name ch number = one_kept w name (λ f. record f { live = rewrite f.live ch w.group number }) (λ f at b h. h)

taken_kept : (ms : List Member) (w : World) (guid : ℕ) → MarksKept w (with_snapshots w guid ms)
taken_kept [] w guid a at b h = h
taken_kept (m ∷ ms) w guid a at b h =
    one_kept w m.file_system (λ s. record s { snaps = s.snaps ++ snap_of_live w s m.component guid ∷ [] }) (λ f mark c k. k) a at b
    (taken_kept ms (with_file_system w m.file_system (λ s. record s { snaps = s.snaps ++ snap_of_live w s m.component guid ∷ [] })) (guid + 1) a at b h)

rolled_kept : (w : World) (target : Target) → MarksKept w (rolled_back w target)
rolled_kept w target = by_place (placed w target)
  where
    by_snap : (x : Option (Name × Snap)) → MarksKept w (option_map_or (λ (p : Name × Snap). with_file_system w p.0 (λ f. back_at f p.1)) x w)
    by_snap None = λ a at b h. h
    by_snap (Some p) = one_kept w p.0 (λ f. back_at f p.1) (λ f at b h. (marks_left f.bookmarks p.1.group at b h).0)

    by_place : (x : Option (FileSystem × Snap)) → MarksKept w (option_map_or (λ (p : FileSystem × Snap). after_rollback w (id_of p.1)) x w)
    by_place None = λ a at b h. h
    by_place (Some p) = by_snap (snap_at w (id_of p.1))

removed_kept : (w : World) (m : Member) → MarksKept w (with_file_system w m.file_system (λ f. record f { bookmarks = remove f.bookmarks m.component }))
removed_kept w m = one_kept w m.file_system (λ f. record f { bookmarks = remove f.bookmarks m.component }) (λ f at b h. ⊎_elim
    (λ (same : at ≡ m.component).
    absurd (no_value b (sym (get-remove_same name_order f.bookmarks m.component) ∙ ap (get (remove f.bookmarks m.component)) (sym same) ∙ h)))
    (λ (ne : ¬ (at ≡ m.component)). sym (get-remove_other name_order f.bookmarks m.component at ne) ∙ h)
    (key_cases name_order at m.component))

destroyed_kept : (w : World) (needed : Snap → Bool) (target : DestroyTarget) (recursive : Bool) → MarksKept w (after_destroy w needed target recursive)
destroyed_kept w needed (SystemGoes name) recursive = λ a at b (f, is, h).
    (f, (from_retained w.file_systems (λ n. not (list_any (same_name n) (file_systems_named w name recursive))) a f is).1, h)
destroyed_kept w needed (SnapshotsGo names) recursive = λ a at b h.
    let goes = λ (t : Snap). is_one_of (snaps_named w names recursive) t && not (needed t) in
    without_kept w goes a at b (deferred_kept (without_snaps w goes) (λ t. is_one_of (snaps_named w names recursive) t && needed t) a at b h)
destroyed_kept w needed (MarkGoes m) recursive = removed_kept w m

promoted_kept : (w : World) (name : Name) (p : Promotion) → promotion_of w name ≡ Some p → MarksKept w (after_promotion w name p)
promoted_kept w name p is a at b (f, here, h) =
    let P : IsPromotion w name p = promotion_is w name p is in
    ⊎_elim
    (λ (k : (a ≡ name) × (f ≡ promoted p)). (p.clone, ap (get w.file_systems) k.0 ∙ P.clone_at, ap (λ (x : FileSystem). get x.bookmarks at) (sym k.1) ∙ h))
    (λ (k : (¬ (a ≡ name)) × (get (insert w.file_systems p.owner (demoted p)) a ≡ Some f)). ⊎_elim
    (λ (l : (a ≡ p.owner) × (f ≡ demoted p)). (p.system, ap (get w.file_systems) l.0 ∙ P.owner_at, ap (λ (x : FileSystem). get x.bookmarks at) (sym l.1) ∙ h))
    (λ (l : (¬ (a ≡ p.owner)) × (get w.file_systems a ≡ Some f)). (f, l.1, h))
    (put_cases w.file_systems p.owner (demoted p) a f k.1))
    (put_cases (insert w.file_systems p.owner (demoted p)) name (promoted p) a f here)

module _ (w : World) (name : Name) where
  full_kept : (mode : Receiving) → MarksKept w (before_full w name mode)
  full_kept Plain = empty_kept w name empty_file_system refl
  full_kept Back = empty_kept w name empty_file_system refl
  full_kept Past = empty_kept w name empty_file_system refl
  full_kept (Origin origin) = empty_kept w name empty_file_system refl
  full_kept Replace = one_kept w name vacated (λ f at b h. absurd (no_value b (sym (get-empty name_cmp at) ∙ h)))

  incremental_kept : (source : ℕ) (mode : Receiving) → MarksKept w (before_incremental w name source mode)
  incremental_kept source Plain = λ a at b h. h
  incremental_kept source Back = by_newest (newest_of w name)
    where
      by_newest : (x : Option Snap) → MarksKept w (option_map_or (λ t. with_losses w (with_file_system w name (back_to_newest t))) x w)
      by_newest None = λ a at b h. h
      by_newest (Some t) = one_kept w name (back_to_newest t) (λ f at b h. (marks_left f.bookmarks t.group at b h).0)
  incremental_kept source Past = by_source (source_of w name source)
    where
      by_source : (x : Option (FileSystem × Snap)) → MarksKept w (option_map_or (λ (p : FileSystem × Snap). with_losses w (with_file_system w name (λ f. back_at f p.1))) x w)
      by_source None = λ a at b h. h
      by_source (Some p) = one_kept w name (λ f. back_at f p.1) (λ f at b h. (marks_left f.bookmarks p.1.group at b h).0)
  incremental_kept source (Origin origin) = by_snap (snap_named w origin)
    where
      by_snap : (x : Option Snap) → MarksKept w (option_map_or (λ (t : Snap). with_clone w (id_of t) name) x w)
      by_snap None = λ a at b h. h
      by_snap (Some t) = empty_kept w name (record empty_file_system { live = map_of_snap w (Some (id_of t)); origin = Some (id_of t) }) refl
  incremental_kept source Replace = λ a at b h. h

before_kept : (w : World) (m : Member) (sent : Sending) (mode : Receiving) → MarksKept w (before_receive w m.file_system sent mode)
before_kept w m sent mode = by_source (sent.source == 0)
  where
    by_source : (c : Bool) → MarksKept w (if c then before_full w m.file_system mode else before_incremental w m.file_system sent.source mode)
    by_source true = full_kept w m.file_system mode
    by_source false = incremental_kept w m.file_system sent.source mode

received_kept : (w : World) (m : Member) (sent : Sending) (mode : Receiving) (number : Key → ℕ) → MarksKept w (received w m sent mode number)
unfolding received
received_kept w m sent mode number a at b h =
    let v = before_receive w m.file_system sent mode in
    let u = after_change v m.file_system (changes_of sent.records) number in
    before_kept w m sent mode a at b (written_kept v m.file_system (changes_of sent.records) number a at b (taken_kept (m ∷ []) u sent.target a at b h))

-- ---- a bookmark made

-- the snapshot of a name is its file system's
named_there : (w : World) (m : Member) (p : FileSystem × Snap) → placed w (OfSnapshot m) ≡ Some p → HasSnap w m.file_system p.1
named_there w m p e = by_system (get w.file_systems m.file_system) refl e
  where
    by_snap : (f : FileSystem) → get w.file_systems m.file_system ≡ Some f → (y : Option Snap) → find (λ (t : Snap). same_name t.name m.component) f.snaps ≡ y
        → option_map (λ t. (f, t)) y ≡ Some p → HasSnap w m.file_system p.1
    by_snap f at None i k = absurd (no_value p k)
    by_snap f at (Some t) i k =
        (f, at, subst (IsIn f.snaps) (ap (λ (x : FileSystem × Snap). x.1) (same_value (f, t) p k)) (from_find (λ (t : Snap). same_name t.name m.component) f.snaps t i).0)

    by_system : (x : Option FileSystem) → get w.file_systems m.file_system ≡ x
        → option_and_then (λ f. option_map (λ t. (f, t)) (option_and_then (λ (s : FileSystem). find (λ (t : Snap). same_name t.name m.component) s.snaps) x)) x ≡ Some p
        → HasSnap w m.file_system p.1
    by_system None i k = absurd (no_value p k)
    by_system (Some f) i k = by_snap f i (find (λ (t : Snap). same_name t.name m.component) f.snaps) refl k

made_from : (s : State) (target : Target) (mark : Member) → refusal_of s (bookmark_rule target mark) ≡ None → MarksFrom (λ _. false) s.now (bookmarked s.now target mark)
unfolding refusal_of
made_from s target mark none = by_target target (row_false (bookmark_row s.now target mark) none (not (is_beside target mark), NotAncestor) (inr (inr (inl refl))))
  where
    is_true : (b : Bool) → not b ≡ false → b ≡ true
    is_true true e = refl
    is_true false e = cc

    by_place : (m : Member) → m.file_system ≡ mark.file_system → (x : Option (FileSystem × Snap)) → placed s.now (OfSnapshot m) ≡ x
        → MarksFrom (λ _. false) s.now (option_map_or (λ (p : FileSystem × Snap). with_file_system s.now mark.file_system (λ f. record f { bookmarks = insert f.bookmarks mark.component (bookmark_of_snap p.1) })) x s.now)
    by_place m same None e = λ a at b h. inl h
    by_place m same (Some p) e = by_system (get s.now.file_systems mark.file_system) refl
      where
        noted : FileSystem → FileSystem
        noted f = record f { bookmarks = insert f.bookmarks mark.component (bookmark_of_snap p.1) }

        snap : HasSnap s.now mark.file_system p.1
        snap = subst (λ n. HasSnap s.now n p.1) same (named_there s.now m p e)

        by_system : (x : Option FileSystem) → get s.now.file_systems mark.file_system ≡ x
            → MarksFrom (λ _. false) s.now (option_map_or (λ f. record s.now { file_systems = insert s.now.file_systems mark.file_system (noted f) }) x s.now)
        by_system None i = λ a at b h. inl h
        by_system (Some f) i = λ a at b (later, is, h). ⊎_elim
            (λ (k : (a ≡ mark.file_system) × (later ≡ noted f)).
            let here = ap (λ (x : FileSystem). get x.bookmarks at) (sym k.1) ∙ h in
            ⊎_elim
            (λ (q : at ≡ mark.component).
            let one = same_value (bookmark_of_snap p.1) b
            (sym (get-insert_same name_order f.bookmarks mark.component (bookmark_of_snap p.1)) ∙ ap (get (insert f.bookmarks mark.component (bookmark_of_snap p.1))) (sym q) ∙ here) in
            inr (inl (p.1, subst (λ n. HasSnap s.now n p.1) (sym k.0) snap, sym one)))
            (λ (ne : ¬ (at ≡ mark.component)).
            inl (f, ap (get s.now.file_systems) k.0 ∙ i, sym (get-insert_other name_order f.bookmarks mark.component (bookmark_of_snap p.1) at ne) ∙ here))
            (key_cases name_order at mark.component))
            (λ (k : (¬ (a ≡ mark.file_system)) × (get s.now.file_systems a ≡ Some later)). inl (later, k.1, h))
            (put_cases s.now.file_systems mark.file_system (noted f) a later is)

    by_target : (target : Target) → not (is_beside target mark) ≡ false → MarksFrom (λ _. false) s.now (bookmarked s.now target mark)
    by_target (OfFileSystem name) e = λ a at b h. inl h
    by_target (OfBookmark m) e = λ a at b h. inl h
    by_target (OfSnapshot m) e = by_place m (one_name m.file_system mark.file_system (is_true (same_name m.file_system mark.file_system) e)) (placed s.now (OfSnapshot m)) refl

-- ---- requests

changed : (s : State) (target : Target) (changes : Changes) (c : Choice) → MarksKept s.now (state_after_change s target changes c).now
changed s (OfFileSystem name) changes c = written_kept s.now name changes c.number
changed s (OfSnapshot m) changes c = λ a at b h. h
changed s (OfBookmark m) changes c = λ a at b h. h

took : (s : State) (ms : List Member) → MarksKept s.now (snapshots_taken s ms).now
took s [] = λ a at b h. h
took s (m ∷ ms) = taken_kept (m ∷ ms) s.now (guid_by s.pool s.next_guid)

opened : (s : State) (target : Target) → MarksKept s.now (option_map_or (λ p. with_view s p.1) (placed s.now target) s).now
opened s target = by_place (placed s.now target)
  where
    by_place : (x : Option (FileSystem × Snap)) → MarksKept s.now (option_map_or (λ (p : FileSystem × Snap). with_view s p.1) x s).now
    by_place None = λ a at b h. h
    by_place (Some p) = λ a at b h. h

cloned : (s : State) (target : Target) (name : Name) → MarksKept s.now (option_map_or (λ p. with_now s (with_clone s.now (id_of p.1) name)) (placed s.now target) s).now
cloned s target name = by_place (placed s.now target)
  where
    by_place : (x : Option (FileSystem × Snap)) → MarksKept s.now (option_map_or (λ (p : FileSystem × Snap). with_now s (with_clone s.now (id_of p.1) name)) x s).now
    by_place None = λ a at b h. h
    by_place (Some p) = empty_kept s.now name (record empty_file_system { live = map_of_snap s.now (Some (id_of p.1)); origin = Some (id_of p.1) }) refl

turned : (s : State) (name : Name) → MarksKept s.now (option_map_or (λ p. with_now s (after_promotion s.now name p)) (promotion_of s.now name) s).now
turned s name = by_promotion (promotion_of s.now name) refl
  where
    by_promotion : (x : Option Promotion) → promotion_of s.now name ≡ x → MarksKept s.now (option_map_or (λ p. with_now s (after_promotion s.now name p)) x s).now
    by_promotion None e = λ a at b h. h
    by_promotion (Some p) e = promoted_kept s.now name p e

tagged : (w : World) (target : Target) (tags : Snap → List (List ℕ)) → MarksKept w (option_map_or (λ (p : FileSystem × Snap). with_tags w (id_of p.1) (tags p.1)) (placed w target) w)
tagged w target tags = by_place (placed w target)
  where
    by_place : (x : Option (FileSystem × Snap)) → MarksKept w (option_map_or (λ (p : FileSystem × Snap). with_tags w (id_of p.1) (tags p.1)) x w)
    by_place None = λ a at b h. h
    by_place (Some p) = tags_kept w (id_of p.1) (tags p.1)

got : (s : State) (m : Member) (reading : Option Sending) (mode : Receiving) (number : Key → ℕ) → MarksKept s.now (state_received s m reading mode number).now
got s m None mode number = λ a at b h. h
got s m (Some sent) mode number = received_kept s.now m sent mode number

-- ---- steps

swept_marks : (gives : Name → Bool) (w : World) (s : State) → MarksFrom gives w s.now → MarksFrom gives w (state_after_sweep s).now
unfolding state_after_sweep
swept_marks gives w s k a at b h = k a at b (without_kept s.now (λ t. t.deferred && not (is_needed s.now s.views t)) a at b h)

-- a rename
renamed_from : (s : State) (name to : Name) → refusal_of s (rename_rule name to) ≡ None → MarksFrom (is_in_family to) s.now (with_renamed s.now name to)
renamed_from s name to none a at b (f, is, h) = by_test (is_in_family to a) refl
  where
    can : CanRename s.now.file_systems name to
    can = rename_can s name to none

    was : get s.now.file_systems (exchanged name to a) ≡ Some f
    was = sym (renamed_at s.now.file_systems name to can a) ∙ is

    by_test : (x : Bool) → is_in_family to a ≡ x → HasMark s.now a at b ⊎ (((t : Snap) × HasSnap s.now a t × (b ≡ bookmark_of_snap t)) ⊎ (is_in_family to a ≡ true))
    by_test true e = inr (inr e)
    by_test false e = inl (f, ap (get s.now.file_systems) (sym (outside_kept s.now.file_systems name to can a f e was)) ∙ was, h)

pub step_marks : (q : Request) (r : Reply) (s new : State) → Step s q r new → MarksFrom (given q r) (world_before s q r) new.now
step_marks q r s new step = step_joins (MarksFrom (given q r)) (λ w a at b h. inl h) (swept_marks (given q r)) q r s new step (by_request q)
  where
    by_request : (q : Request) (c : Choice) → refusal_of s (rule_of q step.reading) ≡ None → r ≡ (rule_of q step.reading).reply s
        → MarksFrom (given q r) (world_before s q r) ((rule_of q step.reading).after s c).now
    by_request (ToCreate name) c none is = λ a at b h. inl (empty_kept s.now name empty_file_system refl a at b h)
    by_request (ToWrite target object block bytes) c none is = λ a at b h. inl (changed s target _ c a at b h)
    by_request (ToPunch target object block) c none is = λ a at b h. inl (changed s target _ c a at b h)
    by_request (ToFreeObject target object) c none is = λ a at b h. inl (changed s target _ c a at b h)
    by_request (ToSnapshot names recursive) c none is = λ a at b h. inl (took s (snapshot_names s.now names recursive) a at b h)
    by_request (ToRead target object block) c none is = λ a at b h. inl h
    by_request (ToGet target property) c none is = λ a at b h. inl h
    by_request (ToPoolGet property) c none is = λ a at b h. inl h
    by_request ToList c none is = λ a at b h. inl h
    by_request (ToRollback target later) c none is = λ a at b h. inl (rolled_kept s.now target a at b h)
    by_request (ToDestroy target recursive defer) c none is = λ a at b h. inl (destroyed_kept s.now (λ t. defer && is_needed s.now s.views t) target recursive a at b h)
    by_request (ToSlice count) c none is = λ a at b h. inl h
    by_request ToSync c none is = λ a at b h. inl h
    by_request ToAbandon c none is = subst (λ x. MarksFrom (given ToAbandon x) (world_before s ToAbandon x) s.last) (sym is) (λ a at b h. inl h)
    by_request (ToOpenView target) c none is = λ a at b h. inl (opened s target a at b h)
    by_request (ToCloseView view) c none is = λ a at b h. inl h
    by_request (ToClone target name) c none is = λ a at b h. inl (cloned s target name a at b h)
    by_request (ToPromote name) c none is = λ a at b h. inl (turned s name a at b h)
    by_request (ToRename name to) c none is = subst (λ x. MarksFrom (given (ToRename name to) x) s.now (with_renamed s.now name to)) (sym is) (renamed_from s name to none)
    by_request (ToRenameSnapshot name to recursive) c none is = λ a at b h. inl (all_kept s.now (with_names name to recursive) (λ a f. refl) a at b h)
    by_request (ToHold tag target) c none is = λ a at b h. inl (tagged s.now target (λ t. t.tags ++ tag ∷ []) a at b h)
    by_request (ToRelease tag target) c none is = λ a at b h. inl (tagged s.now target (λ t. without_tag t.tags tag) a at b h)
    by_request (ToHolds target) c none is = λ a at b h. inl h
    by_request (ToBookmark target mark) c none is = made_from s target mark none
    by_request (ToWrittenSince target since) c none is = λ a at b h. inl h
    by_request (ToWouldFree name first last) c none is = λ a at b h. inl h
    by_request (ToSet name limit amount) c none is = λ a at b h. inl (one_kept s.now name (λ f. limited f limit amount) (λ f at b h. h) a at b h)
    by_request (ToSend target from) c none is = λ a at b h. inl h
    by_request (ToReceive m bytes mode) c none is = λ a at b h. inl (got s m step.reading mode c.number a at b h)
