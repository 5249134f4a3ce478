-- Each step leaves snapshots, origins and bookmarks in order, whatever was asked for.
use Rattle.std.proofs.Common.{◌≡◌, ◌<◌, ℕ, Bool, true, false, not, ◌&&◌, List, [], ◌∷◌, ◌++◌, Option, Some, None, refl, sym, ap, subst, ◌∙◌, ◌⊎◌, inl, inr, ⊎_elim, true≢false, map, length}
use Rattle.std.specs.Prelude.{if◌then◌else◌, nat_le, nat_lt, ◌==◌}
use Rattle.std.specs.List.{list_any}
use Rattle.std.specs.Option.{option_map_or}
use Rattle.std.specs.FinMap.{get, insert, remove, contains_key, get-empty, entries, values}
use Rattle.std.specs.Ordering.{nat_cmp}
use Rattle.std.specs.FinMap as finmap
use Rattle.std.proofs.lemmas.Bool.{and_parts, or_right, or_cases, lt-ltb, leb-false}
use Rattle.base.specs.declared.number.Key.{Key}
use Rattle.base.specs.declared.refusal.Refusal.TheVariants.{Exists, HasClones}
use Rattle.base.specs.Rewrite.{Changes, rewrite}
use Rattle.base.specs.Surveys.{IsIn}
use Rattle.base.specs.Names.{name_cmp, same_name}
use Rattle.base.specs.declared.name.member.Member.{Member}
use Rattle.base.specs.declared.name.target.Target.{Target}
use Rattle.base.specs.declared.name.target.Target.TheVariants.{FileSystem as OfFileSystem, Snapshot as OfSnapshot, Bookmark as OfBookmark}
use Rattle.stream.specs.Records.{changes_of}
use Rattle.stream.specs.Spelling.{Sending}
use Rattle.model.specs.declared.destroy_target.DestroyTarget.{DestroyTarget}
use Rattle.model.specs.declared.destroy_target.DestroyTarget.TheVariants.{FileSystem as SystemGoes, Snapshots as SnapshotsGo, Bookmark as MarkGoes}
use Rattle.model.specs.Limits.{limited}
use Rattle.model.specs.declared.receiving.Receiving.{Receiving}
use Rattle.model.specs.declared.receiving.Receiving.TheVariants.{Plain, Back, Past, Origin, Replace}
use Rattle.model.specs.declared.request.Request.{Request}
use Rattle.model.specs.declared.request.Request.TheVariants.{Create as ToCreate, Write as ToWrite, Punch as ToPunch, FreeObject as ToFreeObject, Snapshot as ToSnapshot, Read as ToRead, Get as ToGet, PoolGet as ToPoolGet, List as ToList, Rollback as ToRollback, Destroy as ToDestroy, Slice as ToSlice, Sync as ToSync, Abandon as ToAbandon, OpenView as ToOpenView, CloseView as ToCloseView, Clone as ToClone, Promote as ToPromote, Rename as ToRename, RenameSnapshot as ToRenameSnapshot, Hold as ToHold, Release as ToRelease, Holds as ToHolds, Bookmark as ToBookmark, WrittenSince as ToWrittenSince, WouldFree as ToWouldFree, Set as ToSet, Send as ToSend, Receive as ToReceive}
use Rattle.model.specs.declared.reply.Reply.{Reply}
use Rattle.model.specs.World.{World, FileSystem, Snap, SnapId, Bookmark, id_of, file_system_at, snap_named, empty_file_system, map_of_snap, clones_of}
use Rattle.model.specs.State.{State, Views, is_viewed}
use Rattle.model.specs.Rule.{Choice, first_of}
use Rattle.model.specs.Edits.{with_file_system, with_tags, with_losses, without_snaps, with_now, after_change}
use Rattle.model.specs.Outcome.{is_needed, state_after_sweep}
use Rattle.model.specs.Refusals.{state_asked, refusal_of}
use Rattle.model.specs.Step.{Step}
use Rattle.model.specs.requests.{rule_of}
use Rattle.model.specs.requests.Bookmark.{bookmarked, bookmark_of_snap}
use Rattle.model.specs.requests.Change.{state_after_change}
use Rattle.model.specs.requests.Clone.{with_clone, clone_row, clone_rule}
use Rattle.model.specs.requests.Create.{with_new_file_system, create_row, create_rule}
use Rattle.model.specs.requests.Destroy.{file_systems_named, snaps_named, snaps_within, is_one_of, without_file_systems, with_deferred, after_destroy, destroy_system_row, destroy_snap_row, destroy_rule}
use Rattle.model.specs.requests.OpenView.{with_view}
use Rattle.model.specs.requests.Promote.{Promotion, promotion_of, after_promotion}
use Rattle.model.specs.requests.Receive.{newest_of, source_of, back_to_newest, forced_back, back_past, cloned_from, vacated, emptied, before_full, before_incremental, before_receive, received, snaps_past, full_row, incremental_row, stream_row, state_received, receive_rule}
use Rattle.model.specs.requests.Release.{without_tag}
use Rattle.model.specs.requests.Rollback.{placed, snaps_after, back_at, after_rollback, rolled_back, newer_snaps, has_clone_outside, rollback_row, rollback_rule}
use Rattle.model.specs.requests.Snapshot.{snapshots_taken, snapshot_names, guid_by, has_twice, snapshot_row, snapshot_rule}
use Rattle.world.specs.Dead.{HasNoCloneIn}
use Rattle.world.specs.Shapes.{Name, name_order, view_order}
use Rattle.world.specs.Usage.{IsEntry}
use Rattle.world.proofs.lists.Finding.{or_none, any_none, from_filter, in_filter, in_flat, one_name}
use Rattle.world.proofs.lists.Listed.{in_map, map_in}
use Rattle.world.proofs.lists.Maps.{same_value, no_value, at_entry, key_cases, get-insert_same, get-insert_other, get-remove_same, get-remove_other}
use Rattle.world.proofs.steps.States.{in_clones, positive, swept_bare}
use Rattle.world.proofs.views.Viewed.{IsSafe, snap_found, one_changed}
use Rattle.world.proofs.views.ViewedReceives.{stream_none, no_full, no_incremental, new_absent, origin_absent, replaced_bare, replaced_alone, past_alone, from_named, from_source, snap_within}
use Rattle.world.proofs.views.ViewedRenames.{rename_can}
use Rattle.world.proofs.views.ViewedRequests.{row_false, not_some, from_placed}
use Rattle.world.proofs.removals.WithoutSnaps.{any_from}
use Rattle.laws.specs.Lineages.{IsOrdered, origin_group}
use Rattle.laws.proofs.Before.{world_before, step_joins}
use Rattle.laws.proofs.Edits.{marks_left}
use Rattle.laws.proofs.Orders.{same_followed, one_ordered, without_ordered, deferred_ordered, named_ordered, tagged_ordered, losses_ordered, added_ordered, left_ordered, taken_ordered}
use Rattle.laws.proofs.Rising.{rising_filter}
use Rattle.laws.proofs.Moving.{moved_ordered}
use Rattle.laws.proofs.Turning.{turned_ordered}

-- ---- what the rows say of clones

-- each clone is of the file systems that go
with_clones : (w : World) (going : List Name) (ids : List SnapId) → has_clone_outside w going ids ≡ false → (id : SnapId) → IsIn ids id
    → (q : Name) (x : FileSystem) → get w.file_systems q ≡ Some x → x.origin ≡ Some id → list_any (same_name q) going ≡ true
with_clones w going ids none id i q x at e = by_test (list_any (same_name q) going) refl
    (any_none (λ clone. not (list_any (same_name clone) going)) (clones_of w id)
    (any_none (λ id. list_any (λ clone. not (list_any (same_name clone) going)) (clones_of w id)) ids none id i) q (in_clones w id q x at e))
  where
    by_test : (b : Bool) → list_any (same_name q) going ≡ b → not (list_any (same_name q) going) ≡ false → list_any (same_name q) going ≡ true
    by_test true e k = e
    by_test false e k = absurd (true≢false (sym (ap not e) ∙ k))

none_outside : (w : World) (ids : List SnapId) → has_clone_outside w [] ids ≡ false → (id : SnapId) → IsIn ids id → HasNoCloneIn w.file_systems id
none_outside w ids none id i q x at e = true≢false (sym (with_clones w [] ids none id i q x at e))

-- what nothing needs has no clone
unneeded : (w : World) (views : Views) (t : Snap) → not (is_needed w views t) ≡ true → HasNoCloneIn w.file_systems (id_of t)
unneeded w views t n q x at e = true≢false (sym n ∙ ap not (or_right (nat_lt 0 (length t.tags)) _ (or_right (is_viewed views (id_of t)) _ (positive (clones_of w (id_of t)) q (in_clones w (id_of t) q x at e)))))

-- where no view is open none is seen
unviewed : (id : SnapId) → is_viewed finmap.empty id ≡ true → ⊥
unviewed id seen =
    let k = in_map (λ (e : ℕ × SnapId). e.1) (entries finmap.empty) id (any_from (values finmap.empty) id seen) in
    no_value k.0.1 (sym (get-empty nat_cmp k.0.0) ∙ at_entry view_order finmap.empty k.0.0 k.0.1 (in_entry (entries finmap.empty) k.0 k.1))
  where
    in_entry : (es : List (ℕ × SnapId)) (e : ℕ × SnapId) → IsIn es e → IsEntry es e.0 e.1
    in_entry [] e h = absurd h
    in_entry (x ∷ xs) e h = ⊎_elim (λ is. inl (ap (λ y. y.0) is, ap (λ y. y.1) is)) (λ r. inr (in_entry xs e r)) h

-- ---- edits of one file system that leave its snapshots

module _ (w : World) (o : IsOrdered w) where
  -- with bookmarks of closed groups
  kept_ordered : (name : Name) (change : FileSystem → FileSystem) → ((f : FileSystem) → (change f).snaps ≡ f.snaps) → ((f : FileSystem) → (change f).origin ≡ f.origin)
      → ((f : FileSystem) (at : List ℕ) (b : Bookmark) → get w.file_systems name ≡ Some f → get (change f).bookmarks at ≡ Some b → b.group < w.group)
      → IsOrdered (with_file_system w name change)
  kept_ordered name change snaps origin marks = one_ordered w o name change safe.once safe.closed
      (λ f at. same_followed w o name f (change f) at (origin f) (snaps f) (λ mark b h. marks f mark b at h))
    where
      safe : IsSafe finmap.empty w (with_file_system w name change)
      safe = one_changed finmap.empty w name change o.once o.closed
          (λ f t at h. subst (λ l. IsIn l t) (snaps f) h)
          (λ f t at h seen. subst (λ l. IsIn l t) (sym (snaps f)) h)

  -- and another live map
  pub written_ordered : (name : Name) (ch : Changes) (number : Key → ℕ) → IsOrdered (after_change w name ch number)
  written_ordered name ch number = kept_ordered name (λ f. record f { live = rewrite f.live ch w.group number }) (λ f. refl) (λ f. refl) (λ f mark b at h. o.marks name mark f b at h)

  -- back at the newest snapshot
  newest_ordered : (name : Name) (t : Snap) → IsOrdered (with_file_system w name (back_to_newest t))
  newest_ordered name t = kept_ordered name (back_to_newest t) (λ f. refl) (λ f. refl) (λ f mark b at h. o.marks name mark f b at (marks_left f.bookmarks t.group mark b h).0)

  -- back at a snapshot, where none that is newer has a clone
  back_ordered : (name : Name) (f : FileSystem) (t : Snap) → get w.file_systems name ≡ Some f
      → ((u : Snap) → IsIn f.snaps u → t.group < u.group → HasNoCloneIn w.file_systems (id_of u)) → IsOrdered (with_file_system w name (λ f. back_at f t))
  back_ordered name f t at none = one_ordered w o name (λ f. back_at f t) safe.once safe.closed
      (λ x is. record {
        origin = refl;
        rising = rising_filter (λ (u : Snap). nat_le u.group t.group) (origin_group x.origin) x.snaps;
        marks = λ mark b h. o.marks name mark x b is (marks_left x.bookmarks t.group mark b h).0;
        stays = λ u h. by_group x u is h (nat_le u.group t.group) refl;
      })
    where
      safe : IsSafe finmap.empty w (with_file_system w name (λ f. back_at f t))
      safe = one_changed finmap.empty w name (λ f. back_at f t) o.once o.closed
          (λ x u is h. (from_filter (λ (u : Snap). nat_le u.group t.group) x.snaps u h).0)
          (λ x u is h seen. absurd (unviewed (id_of u) seen))

      by_group : (x : FileSystem) (u : Snap) → get w.file_systems name ≡ Some x → IsIn x.snaps u → (b : Bool) → nat_le u.group t.group ≡ b
          → ((v : Snap) × IsIn (back_at x t).snaps v × (id_of v ≡ id_of u)) ⊎ HasNoCloneIn w.file_systems (id_of u)
      by_group x u is h true e = inl (u, in_filter (λ (u : Snap). nat_le u.group t.group) x.snaps u h e, refl)
      by_group x u is h false e = inr (none u (subst (λ (y : FileSystem). IsIn y.snaps u) (same_value x f (sym is ∙ at)) h) (leb-false u.group t.group e))

  -- back at the one of this name
  rolled_ordered : (target : Target) → has_clone_outside w [] (newer_snaps w target) ≡ false → IsOrdered (rolled_back w target)
  rolled_ordered target none = by_place (placed w target) refl none
    where
      by_place : (x : Option (FileSystem × Snap)) → placed w target ≡ x → has_clone_outside w [] (option_map_or (λ (p : FileSystem × Snap). map id_of (snaps_after p.0 p.1.group)) x []) ≡ false
          → IsOrdered (option_map_or (λ (p : FileSystem × Snap). after_rollback w (id_of p.1)) x w)
      by_place None e free = o
      by_place (Some p) e free =
          let k = from_placed w target p e in
          let found = snap_found w o.once k.0 p.1 (id_of p.1) (p.0, k.1, k.2) refl in
          subst (λ x. IsOrdered (option_map_or (λ (p : Name × Snap). with_file_system w p.0 (λ f. back_at f p.1)) x w)) (sym found)
          (back_ordered k.0 p.0 p.1 k.1 (λ u h l. none_outside w (map id_of (snaps_after p.0 p.1.group)) free (id_of u)
          (map_in (λ (u : Snap). id_of u) (snaps_after p.0 p.1.group) u (in_filter (λ (u : Snap). nat_lt p.1.group u.group) p.0.snaps u h (lt-ltb p.1.group u.group l)))))

  -- ---- destroyed

  systems_gone : (names : List Name) → has_clone_outside w names (snaps_within w names) ≡ false → IsOrdered (without_file_systems w names)
  systems_gone names none = left_ordered w o names (λ a f t q x at h i is e.
      with_clones w names (snaps_within w names) none (id_of t) (within a f t at h (any_name a names i)) q x is e)
    where
      any_name : (q : Name) (ns : List Name) → list_any (same_name q) ns ≡ true → IsIn ns q
      any_name q [] e = absurd (true≢false (sym e))
      any_name q (n ∷ ns) e = ⊎_elim (λ k. inl (one_name q n k)) (λ k. inr (any_name q ns k)) (or_cases (same_name q n) (list_any (same_name q) ns) e)

      within : (a : Name) (f : FileSystem) (t : Snap) → get w.file_systems a ≡ Some f → IsIn f.snaps t → IsIn names a → IsIn (snaps_within w names) (id_of t)
      within a f t at h i = in_flat (λ n. option_map_or (λ (f : FileSystem). map id_of f.snaps) (file_system_at w n) []) names a (id_of t) i
          (subst (λ x. IsIn (option_map_or (λ (f : FileSystem). map id_of f.snaps) x []) (id_of t)) (sym at) (map_in (λ (u : Snap). id_of u) f.snaps t h))

  snaps_gone : (views : Views) (ids : List SnapId) (defer : Bool) → (not defer && has_clone_outside w [] ids) ≡ false
      → IsOrdered (with_deferred (without_snaps w (λ t. is_one_of ids t && not (defer && is_needed w views t))) (λ t. is_one_of ids t && (defer && is_needed w views t)))
  snaps_gone views ids defer none =
      deferred_ordered (without_snaps w (λ t. is_one_of ids t && not (defer && is_needed w views t)))
      (without_ordered w o (λ t. is_one_of ids t && not (defer && is_needed w views t)) (λ a f t at h e.
      let k = and_parts (is_one_of ids t) (not (defer && is_needed w views t)) e in
      by_defer t k.0 defer refl k.1))
      (λ t. is_one_of ids t && (defer && is_needed w views t))
    where
      by_defer : (t : Snap) → is_one_of ids t ≡ true → (b : Bool) → defer ≡ b → not (b && is_needed w views t) ≡ true → HasNoCloneIn w.file_systems (id_of t)
      by_defer t one true e k = unneeded w views t k
      by_defer t one false e k = none_outside w ids (sym (ap (λ b. not b && has_clone_outside w [] ids) e) ∙ none) (id_of t) (any_from ids (id_of t) one)

  -- ---- tags and bookmarks

  tags_ordered : (target : Target) (tags : Snap → List (List ℕ)) → IsOrdered (option_map_or (λ (p : FileSystem × Snap). with_tags w (id_of p.1) (tags p.1)) (placed w target) w)
  tags_ordered target tags = by_place (placed w target)
    where
      by_place : (x : Option (FileSystem × Snap)) → IsOrdered (option_map_or (λ (p : FileSystem × Snap). with_tags w (id_of p.1) (tags p.1)) x w)
      by_place None = o
      by_place (Some p) = tagged_ordered w o (id_of p.1) (tags p.1)

  marked_ordered : (target : Target) (mark : Member) → IsOrdered (bookmarked w target mark)
  marked_ordered target mark = by_place (placed w target) refl
    where
      by_place : (x : Option (FileSystem × Snap)) → placed w target ≡ x
          → IsOrdered (option_map_or (λ (p : FileSystem × Snap). with_file_system w mark.file_system (λ f. record f { bookmarks = insert f.bookmarks mark.component (bookmark_of_snap p.1) })) x w)
      by_place None e = o
      by_place (Some p) e =
          let k = from_placed w target p e in
          let closed = o.closed k.0 p.1 (p.0, k.1, k.2) in
          kept_ordered mark.file_system (λ f. record f { bookmarks = insert f.bookmarks mark.component (bookmark_of_snap p.1) }) (λ f. refl) (λ f. refl) (λ f at b is h. ⊎_elim
          (λ (same : at ≡ mark.component).
          let one = same_value (bookmark_of_snap p.1) b
          (sym (get-insert_same name_order f.bookmarks mark.component (bookmark_of_snap p.1)) ∙ ap (get (insert f.bookmarks mark.component (bookmark_of_snap p.1))) (sym same) ∙ h) in
          subst (λ (x : Bookmark). x.group < w.group) one closed)
          (λ (ne : ¬ (at ≡ mark.component)). o.marks mark.file_system at f b is (sym (get-insert_other name_order f.bookmarks mark.component (bookmark_of_snap p.1) at ne) ∙ h))
          (key_cases name_order at mark.component))

  unmarked_ordered : (m : Member) → IsOrdered (with_file_system w m.file_system (λ f. record f { bookmarks = remove f.bookmarks m.component }))
  unmarked_ordered m = kept_ordered m.file_system (λ f. record f { bookmarks = remove f.bookmarks m.component }) (λ f. refl) (λ f. refl) (λ f at b is h. ⊎_elim
      (λ (same : at ≡ m.component).
      absurd (no_value b (sym (get-remove_same name_order f.bookmarks m.component) ∙ ap (get (remove f.bookmarks m.component)) (sym same) ∙ h)))
      (λ (ne : ¬ (at ≡ m.component)). o.marks m.file_system at f b is (sym (get-remove_other name_order f.bookmarks m.component at ne) ∙ h))
      (key_cases name_order at m.component))

  -- ---- file systems made

  empty_ordered : (name : Name) → get w.file_systems name ≡ None → IsOrdered (with_new_file_system w name)
  empty_ordered name absent = added_ordered w o name empty_file_system refl (λ at b h. no_value b (sym (get-empty name_cmp at) ∙ h)) (λ id e. absurd (no_value id e)) absent

  -- ---- a receive

  forced_ordered : (name : Name) → IsOrdered (forced_back w name)
  forced_ordered name = by_newest (newest_of w name)
    where
      by_newest : (x : Option Snap) → IsOrdered (option_map_or (λ t. with_losses w (with_file_system w name (back_to_newest t))) x w)
      by_newest None = o
      by_newest (Some t) = losses_ordered (with_file_system w name (back_to_newest t)) (newest_ordered name t) w

  past_ordered : (name : Name) (guid : ℕ) → has_clone_outside w [] (snaps_past w name guid) ≡ false → IsOrdered (back_past w name guid)
  past_ordered name guid alone = by_source (source_of w name guid) refl alone
    where
      by_source : (x : Option (FileSystem × Snap)) → source_of w name guid ≡ x
          → has_clone_outside w [] (option_map_or (λ (p : FileSystem × Snap). map id_of (snaps_after p.0 p.1.group)) x []) ≡ false
          → IsOrdered (option_map_or (λ (p : FileSystem × Snap). with_losses w (with_file_system w name (λ f. back_at f p.1))) x w)
      by_source None e free = o
      by_source (Some p) e free =
          let k = from_source w name guid p e in
          losses_ordered (with_file_system w name (λ f. back_at f p.1))
          (back_ordered name p.0 p.1 k.0 (λ u h l. none_outside w (map id_of (snaps_after p.0 p.1.group)) free (id_of u)
          (map_in (λ (u : Snap). id_of u) (snaps_after p.0 p.1.group) u (in_filter (λ (u : Snap). nat_lt p.1.group u.group) p.0.snaps u h (lt-ltb p.1.group u.group l))))) w

  cloned_ordered : (name : Name) (origin : Member) → get w.file_systems name ≡ None → IsOrdered (cloned_from w name origin)
  cloned_ordered name origin absent = by_snap (snap_named w origin) refl
    where
      by_snap : (x : Option Snap) → snap_named w origin ≡ x → IsOrdered (option_map_or (λ (t : Snap). with_clone w (id_of t) name) x w)
      by_snap None e = o
      by_snap (Some t) e =
          let k = from_named w origin t e in
          added_ordered w o name (record empty_file_system { live = map_of_snap w (Some (id_of t)); origin = Some (id_of t) }) refl
          (λ at b h. no_value b (sym (get-empty name_cmp at) ∙ h))
          (λ id i. (origin.file_system, k.0, t, k.1, k.2, same_value (id_of t) id i))
          absent

  -- emptied, where it is no clone and none of its snapshots has one
  emptied_ordered : (name : Name) → ((f : FileSystem) → get w.file_systems name ≡ Some f → f.origin ≡ None) → has_clone_outside w [] (snaps_within w (name ∷ [])) ≡ false
      → IsOrdered (emptied w name)
  emptied_ordered name bare alone = losses_ordered (with_file_system w name vacated) (one_ordered w o name vacated safe.once safe.closed
      (λ f at. record {
        origin = sym (bare f at);
        rising = λ up. tt;
        marks = λ mark b h. absurd (no_value b (sym (get-empty name_cmp mark) ∙ h));
        stays = λ t h. inr (none_outside w (snaps_within w (name ∷ [])) alone (id_of t) (snap_within w name f at t h));
      })) w
    where
      safe : IsSafe finmap.empty w (with_file_system w name vacated)
      safe = one_changed finmap.empty w name vacated o.once o.closed (λ f t at h. absurd h) (λ f t at h seen. absurd (unviewed (id_of t) seen))

  module _ (views : Views) (m : Member) where
    full_ordered : (mode : Receiving) → first_of (full_row w views m mode) ≡ None → IsOrdered (before_full w m.file_system mode)
    full_ordered Plain e = empty_ordered m.file_system (new_absent w m.file_system e)
    full_ordered Back e = empty_ordered m.file_system (new_absent w m.file_system e)
    full_ordered Past e = empty_ordered m.file_system (new_absent w m.file_system e)
    full_ordered (Origin origin) e = no_full w views m origin e
    full_ordered Replace e = emptied_ordered m.file_system (replaced_bare w views m.file_system e) (replaced_alone w views m.file_system e)

    incremental_ordered : (source : ℕ) (mode : Receiving) → first_of (incremental_row w views m source mode) ≡ None → IsOrdered (before_incremental w m.file_system source mode)
    incremental_ordered source Plain e = o
    incremental_ordered source Back e = forced_ordered m.file_system
    incremental_ordered source Past e = past_ordered m.file_system source (past_alone w views m source e)
    incremental_ordered source (Origin origin) e = cloned_ordered m.file_system origin (origin_absent w m.file_system origin source e)
    incremental_ordered source Replace e = no_incremental w views m source e

    before_ordered : (sent : Sending) (mode : Receiving) → first_of (stream_row w views m sent mode) ≡ None → IsOrdered (before_receive w m.file_system sent mode)
    before_ordered sent mode none = by_source (sent.source == 0) none
      where
        by_source : (b : Bool) → first_of (if b then full_row w views m mode else incremental_row w views m sent.source mode) ≡ None
            → IsOrdered (if b then before_full w m.file_system mode else before_incremental w m.file_system sent.source mode)
        by_source true e = full_ordered mode e
        by_source false e = incremental_ordered sent.source mode e

received_ordered : (w : World) → IsOrdered w → (views : Views) (m : Member) (sent : Sending) (mode : Receiving) (number : Key → ℕ) → first_of (stream_row w views m sent mode) ≡ None
    → IsOrdered (received w m sent mode number)
unfolding received
received_ordered w o views m sent mode number none =
    let v = before_receive w m.file_system sent mode in
    taken_ordered (after_change v m.file_system (changes_of sent.records) number)
    (written_ordered v (before_ordered w o views m sent mode none) m.file_system (changes_of sent.records) number) sent.target (m ∷ []) refl

-- ---- requests

changed : (s : State) → IsOrdered s.now → (target : Target) (changes : Changes) (c : Choice) → IsOrdered (state_after_change s target changes c).now
changed s o (OfFileSystem name) changes c = written_ordered s.now o name changes c.number
changed s o (OfSnapshot m) changes c = o
changed s o (OfBookmark m) changes c = o

created : (s : State) → IsOrdered s.now → (name : Name) → refusal_of s (create_rule name) ≡ None → IsOrdered (with_new_file_system s.now name)
unfolding refusal_of
created s o name none = empty_ordered s.now o name
    (not_some (get s.now.file_systems name) (row_false (create_row s.now.file_systems name) none (contains_key s.now.file_systems name, Exists) (inl refl)))

took : (s : State) → IsOrdered s.now → (names : List Member) (recursive : Bool) → refusal_of s (snapshot_rule names recursive) ≡ None
    → IsOrdered (snapshots_taken s (snapshot_names s.now names recursive)).now
unfolding refusal_of
took s o names recursive none = by_names (snapshot_names s.now names recursive)
    (or_none _ (has_twice (snapshot_names s.now names recursive))
    (row_false (snapshot_row s (state_asked s (snapshot_rule names recursive)) names (snapshot_names s.now names recursive)) none (_, Exists) (inr (inr (inl refl))))).1
  where
    by_names : (ms : List Member) → has_twice ms ≡ false → IsOrdered (snapshots_taken s ms).now
    by_names [] apart = o
    by_names (m ∷ ms) apart = taken_ordered s.now o (guid_by s.pool s.next_guid) (m ∷ ms) apart

cloned : (s : State) → IsOrdered s.now → (target : Target) (name : Name) → refusal_of s (clone_rule target name) ≡ None
    → IsOrdered (option_map_or (λ p. with_now s (with_clone s.now (id_of p.1) name)) (placed s.now target) s).now
unfolding refusal_of
cloned s o target name none = by_place (placed s.now target) refl
  where
    by_place : (x : Option (FileSystem × Snap)) → placed s.now target ≡ x
        → IsOrdered (option_map_or (λ (p : FileSystem × Snap). with_now s (with_clone s.now (id_of p.1) name)) x s).now
    by_place None e = o
    by_place (Some p) e =
        let k = from_placed s.now target p e in
        added_ordered s.now o name (record empty_file_system { live = map_of_snap s.now (Some (id_of p.1)); origin = Some (id_of p.1) }) refl
        (λ at b h. no_value b (sym (get-empty name_cmp at) ∙ h))
        (λ id i. (k.0, p.0, p.1, k.1, k.2, same_value (id_of p.1) id i))
        (not_some (get s.now.file_systems name) (row_false (clone_row s.now target name) none (contains_key s.now.file_systems name, Exists) (inr (inr (inr (inl refl))))))

rolled : (s : State) → IsOrdered s.now → (target : Target) (later : Bool) → refusal_of s (rollback_rule target later) ≡ None
    → IsOrdered (with_losses s.now (rolled_back s.now target))
unfolding refusal_of
rolled s o target later none = losses_ordered (rolled_back s.now target) (rolled_ordered s.now o target
    (row_false (rollback_row s (state_asked s (rollback_rule target later)) target later) none (has_clone_outside s.now [] (newer_snaps s.now target), HasClones) (inr (inr (inr (inr (inl refl))))))) s.now

destroyed : (s : State) → IsOrdered s.now → (target : DestroyTarget) (recursive defer : Bool) → refusal_of s (destroy_rule target recursive defer) ≡ None
    → IsOrdered (with_losses s.now (after_destroy s.now (λ t. defer && is_needed s.now s.views t) target recursive))
unfolding refusal_of
destroyed s o (SystemGoes name) recursive defer none =
    let names = file_systems_named s.now name recursive in
    losses_ordered (without_file_systems s.now names) (systems_gone s.now o names
    (row_false (destroy_system_row s.now s.views name recursive defer) none (has_clone_outside s.now names (snaps_within s.now names), HasClones) (inr (inr (inr (inr (inr (inl refl)))))))) s.now
destroyed s o (SnapshotsGo names) recursive defer none =
    losses_ordered (after_destroy s.now (λ t. defer && is_needed s.now s.views t) (SnapshotsGo names) recursive) (snaps_gone s.now o s.views (snaps_named s.now names recursive) defer
    (row_false (destroy_snap_row s.now s.views names recursive defer) none (not defer && has_clone_outside s.now [] (snaps_named s.now names recursive), HasClones) (inr (inr (inl refl))))) s.now
destroyed s o (MarkGoes m) recursive defer none =
    losses_ordered (with_file_system s.now m.file_system (λ f. record f { bookmarks = remove f.bookmarks m.component })) (unmarked_ordered s.now o m) s.now

opened : (s : State) → IsOrdered s.now → (target : Target) → IsOrdered (option_map_or (λ p. with_view s p.1) (placed s.now target) s).now
opened s o target = by_place (placed s.now target)
  where
    by_place : (x : Option (FileSystem × Snap)) → IsOrdered (option_map_or (λ (p : FileSystem × Snap). with_view s p.1) x s).now
    by_place None = o
    by_place (Some p) = o

promoted_on : (s : State) → IsOrdered s.now → (name : Name) → IsOrdered (option_map_or (λ p. with_now s (after_promotion s.now name p)) (promotion_of s.now name) s).now
promoted_on s o name = by_promotion (promotion_of s.now name) refl
  where
    by_promotion : (x : Option Promotion) → promotion_of s.now name ≡ x → IsOrdered (option_map_or (λ p. with_now s (after_promotion s.now name p)) x s).now
    by_promotion None e = o
    by_promotion (Some p) e = turned_ordered s.now o name p e

got : (s : State) → IsOrdered s.now → (m : Member) (reading : Option Sending) (mode : Receiving) (number : Key → ℕ) → refusal_of s (receive_rule m reading mode) ≡ None
    → IsOrdered (state_received s m reading mode number).now
got s o m None mode number none = o
got s o m (Some sent) mode number none = received_ordered s.now o s.views m sent mode number (stream_none s m sent mode none)

-- ---- steps

-- the sweep takes no snapshot that has a clone
swept_ordered : (s : State) → IsOrdered s.now → IsOrdered (state_after_sweep s).now
unfolding state_after_sweep
swept_ordered s o = losses_ordered (without_snaps s.now (λ t. t.deferred && not (is_needed s.now s.views t)))
    (without_ordered s.now o (λ t. t.deferred && not (is_needed s.now s.views t)) (swept_bare s)) s.now

pub step_ordered : (q : Request) (r : Reply) (s new : State) → Step s q r new → IsOrdered (world_before s q r) → IsOrdered new.now
step_ordered q r s new step =
    step_joins (λ w v. IsOrdered w → IsOrdered v) (λ w o. o) (λ w t k o. swept_ordered t (k o)) q r s new step (by_request q)
  where
    by_request : (q : Request) (c : Choice) → refusal_of s (rule_of q step.reading) ≡ None → r ≡ (rule_of q step.reading).reply s
        → IsOrdered (world_before s q r) → IsOrdered ((rule_of q step.reading).after s c).now
    by_request (ToCreate name) c none is o = created s o name none
    by_request (ToWrite target object block bytes) c none is o = changed s o target _ c
    by_request (ToPunch target object block) c none is o = changed s o target _ c
    by_request (ToFreeObject target object) c none is o = changed s o target _ c
    by_request (ToSnapshot names recursive) c none is o = took s o names recursive none
    by_request (ToRead target object block) c none is o = o
    by_request (ToGet target property) c none is o = o
    by_request (ToPoolGet property) c none is o = o
    by_request ToList c none is o = o
    by_request (ToRollback target later) c none is o = rolled s o target later none
    by_request (ToDestroy target recursive defer) c none is o = destroyed s o target recursive defer none
    by_request (ToSlice count) c none is o = record { once = o.once; closed = o.closed; marks = o.marks; rising = o.rising; origins = o.origins; begun = o.begun }
    by_request ToSync c none is o = taken_ordered s.now o 0 [] refl
    by_request ToAbandon c none is o = subst (λ x. IsOrdered (world_before s ToAbandon x)) is o
    by_request (ToOpenView target) c none is o = opened s o target
    by_request (ToCloseView view) c none is o = o
    by_request (ToClone target name) c none is o = cloned s o target name none
    by_request (ToPromote name) c none is o = promoted_on s o name
    by_request (ToRename name to) c none is o = moved_ordered s.now o name to (rename_can s name to none)
    by_request (ToRenameSnapshot name to recursive) c none is o = named_ordered s.now o name to recursive
    by_request (ToHold tag target) c none is o = tags_ordered s.now o target (λ t. t.tags ++ tag ∷ [])
    by_request (ToRelease tag target) c none is o = tags_ordered s.now o target (λ t. without_tag t.tags tag)
    by_request (ToHolds target) c none is o = o
    by_request (ToBookmark target mark) c none is o = marked_ordered s.now o target mark
    by_request (ToWrittenSince target since) c none is o = o
    by_request (ToWouldFree name first last) c none is o = o
    by_request (ToSet name limit amount) c none is o = kept_ordered s.now o name (λ f. limited f limit amount) (λ f. refl) (λ f. refl) (λ f mark b at h. o.marks name mark f b at h)
    by_request (ToSend target from) c none is o = o
    by_request (ToReceive m bytes mode) c none is o = got s o m step.reading mode c.number none
