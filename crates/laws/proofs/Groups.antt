-- The open group is never below that of the world that a step goes on from.
use Rattle.std.proofs.Common.{◌≡◌, ◌≤◌, ℕ, ◌+◌, Bool, ◌&&◌, List, [], ◌∷◌, ◌++◌, Option, Some, None, refl, sym, subst, ◌∙◌, arith}
use Rattle.std.specs.Option.{option_map_or}
use Rattle.std.specs.FinMap.{insert, remove}
use Rattle.base.specs.declared.number.Key.{Key}
use Rattle.base.specs.Rewrite.{Changes, rewrite}
use Rattle.base.specs.declared.name.member.Member.{Member}
use Rattle.base.specs.declared.name.target.Target.{Target}
use Rattle.base.specs.declared.name.target.Target.TheVariants.{FileSystem as OfFileSystem, Snapshot as OfSnapshot, Bookmark as OfBookmark}
use Rattle.stream.specs.Records.{changes_of}
use Rattle.stream.specs.Spelling.{Sending}
use Rattle.model.specs.declared.destroy_target.DestroyTarget.{DestroyTarget}
use Rattle.model.specs.declared.destroy_target.DestroyTarget.TheVariants.{FileSystem as SystemGoes, Snapshots as SnapshotsGo, Bookmark as MarkGoes}
use Rattle.model.specs.Limits.{limited}
use Rattle.model.specs.declared.receiving.Receiving.{Receiving}
use Rattle.model.specs.declared.request.Request.{Request}
use Rattle.model.specs.declared.request.Request.TheVariants.{Create as ToCreate, Write as ToWrite, Punch as ToPunch, FreeObject as ToFreeObject, Snapshot as ToSnapshot, Read as ToRead, Get as ToGet, PoolGet as ToPoolGet, List as ToList, Rollback as ToRollback, Destroy as ToDestroy, Slice as ToSlice, Sync as ToSync, Abandon as ToAbandon, OpenView as ToOpenView, CloseView as ToCloseView, Clone as ToClone, Promote as ToPromote, Rename as ToRename, RenameSnapshot as ToRenameSnapshot, Hold as ToHold, Release as ToRelease, Holds as ToHolds, Bookmark as ToBookmark, WrittenSince as ToWrittenSince, WouldFree as ToWouldFree, Set as ToSet, Send as ToSend, Receive as ToReceive}
use Rattle.model.specs.declared.reply.Reply.{Reply}
use Rattle.model.specs.World.{World, FileSystem, Snap, id_of, snap_at}
use Rattle.model.specs.State.{State}
use Rattle.model.specs.Rule.{Choice}
use Rattle.model.specs.Edits.{with_file_system, with_tags, with_now, after_change}
use Rattle.model.specs.Outcome.{is_needed, state_after_sweep}
use Rattle.model.specs.Refusals.{refusal_of}
use Rattle.model.specs.Step.{Step}
use Rattle.model.specs.requests.{rule_of}
use Rattle.model.specs.requests.Bookmark.{bookmarked, bookmark_of_snap}
use Rattle.model.specs.requests.Change.{state_after_change}
use Rattle.model.specs.requests.Clone.{with_clone}
use Rattle.model.specs.requests.Destroy.{after_destroy}
use Rattle.model.specs.requests.OpenView.{with_view}
use Rattle.model.specs.requests.Promote.{Promotion, promotion_of, after_promotion}
use Rattle.model.specs.requests.Receive.{before_receive, received, state_received}
use Rattle.model.specs.requests.Release.{without_tag}
use Rattle.model.specs.requests.Rollback.{placed, back_at, after_rollback, rolled_back}
use Rattle.model.specs.requests.Snapshot.{snap_of_live, with_snapshots, snapshots_taken, snapshot_names, guid_by}
use Rattle.world.specs.Shapes.{Name}
use Rattle.laws.proofs.Before.{world_before, step_joins}
use Rattle.laws.proofs.Edits.{same_group}
use Rattle.laws.proofs.Receiving.{before_group}

-- ---- edits

taken : (ms : List Member) (v : World) (guid : ℕ) → (with_snapshots v guid ms).group ≡ v.group
taken [] v guid = refl
taken (m ∷ ms) v guid =
    taken ms (with_file_system v m.file_system (λ s. record s { snaps = s.snaps ++ snap_of_live v s m.component guid ∷ [] })) (guid + 1)
    ∙ same_group v m.file_system (λ s. record s { snaps = s.snaps ++ snap_of_live v s m.component guid ∷ [] })

at_least : (a b : ℕ) → b ≡ a → a ≤ b
at_least a b e = omega arith

changed : (s : State) (target : Target) (changes : Changes) (c : Choice) → s.now.group ≤ (state_after_change s target changes c).now.group
changed s (OfFileSystem name) changes c =
    at_least _ _ (same_group s.now name (λ f. record f { live = rewrite f.live changes s.now.group c.number }))
changed s (OfSnapshot m) changes c = omega arith
changed s (OfBookmark m) changes c = omega arith

took : (s : State) (ms : List Member) → s.now.group ≤ (snapshots_taken s ms).now.group
took s [] = omega arith
took s (m ∷ ms) = let e = taken (m ∷ ms) s.now (guid_by s.pool s.next_guid) in omega arith

rolled : (w : World) (target : Target) → (rolled_back w target).group ≡ w.group
rolled w target = by_place (placed w target)
  where
    by_snap : (t : Snap) (x : Option (Name × Snap)) → (option_map_or (λ (p : Name × Snap). with_file_system w p.0 (λ f. back_at f p.1)) x w).group ≡ w.group
    by_snap t None = refl
    by_snap t (Some p) = same_group w p.0 (λ f. back_at f p.1)

    by_place : (x : Option (FileSystem × Snap)) → (option_map_or (λ (p : FileSystem × Snap). after_rollback w (id_of p.1)) x w).group ≡ w.group
    by_place None = refl
    by_place (Some p) = by_snap p.1 (snap_at w (id_of p.1))

destroyed : (w : World) (needed : Snap → Bool) (target : DestroyTarget) (recursive : Bool) → (after_destroy w needed target recursive).group ≡ w.group
destroyed w needed (SystemGoes name) recursive = refl
destroyed w needed (SnapshotsGo names) recursive = refl
destroyed w needed (MarkGoes m) recursive = same_group w m.file_system (λ f. record f { bookmarks = remove f.bookmarks m.component })

opened : (s : State) (target : Target) → s.now.group ≤ (option_map_or (λ p. with_view s p.1) (placed s.now target) s).now.group
opened s target = by_place (placed s.now target)
  where
    by_place : (x : Option (FileSystem × Snap)) → s.now.group ≤ (option_map_or (λ (p : FileSystem × Snap). with_view s p.1) x s).now.group
    by_place None = omega arith
    by_place (Some p) = omega arith

cloned : (s : State) (target : Target) (name : Name) → s.now.group ≤ (option_map_or (λ p. with_now s (with_clone s.now (id_of p.1) name)) (placed s.now target) s).now.group
cloned s target name = by_place (placed s.now target)
  where
    by_place : (x : Option (FileSystem × Snap)) → s.now.group ≤ (option_map_or (λ (p : FileSystem × Snap). with_now s (with_clone s.now (id_of p.1) name)) x s).now.group
    by_place None = omega arith
    by_place (Some p) = omega arith

turned : (s : State) (name : Name) → s.now.group ≤ (option_map_or (λ p. with_now s (after_promotion s.now name p)) (promotion_of s.now name) s).now.group
turned s name = by_promotion (promotion_of s.now name)
  where
    by_promotion : (x : Option Promotion) → s.now.group ≤ (option_map_or (λ p. with_now s (after_promotion s.now name p)) x s).now.group
    by_promotion None = omega arith
    by_promotion (Some p) = omega arith

tagged : (w : World) (target : Target) (tags : Snap → List (List ℕ)) → (option_map_or (λ (p : FileSystem × Snap). with_tags w (id_of p.1) (tags p.1)) (placed w target) w).group ≡ w.group
tagged w target tags = by_place (placed w target)
  where
    by_place : (x : Option (FileSystem × Snap)) → (option_map_or (λ (p : FileSystem × Snap). with_tags w (id_of p.1) (tags p.1)) x w).group ≡ w.group
    by_place None = refl
    by_place (Some p) = refl

marked : (w : World) (target : Target) (mark : Member) → (bookmarked w target mark).group ≡ w.group
marked w target mark = by_place (placed w target)
  where
    by_place : (x : Option (FileSystem × Snap))
        → (option_map_or (λ (p : FileSystem × Snap). with_file_system w mark.file_system (λ f. record f { bookmarks = insert f.bookmarks mark.component (bookmark_of_snap p.1) })) x w).group ≡ w.group
    by_place None = refl
    by_place (Some p) = same_group w mark.file_system (λ f. record f { bookmarks = insert f.bookmarks mark.component (bookmark_of_snap p.1) })

got : (s : State) (m : Member) (reading : Option Sending) (mode : Receiving) (number : Key → ℕ) → s.now.group ≤ (state_received s m reading mode number).now.group
unfolding received
got s m None mode number = omega arith
got s m (Some sent) mode number =
    let v = before_receive s.now m.file_system sent mode in
    let u = after_change v m.file_system (changes_of sent.records) number in
    let a = before_group s.now m sent mode in
    let b : u.group ≡ v.group = same_group v m.file_system (λ f. record f { live = rewrite f.live (changes_of sent.records) v.group number }) in
    let c = taken (m ∷ []) u sent.target in
    omega arith

-- ---- steps

swept_group : (w : World) (s : State) → w.group ≤ s.now.group → w.group ≤ (state_after_sweep s).now.group
unfolding state_after_sweep
swept_group w s l = l

pub step_group : (q : Request) (r : Reply) (s new : State) → Step s q r new → (world_before s q r).group ≤ new.now.group
step_group q r s new step = step_joins (λ w v. w.group ≤ v.group) (λ w. omega arith) swept_group q r s new step (by_request q)
  where
    by_request : (q : Request) (c : Choice) → refusal_of s (rule_of q step.reading) ≡ None → r ≡ (rule_of q step.reading).reply s
        → (world_before s q r).group ≤ ((rule_of q step.reading).after s c).now.group
    by_request (ToCreate name) c none is = omega arith
    by_request (ToWrite target object block bytes) c none is = changed s target _ c
    by_request (ToPunch target object block) c none is = changed s target _ c
    by_request (ToFreeObject target object) c none is = changed s target _ c
    by_request (ToSnapshot names recursive) c none is = took s (snapshot_names s.now names recursive)
    by_request (ToRead target object block) c none is = omega arith
    by_request (ToGet target property) c none is = omega arith
    by_request (ToPoolGet property) c none is = omega arith
    by_request ToList c none is = omega arith
    by_request (ToRollback target later) c none is = at_least _ _ (rolled s.now target)
    by_request (ToDestroy target recursive defer) c none is = at_least _ _ (destroyed s.now (λ t. defer && is_needed s.now s.views t) target recursive)
    by_request (ToSlice count) c none is = omega arith
    by_request ToSync c none is = omega arith
    by_request ToAbandon c none is = subst (λ x. (world_before s ToAbandon x).group ≤ s.last.group) (sym is) (omega arith)
    by_request (ToOpenView target) c none is = opened s target
    by_request (ToCloseView view) c none is = omega arith
    by_request (ToClone target name) c none is = cloned s target name
    by_request (ToPromote name) c none is = turned s name
    by_request (ToRename name to) c none is = omega arith
    by_request (ToRenameSnapshot name to recursive) c none is = omega arith
    by_request (ToHold tag target) c none is = at_least _ _ (tagged s.now target (λ t. t.tags ++ tag ∷ []))
    by_request (ToRelease tag target) c none is = at_least _ _ (tagged s.now target (λ t. without_tag t.tags tag))
    by_request (ToHolds target) c none is = omega arith
    by_request (ToBookmark target mark) c none is = at_least _ _ (marked s.now target mark)
    by_request (ToWrittenSince target since) c none is = omega arith
    by_request (ToWouldFree name first last) c none is = omega arith
    by_request (ToSet name limit amount) c none is = at_least _ _ (same_group s.now name (λ f. limited f limit amount))
    by_request (ToSend target from) c none is = omega arith
    by_request (ToReceive m bytes mode) c none is = got s m step.reading mode c.number
