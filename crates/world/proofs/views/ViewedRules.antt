-- Each request, one by one: where it isn't refused, the views that it doesn't close keep their snapshots. So every step does.
use Rattle.std.proofs.Common.{◌≡◌, ◌+◌, ℕ, Option, Some, Bool, true, false, ◌&&◌, List, [], ◌∷◌, ◌++◌, length, None, refl, sym, subst, inl}
use Rattle.std.specs.Prelude.{nat_lt, if◌then◌else◌}
use Rattle.std.specs.Option.{option_map_or}
use Rattle.std.specs.FinMap.{remove, insert, len}
use Rattle.std.specs.FinSet.{difference}
use Rattle.base.specs.declared.refusal.Refusal.TheVariants.{Busy}
use Rattle.base.specs.declared.name.member.Member.{Member}
use Rattle.base.specs.declared.name.target.Target.{Target}
use Rattle.base.specs.declared.name.target.Target.TheVariants.{FileSystem as OfFileSystem, Snapshot as OfSnapshot, Bookmark as OfBookmark}
use Rattle.base.specs.declared.number.Key.{Key}
use Rattle.base.specs.Rewrite.{Changes, rewrite}
use Rattle.stream.specs.Spelling.{Sending}
use Rattle.model.specs.Limits.{limited}
use Rattle.model.specs.declared.limits.Limit.{Limit}
use Rattle.model.specs.declared.receiving.Receiving.{Receiving}
use Rattle.model.specs.declared.request.Request.{Request}
use Rattle.model.specs.requests.Set.{after_set}
use Rattle.model.specs.declared.request.Request.TheVariants.{Create as ToCreate, Write as ToWrite, Punch as ToPunch, FreeObject as ToFreeObject, Snapshot as ToSnapshot, Read as ToRead, Get as ToGet, PoolGet as ToPoolGet, List as ToList, Rollback as ToRollback, Destroy as ToDestroy, Slice as ToSlice, Sync as ToSync, Abandon as ToAbandon, OpenView as ToOpenView, CloseView as ToCloseView, Clone as ToClone, Promote as ToPromote, Rename as ToRename, RenameSnapshot as ToRenameSnapshot, Hold as ToHold, Release as ToRelease, Holds as ToHolds, Bookmark as ToBookmark, WrittenSince as ToWrittenSince, WouldFree as ToWouldFree, Set as ToSet, Send as ToSend, Receive as ToReceive}
use Rattle.model.specs.declared.reply.Reply.{Reply}
use Rattle.model.specs.State.{State}
use Rattle.model.specs.Rule.{Choice, Rule}
use Rattle.model.specs.Refusals.{refusal_of}
use Rattle.model.specs.Outcome.{is_needed, state_after_sweep, state_after}
use Rattle.model.specs.World.{FileSystem, Snap, id_of}
use Rattle.model.specs.Edits.{with_now, with_file_system, with_losses, with_next_group, with_tags, after_change}
use Rattle.model.specs.Step.{Step, Follows, done, refused, out_of_memory}
use Rattle.model.specs.requests.{rule_of}
use Rattle.model.specs.requests.Change.{state_after_change}
use Rattle.model.specs.requests.Create.{with_new_file_system}
use Rattle.model.specs.requests.Snapshot.{snapshots_taken, snapshot_names, with_snapshots, guid_by}
use Rattle.model.specs.requests.Rollback.{placed, rolled_back}
use Rattle.model.specs.requests.Clone.{with_clone, clone_rule}
use Rattle.model.specs.requests.Promote.{Promotion, promotion_of, after_promotion}
use Rattle.model.specs.requests.Destroy.{after_destroy}
use Rattle.model.specs.requests.Release.{without_tag}
use Rattle.model.specs.requests.Abandon.{abandon_rule}
use Rattle.model.specs.requests.Receive.{received, state_received, receive_rule}
use Rattle.model.specs.requests.Bookmark.{bookmarked, bookmark_of_snap}
use Rattle.world.specs.RunLaws.{IsViewing}
use Rattle.world.proofs.views.Viewed.{IsSafe, one_changed, one_tagged}
use Rattle.world.proofs.views.ViewedTakes.{taken_safe}
use Rattle.world.proofs.views.ViewedRequests.{row_false, none_viewed, create_asked, clone_asked, rollback_asked, destroy_asked}
use Rattle.world.proofs.views.ViewedReceives.{receive_asked}
use Rattle.model.specs.requests.Rename.{with_renamed}
use Rattle.model.specs.requests.RenameSnapshot.{with_snaps_renamed}
use Rattle.world.proofs.views.ViewedClones.{promoted_safe}
use Rattle.world.proofs.views.ViewedRenames.{rename_asked}
use Rattle.world.proofs.views.ViewedSnapNames.{named_safe, can_by_rule}
use Rattle.world.proofs.views.ViewedSteps.{IsKeeping, identities, keeping_swept, worlds_change, views_stay, state_stays, view_opened, view_closed}

-- a change of a live map
changed : (q : Request) (r : Reply) (s : State) (target : Target) (changes : Changes) (c : Choice) → IsViewing s → IsKeeping q r s (state_after_change s target changes c)
changed q r s (OfFileSystem name) changes c v =
    views_stay q r s (after_change s.now name changes c.number) s.next_guid v
    (one_changed s.views s.now name (λ f. record f { live = rewrite f.live changes s.now.group c.number }) v.now.once v.now.closed (λ f t e h. h) (λ f t e h seen. h))
changed q r s (OfSnapshot m) changes c v = state_stays q r s v
changed q r s (OfBookmark m) changes c v = state_stays q r s v

-- another group is open
sync_safe : (s : State) → IsViewing s → IsSafe s.views s.now (with_next_group s.now)
sync_safe s v = taken_safe s.views s.now 0 [] v.now.once v.now.closed

synced : (r : Reply) (s : State) → IsViewing s → IsKeeping ToSync r s (record s { now = with_next_group s.now; last = with_next_group s.now })
synced r s v =
    let safe = sync_safe s v in
    worlds_change ToSync r s (with_next_group s.now) (with_next_group s.now) s.next_guid v safe (identities s.now (with_next_group s.now) s.views safe)

-- the last synced world is the present one again, where no view is open
abandoned : (r : Reply) (s : State) → IsViewing s → refusal_of s abandon_rule ≡ None → IsKeeping ToAbandon r s (with_now s s.last)
unfolding refusal_of
abandoned r s v none = views_stay ToAbandon r s s.last s.next_guid v (record {
  once = v.last.once;
  closed = v.last.closed;
  stands = λ name t h seen. absurd (none_viewed s.views (row_false ((nat_lt 0 (len s.views), Busy) ∷ []) none (nat_lt 0 (len s.views), Busy) (inl refl)) (id_of t) seen);
})

-- what is to be freed is no matter
sliced : (s : State) (c : Choice) → IsViewing s → IsSafe s.views s.now (record s.now { freeing = difference s.now.freeing c.taken })
sliced s c v = record { once = v.now.once; closed = v.now.closed; stands = λ name t h seen. (name, t, h, refl) }

-- snapshots taken
took : (q : Request) (r : Reply) (s : State) (ms : List Member) → IsViewing s → IsKeeping q r s (snapshots_taken s ms)
took q r s [] v = state_stays q r s v
took q r s (m ∷ ms) v =
    views_stay q r s (with_next_group (with_snapshots s.now (guid_by s.pool s.next_guid) (m ∷ ms))) (s.next_guid + length (m ∷ ms)) v
    (taken_safe s.views s.now (guid_by s.pool s.next_guid) (m ∷ ms) v.now.once v.now.closed)

-- a clone, and a promote
cloned : (r : Reply) (s : State) (target : Target) (name : List ℕ) → IsViewing s → refusal_of s (clone_rule target name) ≡ None
    → IsKeeping (ToClone target name) r s (option_map_or (λ p. with_now s (with_clone s.now (id_of p.1) name)) (placed s.now target) s)
cloned r s target name v none = by_place (placed s.now target)
  where
    by_place : (x : Option (FileSystem × Snap)) → IsKeeping (ToClone target name) r s (option_map_or (λ p. with_now s (with_clone s.now (id_of p.1) name)) x s)
    by_place None = state_stays (ToClone target name) r s v
    by_place (Some p) = views_stay (ToClone target name) r s (with_clone s.now (id_of p.1) name) s.next_guid v (clone_asked s target name (id_of p.1) v.now.once v.now.closed none)

turned : (r : Reply) (s : State) (name : List ℕ) → IsViewing s
    → IsKeeping (ToPromote name) r s (option_map_or (λ p. with_now s (after_promotion s.now name p)) (promotion_of s.now name) s)
turned r s name v = by_promotion (promotion_of s.now name) refl
  where
    by_promotion : (x : Option Promotion) → promotion_of s.now name ≡ x → IsKeeping (ToPromote name) r s (option_map_or (λ p. with_now s (after_promotion s.now name p)) x s)
    by_promotion None e = state_stays (ToPromote name) r s v
    by_promotion (Some p) e = views_stay (ToPromote name) r s (after_promotion s.now name p) s.next_guid v (promoted_safe s.now name p e s.views v.now.once v.now.closed)

-- other tags of a snapshot, and a bookmark of one
tagged : (q : Request) (r : Reply) (s : State) (target : Target) (tags : Snap → List (List ℕ)) → IsViewing s
    → IsKeeping q r s (with_now s (option_map_or (λ p. with_tags s.now (id_of p.1) (tags p.1)) (placed s.now target) s.now))
tagged q r s target tags v = by_place (placed s.now target)
  where
    by_place : (x : Option (FileSystem × Snap)) → IsKeeping q r s (with_now s (option_map_or (λ p. with_tags s.now (id_of p.1) (tags p.1)) x s.now))
    by_place None = state_stays q r s v
    by_place (Some p) = views_stay q r s (with_tags s.now (id_of p.1) (tags p.1)) s.next_guid v (one_tagged s.now (id_of p.1) (tags p.1) s.views v.now.once v.now.closed)

noted : (q : Request) (r : Reply) (s : State) (target : Target) (mark : Member) → IsViewing s → IsKeeping q r s (with_now s (bookmarked s.now target mark))
noted q r s target mark v = by_place (placed s.now target)
  where
    by_place : (x : Option (FileSystem × Snap)) → IsKeeping q r s (with_now s (option_map_or (λ p. with_file_system s.now mark.file_system (λ f. record f { bookmarks = insert f.bookmarks mark.component (bookmark_of_snap p.1) })) x s.now))
    by_place None = state_stays q r s v
    by_place (Some p) = views_stay q r s (with_file_system s.now mark.file_system (λ f. record f { bookmarks = insert f.bookmarks mark.component (bookmark_of_snap p.1) })) s.next_guid v
        (one_changed s.views s.now mark.file_system (λ f. record f { bookmarks = insert f.bookmarks mark.component (bookmark_of_snap p.1) }) v.now.once v.now.closed (λ f t e h. h) (λ f t e h seen. h))

-- another limit
set_one : (q : Request) (r : Reply) (s : State) (name : List ℕ) (limit : Limit) (amount : Option ℕ) → IsViewing s → IsKeeping q r s (with_now s (after_set s.now name limit amount))
set_one q r s name limit amount v =
    views_stay q r s (after_set s.now name limit amount) s.next_guid v
    (one_changed s.views s.now name (λ f. limited f limit amount) v.now.once v.now.closed (λ f t e h. h) (λ f t e h seen. h))

-- a receive
got : (q : Request) (r : Reply) (s : State) (m : Member) (reading : Option Sending) (mode : Receiving) (number : Key → ℕ) → IsViewing s
    → refusal_of s (receive_rule m reading mode) ≡ None → IsKeeping q r s (state_received s m reading mode number)
got q r s m None mode number v none = state_stays q r s v
got q r s m (Some sent) mode number v none =
    views_stay q r s (received s.now m sent mode number) s.next_guid v (receive_asked s m sent mode number v.now.once v.now.closed none)

-- a rule that isn't refused
followed : (q : Request) (r : Reply) (s new : State) (rule : Rule) → IsViewing s → ((c : Choice) → refusal_of s rule ≡ None → r ≡ rule.reply s → IsKeeping q r s (rule.after s c))
    → Follows s rule r new → IsKeeping q r s new
unfolding state_after
followed q r s new rule v keeps (done h) = subst (IsKeeping q r s) (sym h.new_is) (by_reading rule.only_reads (keeping_swept q r s (rule.after s h.choice) (keeps h.choice h.not_refused h.reply_is)))
  where
    by_reading : (b : Bool) → IsKeeping q r s (state_after_sweep (rule.after s h.choice)) → IsKeeping q r s (if b then s else state_after_sweep (rule.after s h.choice))
    by_reading true k = state_stays q r s v
    by_reading false k = k
followed q r s new rule v keeps (refused h) = subst (IsKeeping q r s) (sym h.unchanged) (state_stays q r s v)
followed q r s new rule v keeps (out_of_memory h) = subst (IsKeeping q r s) (sym h.unchanged) (state_stays q r s v)

-- every step
pub step_keeps : (q : Request) (r : Reply) (s new : State) → IsViewing s → Step s q r new → IsKeeping q r s new
step_keeps q r s new v step = followed q r s new (rule_of q step.reading) v (by_request q) step.follows
  where
    by_request : (q : Request) (c : Choice) → refusal_of s (rule_of q step.reading) ≡ None → r ≡ (rule_of q step.reading).reply s → IsKeeping q r s ((rule_of q step.reading).after s c)
    by_request (ToCreate name) c none is = views_stay (ToCreate name) r s (with_new_file_system s.now name) s.next_guid v (create_asked s name v.now.once v.now.closed none)
    by_request (ToWrite target object block bytes) c none is = changed (ToWrite target object block bytes) r s target _ c v
    by_request (ToPunch target object block) c none is = changed (ToPunch target object block) r s target _ c v
    by_request (ToFreeObject target object) c none is = changed (ToFreeObject target object) r s target _ c v
    by_request (ToSnapshot names recursive) c none is = took (ToSnapshot names recursive) r s (snapshot_names s.now names recursive) v
    by_request (ToRead target object block) c none is = state_stays (ToRead target object block) r s v
    by_request (ToGet target property) c none is = state_stays (ToGet target property) r s v
    by_request (ToPoolGet property) c none is = state_stays (ToPoolGet property) r s v
    by_request ToList c none is = state_stays ToList r s v
    by_request (ToRollback target later) c none is =
        views_stay (ToRollback target later) r s (with_losses s.now (rolled_back s.now target)) s.next_guid v (rollback_asked s target later v.now.once v.now.closed none)
    by_request (ToDestroy target recursive defer) c none is =
        views_stay (ToDestroy target recursive defer) r s (with_losses s.now (after_destroy s.now (λ t. defer && is_needed s.now s.views t) target recursive)) s.next_guid v
        (destroy_asked s target recursive defer v.now.once v.now.closed none)
    by_request (ToSlice count) c none is = views_stay (ToSlice count) r s (record s.now { freeing = difference s.now.freeing c.taken }) s.next_guid v (sliced s c v)
    by_request ToSync c none is = synced r s v
    by_request ToAbandon c none is = abandoned r s v none
    by_request (ToOpenView target) c none is = view_opened (ToOpenView target) r s target v
    by_request (ToClone target name) c none is = cloned r s target name v none
    by_request (ToPromote name) c none is = turned r s name v
    by_request (ToRename name to) c none is =
        views_stay (ToRename name to) r s (with_renamed s.now name to) s.next_guid v (rename_asked s name to v.now.once v.now.closed none)
    by_request (ToRenameSnapshot name to recursive) c none is =
        views_stay (ToRenameSnapshot name to recursive) r s (with_snaps_renamed s.now name to recursive) s.next_guid v
        (named_safe s.now name to recursive v.now.once v.now.closed s.views (can_by_rule s name to recursive none))
    by_request (ToCloseView view) c none is = subst (λ x. IsKeeping (ToCloseView view) x s (record s { views = remove s.views view })) (sym is) (view_closed s view v)
    by_request (ToHold tag target) c none is = tagged (ToHold tag target) r s target (λ t. t.tags ++ tag ∷ []) v
    by_request (ToRelease tag target) c none is = tagged (ToRelease tag target) r s target (λ t. without_tag t.tags tag) v
    by_request (ToHolds target) c none is = state_stays (ToHolds target) r s v
    by_request (ToBookmark target mark) c none is = noted (ToBookmark target mark) r s target mark v
    by_request (ToWrittenSince target since) c none is = state_stays (ToWrittenSince target since) r s v
    by_request (ToWouldFree name first last) c none is = state_stays (ToWouldFree name first last) r s v
    by_request (ToSet name limit amount) c none is = set_one (ToSet name limit amount) r s name limit amount v
    by_request (ToSend target from) c none is = state_stays (ToSend target from) r s v
    by_request (ToReceive snapshot bytes mode) c none is = got (ToReceive snapshot bytes mode) r s snapshot step.reading mode c.number v none
