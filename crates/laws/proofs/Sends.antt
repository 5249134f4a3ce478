-- Sends of datasets, from nothing, from snapshots of the lineage and from bookmarks.
use Rattle.std.proofs.Common.{◌≡◌, ℕ, zero, suc, Bool, true, false, not, List, ◌∷◌, Option, Some, None, refl, sym, subst, inl, inr, true≢false}
use Rattle.std.specs.Prelude.{is_some}
use Rattle.std.specs.Option.{option_map, option_and_then}
use Rattle.std.specs.FinMap.{get}
use Rattle.base.specs.declared.refusal.Refusal.{Refusal}
use Rattle.base.specs.declared.refusal.Refusal.TheVariants.{NoDataset, NoMemory}
use Rattle.base.specs.Map.{IsTree, block_of}
use Rattle.model.specs.declared.request.Request.TheVariants.{Bookmark as ToBookmark}
use Rattle.model.specs.declared.reply.Reply.TheVariants.{Done, Refused}
use Rattle.base.specs.declared.name.member.Member.{Member}
use Rattle.base.specs.declared.name.target.Target.TheVariants.{Snapshot as OfSnapshot}
use Rattle.model.specs.World.{World, FileSystem, Snap, SnapId, Dataset, Live, Snapped, id_of, map_of, previous_of, newest_or_origin, snap_named}
use Rattle.model.specs.State.{State}
use Rattle.model.specs.Refusals.{refusal_of}
use Rattle.model.specs.Step.{Step, Follows, done, refused, out_of_memory}
use Rattle.model.specs.requests.Bookmark.{bookmark_row, bookmark_rule}
use Rattle.model.specs.requests.Rollback.{placed}
use Rattle.world.specs.Worlds.{IsPoolState}
use Rattle.world.proofs.maps.Cells.{in_blocks}
use Rattle.world.proofs.lineage.Dead.{born_late}
use Rattle.world.proofs.lists.Maps.{no_value}
use Rattle.world.proofs.views.ViewedRequests.{row_false}
use Rattle.laws.specs.Lineages.{IsBefore}
use Rattle.laws.proofs.Lasting.{run_splits, lineages_last, numbers_last}
use Rattle.laws.proofs.Lineages.{kept_map, line_source}
use Rattle.laws.proofs.Marks.{found_at, bookmark_lasts}
use Rattle.laws.specs.Records.{AreBorn}
use Rattle.laws.specs.Sends.{FullSendOf, FullSendAfter, SourceSends, SnapshotSends, BookmarkSends, HistorySends}
use Rattle.laws.proofs.Applied.{sends_difference, full_sends}

-- each block of a dataset was born in a group
born : (s : State) → IsPoolState s → (d : Dataset) → AreBorn (map_of s.now d)
born s good d k c there = born_late s.now s.now.group good.now.systems.lines d (block_of c) (in_blocks (map_of s.now d) k c there)

pub full_send_of : FullSendOf
full_send_of s d good = full_sends s.size (map_of s.now d) (good.now.trees d) (born s good d)

pub full_send_after : FullSendAfter
full_send_after s d numbers births = full_sends s.size (map_of s.now d) (numbers.world.trees d) (λ k c h. (births.born d k c h).0)

pub source_sends : SourceSends
source_sends s name group n held d numbers source tree line =
    sends_difference n s.size group held (map_of s.now d) tree (numbers.world.trees d) (source line.places d line.before line.late)

-- a file system in whose lineage a snapshot stands is there
there_before : (w : World) (name : List ℕ) (k : ℕ) (id : SnapId) → IsBefore w k (Live name) (Snapped id) → (f : FileSystem) × (get w.file_systems name ≡ Some f)
unfolding previous_of
there_before w name zero id e = cc
there_before w name (suc k) id (p, is, rest) = by_system (get w.file_systems name) refl is
  where
    by_system : (x : Option FileSystem) → get w.file_systems name ≡ x → option_and_then (λ s. newest_or_origin s s.snaps) x ≡ Some p
        → (f : FileSystem) × (get w.file_systems name ≡ Some f)
    by_system None e h = absurd (no_value p h)
    by_system (Some f) e h = (f, e)

pub snapshot_sends : SnapshotSends
snapshot_sends s name id d lines numbers snap line =
    let f = there_before s.now name snap.places id snap.before in
    source_sends s name id.group s.size (map_of s.now (Snapped id)) d numbers (line_source s.now lines name f.0 f.1 snap.places id snap.before)
    (numbers.world.trees (Snapped id)) line

pub bookmark_sends : BookmarkSends
bookmark_sends s v u name mark t qs rs d lines numbers named step within never run stands line =
    let source = bookmark_lasts s v u name mark t qs rs lines named step within never run stands in
    let after = numbers_last s u (ToBookmark (OfSnapshot name) mark ∷ qs) (Done ∷ rs) numbers (v, step, run) in
    let f = found_at s.now name t named in
    let tree = subst (IsTree s.size) (kept_map s.now lines.order name.file_system f.0 t (id_of t) f.1 f.2 refl) (numbers.world.trees (Snapped (id_of t))) in
    source_sends u mark.file_system t.group s.size t.map d after source tree line

-- ---- histories

the_snap : (x : Option Snap) (f : FileSystem) → is_some {T = FileSystem × Snap} (option_map (λ (t : Snap). (f, t)) x) ≡ true → (t : Snap) × (x ≡ Some t)
the_snap None f e = absurd (true≢false (sym e))
the_snap (Some t) f e = (t, refl)

-- a bookmark that is made is made of a snapshot that is there
snap_of_bookmark : (s : State) (name mark : Member) → refusal_of s (bookmark_rule (OfSnapshot name) mark) ≡ None → (t : Snap) × (snap_named s.now name ≡ Some t)
unfolding refusal_of
snap_of_bookmark s name mark none = by_system (get s.now.file_systems name.file_system) (is_true (is_some (placed s.now (OfSnapshot name)))
    (row_false (bookmark_row s.now (OfSnapshot name) mark) none (not (is_some (placed s.now (OfSnapshot name))), NoDataset) (inr (inl refl))))
  where
    is_true : (b : Bool) → not b ≡ false → b ≡ true
    is_true true e = refl
    is_true false e = absurd (true≢false e)

    by_system : (x : Option FileSystem) → is_some {T = FileSystem × Snap} (option_and_then (λ (f : FileSystem). option_map (λ (t : Snap). (f, t)) (snap_named s.now name)) x) ≡ true
        → (t : Snap) × (snap_named s.now name ≡ Some t)
    by_system None e = absurd (true≢false (sym e))
    by_system (Some f) e = the_snap (snap_named s.now name) f e

not_done : (why : Refusal) → Done ≡ Refused why → ⊥
not_done why e = cc

done_snap : (s v : State) (name mark : Member) → Step s (ToBookmark (OfSnapshot name) mark) Done v → (t : Snap) × (snap_named s.now name ≡ Some t)
done_snap s v name mark step = by_end step.follows
  where
    by_end : Follows s (bookmark_rule (OfSnapshot name) mark) Done v → (t : Snap) × (snap_named s.now name ≡ Some t)
    by_end (done h) = snap_of_bookmark s name mark h.not_refused
    by_end (refused h) = absurd (not_done h.why h.reply_is)
    by_end (out_of_memory h) = absurd (not_done NoMemory h.reply_is)

pub history_sends : HistorySends
history_sends s u qs more rs others name mark lines numbers same run =
    let k = run_splits s u qs (ToBookmark (OfSnapshot name) mark ∷ more) rs (Done ∷ others) same run in
    let v = k.0 in
    let w = k.2.0 in
    let t = done_snap v w name mark k.2.1 in (
      v,
      t.0,
      k.1,
      t.1,
      λ d within never stands line.
          bookmark_sends v w u name mark t.0 more others d (lineages_last s v qs rs lines k.1).0 (numbers_last s v qs rs numbers k.1) t.1 k.2.1 within never k.2.2 stands line,
    )
