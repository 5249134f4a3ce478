-- What a bookmark promises in every run.
use Rattle.std.proofs.Common.{◌≡◌, ℕ, List, [], Bool, true, false, not, ◌&&◌, Option, Some, None, refl, sym, ap, subst, ◌∙◌, ⊎_elim, inl, inr, true≢false}
use Rattle.std.specs.List.{filter, find}
use Rattle.std.specs.Option.{option_map, option_map_or, option_and_then}
use Rattle.std.specs.FinMap.{get, insert}
use Rattle.base.specs.declared.refusal.Refusal.{Refusal}
use Rattle.base.specs.declared.refusal.Refusal.TheVariants.{NotAncestor, NoMemory}
use Rattle.base.specs.Map.{Map}
use Rattle.base.specs.Surveys.{IsIn}
use Rattle.base.specs.Names.{same_name}
use Rattle.base.specs.declared.name.member.Member.{Member}
use Rattle.base.specs.declared.name.target.Target.TheVariants.{Snapshot as OfSnapshot}
use Rattle.model.specs.declared.request.Request.TheVariants.{Bookmark as ToBookmark, Rename as ToRename}
use Rattle.model.specs.declared.reply.Reply.TheVariants.{Done, Refused}
use Rattle.model.specs.World.{World, FileSystem, Snap, SnapId, Bookmark, Snapped, id_of, map_of, snap_named, bookmark_named}
use Rattle.model.specs.State.{State}
use Rattle.model.specs.Edits.{with_file_system, with_now}
use Rattle.model.specs.Outcome.{is_needed, state_after_sweep, state_after}
use Rattle.model.specs.Refusals.{refusal_of}
use Rattle.model.specs.Step.{Step, IsDone, Follows, done, refused, out_of_memory}
use Rattle.model.specs.requests.Bookmark.{bookmarked, bookmark_of_snap, bookmark_row, bookmark_rule, is_beside}
use Rattle.model.specs.requests.Rename.{renamed, with_renamed, rename_rule}
use Rattle.model.specs.requests.Rollback.{placed}
use Rattle.world.specs.RunLaws.{HasSnap}
use Rattle.world.specs.Shapes.{Name, name_order}
use Rattle.world.proofs.lists.Finding.{append_none, from_find, one_name}
use Rattle.world.proofs.lists.Maps.{no_value, get-insert_same}
use Rattle.world.proofs.lists.Names.{exchanged}
use Rattle.world.proofs.changes.Renames.{CanRename, old_apart, new_apart, twice, renamed_is, renamed_back}
use Rattle.world.proofs.lineage.Put.{put_here}
use Rattle.world.proofs.views.ViewedRenames.{rename_can}
use Rattle.world.proofs.views.ViewedRequests.{row_false}
use Rattle.world.proofs.removals.WithoutSnaps.{without_at}
use Rattle.laws.specs.Lineages.{HasLineages}
use Rattle.laws.specs.Bookmarks.{IsSource, IsMarkedBy, BookmarkMade, BookmarkStands, BookmarkLasts, RenamesCarry}
use Rattle.laws.proofs.Lineages.{kept_map, reach_older, line_source}
use Rattle.laws.proofs.Leading.{Leads, step_leads, leads_lineages, HasSnapMap, leads_held}
use Rattle.laws.specs.Runs.{given}
use Rattle.laws.proofs.Lasting.{first_holds, run_has, now_lasts_at}
use Rattle.laws.proofs.Marking.{HasMark}
use Rattle.laws.proofs.Edits.{same_later, without_later}
use Rattle.laws.proofs.Moving.{moved_ordered, moved_source}
use Rattle.laws.proofs.Stepping.{Became, went, became_source}

-- ---- a bookmark stands

-- where it stands
marked_at : (w : World) (mark : Member) (b : Bookmark) → bookmark_named w mark ≡ Some b
    → (f : FileSystem) × (get w.file_systems mark.file_system ≡ Some f) × (get f.bookmarks mark.component ≡ Some b)
marked_at w mark b e = by_system (get w.file_systems mark.file_system) refl e
  where
    by_system : (x : Option FileSystem) → get w.file_systems mark.file_system ≡ x
        → option_and_then (λ (s : FileSystem). get s.bookmarks mark.component) x ≡ Some b
        → (f : FileSystem) × (get w.file_systems mark.file_system ≡ Some f) × (get f.bookmarks mark.component ≡ Some b)
    by_system None i k = absurd (no_value b k)
    by_system (Some f) i k = (f, i, k)

-- lineages, and the bookmark, for which this map serves as a source
record HasSource (mark : Member) (b : Bookmark) (held : Map) (w : World) : Type 0 where
  lines : HasLineages w
  marked : bookmark_named w mark ≡ Some b
  source : IsSource w mark.file_system b.group held

leads_source : (mark : Member) (b : Bookmark) (held : Map) (gives : Name → Bool) (w new : World) → HasSource mark b held w → Leads gives w new → bookmark_named new mark ≡ Some b → HasSource mark b held new
leads_source mark b held gives w new h leads stands = record { lines = leads_lineages gives w new h.lines leads; marked = stands; source = source }
  where
    source : IsSource new mark.file_system b.group held
    source =
        let f = marked_at w mark b h.marked in
        let e = marked_at new mark b stands in
        became_source w new h.lines.order (leads.order h.lines.order) mark.file_system f.0 e.0 f.1 e.1 mark.component b e.2
        (h.lines.order.marks mark.file_system mark.component f.0 b f.1 f.2) held (leads.became h.lines.order) h.source

pub bookmark_stands : BookmarkStands
bookmark_stands s u qs rs mark b held lines within run source =
    (run_has (HasSource mark b held) (λ w. bookmark_named w mark ≡ Some b) (λ gives. Unit {0}) tt (λ gives w new _ h leads stands. leads_source mark b held gives w new h leads stands) (λ w stands. stands) s u qs rs (λ i q r e f. tt)
    (record { lines = lines; marked = first_holds (IsMarkedBy mark b) s u qs rs run; source = source }) (inr within) run).0.source

-- ---- it is made

-- the snapshot of a name, with its file system
pub found_at : (w : World) (name : Member) (t : Snap) → snap_named w name ≡ Some t
    → (f : FileSystem) × (get w.file_systems name.file_system ≡ Some f) × IsIn f.snaps t × (placed w (OfSnapshot name) ≡ Some (f, t))
found_at w name t e = by_system (get w.file_systems name.file_system) refl e
  where
    by_system : (x : Option FileSystem) → get w.file_systems name.file_system ≡ x
        → option_and_then (λ (s : FileSystem). find (λ (t : Snap). same_name t.name name.component) s.snaps) x ≡ Some t
        → (f : FileSystem) × (get w.file_systems name.file_system ≡ Some f) × IsIn f.snaps t × (placed w (OfSnapshot name) ≡ Some (f, t))
    by_system None i k = absurd (no_value t k)
    by_system (Some f) i k = (
      f,
      i,
      (from_find (λ (t : Snap). same_name t.name name.component) f.snaps t k).0,
      ap (option_and_then (λ (f : FileSystem). option_map (λ (t : Snap). (f, t)) (snap_named w name))) i ∙ ap (option_map (λ (t : Snap). (f, t))) e,
    )

module _ (s : State) (lines : HasLineages s.now) (name mark : Member) (t : Snap) (f : FileSystem) (at : get s.now.file_systems mark.file_system ≡ Some f) (there : IsIn f.snaps t)
    (found : placed s.now (OfSnapshot name) ≡ Some (f, t)) (u : State) (step : Step s (ToBookmark (OfSnapshot name) mark) Done u)
    (is : u ≡ state_after_sweep (with_now s (bookmarked s.now (OfSnapshot name) mark))) where
  -- a file system with the bookmark
  abbrev with_mark : Snap → FileSystem → FileSystem
  with_mark v x = record x { bookmarks = insert x.bookmarks mark.component (bookmark_of_snap v) }

  abbrev noted : FileSystem
  noted = with_mark t f

  abbrev noted_in : World
  noted_in = record s.now { file_systems = insert s.now.file_systems mark.file_system (with_mark t f) }

  mid : State
  mid = with_now s noted_in

  abbrev goes : Snap → Bool
  goes v = v.deferred && not (is_needed mid.now mid.views v)

  noted_is : bookmarked s.now (OfSnapshot name) mark ≡ noted_in
  noted_is =
      ap (λ x. option_map_or (λ (p : FileSystem × Snap). with_file_system s.now mark.file_system (with_mark p.1)) x s.now) found
      ∙ ap (λ x. option_map_or (λ y. record s.now { file_systems = insert s.now.file_systems mark.file_system (with_mark t y) }) x s.now) at

  leads : u ≡ state_after_sweep mid
  unfolding mid
  leads = is ∙ ap (λ x. state_after_sweep (with_now s x)) noted_is

  after_at : get u.now.file_systems mark.file_system ≡ Some (record noted { snaps = filter (λ v. not (goes v)) noted.snaps })
  unfolding mid state_after_sweep
  after_at = ap (λ (x : State). get x.now.file_systems mark.file_system) leads
      ∙ without_at mid.now goes mark.file_system noted (put_here s.now.file_systems mark.file_system noted)

  marked : get noted.bookmarks mark.component ≡ Some (bookmark_of_snap t)
  marked = get-insert_same name_order f.bookmarks mark.component (bookmark_of_snap t)

  -- what the snapshot has serves its file system
  source : IsSource s.now mark.file_system t.group t.map
  source =
      let k = reach_older s.now lines.order mark.file_system f at f.snaps [] (sym (append_none f.snaps)) t there in
      subst (IsSource s.now mark.file_system t.group) (kept_map s.now lines.order mark.file_system f t (id_of t) at there refl)
      (line_source s.now lines mark.file_system f at k.0 (id_of t) k.1)

  goes_on : Leads (given (ToBookmark (OfSnapshot name) mark) Done) s.now u.now
  goes_on = step_leads (ToBookmark (OfSnapshot name) mark) Done s u step

  made : IsMarkedBy mark (bookmark_of_snap t) u × IsSource u.now mark.file_system t.group t.map
  made = (
    ap (option_and_then (λ (x : FileSystem). get x.bookmarks mark.component)) after_at ∙ marked,
    became_source s.now u.now lines.order (goes_on.order lines.order)
        mark.file_system f (record noted { snaps = filter (λ v. not (goes v)) noted.snaps }) at after_at
        mark.component (bookmark_of_snap t) marked (lines.order.closed mark.file_system t (f, at, there)) t.map
        (goes_on.became lines.order) source,
  )

-- it is of the bookmark's file system, since the request isn't refused
beside : (s : State) (name mark : Member) → refusal_of s (bookmark_rule (OfSnapshot name) mark) ≡ None → name.file_system ≡ mark.file_system
unfolding refusal_of
beside s name mark none = one_name name.file_system mark.file_system (is_true (same_name name.file_system mark.file_system)
    (row_false (bookmark_row s.now (OfSnapshot name) mark) none (not (is_beside (OfSnapshot name) mark), NotAncestor) (inr (inr (inl refl)))))
  where
    is_true : (b : Bool) → not b ≡ false → b ≡ true
    is_true true e = refl
    is_true false e = absurd (true≢false e)

not_done : (why : Refusal) → Done ≡ Refused why → ⊥
not_done why e = cc

-- the state that it ends in
ended : (s u : State) (name mark : Member) → IsDone s (bookmark_rule (OfSnapshot name) mark) Done u
    → u ≡ state_after_sweep (with_now s (bookmarked s.now (OfSnapshot name) mark))
unfolding state_after
ended s u name mark h = h.new_is

pub bookmark_made : BookmarkMade
bookmark_made s u name mark t lines named step = by_end step.follows
  where
    by_end : Follows s (bookmark_rule (OfSnapshot name) mark) Done u
        → IsMarkedBy mark (bookmark_of_snap t) u × IsSource u.now mark.file_system t.group t.map
    by_end (done h) =
        let f = found_at s.now name t named in
        made s lines name mark t f.0 (ap (get s.now.file_systems) (sym (beside s name mark h.not_refused)) ∙ f.1) f.2 f.3 u step (ended s u name mark h)
    by_end (refused h) = absurd (not_done h.why h.reply_is)
    by_end (out_of_memory h) = absurd (not_done NoMemory h.reply_is)

-- ---- a rename carries it

module _ (s : State) (lines : HasLineages s.now) (from to : Name) (can : CanRename s.now.file_systems from to) (u : State) (leads : Leads (given (ToRename from to) Done) s.now u.now)
    (is : u ≡ state_after_sweep (with_now s (with_renamed s.now from to))) (mark : Member) (b : Bookmark) (held : Map) (f : FileSystem)
    (at : get s.now.file_systems mark.file_system ≡ Some f) (marked : get f.bookmarks mark.component ≡ Some b) where
  abbrev moved_to : World
  moved_to = with_renamed s.now from to

  abbrev new_name : Name
  new_name = renamed from to mark.file_system

  abbrev swept_out : Snap → Bool
  swept_out t = t.deferred && not (is_needed (with_renamed s.now from to) s.views t)

  same : new_name ≡ exchanged from to mark.file_system
  same = renamed_is from to (old_apart s.now.file_systems from to can) (new_apart s.now.file_systems from to can) mark.file_system (can.free mark.file_system f at)

  at_new : get (with_renamed s.now from to).file_systems new_name ≡ Some f
  at_new = ap (get moved_to.file_systems) same ∙ renamed_back s.now.file_systems from to can mark.file_system ∙ at

  at_end : get u.now.file_systems new_name ≡ Some (record f { snaps = filter (λ t. not (swept_out t)) f.snaps })
  unfolding state_after_sweep
  at_end = ap (λ (x : State). get x.now.file_systems new_name) is ∙ without_at moved_to swept_out new_name f at_new

  later : Became (with_renamed s.now from to) u.now
  unfolding state_after_sweep
  later = subst (λ (x : State). Became moved_to x.now) (sym is) (went (without_later moved_to moved_to swept_out (same_later moved_to)))

  carried : IsMarkedBy (record mark { file_system = new_name }) b u × (IsSource s.now mark.file_system b.group held → IsSource u.now new_name b.group held)
  carried = (
    ap (option_and_then (λ (x : FileSystem). get x.bookmarks mark.component)) at_end ∙ marked,
    λ source.
        became_source moved_to u.now (moved_ordered s.now lines.order from to can) (leads.order lines.order) new_name f (record f { snaps = filter (λ t. not (swept_out t)) f.snaps }) at_new at_end
        mark.component b marked (lines.order.marks mark.file_system mark.component f b at marked) held later
        (moved_source s.now lines.order from to can new_name f at_new b.group held
        (subst (λ n. IsSource s.now n b.group held) (sym (ap (exchanged from to) same ∙ twice s.now.file_systems from to can mark.file_system)) source)),
  )

-- the state that it ends in
rename_ended : (s u : State) (from to : Name) → IsDone s (rename_rule from to) Done u → u ≡ state_after_sweep (with_now s (with_renamed s.now from to))
unfolding state_after
rename_ended s u from to h = h.new_is

pub renames_carry : RenamesCarry
renames_carry s u from to mark b held lines step stands = by_end step.follows
  where
    by_end : Follows s (rename_rule from to) Done u
        → IsMarkedBy (record mark { file_system = renamed from to mark.file_system }) b u
        × (IsSource s.now mark.file_system b.group held → IsSource u.now (renamed from to mark.file_system) b.group held)
    by_end (done h) =
        let m = marked_at s.now mark b stands in
        carried s lines from to (rename_can s from to h.not_refused) u (step_leads (ToRename from to) Done s u step) (rename_ended s u from to h) mark b held m.0 m.1 m.2
    by_end (refused h) = absurd (not_done h.why h.reply_is)
    by_end (out_of_memory h) = absurd (not_done NoMemory h.reply_is)

-- ---- a bookmark lasts

-- What holds after a bookmark was made of a snapshot of this identity, which held this map: of the file system of this name
record IsKept (id : SnapId) (held : Map) (a : List ℕ) (w : World) : Type 0 where
  snap : HasSnapMap id held w
  source : (at : List ℕ) → HasMark w a at (record { guid = id.guid; group = id.group }) → IsSource w a id.group held

-- it goes on: a bookmark that stands stood before, or is made of that very snapshot, where no other file system is given the name
leads_kept : (id : SnapId) (held : Map) (a : List ℕ) (gives : Name → Bool) (w new : World) → gives a ≡ false → IsKept id held a w → Leads gives w new → IsKept id held a new
leads_kept id held a gives w new none kept leads = record {
  snap = leads_held id held gives w new kept.snap leads;
  source = λ at h. on at h (⊎_elim (λ k. (k.0, k.1, kept.source at k)) (λ k. ⊎_elim (λ m. (m.1.0, m.1.1, anew m.0 m.1 m.2)) (λ e. absurd (true≢false (sym e ∙ none))) k) (leads.marks a at b h));
}
  where
    b : Bookmark
    b = record { guid = id.guid; group = id.group }

    lines : HasLineages w
    lines = kept.snap.lines

    anew : (u : Snap) → HasSnap w a u → b ≡ bookmark_of_snap u → IsSource w a id.group held
    anew u (f, at, h) is =
        let k = reach_older w lines.order a f at f.snaps [] (sym (append_none f.snaps)) u h in
        let ids : id_of u ≡ id = λ i. record { group = (sym is i).group; guid = (sym is i).guid } in
        let source = subst (λ y. IsSource w a y.group (map_of w (Snapped y))) ids (line_source w lines a f at k.0 (id_of u) k.1) in
        subst (IsSource w a id.group) (kept.snap.map (a, f, u, at, h, ids)) source

    on : (at : List ℕ) → HasMark new a at b → (f : FileSystem) × (get w.file_systems a ≡ Some f) × IsSource w a id.group held → IsSource new a id.group held
    on at (f', is', marked) (f, is, source) =
        became_source w new lines.order (leads.order lines.order) a f f' is is' at b marked kept.snap.closed held (leads.became lines.order) source

pub bookmark_lasts : BookmarkLasts
bookmark_lasts s v u name mark t qs rs lines named step within never run stands =
    let m = marked_at u.now mark (bookmark_of_snap t) stands in
    (now_lasts_at (IsKept (id_of t) t.map mark.file_system) mark.file_system (leads_kept (id_of t) t.map mark.file_system) v u qs rs made_kept within never run).source mark.component m
  where
    f : (f : FileSystem) × (get s.now.file_systems name.file_system ≡ Some f) × IsIn f.snaps t × (placed s.now (OfSnapshot name) ≡ Some (f, t))
    f = found_at s.now name t named

    held : HasSnapMap (id_of t) t.map s.now
    held = record {
      lines = lines;
      closed = lines.order.closed name.file_system t (f.0, f.1, f.2);
      map = λ there. kept_map s.now lines.order name.file_system f.0 t (id_of t) f.1 f.2 refl;
    }

    made_kept : IsKept (id_of t) t.map mark.file_system v.now
    made_kept = record {
      snap = leads_held (id_of t) t.map (given (ToBookmark (OfSnapshot name) mark) Done) s.now v.now held (step_leads (ToBookmark (OfSnapshot name) mark) Done s v step);
      source = λ at h. (bookmark_made s v name mark t lines named step).1;
    }
