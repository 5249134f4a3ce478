-- What a Send that isn't refused has sent.
use Rattle.std.proofs.Common.{◌≡◌, ℕ, suc, Bool, true, false, not, [], Option, Some, None, refl, sym, ap, subst, ◌∙◌, inl, inr, true≢false, arith}
use Rattle.std.specs.Prelude.{is_some}
use Rattle.std.specs.Option.{option_map, option_map_or, option_and_then}
use Rattle.std.specs.FinMap.{get}
use Rattle.std.specs.FinMap as finmap
use Rattle.base.specs.Map.{Map, contents}
use Rattle.base.specs.Surveys.{IsIn}
use Rattle.base.specs.declared.refusal.Refusal.TheVariants.{NoDataset, NotSnapshot, NotAncestor, NoMemory}
use Rattle.base.specs.declared.name.member.Member.{Member}
use Rattle.base.specs.declared.name.target.Target.{Target}
use Rattle.base.specs.declared.name.target.Target.TheVariants.{FileSystem as OfFileSystem, Snapshot as OfSnapshot, Bookmark as OfBookmark}
use Rattle.stream.specs.Records.{records_since, apply_records}
use Rattle.stream.specs.Spelling.{spell}
use Rattle.model.specs.declared.request.Request.TheVariants.{Bookmark as ToBookmark, Send as ToSend}
use Rattle.model.specs.declared.reply.Reply.{Reply}
use Rattle.model.specs.declared.reply.Reply.TheVariants.{Done, Stream as StreamIs}
use Rattle.model.specs.Sights.{Seen}
use Rattle.model.specs.World.{FileSystem, Snap, Bookmark, Live, Snapped, id_of, map_of, snap_named}
use Rattle.model.specs.Numbers.{IsNumbered}
use Rattle.model.specs.Refusals.{refusal_of}
use Rattle.model.specs.State.{State}
use Rattle.model.specs.Step.{Step, Follows, done, refused, out_of_memory}
use Rattle.model.specs.requests.Bookmark.{bookmark_of_snap}
use Rattle.model.specs.requests.Rollback.{placed}
use Rattle.model.specs.requests.Send.{Start, no_source, sending_from, sources_of, sight_of, start_of, stream_of, start_named, send_row, send_reply, send_rule}
use Rattle.world.specs.Shapes.{Name}
use Rattle.world.proofs.lists.Finding.{append_none}
use Rattle.world.proofs.lists.Maps.{same_value}
use Rattle.world.proofs.views.ViewedRequests.{row_false}
use Rattle.laws.specs.Lineages.{IsBefore, IsOrdered, HasLineages, HasBirths}
use Rattle.laws.specs.Runs.{given}
use Rattle.laws.specs.Sends.{IsInLineage}
use Rattle.laws.proofs.Lasting.{now_lasts}
use Rattle.laws.proofs.Leading.{step_leads, leads_lineages}
use Rattle.laws.proofs.Lineages.{then_on, kept_map, reach_older, before_lower}
use Rattle.laws.proofs.Marks.{found_at}
use Rattle.laws.proofs.Sends.{full_send_after, snapshot_sends, bookmark_sends}
use Rattle.laws.specs.Answered.{Carries, IsFromSnapshot, IsFromBookmark, IsFrom, IsNoRefusal, SendsAreAnswered, BookmarkSendsAreAnswered}
use Rattle.laws.proofs.SourceNames.{source_named, no_file_system, of_snapshot, of_bookmark}

-- ---- what is carried

-- a snapshot that a name finds, with its file system
module _ (s : State) (order : IsOrdered s.now) (name : Name) (f : FileSystem) (t : Snap) (at : get s.now.file_systems name ≡ Some f) (there : IsIn f.snaps t) where
  own_map : map_of s.now (Snapped (id_of t)) ≡ t.map
  own_map = kept_map s.now order name f t (id_of t) at there refl

  live : (k : ℕ) × IsBefore s.now k (Live name) (Snapped (id_of t))
  live = reach_older s.now order name f at f.snaps [] (sym (append_none f.snaps)) t there

  carries_all : HasBirths s.now → IsNumbered s → Carries 0 finmap.empty t
  carries_all births numbers =
      subst (λ (m : Map). apply_records (records_since m 0) finmap.empty ≡ contents m) own_map (full_send_after s (Snapped (id_of t)) numbers births)

  carries_on : HasLineages s.now → IsNumbered s → (other : Name) (g : FileSystem) (v : Snap) → get s.now.file_systems other ≡ Some g → IsIn g.snaps v
      → (k : ℕ) → IsBefore s.now (suc k) (Snapped (id_of t)) (Snapped (id_of v)) → Carries v.group (contents v.map) t
  carries_on lines numbers other g v g_at v_there k before =
      let far = then_on s.now live.0 (suc k) (Live name) (Snapped (id_of t)) (Snapped (id_of v)) live.1 before in
      let source : IsInLineage s.now name 0 (Snapped (id_of v)) = record { places = far.0; before = far.1; late = omega arith } in
      let target : IsInLineage s.now name v.group (Snapped (id_of t)) = record {
        places = live.0;
        before = live.1;
        late = before_lower s.now order (suc k) (Snapped (id_of t)) (Snapped (id_of v)) (name, f, t, at, there, refl) before;
      } in
      let sends = snapshot_sends s name (id_of v) (Snapped (id_of t)) lines numbers source target in
      subst (λ (m : Map). apply_records (records_since t.map v.group) (contents m) ≡ contents t.map) (kept_map s.now order other g v (id_of v) g_at v_there refl)
      (subst (λ (m : Map). apply_records (records_since m v.group) (contents (map_of s.now (Snapped (id_of v)))) ≡ contents m) own_map sends)

-- ---- where it starts

same_start : (a b : Start) → a.guid ≡ b.guid → a.group ≡ b.group → a ≡ b
same_start a b g h = λ i. record { guid = g i; group = h i }

-- what starts at this source, be births and numbers in order
module _ (s : State) (lines : HasLineages s.now) (name : Name) (f : FileSystem) (t : Snap) (at : get s.now.file_systems name ≡ Some f) (there : IsIn f.snaps t) where
  from_mark : (m : Member) (start : Start) → start_of (sources_of s.now (id_of t)) (Some (OfBookmark m)) ≡ Some start → IsFromBookmark s.now name t m start
  from_mark m start e =
      let x = source_named s.now lines.order name f t at there (OfBookmark m) start e in
      let (b, named, guid, group, beside, before) = of_bookmark s.now lines.order name f t at there x.0 x.1 m x.2 in
      record { mark = b; named = named; start_is = x.3 ∙ same_start _ _ guid group; beside = beside; before = before }

  from_snap : IsNumbered s → (m : Member) (start : Start) → start_of (sources_of s.now (id_of t)) (Some (OfSnapshot m)) ≡ Some start → IsFromSnapshot s.now t m start
  from_snap numbers m start e =
      let x = source_named s.now lines.order name f t at there (OfSnapshot m) start e in
      let (v, has, named, guid, group, k, before) = of_snapshot s.now lines.order name f t at there x.0 x.1 m x.2 in
      record {
        source = v;
        there = has;
        named = named;
        start_is = x.3 ∙ same_start _ _ guid group;
        places = k;
        before = before;
        carries = carries_on s lines.order name f t at there lines numbers m.file_system has.0 v has.1 has.2 k before;
      }

  starts_from : HasBirths s.now → IsNumbered s → (from : Option Target) (start : Start) → start_of (sources_of s.now (id_of t)) from ≡ Some start → IsFrom s.now name t from start
  unfolding start_of
  starts_from births numbers None start e = (sym (same_value no_source start e), carries_all s lines.order name f t at there births numbers)
  starts_from births numbers (Some (OfSnapshot m)) start e = from_snap numbers m start e
  starts_from births numbers (Some (OfBookmark m)) start e = from_mark m start e
  starts_from births numbers (Some (OfFileSystem n)) start e =
      let x = source_named s.now lines.order name f t at there (OfFileSystem n) start e in
      absurd (no_file_system s.now lines.order name f t at there x.0 x.1 n x.2)

-- ---- the reply

-- what a Send tells that isn't refused: the snapshot of its name, where the stream starts, and the stream
record IsTold (s : State) (name : Member) (from : Option Target) (reply : Reply) : Type 0 where
  snap : Snap
  named : snap_named s.now name ≡ Some snap
  start : Start
  starts : start_of (sources_of s.now (id_of snap)) from ≡ Some start
  reply_is : reply ≡ StreamIs (spell (sending_from start snap.guid snap.map))

is_true : (b : Bool) → not b ≡ false → b ≡ true
is_true true e = refl
is_true false e = absurd (true≢false e)

the_value : {A : Type 0} (x : Option A) → is_some x ≡ true → (a : A) × (x ≡ Some a)
the_value None e = absurd (true≢false (sym e))
the_value (Some a) e = (a, refl)

module _ (s : State) (order : IsOrdered s.now) (m : Member) (from : Option Target) (reply : Reply) (none : refusal_of s (send_rule (OfSnapshot m) from) ≡ None)
    (reply_is : reply ≡ send_reply s.now (OfSnapshot m) from) where
  is_placed : is_some (placed s.now (OfSnapshot m)) ≡ true
  unfolding refusal_of
  is_placed = is_true (is_some (placed s.now (OfSnapshot m))) (row_false (send_row s.now (OfSnapshot m) from) none (not (is_some (placed s.now (OfSnapshot m))), NoDataset) (inr (inl refl)))

  is_started : is_some (start_named s.now (OfSnapshot m) from) ≡ true
  unfolding refusal_of
  is_started = is_true (is_some (start_named s.now (OfSnapshot m) from))
      (row_false (send_row s.now (OfSnapshot m) from) none (not (is_some (start_named s.now (OfSnapshot m) from)), NotAncestor) (inr (inr (inl refl))))

  the_snap : (t : Snap) × (snap_named s.now m ≡ Some t)
  the_snap = by_system (get s.now.file_systems m.file_system) is_placed
    where
      by_snap : (f : FileSystem) (x : Option Snap) → is_some {T = FileSystem × Snap} (option_map (λ (t : Snap). (f, t)) x) ≡ true → (t : Snap) × (x ≡ Some t)
      by_snap f None e = absurd (true≢false (sym e))
      by_snap f (Some t) e = (t, refl)

      by_system : (x : Option FileSystem) → is_some {T = FileSystem × Snap} (option_and_then (λ (f : FileSystem). option_map (λ (t : Snap). (f, t)) (snap_named s.now m)) x) ≡ true
          → (t : Snap) × (snap_named s.now m ≡ Some t)
      by_system None e = absurd (true≢false (sym e))
      by_system (Some f) e = by_snap f (snap_named s.now m) e

  told : IsTold s m from reply
  unfolding sight_of stream_of
  told =
      let t = the_snap in
      let (f, at, there, placed_is) = found_at s.now m t.0 t.1 in
      let started : start_named s.now (OfSnapshot m) from ≡ start_of (sources_of s.now (id_of t.0)) from =
      ap (λ x. option_and_then {T = Seen} {U = Start} (λ seen. start_of seen.sources from) (option_map {T = FileSystem × Snap} {U = Seen} (λ p. sight_of s.now (id_of p.1)) x)) placed_is in
      let start = the_value (start_of (sources_of s.now (id_of t.0)) from) (ap (is_some {T = Start}) (sym started) ∙ is_started) in
      record {
        snap = t.0;
        named = t.1;
        start = start.0;
        starts = start.1;
        reply_is =
            reply_is
            ∙ ap (λ x. option_map_or {T = Seen} (λ seen. option_map_or {T = Start} (λ start. StreamIs (stream_of seen start)) (start_of seen.sources from) Done)
            (option_map {T = FileSystem × Snap} {U = Seen} (λ p. sight_of s.now (id_of p.1)) x) Done) placed_is
            ∙ ap (λ x. option_map_or {T = Start} (λ start. StreamIs (stream_of (sight_of s.now (id_of t.0)) start)) x Done) start.1
            ∙ ap (λ x. StreamIs (spell (sending_from start.0 t.0.guid x))) (kept_map s.now order m.file_system f t.0 (id_of t.0) at there refl);
      }

told_of : (s : State) → IsOrdered s.now → (target : Target) (from : Option Target) (reply : Reply) → refusal_of s (send_rule target from) ≡ None → reply ≡ send_reply s.now target from
    → (name : Member) × (target ≡ OfSnapshot name) × IsTold s name from reply
unfolding refusal_of
told_of s order (OfSnapshot m) from reply none is = (m, refl, told s order m from reply none is)
told_of s order (OfFileSystem n) from reply none is =
    absurd (true≢false (row_false (send_row s.now (OfFileSystem n) from) none (true, NotSnapshot) (inl refl)))
told_of s order (OfBookmark n) from reply none is =
    absurd (true≢false (row_false (send_row s.now (OfBookmark n) from) none (true, NotSnapshot) (inl refl)))

step_told : (s u : State) → IsOrdered s.now → (target : Target) (from : Option Target) (reply : Reply) → Step s (ToSend target from) reply u → IsNoRefusal reply
    → (name : Member) × (target ≡ OfSnapshot name) × IsTold s name from reply
step_told s u order target from reply step allowed = by_end step.follows
  where
    by_end : Follows s (send_rule target from) reply u → (name : Member) × (target ≡ OfSnapshot name) × IsTold s name from reply
    by_end (done h) = told_of s order target from reply h.not_refused h.reply_is
    by_end (refused h) = absurd (allowed h.why h.reply_is)
    by_end (out_of_memory h) = absurd (allowed NoMemory h.reply_is)

pub sends_are_answered : SendsAreAnswered
sends_are_answered s u target from reply lines births numbers step allowed =
    let (name, target_is, k) = step_told s u lines.order target from reply step allowed in
    let (f, at, there, placed_is) = found_at s.now name k.snap k.named in
    record {
      name = name;
      target_is = target_is;
      snap = k.snap;
      named = k.named;
      start = k.start;
      begins = starts_from s lines name.file_system f k.snap at there births numbers from k.start k.starts;
      reply_is = k.reply_is;
    }

-- ---- from a bookmark

same_member : (a b : Member) → OfSnapshot a ≡ OfSnapshot b → a ≡ b
same_member a b e = ap (λ x. member_of x) e
  where
    member_of : Target → Member
    member_of (OfSnapshot m) = m
    member_of t = a

pub bookmark_sends_are_answered : BookmarkSendsAreAnswered
bookmark_sends_are_answered s v u w name mark target t qs rs reply lines numbers named step within never run stands sent allowed = (k.snap, k.named, reply_is, carries)
  where
    lines_after : HasLineages u.now
    lines_after = now_lasts HasLineages leads_lineages v u qs rs (leads_lineages (given (ToBookmark (OfSnapshot name) mark) Done) s.now v.now lines (step_leads (ToBookmark (OfSnapshot name) mark) Done s v step)) within run

    heard : (m : Member) × (OfSnapshot target ≡ OfSnapshot m) × IsTold u m (Some (OfBookmark mark)) reply
    heard = step_told u w lines_after.order (OfSnapshot target) (Some (OfBookmark mark)) reply sent allowed

    k : IsTold u target (Some (OfBookmark mark)) reply
    k = subst (λ m. IsTold u m (Some (OfBookmark mark)) reply) (sym (same_member target heard.0 heard.1)) heard.2

    f : (f : FileSystem) × (get u.now.file_systems target.file_system ≡ Some f) × IsIn f.snaps k.snap × (placed u.now (OfSnapshot target) ≡ Some (f, k.snap))
    f = found_at u.now target k.snap k.named

    begins : IsFromBookmark u.now target.file_system k.snap mark k.start
    begins = from_mark u lines_after target.file_system f.0 k.snap f.1 f.2 mark k.start k.starts

    is : begins.mark ≡ bookmark_of_snap t
    is = same_value begins.mark (bookmark_of_snap t) (sym begins.named ∙ stands)

    start_is : k.start ≡ record { guid = t.guid; group = t.group }
    start_is = begins.start_is ∙ ap (λ (b : Bookmark). record { guid = b.guid; group = b.group }) is

    reply_is : reply ≡ StreamIs (spell (sending_from (record { guid = t.guid; group = t.group }) k.snap.guid k.snap.map))
    reply_is = k.reply_is ∙ ap (λ (x : Start). StreamIs (spell (sending_from x k.snap.guid k.snap.map))) start_is

    line : IsInLineage u.now mark.file_system t.group (Snapped (id_of k.snap))
    line =
        let l = live u lines_after.order target.file_system f.0 k.snap f.1 f.2 in
        let low = begins.before in
        let e : begins.mark.group ≡ t.group = ap (λ (b : Bookmark). b.group) is in
        record {
          places = l.0;
          before = subst (λ n. IsBefore u.now l.0 (Live n) (Snapped (id_of k.snap))) (sym begins.beside) l.1;
          late = omega arith;
        }

    carries : Carries t.group (contents t.map) k.snap
    carries =
        subst (λ (m : Map). apply_records (records_since m t.group) (contents t.map) ≡ contents m) (own_map u lines_after.order target.file_system f.0 k.snap f.1 f.2)
        (bookmark_sends s v u name mark t qs rs (Snapped (id_of k.snap)) lines numbers named step within never run stands line)
