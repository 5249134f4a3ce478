use Rattle.std.proofs.Common.{◌&&◌, Bool, List, map, take, sym, ap, subst, ◌∙◌, arith}
use Rattle.std.specs.Prelude.{is_some}
use Rattle.datasets.specs.Holders.{snap_in_system}
use Rattle.model.specs.Outcome.{is_needed}
use Rattle.model.specs.World.{Snap, SnapId, id_of}
use Rattle.world.specs.Shapes.{Name}
use Rattle.world.specs.Tables.{world_of, without_snap, deferred_snap}
use Rattle.removals.specs.declared.working_copy.WorkingCopy.{WorkingCopy}
use Rattle.removals.specs.Edits.{HasLost}
use Rattle.removals.specs.Found.{removed_or_deferred}
use Rattle.removals.specs.Needs.{has_clone}
use Rattle.removals.proofs.Deferring.{lost_deferred}
use Rattle.removals.proofs.Destroyed.{parted_none, parted_clones, gone_already, deferred_more, removed_more, goes_uncloned, more_ids, in_place, whole_ids}
use Rattle.removals.proofs.Losses.{lost_none, lost_then}
use Rattle.removals.proofs.Needed.{system_at}
use Rattle.removals.proofs.working_copy.WorkingCopy.remove_or_defer.Goals as goal
use Rattle.removals.proofs.working_copy.WorkingCopy.remove_or_defer.Goals.{then-has_to_wait+in_ok-defer, else-has_to_wait+in_ok-remove_snapshot}

pub loop-found-init : goal.loop-found-init
loop-found-init c = record {
  so_far = c.requires.same ∙ sym (parted_none c.args.table.now c.facts.ensures.good (λ u. c.args.defer && is_needed (world_of c.args.table.now) c.args.views.now.opened u));
  lost = lost_none c.args.self.now.to c.args.self.now.freeing c.requires.apart;
  never_lower = omega arith;
}

pub loop-found-preserved-then-not-has_snapshot_in : goal.loop-found-preserved-then-not-has_snapshot_in
loop-found-preserved-then-not-has_snapshot_in c =
    let t = c.args.table.now in
    let needed : Snap → Bool = λ u. c.args.defer && is_needed (world_of t) c.args.views.now.opened u in
    let ids : List SnapId = map (λ (q : Name × Snap). id_of q.1) (take c.loop-found.found-index c.args.all.now) in
    let p : Name × Snap = c.found-item.result in
    let name = ap (λ (q : Name × Snap). q.0) c.found.view_is in
    let id = c.id-id.ensures ∙ ap (λ (q : Name × Snap). id_of q.1) c.found.view_is in
    let at = system_at t p.0 p.1 (c.requires.there p (in_place c.args.all.now c.loop-found.found-index p c.loop-found-test.true c.found-item.is)) in
    let more = more_ids c.args.all.now c.loop-found.found-index p c.loop-found-test.true c.found-item.is in
    let out = (λ i. is_some (snap_in_system (sym c.loop-found.invariant.so_far i) (sym name i) (sym id i))) ∙ sym c.has_snapshot_in.ensures ∙ c.if-not-has_snapshot_in.true in
    record {
      so_far = c.loop-found.invariant.so_far ∙ gone_already t c.facts.ensures.good needed ids p.0 at.0 p.1 at.1 at.2 out ∙ ap (removed_or_deferred t needed) (sym more);
      lost = c.loop-found.invariant.lost;
      never_lower = c.loop-found.invariant.never_lower;
    }

pub remove_snapshot-requires-clause-no_clone : goal.remove_snapshot-requires-clause-no_clone
remove_snapshot-requires-clause-no_clone c =
    let t = c.args.table.now in
    let needed : Snap → Bool = λ u. c.args.defer && is_needed (world_of t) c.args.views.now.opened u in
    let ids = map (λ (q : Name × Snap). id_of q.1) (take c.loop-found.found-index c.args.all.now) in
    let p : Name × Snap = c.found-item.result in
    let snap = ap (λ (q : Name × Snap). q.1) c.found.view_is in
    (λ i. has_clone (c.loop-found.invariant.so_far i) ((c.id-id.ensures ∙ ap id_of snap) i))
    ∙ parted_clones t c.facts.ensures.good needed ids (id_of p.1)
    ∙ goes_uncloned t c.args.views.now.opened c.args.defer c.args.all.now c.requires.no_clone p (in_place c.args.all.now c.loop-found.found-index p c.loop-found-test.true c.found-item.is)
    (ap needed (sym snap) ∙ sym c.has_to_wait.ensures ∙ c.if-has_to_wait.false)

pub loop-found-preserved : goal.loop-found-preserved
loop-found-preserved c =
    let t = c.args.table.now in
    let from = c.args.self.now in
    let u = c.loop-found.self.to in
    let needed : Snap → Bool = λ u. c.args.defer && is_needed (world_of t) c.args.views.now.opened u in
    let ids : List SnapId = map (λ (q : Name × Snap). id_of q.1) (take c.loop-found.found-index c.args.all.now) in
    let p : Name × Snap = c.found-item.result in
    let snap = ap (λ (q : Name × Snap). q.1) c.found.view_is in
    let id = c.id-id.ensures ∙ ap id_of snap in
    let at = system_at t p.0 p.1 (c.requires.there p (in_place c.args.all.now c.loop-found.found-index p c.loop-found-test.true c.found-item.is)) in
    let more = more_ids c.args.all.now c.loop-found.found-index p c.loop-found-test.true c.found-item.is in
    let shown = ap needed (sym snap) ∙ sym c.has_to_wait.ensures in
    elim c.if-has_to_wait.branch [
      | then-has_to_wait+in_ok-defer w ↦
          let goes = w.in_ok-defer.ensures.ok ∙ ap (deferred_snap u) id in
          record {
            so_far = ap (λ (e : WorkingCopy). e.to) w.self-is ∙ goes
                ∙ ap (λ v. deferred_snap v (id_of p.1)) c.loop-found.invariant.so_far
                ∙ deferred_more t c.facts.ensures.good needed ids p.0 at.0 p.1 at.1 at.2 (shown ∙ w.if-has_to_wait.true)
                ∙ ap (removed_or_deferred t needed) (sym more);
            lost = subst (λ (e : WorkingCopy). HasLost from.to from.freeing e.to e.freeing) (sym w.self-is)
                (subst (λ f. HasLost from.to from.freeing w.defer.new.self.to f) (sym w.in_ok-defer.ensures.same)
                (lost_deferred from.to u w.defer.new.self.to from.freeing c.loop-found.self.freeing (id_of p.1) goes c.loop-found.invariant.lost));
            never_lower = rw w.segments-is c.loop-found.invariant.never_lower;
          }
      | else-has_to_wait+in_ok-remove_snapshot w ↦ record {
        so_far = ap (λ (e : WorkingCopy). e.to) w.self-is ∙ w.in_ok-remove_snapshot.ensures.ok ∙ (λ i. without_snap (c.loop-found.invariant.so_far i) (id i))
            ∙ removed_more t c.facts.ensures.good needed ids p.0 at.0 p.1 at.1 at.2 (shown ∙ w.if-has_to_wait.false)
            ∙ ap (removed_or_deferred t needed) (sym more);
        lost = subst (λ (e : WorkingCopy). HasLost from.to from.freeing e.to e.freeing) (sym w.self-is)
            (lost_then from.to u w.remove_snapshot.new.self.to from.freeing c.loop-found.self.freeing w.remove_snapshot.new.self.freeing c.loop-found.invariant.lost w.in_ok-remove_snapshot.ensures.lost);
        never_lower = omega (arith, w.segments-is, c.loop-found.invariant.never_lower, w.in_ok-remove_snapshot.ensures.never_lower);
      }
    ]

pub returns-clause-ok : goal.returns-clause-ok
returns-clause-ok c =
    c.loop-found.invariant.so_far
    ∙ ap (λ l. removed_or_deferred c.args.table.now (λ u. c.args.defer && is_needed (world_of c.args.table.now) c.args.views.now.opened u) (map (λ (q : Name × Snap). id_of q.1) l))
    (whole_ids c.args.all.now c.loop-found.found-index (omega arith))
