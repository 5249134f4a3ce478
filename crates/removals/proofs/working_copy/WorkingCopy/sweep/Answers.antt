use Rattle.std.proofs.Common.{◌+◌, ◌∷◌, map, drop, get_or, sym, ap, refl, ◌∙◌, add-one, arith}
use Rattle.std.proofs.Math.Seq.{drop-cons}
use Rattle.model.specs.declared.snapshot_id.SnapshotId.{SnapshotId}
use Rattle.model.specs.Ids.{snap_id}
use Rattle.snap.proofs.Rests.{none_left}
use Rattle.removals.proofs.Losses.{lost_none, lost_then}
use Rattle.removals.proofs.Swept.{each_swept, once_here, without_each}
use Rattle.removals.proofs.working_copy.WorkingCopy.sweep.Goals as goal

abbrev no_id : SnapshotId
no_id = record { group = record { 0 = 0 }; guid = record { 0 = 0 } }

pub loop-id-init : goal.loop-id-init
loop-id-init c = record { so_far = refl; lost = lost_none c.args.self.now.to c.args.self.now.freeing c.requires.apart; never_lower = omega arith }

pub loop-id-preserved : goal.loop-id-preserved
loop-id-preserved c =
    let views = c.args.views.now.opened in
    record {
      so_far = ap (λ t. without_each t views (map snap_id (drop (c.loop-id.id-index + 1) c.args.ids.now))) c.in_ok-lose_unneeded.ensures.ok
          ∙ ap (λ l. without_each c.loop-id.self.to views (map snap_id l)) (sym (drop-cons c.args.ids.now c.loop-id.id-index no_id c.loop-id-test.true ∙ ap (λ n. get_or c.args.ids.now c.loop-id.id-index no_id ∷ drop n c.args.ids.now) (sym (add-one c.loop-id.id-index))))
          ∙ c.loop-id.invariant.so_far;
      lost = lost_then c.args.self.now.to c.loop-id.self.to c.lose_unneeded.new.edit.to c.args.self.now.freeing c.loop-id.self.freeing c.lose_unneeded.new.edit.freeing c.loop-id.invariant.lost c.in_ok-lose_unneeded.ensures.lost;
      never_lower = omega (arith, c.loop-id.invariant.never_lower, c.in_ok-lose_unneeded.ensures.never_lower);
    }

pub returns-clause-ok : goal.returns-clause-ok
returns-clause-ok c =
    ap (λ l. without_each c.loop-id.self.to c.args.views.now.opened (map snap_id l)) (sym (none_left c.args.ids.now c.loop-id.id-index (omega arith)))
    ∙ c.loop-id.invariant.so_far
    ∙ each_swept c.args.self.now.to (once_here c.args.self.now.to c.facts.ensures.good) c.args.views.now.opened (map snap_id c.args.ids.now) c.requires.swept
