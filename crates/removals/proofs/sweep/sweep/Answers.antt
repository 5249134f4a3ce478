use Rattle.std.proofs.Common.{◌+◌, map, drop, sym, ap, ◌∙◌, arith}
use Rattle.datasets.specs.Rows.{entry_in, entry_of}
use Rattle.snap.proofs.Rests.{next_left, none_left}
use Rattle.removals.specs.Families.{without_origin}
use Rattle.snap.proofs.Shared.{shared_are}
use Rattle.removals.proofs.Losses.{lost_none, lost_then}
use Rattle.removals.proofs.Swept.{all_swept, once_here, without_origins}
use Rattle.removals.proofs.sweep.sweep.Goals as goal

pub loop-file_system-init : goal.loop-file_system-init
loop-file_system-init c = record {
  so_far = ap (without_origins c.args.edit.now.to c.args.views.now.opened) (shared_are c.args.table.now.file_systems c.file_systems-file_system-items.result.now c.file_systems-file_system-items.ensures);
  lost = lost_none c.args.edit.now.to c.args.edit.now.freeing c.requires.apart;
  never_lower = omega arith;
}

pub loop-file_system-preserved : goal.loop-file_system-preserved
loop-file_system-preserved c =
    let views = c.args.views.now.opened in
    let left = ap (map entry_in) (next_left c.file_systems-file_system-items.result.now c.loop-file_system.file_system-index c.file_system-item.result c.loop-file_system-test.true c.file_system-item.is) in
    record {
      so_far = ap (λ t. without_origins t views (map entry_in (drop (c.loop-file_system.file_system-index + 1) c.file_systems-file_system-items.result.now)))
          (c.in_ok-remove_unneeded_origin.ensures.ok ∙ ap (λ r. without_origin c.loop-file_system.edit.to views (entry_of r)) c.deref.ensures)
          ∙ ap (without_origins c.loop-file_system.edit.to views) (sym left)
          ∙ c.loop-file_system.invariant.so_far;
      lost = lost_then c.args.edit.now.to c.loop-file_system.edit.to c.remove_unneeded_origin.new.edit.to c.args.edit.now.freeing c.loop-file_system.edit.freeing c.remove_unneeded_origin.new.edit.freeing
          c.loop-file_system.invariant.lost c.in_ok-remove_unneeded_origin.ensures.lost;
      never_lower = omega (arith, c.loop-file_system.invariant.never_lower, c.in_ok-remove_unneeded_origin.ensures.never_lower);
    }

pub returns-clause-ok : goal.returns-clause-ok
returns-clause-ok c =
    ap (λ l. without_origins c.loop-file_system.edit.to c.args.views.now.opened (map entry_in l)) (sym (none_left c.file_systems-file_system-items.result.now c.loop-file_system.file_system-index (omega arith)))
    ∙ c.loop-file_system.invariant.so_far
    ∙ all_swept c.args.table.now c.args.edit.now.to c.requires.part c.args.views.now.opened c.requires.swept (once_here c.args.edit.now.to c.facts.ensures.good)
