use Rattle.std.proofs.Common.{◌∙◌, sym, ap}
use Rattle.shared_list.specs.Left.{left}
use Rattle.datasets.specs.Dead.{snaps_in}
use Rattle.datasets.specs.Rows.{entry_of}
use Rattle.snap.proofs.Yielded.{yielded_all}
use Rattle.image.proofs.AllRoots.{snapshots_rooted}
use Rattle.image.proofs.roots.push_snapshots.Goals as goal

-- those of all its snapshots
pub returns-clause-ok : goal.returns-clause-ok
returns-clause-ok c =
    let all = yielded_all left c.into_iter-kept-iterator.result c.loop-kept.yielded c.loop-kept.kept-iterator c.loop-kept.yielded_by c.in-None.ensures.steps.0 in
    snapshots_rooted _ _ c.name-name.result.now (entry_of c.args.file_system.now) c.loop-kept.yielded c.name-name.ensures
    (sym c.snapshots.ensures ∙ ap snaps_in (sym c.iter-kept-items.ensures ∙ ap left (sym c.into_iter-kept-iterator.ensures.into_iter_gives) ∙ all)) c.loop-kept.invariant.0
