use Rattle.std.proofs.Common.{sym, ap, ◌∙◌}
use Rattle.deadlist.specs.Left.{left}
use Rattle.file_system.proofs.Alones.{entries_all}
use Rattle.file_system.proofs.alone.entries_of.Goals as goal

pub returns-clause-ok : goal.returns-clause-ok
returns-clause-ok c =
    let all = entries_all left c.into_iter-dead-iterator.result c.loop-dead.yielded c.loop-dead.dead-iterator c.loop-dead.yielded_by c.in-None.ensures.steps.0 in
    c.loop-dead.invariant ∙ sym (sym c.iter-dead-items.ensures.entries ∙ ap left (sym c.into_iter-dead-iterator.ensures.into_iter_gives) ∙ all)
