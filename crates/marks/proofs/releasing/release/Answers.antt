use Rattle.std.proofs.Common.{sym, ap, ◌∙◌}
use Rattle.std.proofs.lemmas.Result.{on_ok_weaker}
use Rattle.std.specs.Prelude.{is_some}
use Rattle.datasets.specs.Holders.{snap_in_system}
use Rattle.model.specs.Ids.{snap_id}
use Rattle.world.specs.Tables.{tagged_snap, without_snap}
use Rattle.marks.proofs.Released.{has_it, only_memory, stays, stays_lost, goes}
use Rattle.marks.proofs.releasing.release.Goals as goal

pub lose-requires-clause-there : goal.lose-requires-clause-there
lose-requires-clause-there c =
    (λ i. is_some (snap_in_system c.args.table.now (c.member.ensures.value i).file_system (c.id-id.ensures i)))
    ∙ has_it c.args.table.now c.args.target.now c.in-Snapshot.name c.in-Snapshot.is c.in_ok-snapshot.snapshot.now c.in_ok-snapshot.ensures.ok

pub returns-then-is_due-clause-ok : goal.returns-then-is_due-clause-ok
returns-then-is_due-clause-ok c =
    goes c.args.table.now c.args.target.now c.in-Snapshot.name c.in-Snapshot.is c.in_ok-snapshot.snapshot.now c.in_ok-snapshot.ensures.ok c.args.tag.now c.in_ok-tags.tags c.in_ok-tags.ensures.ok
    c.facts.ensures.good c.args.views.now.opened c.requires.swept
    c.lose.result (sym c.is_due_with-is_due.ensures ∙ c.if-is_due.true) c.lose.new.table
    (on_ok_weaker c.lose.result (λ to. to ∙ ap (without_snap c.args.table.now) c.id-id.ensures) c.lose.ensures.ok)

pub returns-clause-ok : goal.returns-clause-ok
returns-clause-ok c =
    stays c.args.table.now c.args.target.now c.in-Snapshot.name c.in-Snapshot.is c.in_ok-snapshot.snapshot.now c.in_ok-snapshot.ensures.ok c.args.tag.now c.in_ok-tags.tags c.in_ok-tags.ensures.ok
    c.facts.ensures.good c.args.views.now.opened c.requires.swept
    c.set_tags.result (sym c.is_due_with-is_due.ensures ∙ c.if-is_due.false) c.set_tags.new.self
    (on_ok_weaker c.set_tags.result (λ to. to ∙ (λ i. tagged_snap c.args.table.now (c.id-id.ensures i) (c.in_ok-tags-2.ensures.ok i))) c.set_tags.ensures.ok)

pub returns-clause-lost : goal.returns-clause-lost
returns-clause-lost c =
    stays_lost c.args.table.now c.args.target.now c.in-Snapshot.name c.in-Snapshot.is c.in_ok-snapshot.snapshot.now c.in_ok-snapshot.ensures.ok c.args.tag.now c.in_ok-tags.tags c.in_ok-tags.ensures.ok
    c.set_tags.result c.args.freeing.now c.requires.apart c.set_tags.new.self
    (on_ok_weaker c.set_tags.result (λ to. to ∙ (λ i. tagged_snap c.args.table.now (c.id-id.ensures i) (c.in_ok-tags-2.ensures.ok i))) c.set_tags.ensures.ok)

pub returns-clause-only : goal.returns-clause-only
returns-clause-only c =
    only_memory _ c.set_tags.result (snap_in_system c.args.table.now c.member.result.now.file_system (snap_id c.id-id.result))
    ((λ i. is_some (snap_in_system c.args.table.now (c.member.ensures.value i).file_system (c.id-id.ensures i)))
    ∙ has_it c.args.table.now c.args.target.now c.in-Snapshot.name c.in-Snapshot.is c.in_ok-snapshot.snapshot.now c.in_ok-snapshot.ensures.ok)
    c.set_tags.ensures.no_dataset c.set_tags.ensures.only
