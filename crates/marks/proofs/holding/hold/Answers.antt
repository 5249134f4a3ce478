use Rattle.std.proofs.Common.{sym, ◌∙◌}
use Rattle.std.proofs.lemmas.Result.{on_ok_weaker}
use Rattle.std.specs.Prelude.{is_some}
use Rattle.datasets.specs.Holders.{snap_in_system}
use Rattle.model.specs.Ids.{snap_id}
use Rattle.world.specs.Tables.{tagged_snap}
use Rattle.marks.proofs.Held.{held_is}
use Rattle.marks.proofs.Released.{has_it, only_memory}
use Rattle.marks.proofs.holding.hold.Goals as goal

pub returns-clause-ok : goal.returns-clause-ok
returns-clause-ok c = on_ok_weaker c.set_tags.result
    (λ to. to ∙ (λ i. tagged_snap c.args.table.now (c.id-id.ensures i) (c.in_ok-tags.ensures.ok i))
    ∙ sym (held_is c.args.table.now c.args.target.now c.in-Snapshot.name c.in-Snapshot.is c.in_ok-snapshot.snapshot.now c.in_ok-snapshot.ensures.ok c.args.tag.now))
    c.set_tags.ensures.ok

pub returns-clause-only : goal.returns-clause-only
returns-clause-only c =
    only_memory _ c.set_tags.result (snap_in_system c.args.table.now c.member.result.now.file_system (snap_id c.id-id.result))
    ((λ i. is_some (snap_in_system c.args.table.now (c.member.ensures.value i).file_system (c.id-id.ensures i)))
    ∙ has_it c.args.table.now c.args.target.now c.in-Snapshot.name c.in-Snapshot.is c.in_ok-snapshot.snapshot.now c.in_ok-snapshot.ensures.ok)
    c.set_tags.ensures.no_dataset c.set_tags.ensures.only
