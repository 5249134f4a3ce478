use Rattle.std.proofs.Common.{Some, ap, sym, subst, ◌∙◌}
use Rattle.std.specs.Prelude.{remove}
use Rattle.snapshots.specs.Index.{IsIndex, AreNamesOnce}
use Rattle.snapshots.proofs.Splices.{index_has}
use Rattle.snapshots.proofs.snapshot_list.SnapshotList.remove.Goals as goal

-- its name is in the index
pub forget-requires : goal.forget-requires
forget-requires c = index_has c.self.inside.by_name c.self.inside.kept c.args.place c.as_bytes.result.now c.self.invariant (c.in_ok-name.ensures.ok ∙ ap Some (sym c.as_bytes.ensures.value))

-- the index is one of what is left
pub invariant_of-self-2 : goal.invariant_of-self-2
invariant_of-self-2 c =
    subst (IsIndex c.forget.new.by_name) (sym c.in_ok-remove.ensures.ok)
    (c.forget.ensures c.self.inside.kept c.args.place (c.in_ok-name.ensures.ok ∙ ap Some (sym c.as_bytes.ensures.value)) (subst AreNamesOnce (sym c.self.view_is) c.requires.once) c.self.invariant)

pub returns-clause-ok : goal.returns-clause-ok
returns-clause-ok c = c.in_ok-remove.ensures.ok ∙ ap (λ l. remove l c.args.place) c.self.view_is
