use Rattle.std.proofs.Common.{◌∙◌, sym, subst, List, Option}
use Rattle.snapshots.specs.declared.kept.Kept.{Kept}
use Rattle.snapshots.specs.Index.{IsIndex}
use Rattle.snapshots.proofs.Indexes.{not_err}
use Rattle.snapshots.proofs.Splices.{forgotten}
use Rattle.snapshots.proofs.snapshot_list.forget.Goals as goal

-- no name finds it any more
pub returns-else-is_err : goal.returns-else-is_err
returns-else-is_err c = λ ks place at once own.
    forgotten c.in-Some.index c.remove.new.self ks place c.args.name.now (subst (λ (o : Option (List Kept)). IsIndex o ks) c.in-Some.is own) once at
    (not_err c.remove.result c.remove.ensures.ok (sym c.is_err.ensures.value ∙ c.if-is_err.false))
