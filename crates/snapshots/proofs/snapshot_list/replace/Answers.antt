use Rattle.std.proofs.Common.{◌∙◌, sym, subst, List, Option}
use Rattle.std.specs.Arc.{arc_value}
use Rattle.snapshots.specs.declared.kept.Kept.{Kept}
use Rattle.snapshots.specs.Index.{IsIndex}
use Rattle.snapshots.proofs.Indexes.{not_err}
use Rattle.snapshots.proofs.Splices.{replaced}
use Rattle.snapshots.proofs.snapshot_list.replace.Goals as goal

-- its name finds it
pub returns-else-is_err : goal.returns-else-is_err
returns-else-is_err c = λ ks place at once own.
    replaced c.in-Some.index c.set.new.self ks place (arc_value c.args.kept) (subst (λ (o : Option (List Kept)). IsIndex o ks) c.in-Some.is own) once at
    (not_err c.set.result c.set.ensures.ok (sym c.is_err.ensures.value ∙ c.if-is_err.false))
