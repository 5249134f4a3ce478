use Rattle.std.proofs.Common.{sym, subst, ◌∙◌, List, Option}
use Rattle.std.specs.Arc.{arc_value}
use Rattle.snapshots.specs.declared.kept.Kept.{Kept}
use Rattle.snapshots.specs.Index.{IsIndex}
use Rattle.snapshots.proofs.Indexes.{index_behind, index_before, not_err}
use Rattle.snapshots.proofs.snapshot_list.index.Goals as goal

pub returns-else-is_err-clause-behind : goal.returns-else-is_err-clause-behind
returns-else-is_err-clause-behind c = λ ks own.
    index_behind c.in-Some.index c.insert.new.self ks (arc_value c.args.kept) (subst (λ (o : Option (List Kept)). IsIndex o ks) c.in-Some.is own)
    (not_err c.insert.result c.insert.ensures.ok (sym c.is_err.ensures.value ∙ c.if-is_err.false))

pub returns-else-is_err-clause-before : goal.returns-else-is_err-clause-before
returns-else-is_err-clause-before c = λ ks none own.
    index_before c.in-Some.index c.insert.new.self ks (arc_value c.args.kept) (subst (λ (o : Option (List Kept)). IsIndex o ks) c.in-Some.is own) none
    (not_err c.insert.result c.insert.ensures.ok (sym c.is_err.ensures.value ∙ c.if-is_err.false))
