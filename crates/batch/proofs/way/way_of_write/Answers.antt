use Rattle.std.proofs.Common.{ℕ, Bool, IfNone, true, subst}
use Rattle.batch.specs.Said.{said, IsOneLeaf}
use Rattle.batch.proofs.way.way_of_write.Goals as goal

pub returns-in_default-2-clause-none : goal.returns-in_default-2-clause-none
returns-in_default-2-clause-none c = λ leaf one.
    let none = subst (λ r. IfNone r ((leaf : ℕ) (writes : Bool) → ¬ (IsOneLeaf (said c.args.updates.now) leaf writes))) c.in_default.is (c.one_leaf.ensures.none c.requires.order) in
    none leaf true one
