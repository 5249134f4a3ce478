use Rattle.std.proofs.Common.{sym, subst}
use Rattle.layers_tests.proofs.Young.{AreAfter, none_young}
use Rattle.layers_tests.proofs.slices.Work.new.Goals as goal

pub invariant_of-result : goal.invariant_of-result
invariant_of-result c = record { young = subst (AreAfter 18446744073709551615) (sym c.new.ensures) (none_young 18446744073709551615) }
