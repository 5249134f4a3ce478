use Rattle.std.proofs.Common.{sym, ◌∙◌}
use Rattle.zalloc.proofs.Words.{all_ones}
use Rattle.zalloc.proofs.bits.even.Goals as goal

pub returns-then-full-clause-bits : goal.returns-then-full-clause-bits
returns-then-full-clause-bits c = λ i p. all_ones i p ∙ sym c.if-full.true
