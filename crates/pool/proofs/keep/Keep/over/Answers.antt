use Rattle.std.proofs.Common.{sym, subst, ◌∙◌}
use Rattle.steps.specs.Limiting.{IsOver}
use Rattle.pool.proofs.Limited.{waiting_counted}
use Rattle.pool.proofs.keep.Keep.over.Goals as goal

pub returns-clause-over : goal.returns-clause-over
returns-clause-over c s sound size bare =
    subst (λ n. IsOver s c.args.world.now.table n c.over.result) (c.space-space.ensures.freeing ∙ c.len.ensures)
    (c.over.ensures.over s bare (c.space-space.ensures.size ∙ sym size) (c.space-space.ensures.waiting ∙ waiting_counted s c.args.self.now.numbers.present sound))
