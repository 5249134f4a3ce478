use Rattle.std.proofs.Common.{subst}
use Rattle.steps.specs.Limiting.{CanSettle}
use Rattle.steps.proofs.limiting.settle.Goals as goal

pub settle_kept-requires-clause-before : goal.settle_kept-requires-clause-before
settle_kept-requires-clause-before c =
    let b = c.requires.before in
    (b.0, subst (λ l. CanSettle b.0 c.args.table.now c.args.name.now l c.args.outlook) c.in-Some.is b.1)
