use Rattle.std.proofs.Common.{sym, subst, ◌∙◌}
use Rattle.model.specs.Hierarchy.{IsHierarchy}
use Rattle.world.specs.Tables.{world_of}
use Rattle.steps.proofs.quotas.Foretold.{ledger_alike}
use Rattle.steps.proofs.limiting.refilled.Goals as goal

pub returns-clause-over : goal.returns-clause-over
returns-clause-over c asked same space =
    c.first_over.ensures asked (subst IsHierarchy (sym same) c.facts.ensures.good.hierarchy) (c.fill.ensures ∙ ledger_alike (world_of c.args.to.now) asked.now (sym same)) space
