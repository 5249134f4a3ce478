use Rattle.std.proofs.Common.{sym, subst, ◌∙◌}
use Rattle.std.specs.FinMap.{keys}
use Rattle.limits.specs.Changes.{IsLedgerOf}
use Rattle.limits.proofs.ledger.Ledger.settle.Goals as goal

pub settle_lines-requires-clause-own : goal.settle_lines-requires-clause-own
settle_lines-requires-clause-own c =
    (c.requires.own.0, subst (IsLedgerOf c.requires.own.0 (keys c.args.table.now.file_systems)) (sym (c.deref_mut.ensures.value ∙ c.self.view_is)) c.requires.own.1)
