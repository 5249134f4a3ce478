use Rattle.std.proofs.Common.{◌+◌, sym, ap, ◌∙◌}
use Rattle.std.specs.FinSet.{len}
use Rattle.base.specs.Map.{blocks}
use Rattle.datasets.proofs.Accounts.{count_is}
use Rattle.limits.proofs.Rows.{row_account}
use Rattle.limits.proofs.account.account_of.Goals as goal

pub returns-clause-row : goal.returns-clause-row
returns-clause-row c = λ i. record {
  here = (c.from.ensures ∙ c.used_by_dataset.ensures) i + c.used_by_snapshots.ensures i + c.used_by_refreservation.ensures.row i;
  referenced = (c.from-2.ensures ∙ c.node_count.ensures.count ∙ sym (count_is c.live.result.now c.node_count.ensures.unique) ∙ ap (λ m. len (blocks m)) c.live.ensures) i;
  limits = c.limits-limits.ensures i;
}

pub returns-clause-value : goal.returns-clause-value
returns-clause-value c = λ t good of. returns-clause-row c ∙ row_account t good c.args.file_system.now of
