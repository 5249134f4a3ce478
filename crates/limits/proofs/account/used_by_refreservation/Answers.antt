use Rattle.std.proofs.Common.{rules, ◌≡◌, ◌∙◌}
use Rattle.limits.specs.Rows.{unwritten_in}
use Rattle.limits.proofs.Rows.{row_unwritten}
use Rattle.limits.proofs.account.used_by_refreservation.Goals as goal

pub returns-in-Some-clause-value : goal.returns-in-Some-clause-value
returns-in-Some-clause-value c =
    let row : c.saturating_sub.result ≡ unwritten_in c.args.file_system.now = search rules in
    λ t good of. row ∙ row_unwritten t good c.args.file_system.now of
