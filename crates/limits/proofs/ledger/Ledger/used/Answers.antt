use Rattle.std.proofs.Common.{sym, ap, subst, ◌∙◌}
use Rattle.std.specs.Prelude.{IsSome}
use Rattle.std.specs.FinMap.{get}
use Rattle.model.specs.Sums.{used_of}
use Rattle.world.specs.Tables.{world_of}
use Rattle.limits.proofs.Rooms.{line_found, used_is}
use Rattle.limits.proofs.ledger.Ledger.used.Goals as goal

pub returns-clause-value : goal.returns-clause-value
returns-clause-value c =
    let f = line_found c.args.table.now c.as_bytes.result.now c.line.result.now
    (subst (λ n. IsSome (get c.args.table.now.file_systems n)) (sym c.as_bytes.ensures.value) c.requires.there) c.line.ensures.value in
    c.used.ensures ∙ used_is c.args.table.now c.as_bytes.result.now f.0 c.line.result.now f.2 ∙ ap (used_of (world_of c.args.table.now)) c.as_bytes.ensures.value
