use Rattle.std.proofs.Common.{sym, subst, arith}
use Rattle.std.specs.Prelude.{IsSome}
use Rattle.std.specs.FinMap.{get}
use Rattle.limits.proofs.Rooms.{few_slashes}
use Rattle.limits.proofs.ledger.Ledger.room.Goals as goal

pub returns-clause-small : goal.returns-clause-small
returns-clause-small c =
    let f = few_slashes c.args.table.now c.facts.ensures.good.hierarchy c.as_bytes.result.now (subst (λ n. IsSome (get c.args.table.now.file_systems n)) (sym c.as_bytes.ensures.value) c.requires.there) in
    omega (arith, f, c.room_at.ensures.most)
