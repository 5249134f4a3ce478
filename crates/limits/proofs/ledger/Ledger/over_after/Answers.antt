use Rattle.std.proofs.Common.{true, false, sym, ◌∙◌}
use Rattle.limits.proofs.Asking.{told_room}
use Rattle.limits.proofs.ledger.Ledger.over_after.Goals as goal

pub returns-in-Ok : goal.returns-in-Ok
returns-in-Ok c = λ s ch met of.
    sym (told_room s c.args.space of c.in-Ok.charge (c.in-Ok.ensures.ok s.now ch met) true (sym c.if-has_room.true ∙ c.has_room.ensures))

pub returns-in-Ok-2 : goal.returns-in-Ok-2
returns-in-Ok-2 c = λ s ch met of.
    sym (told_room s c.args.space of c.in-Ok.charge (c.in-Ok.ensures.ok s.now ch met) false (sym c.if-has_room.false ∙ c.has_room.ensures))
