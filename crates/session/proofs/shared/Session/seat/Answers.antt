use Rattle.session.proofs.shared.Session.seat.Goals as goal

pub returns-clause-refusal : goal.returns-clause-refusal
returns-clause-refusal g c = c.give_seat.ensures.refusal
