use Rattle.session.proofs.shared.Session.open.Goals as goal

pub open-requires-clause-limit : goal.open-requires-clause-limit
open-requires-clause-limit g c = c.requires.limit
