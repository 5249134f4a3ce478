use Rattle.pool.proofs.viewing.follow_close.Goals as goal

pub recount-requires-clause-before : goal.recount-requires-clause-before
recount-requires-clause-before c = c.requires.some c.in-Some.name c.in-Some.is
