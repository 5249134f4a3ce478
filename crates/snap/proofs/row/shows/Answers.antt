use Rattle.snap.proofs.row.shows.Goals as goal

-- both parts are compared
pub returns : goal.returns
returns c = c.eq.ensures
