use Rattle.session.proofs.shared.Session.run_destroyer.Goals as goal

pub returns : goal.returns
returns g c = c.run_work.ensures
