use Rattle.file_system.proofs.file_system.young_from.Goals as goal

pub returns : goal.returns
returns c = c.max.ensures
