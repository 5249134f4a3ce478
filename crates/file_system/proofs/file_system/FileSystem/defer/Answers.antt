use Rattle.file_system.proofs.file_system.FileSystem.defer.Goals as goal

pub returns-clause-ok : goal.returns-clause-ok
returns-clause-ok c = c.edit.ensures.ok
