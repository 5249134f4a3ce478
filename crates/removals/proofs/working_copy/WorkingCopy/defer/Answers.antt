use Rattle.model.specs.Ids.{snap_id}
use Rattle.datasets.specs.Holders.{snap_in_system}
use Rattle.removals.proofs.Identified.{only_memory}
use Rattle.removals.proofs.working_copy.WorkingCopy.defer.Goals as goal

pub returns-clause-err : goal.returns-clause-err
returns-clause-err c =
    only_memory c.defer.result (snap_in_system c.args.self.now.to c.args.file_system.now (snap_id c.args.id)) c.requires.there c.defer.ensures.no_dataset c.defer.ensures.only
