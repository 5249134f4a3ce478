use Rattle.std.proofs.Common.{ap, ◌∙◌}
use Rattle.std.specs.Option.{option_map}
use Rattle.model.specs.Ids.{snap_id}
use Rattle.datasets.specs.CloneNames.{CloneSet, without_origin}
use Rattle.datasets.proofs.clones.CloneIndex.leave.Goals as goal

pub returns : goal.returns
returns c = c.leave_from.ensures.set ∙ ap (λ (s : CloneSet). without_origin s c.args.name.now (option_map snap_id c.args.origin)) c.self.view_is
