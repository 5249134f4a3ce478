use Rattle.std.proofs.Common.{ap, ◌∙◌}
use Rattle.std.specs.Prelude.{is_some}
use Rattle.std.specs.List.{find}
use Rattle.base.specs.Names.{same_name}
use Rattle.model.specs.World.{Snap}
use Rattle.snap.proofs.Promoted.{copied_some, is_found}
use Rattle.snap.proofs.clones.promotion.is_taken.Goals as goal

pub returns : goal.returns
returns c =
    c.is_some.ensures
    ∙ copied_some c.snapshot_named.result
    ∙ ap (λ x. is_some x) c.snapshot_named.ensures
    ∙ ap (λ n. is_some (find (λ (u : Snap). same_name u.name n) c.args.file_system.now.system.snaps)) c.as_bytes.ensures.value
    ∙ is_found (λ (u : Snap). same_name u.name c.args.component.now) c.args.file_system.now.system.snaps
