use Rattle.std.proofs.Common.{ap, sym, ◌∙◌}
use Rattle.std.specs.Prelude.{is_some}
use Rattle.std.specs.List.{find}
use Rattle.base.specs.Names.{same_name}
use Rattle.model.specs.World.{Snap}
use Rattle.marks.proofs.Naming.{any_found, copied_some}
use Rattle.marks.proofs.renaming.has_named.Goals as goal

pub returns : goal.returns
returns c =
    c.is_some.ensures ∙ sym (copied_some c.snapshot_named.result _ c.snapshot_named.ensures)
    ∙ ap (λ n. is_some (find (λ (v : Snap). same_name v.name n) c.args.file_system.now.system.snaps)) c.as_bytes.ensures.value
    ∙ any_found (λ (v : Snap). same_name v.name c.args.to.now) c.args.file_system.now.system.snaps
