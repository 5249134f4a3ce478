use Rattle.std.proofs.Common.{ap, sym, ◌∙◌, length}
use Rattle.std.proofs.lemmas.List.{length-map}
use Rattle.std.specs.FinMap.{len}
use Rattle.file_system.specs.Rows.{entry_in}
use Rattle.datasets.proofs.Rows.{len_is}
use Rattle.datasets.proofs.file_systems.FileSystems.len.Goals as goal

-- as many as the map has
pub returns : goal.returns
returns c =
    ap length c.deref-rows.ensures.value
    ∙ sym (length-map c.self.inside.rows.items entry_in)
    ∙ sym (len_is _ c.self.invariant.sorted)
    ∙ ap len c.self.view_is
