use Rattle.std.proofs.Common.{ap, ◌∙◌, arith}
use Rattle.snapshots.specs.Marks.{Marks, alone}
use Rattle.model.specs.Properties.{bookmarks_in_order}
use Rattle.datasets.specs.Rows.{entry_of}
use Rattle.lookups.proofs.Yielded.{bookmarks_are}
use Rattle.lookups.proofs.names.push_bookmarks.Goals as goal

-- those of all its bookmarks
pub returns-clause-ok : goal.returns-clause-ok
returns-clause-ok c =
    bookmarks_are c.args.names.now.items _ c.as_bytes-name.result.now (entry_of c.args.file_system.now) c.loop-mark.mark-index c.as_slice-mark-items.result.now c.in_ok-marks.marks.items
    (omega arith) c.as_slice-mark-items.ensures.value (c.as_bytes-name.ensures.value ∙ c.name.ensures)
    (c.in_ok-marks.ensures.names ∙ ap (λ (m : Marks). bookmarks_in_order (alone m)) c.bookmarks.ensures) c.loop-mark.invariant
