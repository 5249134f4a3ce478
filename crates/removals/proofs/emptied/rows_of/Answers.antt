use Rattle.std.proofs.Common.{◌++◌, Bor, map, ap, ◌∙◌}
use Rattle.std.specs.List.{filter}
use Rattle.datasets.specs.Rows.{Row, Entry, entry_in, entry_of}
use Rattle.model.specs.Hierarchy.{is_in_family}
use Rattle.snap.proofs.Shared.{shared_are}
use Rattle.removals.proofs.emptied.rows_of.Goals as goal

pub loop-file_system-init : goal.loop-file_system-init
loop-file_system-init c =
    ap (λ l. map (λ (x : Bor Row). entry_of x.now) l ++ filter (λ (r : Entry). is_in_family c.args.name.now r.0) (map entry_in c.file_systems-file_system-items.result.now)) c.new-rows.ensures.items
    ∙ ap (filter (λ (r : Entry). is_in_family c.args.name.now r.0)) (shared_are c.args.table.now.file_systems c.file_systems-file_system-items.result.now c.file_systems-file_system-items.ensures)
