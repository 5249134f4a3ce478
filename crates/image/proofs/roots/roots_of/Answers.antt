use Rattle.std.proofs.Common.{map, ap, ◌∙◌, arith}
use Rattle.std.specs.List.{flat_map}
use Rattle.std.proofs.lemmas.List.{take_all}
use Rattle.datasets.specs.Rows.{entry_in}
use Rattle.snap.proofs.Shared.{shared_are}
use Rattle.image.specs.Roots.{own_roots}
use Rattle.image.proofs.roots.roots_of.Goals as goal

-- those of all file systems
pub returns-clause-ok : goal.returns-clause-ok
returns-clause-ok c =
    let all = c.file_systems-file_systems.result.now in
    c.loop-file_system.invariant.0
    ∙ ap (λ xs. flat_map own_roots (map entry_in xs)) (take_all c.loop-file_system.file_system-index all (omega (arith, c.loop-file_system-test.false)))
    ∙ ap (flat_map own_roots) (shared_are c.args.table.now.file_systems all c.file_systems-file_systems.ensures)
