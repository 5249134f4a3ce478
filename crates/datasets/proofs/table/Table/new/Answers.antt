use Rattle.std.proofs.Common.{◌≡◌, sym, ap, subst, ◌∙◌, arith}
use Rattle.std.specs.FinMap as finmap
use Rattle.std.specs.FinMap.{insert}
use Rattle.base.specs.Names.{root_name}
use Rattle.model.specs.World.{empty_file_system}
use Rattle.world.specs.Worlds.{FileSystems}
use Rattle.datasets.specs.Table.{IsTable}
use Rattle.datasets.proofs.Kept.{first_table}
use Rattle.datasets.proofs.table.Table.new.Goals as goal

-- they are the root alone
pub invariant_of-result : goal.invariant_of-result
invariant_of-result c =
    let made : c.in_ok-systems.systems ≡ insert finmap.empty root_name empty_file_system = c.in_ok-systems.ensures.ok ∙ ap (λ n. insert finmap.empty n empty_file_system) c.in_ok-root_of.ensures.ok in
    subst (λ (ss : FileSystems). IsTable (record { file_systems = ss; group = 1 })) (sym made) (first_table 1 (omega arith))
