use Rattle.std.proofs.Common.{◌≡◌, sym, ap, subst, ◌∙◌}
use Rattle.std.specs.Prelude.{OnOk}
use Rattle.world.specs.Tables.{Datasets, CanRemoveFileSystem, without_system}
use Rattle.removals.specs.Requests.{without_family}
use Rattle.removals.proofs.SystemsGone.{one_gone}
use Rattle.removals.proofs.family.remove_file_systems.Goals as goal

pub remove_file_system-requires-clause-can : goal.remove_file_system-requires-clause-can
remove_file_system-requires-clause-can c = subst (λ t. CanRemoveFileSystem t c.args.name.now) (sym c.requires.same) (c.requires.can c.if-recursive.false)

pub returns-clause-ok : goal.returns-clause-ok
returns-clause-ok c =
    subst (λ (v : Datasets). OnOk c.remove_file_system.result (c.remove_file_system.new.table ≡ v))
    (ap (λ t. without_system t c.args.name.now) c.requires.same ∙ one_gone c.args.table.now c.args.name.now
    ∙ ap (without_family c.args.table.now c.args.name.now) (sym c.if-recursive.false))
    c.remove_file_system.ensures.ok
