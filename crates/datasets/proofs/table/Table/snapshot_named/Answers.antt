use Rattle.std.proofs.Common.{◌≡◌, Some, sym, ap, subst, ◌∙◌}
use Rattle.std.specs.List.{find}
use Rattle.std.specs.Option.{option_copied}
use Rattle.base.specs.Names.{same_name}
use Rattle.base.specs.declared.name.member.Member.{Member}
use Rattle.model.specs.World.{Snap}
use Rattle.world.specs.Tables.{Datasets}
use Rattle.datasets.specs.Holders.{snapshot_place}
use Rattle.datasets.proofs.Holders.{placed}
use Rattle.datasets.proofs.table.Table.snapshot_named.Goals as goal

pub returns-clause-place : goal.returns-clause-place
returns-clause-place c =
    let t : Datasets = record { file_systems = c.self.inside.systems; group = c.self.inside.group.0 } in
    let m : Member = record { file_system = c.args.file_system.now; component = c.args.component.now } in
    subst (λ (t : Datasets). Some (c.in_ok-file_system.file_system.now, c.in_ok-snapshot.snapshot.now) ≡ snapshot_place t m) c.self.view_is
    (placed t m c.in_ok-file_system.file_system.now c.in_ok-snapshot.snapshot.now
    (ap (λ x. option_copied x) (sym c.in_ok-file_system.was) ∙ c.find.ensures)
    (ap (λ x. option_copied x) (sym c.in_ok-snapshot.was) ∙ c.snapshot_named.ensures
    ∙ ap (λ n. find (λ (v : Snap). same_name v.name n) c.in_ok-file_system.file_system.now.system.snaps) c.as_bytes.ensures.value))
