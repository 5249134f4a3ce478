use Rattle.std.proofs.Common.{[], ◌∷◌, map, sym, ap, ◌∙◌}
use Rattle.std.specs.List.{filter}
use Rattle.std.specs.FinMap.{entries}
use Rattle.base.specs.declared.name.member.Member.{Member}
use Rattle.model.specs.requests.Snapshot.{named_with}
use Rattle.datasets.specs.Rows.{Row}
use Rattle.world.specs.Tables.{world_of}
use Rattle.datasets.proofs.Children.{names_are}
use Rattle.model.specs.Hierarchy.{is_in_family}
use Rattle.snap.proofs.Rests.{next_left}
use Rattle.snap.proofs.Families.{grows}
use Rattle.snap.proofs.named.expand.Goals as goal
use Rattle.snap.proofs.named.expand.Goals.{then-recursive+in_ok-add_family, else-recursive+in_ok-push}

pub loop-name-preserved : goal.loop-name-preserved
loop-name-preserved c =
    let left = next_left c.args.names.now c.loop-name.name-index c.name-item.result c.loop-name-test.true c.name-item.is in
    elim c.if-recursive.branch [
      | then-recursive+in_ok-add_family w ↦
          grows c.args.table.now c.args.recursive c.name-item.result _ _ left _ _ c.loop-name.invariant c.if-recursive.all.items _ (ap (λ v. v.items) w.all-is ∙ w.in_ok-add_family.ensures.ok)
          ((λ j. map (λ n. record (c.member-member.ensures.value j) { file_system = n }) (filter (is_in_family (c.member-member.ensures.value j).file_system) (map (λ (r : Row). r.name) (w.file_systems.ensures j))))
          ∙ ap (λ ns. map (λ n. record c.name-item.result { file_system = n }) (filter (is_in_family c.name-item.result.file_system) ns))
          (names_are c.args.table.now.file_systems (entries c.args.table.now.file_systems))
          ∙ ap (λ b. named_with (world_of c.args.table.now) b c.name-item.result) (sym w.if-recursive.true))
      | else-recursive+in_ok-push w ↦
          grows c.args.table.now c.args.recursive c.name-item.result _ _ left _ _ c.loop-name.invariant c.if-recursive.all.items _ (ap (λ v. v.items) w.all-is ∙ w.in_ok-push.ensures.items)
          (ap (λ (y : Member). y ∷ []) c.member-member.ensures.value ∙ ap (λ b. named_with (world_of c.args.table.now) b c.name-item.result) (sym w.if-recursive.false))
    ]
