use Rattle.std.proofs.Common.{map, ◌∙◌, arith}
use Rattle.std.specs.Arc.{arc_value}
use Rattle.lookups.proofs.Families.{all_own, family_uses, within_less}
use Rattle.lookups.proofs.space.family.used.Goals as goal

pub own_together-requires : goal.own_together-requires
own_together-requires c =
    let e = all_own c.args.table.now c.facts.ensures.good (map arc_value c.file_systems.result.now) c.file_systems.ensures in
    omega (arith, e, c.requires.few)

pub overflow_cast-result : goal.overflow_cast-result
overflow_cast-result c =
    let e = all_own c.args.table.now c.facts.ensures.good (map arc_value c.file_systems.result.now) c.file_systems.ensures in
    let l = within_less c.args.name.now (map arc_value c.file_systems.result.now) in
    omega (arith, e, l, c.own_together.ensures, c.requires.few)

pub returns : goal.returns
returns c =
    c.own_together.ensures
    ∙ family_uses c.args.table.now c.facts.ensures.good (map arc_value c.file_systems.result.now) c.file_systems.ensures c.requires.unlimited c.args.name.now c.requires.there
