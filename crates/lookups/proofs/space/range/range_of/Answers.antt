use Rattle.std.proofs.Common.{refl, sym, ap, ◌∙◌}
use Rattle.std.specs.Option.{option_map, option_copied}
use Rattle.datasets.specs.Table.{IsTable}
use Rattle.datasets.proofs.Holders.{found_place}
use Rattle.datasets.proofs.Removed.{are_above}
use Rattle.lookups.proofs.Ranges.{is_cloned_there, is_range}
use Rattle.lookups.proofs.space.range.range_of.Goals as goal

-- snapshots rise
pub look_around-around-requires-clause-rising : goal.look_around-around-requires-clause-rising
look_around-around-requires-clause-rising c =
    let sound : IsTable c.args.table.now = record { systems = c.facts.ensures.good; numbers = c.facts.ensures.numbers } in
    let p = found_place c.args.table.now c.args.name.now c.in-Some.file_system.now (ap (λ x. option_copied x) (sym c.in-Some.is) ∙ c.find.ensures) in
    (are_above c.args.table.now sound c.args.name.now c.in-Some.file_system.now.system p.0).rising

pub returns-then-around-clause-refused : goal.returns-then-around-clause-refused
returns-then-around-clause-refused c =
    let p = found_place c.args.table.now c.args.name.now c.in-Some.file_system.now (ap (λ x. option_copied x) (sym c.in-Some.is) ∙ c.find.ensures) in
    is_cloned_there c.args.table.now c.args.name.now c.args.first.now c.args.last.now c.in-Some.file_system.now.system p.0 c.in-Some-group_of.first.0 c.in-Some-group_of-2.last.0
    (ap (option_map (λ g. g.0)) (sym c.in-Some-group_of.is) ∙ c.group_of.ensures) (ap (option_map (λ g. g.0)) (sym c.in-Some-group_of-2.is) ∙ c.group_of-2.ensures)
    c.if-last-first.false (sym c.look_around-around.ensures.cloned ∙ c.if-around.true)

pub returns-clause-ok : goal.returns-clause-ok
returns-clause-ok c =
    let p = found_place c.args.table.now c.args.name.now c.in-Some.file_system.now (ap (λ x. option_copied x) (sym c.in-Some.is) ∙ c.find.ensures) in
    is_range c.args.table.now c.args.name.now c.args.first.now c.args.last.now c.in-Some.file_system.now.system p.0 c.in-Some-group_of.first.0 c.in-Some-group_of-2.last.0
    (ap (option_map (λ g. g.0)) (sym c.in-Some-group_of.is) ∙ c.group_of.ensures) (ap (option_map (λ g. g.0)) (sym c.in-Some-group_of-2.is) ∙ c.group_of-2.ensures)
    c.if-last-first.false c.in-Some.file_system.now p.1 refl (sym c.look_around-around.ensures.cloned ∙ c.if-around.false)
