use Rattle.std.proofs.Common.{ap, sym, ◌∙◌, arith}
use Rattle.std.specs.Option.{option_copied}
use Rattle.lookups.specs.Used.{own_in}
use Rattle.datasets.proofs.Holders.{found_place}
use Rattle.lookups.proofs.Families.{used_parts}
use Rattle.lookups.proofs.space.family.used_by_children.Goals as goal

pub overflow_sub-result : goal.overflow_sub-result
overflow_sub-result c =
    let r = found_place c.args.table.now c.args.name.now c.in-Some.file_system.now (ap (λ x. option_copied x) (sym c.in-Some.is) ∙ c.find.ensures) in
    let p = used_parts c.args.table.now c.facts.ensures.good c.requires.unlimited c.args.name.now c.in-Some.file_system.now.system r.0 in
    let e = ap own_in r.1 in
    omega (arith, p, e, c.used.ensures, c.from-all.ensures, c.used_by_dataset.ensures, c.from.ensures)

pub overflow_sub-result-2 : goal.overflow_sub-result-2
overflow_sub-result-2 c =
    let r = found_place c.args.table.now c.args.name.now c.in-Some.file_system.now (ap (λ x. option_copied x) (sym c.in-Some.is) ∙ c.find.ensures) in
    let p = used_parts c.args.table.now c.facts.ensures.good c.requires.unlimited c.args.name.now c.in-Some.file_system.now.system r.0 in
    let e = ap own_in r.1 in
    omega (arith, p, e, c.used.ensures, c.from-all.ensures, c.used_by_dataset.ensures, c.from.ensures, c.used_by_snapshots.ensures)

pub returns : goal.returns
returns c =
    let r = found_place c.args.table.now c.args.name.now c.in-Some.file_system.now (ap (λ x. option_copied x) (sym c.in-Some.is) ∙ c.find.ensures) in
    let p = used_parts c.args.table.now c.facts.ensures.good c.requires.unlimited c.args.name.now c.in-Some.file_system.now.system r.0 in
    let e = ap own_in r.1 in
    omega (arith, p, e, c.used.ensures, c.from-all.ensures, c.used_by_dataset.ensures, c.from.ensures, c.used_by_snapshots.ensures)
