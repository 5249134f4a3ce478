use Rattle.std.proofs.Common.{Some, sym, ap, subst, ◌+◌, ◌∙◌, arith}
use Rattle.std.specs.Prelude.{◌-◌}
use Rattle.std.specs.Option.{option_map, option_copied}
use Rattle.model.specs.Ids.{snap_id}
use Rattle.datasets.specs.Table.{IsTable}
use Rattle.lookups.specs.Places.{dataset_at}
use Rattle.lookups.specs.Since.{HasReached}
use Rattle.lookups.proofs.Places.{snapshot_is, snapshot_home, dataset_is, if_nothing, sum_is, low, answer_is, none_refuses}
use Rattle.lookups.proofs.space.since.written_since.Goals as goal

pub gone_since-requires-clause-place : goal.gone_since-requires-clause-place
gone_since-requires-clause-place c =
    (dataset_is c.args.table.now c.args.target.now c.in-Some.file_system.now (option_copied c.in-Some.dataset)
    (ap (option_map (λ p. (p.0.now, option_copied p.1))) (sym c.in-Some.is) ∙ c.dataset_named.ensures)).0

pub gone_since-requires-clause-home : goal.gone_since-requires-clause-home
gone_since-requires-clause-home c =
    snapshot_home c.args.table.now c.args.since.now c.in-Some-snapshot_named.owner.now c.in-Some-snapshot_named.snapshot.now
    (snapshot_is c.args.table.now c.args.since.now c.in-Some-snapshot_named.owner.now c.in-Some-snapshot_named.snapshot.now
    (ap (option_map (λ p. (p.0.now, p.1.now))) (sym c.in-Some-snapshot_named.is) ∙ c.snapshot_named.ensures.place))
    c.name.result.now c.name.ensures (snap_id c.id-id.result) c.id-id.ensures

pub overflow_add-result : goal.overflow_add-result
overflow_add-result c =
    let sound : IsTable c.args.table.now = record { systems = c.facts.ensures.good; numbers = c.facts.ensures.numbers } in
    let s = sum_is c.args.table.now sound c.args.target.now c.args.since.now c.in-Some.file_system.now (option_copied c.in-Some.dataset)
    (ap (option_map (λ p. (p.0.now, option_copied p.1))) (sym c.in-Some.is) ∙ c.dataset_named.ensures)
    c.in-Some-snapshot_named.owner.now c.in-Some-snapshot_named.snapshot.now (ap (option_map (λ p. (p.0.now, p.1.now))) (sym c.in-Some-snapshot_named.is) ∙ c.snapshot_named.ensures.place)
    (snap_id c.id-id.result) c.id-id.ensures c.in-Some-gone_since.gone c.in-Some-gone_since.ensures.some
    c.count_of-count.result c.count_of-since.result c.count_of-count.ensures c.count_of-since.ensures c.count_of-since.type_inv in
    let l = low c.args.table.now sound c.args.target.now c.args.since.now c.in-Some.file_system.now (option_copied c.in-Some.dataset)
    (ap (option_map (λ p. (p.0.now, option_copied p.1))) (sym c.in-Some.is) ∙ c.dataset_named.ensures)
    c.in-Some-snapshot_named.owner.now c.in-Some-snapshot_named.snapshot.now (ap (option_map (λ p. (p.0.now, p.1.now))) (sym c.in-Some-snapshot_named.is) ∙ c.snapshot_named.ensures.place)
    (snap_id c.id-id.result) c.id-id.ensures c.in-Some-gone_since.gone c.in-Some-gone_since.ensures.some
    c.count_of-count.result c.count_of-since.result c.count_of-count.ensures c.count_of-since.ensures c.count_of-since.type_inv in
    omega (arith, s, l, c.from.ensures, c.count_of-since.type_inv, c.count_of-count.type_inv)

pub overflow_sub-result : goal.overflow_sub-result
overflow_sub-result c =
    let sound : IsTable c.args.table.now = record { systems = c.facts.ensures.good; numbers = c.facts.ensures.numbers } in
    let s = sum_is c.args.table.now sound c.args.target.now c.args.since.now c.in-Some.file_system.now (option_copied c.in-Some.dataset)
    (ap (option_map (λ p. (p.0.now, option_copied p.1))) (sym c.in-Some.is) ∙ c.dataset_named.ensures)
    c.in-Some-snapshot_named.owner.now c.in-Some-snapshot_named.snapshot.now (ap (option_map (λ p. (p.0.now, p.1.now))) (sym c.in-Some-snapshot_named.is) ∙ c.snapshot_named.ensures.place)
    (snap_id c.id-id.result) c.id-id.ensures c.in-Some-gone_since.gone c.in-Some-gone_since.ensures.some
    c.count_of-count.result c.count_of-since.result c.count_of-count.ensures c.count_of-since.ensures c.count_of-since.type_inv in
    let l = low c.args.table.now sound c.args.target.now c.args.since.now c.in-Some.file_system.now (option_copied c.in-Some.dataset)
    (ap (option_map (λ p. (p.0.now, option_copied p.1))) (sym c.in-Some.is) ∙ c.dataset_named.ensures)
    c.in-Some-snapshot_named.owner.now c.in-Some-snapshot_named.snapshot.now (ap (option_map (λ p. (p.0.now, p.1.now))) (sym c.in-Some-snapshot_named.is) ∙ c.snapshot_named.ensures.place)
    (snap_id c.id-id.result) c.id-id.ensures c.in-Some-gone_since.gone c.in-Some-gone_since.ensures.some
    c.count_of-count.result c.count_of-since.result c.count_of-count.ensures c.count_of-since.ensures c.count_of-since.type_inv in
    omega (arith, s, l, c.from.ensures, c.from-2.ensures)

pub overflow_cast-result : goal.overflow_cast-result
overflow_cast-result c =
    let sound : IsTable c.args.table.now = record { systems = c.facts.ensures.good; numbers = c.facts.ensures.numbers } in
    let s = sum_is c.args.table.now sound c.args.target.now c.args.since.now c.in-Some.file_system.now (option_copied c.in-Some.dataset)
    (ap (option_map (λ p. (p.0.now, option_copied p.1))) (sym c.in-Some.is) ∙ c.dataset_named.ensures)
    c.in-Some-snapshot_named.owner.now c.in-Some-snapshot_named.snapshot.now (ap (option_map (λ p. (p.0.now, p.1.now))) (sym c.in-Some-snapshot_named.is) ∙ c.snapshot_named.ensures.place)
    (snap_id c.id-id.result) c.id-id.ensures c.in-Some-gone_since.gone c.in-Some-gone_since.ensures.some
    c.count_of-count.result c.count_of-since.result c.count_of-count.ensures c.count_of-since.ensures c.count_of-since.type_inv in
    let l = low c.args.table.now sound c.args.target.now c.args.since.now c.in-Some.file_system.now (option_copied c.in-Some.dataset)
    (ap (option_map (λ p. (p.0.now, option_copied p.1))) (sym c.in-Some.is) ∙ c.dataset_named.ensures)
    c.in-Some-snapshot_named.owner.now c.in-Some-snapshot_named.snapshot.now (ap (option_map (λ p. (p.0.now, p.1.now))) (sym c.in-Some-snapshot_named.is) ∙ c.snapshot_named.ensures.place)
    (snap_id c.id-id.result) c.id-id.ensures c.in-Some-gone_since.gone c.in-Some-gone_since.ensures.some
    c.count_of-count.result c.count_of-since.result c.count_of-count.ensures c.count_of-since.ensures c.count_of-since.type_inv in
    omega (arith, s, l, c.from.ensures, c.from-2.ensures, c.count_of-count.type_inv)

pub returns-clause-ok : goal.returns-clause-ok
returns-clause-ok c =
    let sound : IsTable c.args.table.now = record { systems = c.facts.ensures.good; numbers = c.facts.ensures.numbers } in
    answer_is c.args.table.now sound c.args.target.now c.args.since.now c.in-Some.file_system.now (option_copied c.in-Some.dataset)
    (ap (option_map (λ p. (p.0.now, option_copied p.1))) (sym c.in-Some.is) ∙ c.dataset_named.ensures)
    c.in-Some-snapshot_named.owner.now c.in-Some-snapshot_named.snapshot.now (ap (option_map (λ p. (p.0.now, p.1.now))) (sym c.in-Some-snapshot_named.is) ∙ c.snapshot_named.ensures.place)
    (snap_id c.id-id.result) c.id-id.ensures c.in-Some-gone_since.gone c.in-Some-gone_since.ensures.some
    c.count_of-count.result c.count_of-since.result c.count_of-count.ensures c.count_of-since.ensures c.count_of-since.type_inv
    ∙ ap Some (λ i. sym c.from.ensures i + c.in-Some-gone_since.gone - sym c.from-2.ensures i)

pub returns-clause-can : goal.returns-clause-can
returns-clause-can c =
    let sound : IsTable c.args.table.now = record { systems = c.facts.ensures.good; numbers = c.facts.ensures.numbers } in
    none_refuses c.args.table.now sound c.args.target.now c.args.since.now c.in-Some.file_system.now (option_copied c.in-Some.dataset)
    (ap (option_map (λ p. (p.0.now, option_copied p.1))) (sym c.in-Some.is) ∙ c.dataset_named.ensures)
    c.in-Some-snapshot_named.owner.now c.in-Some-snapshot_named.snapshot.now (ap (option_map (λ p. (p.0.now, p.1.now))) (sym c.in-Some-snapshot_named.is) ∙ c.snapshot_named.ensures.place)
    (snap_id c.id-id.result) c.id-id.ensures c.in-Some-gone_since.gone c.in-Some-gone_since.ensures.some
    c.count_of-count.result c.count_of-since.result c.count_of-count.ensures c.count_of-since.ensures c.count_of-since.type_inv

pub returns-clause-refused : goal.returns-clause-refused
returns-clause-refused c =
    let sound : IsTable c.args.table.now = record { systems = c.facts.ensures.good; numbers = c.facts.ensures.numbers } in
    if_nothing _ _ (none_refuses c.args.table.now sound c.args.target.now c.args.since.now c.in-Some.file_system.now (option_copied c.in-Some.dataset)
    (ap (option_map (λ p. (p.0.now, option_copied p.1))) (sym c.in-Some.is) ∙ c.dataset_named.ensures)
    c.in-Some-snapshot_named.owner.now c.in-Some-snapshot_named.snapshot.now (ap (option_map (λ p. (p.0.now, p.1.now))) (sym c.in-Some-snapshot_named.is) ∙ c.snapshot_named.ensures.place)
    (snap_id c.id-id.result) c.id-id.ensures c.in-Some-gone_since.gone c.in-Some-gone_since.ensures.some
    c.count_of-count.result c.count_of-since.result c.count_of-count.ensures c.count_of-since.ensures c.count_of-since.type_inv)

-- what was reached to find what has gone
pub returns-clause-meter : goal.returns-clause-meter
returns-clause-meter c =
    let found = dataset_is c.args.table.now c.args.target.now c.in-Some.file_system.now (option_copied c.in-Some.dataset)
    (ap (option_map (λ p. (p.0.now, option_copied p.1))) (sym c.in-Some.is) ∙ c.dataset_named.ensures) in
    let snapshot = snapshot_is c.args.table.now c.args.since.now c.in-Some-snapshot_named.owner.now c.in-Some-snapshot_named.snapshot.now
    (ap (option_map (λ p. (p.0.now, p.1.now))) (sym c.in-Some-snapshot_named.is) ∙ c.snapshot_named.ensures.place) in
    record {
      dataset = dataset_at c.in-Some.file_system.now (option_copied c.in-Some.dataset);
      dataset_is = found.1;
      snapshot = c.in-Some-snapshot_named.snapshot.now;
      snapshot_is = snapshot.named;
      lists = subst (λ i. HasReached c.args.table.now (dataset_at c.in-Some.file_system.now (option_copied c.in-Some.dataset)) i (c.gone_since.new.segments - c.args.segments.now)) c.id-id.ensures c.in-Some-gone_since.ensures.meter;
    }
