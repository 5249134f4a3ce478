use Rattle.std.proofs.Common.{Some, sym, ap, ◌∙◌, arith}
use Rattle.std.specs.FinSet.{len}
use Rattle.std.specs.Option.{option_map}
use Rattle.base.specs.Map.{blocks}
use Rattle.model.specs.World.{id_of}
use Rattle.world.specs.Tables.{world_of}
use Rattle.datasets.specs.Table.{IsTable}
use Rattle.datasets.proofs.Accounts.{count_is}
use Rattle.lookups.proofs.Places.{snapshot_is, snapshot_stands, referenced_is}
use Rattle.lookups.proofs.Struck.{used_low}
use Rattle.lookups.proofs.space.snapshot.used_by_snapshot.Goals as goal

pub count_alone-requires : goal.count_alone-requires
count_alone-requires c =
    snapshot_stands c.args.table.now c.args.name.now c.in-Some.file_system.now c.in-Some.snapshot.now
    (snapshot_is c.args.table.now c.args.name.now c.in-Some.file_system.now c.in-Some.snapshot.now
    (ap (option_map (λ p. (p.0.now, p.1.now))) (sym c.in-Some.is) ∙ c.snapshot_named.ensures.place))

pub overflow_cast-result : goal.overflow_cast-result
overflow_cast-result c =
    let sound : IsTable c.args.table.now = record { systems = c.facts.ensures.good; numbers = c.facts.ensures.numbers } in
    let place = snapshot_stands c.args.table.now c.args.name.now c.in-Some.file_system.now c.in-Some.snapshot.now
    (snapshot_is c.args.table.now c.args.name.now c.in-Some.file_system.now c.in-Some.snapshot.now
    (ap (option_map (λ p. (p.0.now, p.1.now))) (sym c.in-Some.is) ∙ c.snapshot_named.ensures.place)) in
    let most = c.node_count-most.ensures.count ∙ sym (count_is c.tree.result.now c.node_count-most.ensures.unique) ∙ ap (λ m. len (blocks m)) c.tree.ensures in
    let own = referenced_is c.args.table.now sound c.in-Some.file_system.now (Some c.in-Some.snapshot.now) place in
    let low = used_low (world_of c.args.table.now) (id_of c.in-Some.snapshot.now) in
    omega (arith, most, own, low, c.in_ok-count.ensures.ok, c.node_count-most.type_inv)
