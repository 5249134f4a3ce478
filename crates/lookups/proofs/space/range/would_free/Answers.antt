use Rattle.std.proofs.Common.{arith}
use Rattle.std.specs.Option.{option_map}
use Rattle.limits.proofs.CountBounds.{would_free_few}
use Rattle.world.specs.Tables.{world_of}
use Rattle.datasets.specs.Table.{IsTable}
use Rattle.lookups.specs.Ranges.{range_ids}
use Rattle.lookups.proofs.Ranges.{freed_is, reach_is}
use Rattle.lookups.proofs.space.range.would_free.Goals as goal

pub returns-clause-ok : goal.returns-clause-ok
returns-clause-ok c =
    let sound : IsTable c.args.table.now = record { systems = c.facts.ensures.good; numbers = c.facts.ensures.numbers } in
    let s = freed_is c.args.table.now sound c.args.name.now c.args.first.now c.args.last.now c.in_ok-file_system.file_system.now c.in_ok-file_system.oldest.0 c.in_ok-file_system._last.0 c.in_ok-file_system.ensures.ok
    c.in_ok-file_system.around.before.0 (option_map (λ g. g.0) c.in_ok-file_system.around.next) c.in_ok-file_system.ensures.before c.in_ok-file_system.ensures.next in
    let few = would_free_few (world_of c.args.table.now) (range_ids c.args.table.now c.args.name.now c.args.first.now c.args.last.now) in
    omega (arith, s, few, c.gone_after.ensures.count, c.requires.few)

-- what the lists of the range but its first, and of what comes after it, add
pub returns-clause-meter : goal.returns-clause-meter
returns-clause-meter c =
    let sound : IsTable c.args.table.now = record { systems = c.facts.ensures.good; numbers = c.facts.ensures.numbers } in
    let most = reach_is c.args.table.now sound c.args.name.now c.args.first.now c.args.last.now c.in_ok-file_system.file_system.now c.in_ok-file_system.oldest.0 c.in_ok-file_system._last.0 c.in_ok-file_system.ensures.ok
    (option_map (λ g. g.0) c.in_ok-file_system.around.next) c.in_ok-file_system.ensures.next in
    let reached = c.gone_after.ensures.meter in
    omega (arith, most, reached)
