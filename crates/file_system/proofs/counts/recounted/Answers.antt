use Rattle.std.proofs.Common.{ap, ◌∙◌, arith}
use Rattle.std.specs.Option.{option_copied}
use Rattle.base.specs.Map.{blocks}
use Rattle.base.specs.declared.number.Group.{Group}
use Rattle.world.proofs.lineage.Shuffled.{written_few}
use Rattle.file_system.specs.Origins.{map_below, group_below}
use Rattle.file_system.proofs.Accounts.{count_is}
use Rattle.file_system.proofs.Recounts.{alone_counted, own_counted}
use Rattle.file_system.proofs.counts.recounted.Goals as goal

pub overflow_add-by_dataset : goal.overflow_add-by_dataset
overflow_add-by_dataset c =
    let below = map_below (option_copied c.args.origin) in
    let live = c.args.live.now in
    let cut = ap (λ (g : Group). g.0) c.asked_of.ensures.cut ∙ c.base_group-cut.ensures in
    let sum = own_counted below c.args.kept.now c.args.dead.now.entries live c.requires.accounted c.requires.dead (group_below (option_copied c.args.origin)) c.requires.line c.asked_of.result c.asked_of.ensures.from c.asked_of.ensures.until cut c.asked_of.ensures.side in
    let few = written_few (blocks live) (blocks below) in
    let nodes = count_is live c.node_count.ensures.unique in
    let count = c.node_count.ensures.count in
    let small = c.node_count.type_inv in
    let before = c.base_count.type_inv in
    omega (arith, c.count_gone-dropped.ensures, c.base_count.ensures, c.from.ensures, c.from-below.ensures)

pub overflow_sub-by_dataset : goal.overflow_sub-by_dataset
overflow_sub-by_dataset c =
    let below = map_below (option_copied c.args.origin) in
    let live = c.args.live.now in
    let cut = ap (λ (g : Group). g.0) c.asked_of.ensures.cut ∙ c.base_group-cut.ensures in
    let sum = own_counted below c.args.kept.now c.args.dead.now.entries live c.requires.accounted c.requires.dead (group_below (option_copied c.args.origin)) c.requires.line c.asked_of.result c.asked_of.ensures.from c.asked_of.ensures.until cut c.asked_of.ensures.side in
    let few = written_few (blocks live) (blocks below) in
    let nodes = count_is live c.node_count.ensures.unique in
    let count = c.node_count.ensures.count in
    let small = c.node_count.type_inv in
    let before = c.base_count.type_inv in
    omega (arith, c.count_gone-dropped.ensures, c.base_count.ensures, c.from.ensures, c.from-below.ensures)

pub overflow_cast-by_dataset : goal.overflow_cast-by_dataset
overflow_cast-by_dataset c =
    let below = map_below (option_copied c.args.origin) in
    let live = c.args.live.now in
    let cut = ap (λ (g : Group). g.0) c.asked_of.ensures.cut ∙ c.base_group-cut.ensures in
    let sum = own_counted below c.args.kept.now c.args.dead.now.entries live c.requires.accounted c.requires.dead (group_below (option_copied c.args.origin)) c.requires.line c.asked_of.result c.asked_of.ensures.from c.asked_of.ensures.until cut c.asked_of.ensures.side in
    let few = written_few (blocks live) (blocks below) in
    let nodes = count_is live c.node_count.ensures.unique in
    let count = c.node_count.ensures.count in
    let small = c.node_count.type_inv in
    let before = c.base_count.type_inv in
    omega (arith, c.count_gone-dropped.ensures, c.base_count.ensures, c.from.ensures, c.from-below.ensures)

-- both counts
pub returns-clause-ok : goal.returns-clause-ok
returns-clause-ok c =
    let below = map_below (option_copied c.args.origin) in
    let live = c.args.live.now in
    let cut = ap (λ (g : Group). g.0) c.asked_of.ensures.cut ∙ c.base_group-cut.ensures in
    let sum = own_counted below c.args.kept.now c.args.dead.now.entries live c.requires.accounted c.requires.dead (group_below (option_copied c.args.origin)) c.requires.line c.asked_of.result c.asked_of.ensures.from c.asked_of.ensures.until cut c.asked_of.ensures.side in
    let few = written_few (blocks live) (blocks below) in
    let nodes = count_is live c.node_count.ensures.unique in
    let count = c.node_count.ensures.count in
    let small = c.node_count.type_inv in
    let before = c.base_count.type_inv in
    let later = ap (λ (g : Group). g.0) c.asked_of-2.ensures.cut ∙ c.base_group-cut.ensures in
    let alone = alone_counted below c.args.kept.now c.args.dead.now.entries live c.requires.accounted c.requires.dead (group_below (option_copied c.args.origin)) c.requires.line c.asked_of-2.result c.asked_of-2.ensures.from c.asked_of-2.ensures.until later c.asked_of-2.ensures.side in
    let some = c.if-by_snapshots.false in
    record {
      by_dataset = omega (arith, c.count_gone-dropped.ensures, c.base_count.ensures, c.from.ensures, c.from-below.ensures);
      by_snapshots = omega (arith, c.count_gone-by_snapshots.ensures);
    }
