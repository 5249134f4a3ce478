use Rattle.std.proofs.Common.{sym}
use Rattle.model.specs.Ids.{snap_id}
use Rattle.world.specs.Tables.{world_of}
use Rattle.datasets.specs.Promotions.{promotion_between}
use Rattle.world.proofs.changes.Promotions.{promotion_is}
use Rattle.datasets.proofs.Removed.{rising_at}
use Rattle.snap.proofs.clones.promotion.refusal_of.Goals as goal

pub any_long_upto-requires : goal.any_long_upto-requires
any_long_upto-requires c =
    rising_at c.args.table.now (record { systems = c.facts.ensures.good; numbers = c.facts.ensures.numbers }) c.in-Some.owner.now.name c.in-Some.owner.now.system
    (promotion_is (world_of c.args.table.now) c.args.name.now (promotion_between c.in-Some.clone.now c.in-Some.owner.now (snap_id c.in-Some.origin)) (sym c.in-Some.ensures)).owner_at

pub any_taken-requires : goal.any_taken-requires
any_taken-requires c =
    rising_at c.args.table.now (record { systems = c.facts.ensures.good; numbers = c.facts.ensures.numbers }) c.in-Some.owner.now.name c.in-Some.owner.now.system
    (promotion_is (world_of c.args.table.now) c.args.name.now (promotion_between c.in-Some.clone.now c.in-Some.owner.now (snap_id c.in-Some.origin)) (sym c.in-Some.ensures)).owner_at
