use Rattle.std.proofs.Common.{arith}
use Rattle.std.specs.Option.{option_copied}
use Rattle.file_system.specs.Dead.{blocks_kept}
use Rattle.file_system.specs.Origins.{blocks_below}
use Rattle.file_system.proofs.Accounts.{written_counted}
use Rattle.file_system.proofs.written.written_over.Goals as goal

pub overflow_add-result : goal.overflow_add-result
overflow_add-result c =
    let facts = written_counted c.args.tree.now (blocks_kept (blocks_below (option_copied c.args.origin)) (option_copied c.args.before)) c.args.dead.now.entries _ _ _ c.node_count.ensures.unique c.node_count.ensures.count c.requires c.count_of-before.ensures c.len.ensures in
    let sum = facts.0 in
    let few = facts.1 in
    omega arith

pub overflow_sub-result : goal.overflow_sub-result
overflow_sub-result c =
    let facts = written_counted c.args.tree.now (blocks_kept (blocks_below (option_copied c.args.origin)) (option_copied c.args.before)) c.args.dead.now.entries _ _ _ c.node_count.ensures.unique c.node_count.ensures.count c.requires c.count_of-before.ensures c.len.ensures in
    let sum = facts.0 in
    omega arith

pub overflow_cast-result : goal.overflow_cast-result
overflow_cast-result c =
    let facts = written_counted c.args.tree.now (blocks_kept (blocks_below (option_copied c.args.origin)) (option_copied c.args.before)) c.args.dead.now.entries _ _ _ c.node_count.ensures.unique c.node_count.ensures.count c.requires c.count_of-before.ensures c.len.ensures in
    let sum = facts.0 in
    let few = facts.1 in
    omega arith

-- what the snapshot before has and the dataset hasn't is on the dead list
pub returns : goal.returns
returns c =
    let facts = written_counted c.args.tree.now (blocks_kept (blocks_below (option_copied c.args.origin)) (option_copied c.args.before)) c.args.dead.now.entries _ _ _ c.node_count.ensures.unique c.node_count.ensures.count c.requires c.count_of-before.ensures c.len.ensures in
    let sum = facts.0 in
    omega arith
