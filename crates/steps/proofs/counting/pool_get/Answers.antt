use Rattle.std.proofs.Common.{ap}
use Rattle.model.specs.declared.reply.Value.TheVariants.{Number}
use Rattle.steps.proofs.questions.PoolCounts.{pool_get_size, pool_get_allocated, pool_get_free, pool_get_freeing, pool_get_waiting, pool_get_group}
use Rattle.steps.proofs.counting.pool_get.Goals as goal

pub returns-in-Size : goal.returns-in-Size
returns-in-Size c s is counted = pool_get_size s c.args.table.now c.args.space is c.args.counts counted c.args.property c.in_bytes.result c.in-Size.is c.in_bytes.ensures

pub returns-in-Allocated : goal.returns-in-Allocated
returns-in-Allocated c s is counted =
    pool_get_allocated s c.args.table.now c.args.space is c.args.counts counted c.args.property c.in_bytes-in-Allocated.result c.in-Allocated.is c.in_bytes-in-Allocated.ensures

pub returns-in-Free : goal.returns-in-Free
returns-in-Free c s is counted =
    pool_get_free s c.args.table.now c.args.space is c.args.counts counted c.args.property c.in_bytes-in-Free.result c.in-Free.is c.in_bytes-in-Free.ensures

pub returns-in-Freeing : goal.returns-in-Freeing
returns-in-Freeing c s is counted =
    pool_get_freeing s c.args.table.now c.args.space is c.args.counts counted c.args.property c.in_bytes-in-Freeing.result
    c.freeing_in.result c.in-Freeing.is c.in_bytes-in-Freeing.ensures c.freeing_in.ensures

pub returns-in-Waiting : goal.returns-in-Waiting
returns-in-Waiting c s is counted =
    pool_get_waiting s c.args.table.now c.args.space is c.args.counts counted c.args.property c.in_bytes-in-Waiting.result c.in-Waiting.is c.in_bytes-in-Waiting.ensures

pub returns-in-Group : goal.returns-in-Group
returns-in-Group c s is counted =
    pool_get_group s c.args.table.now c.args.space is c.args.counts counted c.args.property (Number c.group.result.0) c.in-Group.is (ap Number c.group.ensures)
