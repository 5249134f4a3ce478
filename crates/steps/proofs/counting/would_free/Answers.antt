use Rattle.std.proofs.Common.{arith}
use Rattle.world.specs.Tables.{world_of}
use Rattle.lookups.specs.Ranges.{range_ids}
use Rattle.lookups.proofs.Fitting.{would_free_fits}
use Rattle.steps.proofs.questions.Measured.{free_refused, free_told}
use Rattle.steps.proofs.counting.would_free.Goals as goal

pub overflow_cast-blocks : goal.overflow_cast-blocks
overflow_cast-blocks c =
    let t = c.args.table.now in
    let l = would_free_fits (world_of t) (range_ids t c.args.name.now c.args.first.now c.args.last.now) in
    let k = c.requires.few in
    omega (arith, l, k, c.in-Ok.ensures.ok)

pub returns-in-Ok-clause-step : goal.returns-in-Ok-clause-step
returns-in-Ok-clause-step c s steady is =
    free_told s steady c.args.table.now is c.args.name.now c.args.first.now c.args.last.now
    c.in-Ok.ensures.can c.in-Ok.blocks c.in-Ok.ensures.ok c.in_bytes.result c.in_bytes.ensures

pub returns-in-Err-clause-step : goal.returns-in-Err-clause-step
returns-in-Err-clause-step c s steady is =
    free_refused s steady c.args.table.now is c.args.name.now c.args.first.now c.args.last.now c.in-Err.refusal c.in-Err.ensures.only
