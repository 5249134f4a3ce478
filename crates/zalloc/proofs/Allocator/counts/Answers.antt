use Rattle.std.proofs.Common.{arith, ap}
use Rattle.std.specs.Prelude.{count_by}
use Rattle.zalloc.specs.States.{is_allocated}
use Rattle.zalloc.specs.Allocator.{states_from}
use Rattle.zalloc.proofs.Counting.{three}
use Rattle.zalloc.proofs.States.{states_len}
use Rattle.zalloc.proofs.Allocator.counts.Goals as goal

pub overflow_sub-result : goal.overflow_sub-result
overflow_sub-result c =
    let x = c.self.inside.free in
    let y = c.self.inside.waiting in
    omega (arith, three (states_from x y), states_len x y, c.self.invariant.free_count, c.self.invariant.waiting_count, c.numbers.ensures)

pub overflow_sub-result-2 : goal.overflow_sub-result-2
overflow_sub-result-2 c =
    let x = c.self.inside.free in
    let y = c.self.inside.waiting in
    omega (arith, three (states_from x y), states_len x y, c.self.invariant.free_count, c.self.invariant.waiting_count, c.numbers.ensures)

pub returns-clause-allocated : goal.returns-clause-allocated
returns-clause-allocated c =
    let x = c.self.inside.free in
    let y = c.self.inside.waiting in
    omega (arith, three (states_from x y), states_len x y, ap (count_by is_allocated) c.self.view_is, c.self.invariant.free_count, c.self.invariant.waiting_count, c.numbers.ensures)
