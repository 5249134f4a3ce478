use Rattle.std.proofs.Common.{◌≤◌, length, arith}
use Rattle.shared_list.proofs.Chunks.{low_long, high_long, put_low, put_high}
use Rattle.shared_list.proofs.chunk.Chunk.split_with.Goals as goal

pub put_in-requires-clause-room : goal.put_in-requires-clause-room
put_in-requires-clause-room g c =
    let parts = c.in_ok-low.ensures in
    let within : 32 ≤ length c.args.self.now = omega arith in
    omega (arith, low_long c.args.self.now c.in_ok-low.low.value c.in_ok-low.high.value 32 c.args.at c.args.item.value parts.0 parts.1 within)

pub put_in-requires-clause-at : goal.put_in-requires-clause-at
put_in-requires-clause-at g c =
    let parts = c.in_ok-low.ensures in
    let within : 32 ≤ length c.args.self.now = omega arith in
    omega (arith, low_long c.args.self.now c.in_ok-low.low.value c.in_ok-low.high.value 32 c.args.at c.args.item.value parts.0 parts.1 within)

pub put_in-requires-2-clause-room : goal.put_in-requires-2-clause-room
put_in-requires-2-clause-room g c =
    let parts = c.in_ok-low.ensures in
    let within : 32 ≤ length c.args.self.now = omega arith in
    omega (arith, high_long c.args.self.now c.in_ok-low.low.value c.in_ok-low.high.value 32 c.args.at c.args.item.value parts.0 parts.1 within)

pub put_in-requires-2-clause-at : goal.put_in-requires-2-clause-at
put_in-requires-2-clause-at g c =
    let parts = c.in_ok-low.ensures in
    let within : 32 ≤ length c.args.self.now = omega arith in
    omega (arith, high_long c.args.self.now c.in_ok-low.low.value c.in_ok-low.high.value 32 c.args.at c.args.item.value parts.0 parts.1 within)

pub returns-then-at-le-HALF : goal.returns-then-at-le-HALF
returns-then-at-le-HALF g c =
    let parts = c.in_ok-low.ensures in
    let within : 32 ≤ length c.args.self.now = omega arith in
    put_low c.args.self.now c.in_ok-low.low.value c.in_ok-low.high.value 32 c.args.at c.args.item.value parts.0 parts.1 within c.put_in.new.place.value c.if-at-le-HALF.true c.in_ok-put_in.ensures.ok

pub returns : goal.returns
returns g c =
    let parts = c.in_ok-low.ensures in
    let within : 32 ≤ length c.args.self.now = omega arith in
    let beyond : 32 ≤ c.args.at = omega arith in
    put_high c.args.self.now c.in_ok-low.low.value c.in_ok-low.high.value 32 c.args.at c.args.item.value parts.0 parts.1 within c.put_in-2.new.place.value beyond c.in_ok-put_in-2.ensures.ok
