use Rattle.std.proofs.Common.{arith, length-append}
use Rattle.deadlist.specs.Spans.{spans}
use Rattle.deadlist.specs.Segments.{entries_in}
use Rattle.deadlist.proofs.Counts.{part_le, take_pile}
use Rattle.deadlist.proofs.parts.Parts.sum_before.Goals as goal

pub overflow_add-sum : goal.overflow_add-sum
overflow_add-sum c =
    let s = c.args.self.now in
    let at = c.requires.at in
    let le = part_le s.closed.items c.loop-i.i c.index.result.now (omega arith) c.index.ensures in
    let all = length-append (entries_in (spans s.closed.items)) s.last.entries in
    let fits = c.requires.fits in
    let sum = c.loop-i.invariant in
    let len = c.len-sum.ensures in
    omega (arith, le, all, fits, sum, len)

pub loop-i-preserved : goal.loop-i-preserved
loop-i-preserved c =
    let s = c.args.self.now in
    let at = c.requires.at in
    let e = take_pile s.closed.items c.loop-i.i c.index.result.now (omega arith) c.index.ensures in
    let sum = c.loop-i.invariant in
    let len = c.len-sum.ensures in
    omega (arith, e, sum, len)
