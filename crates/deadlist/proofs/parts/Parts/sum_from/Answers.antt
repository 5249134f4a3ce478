use Rattle.std.proofs.Common.{◌≡◌, take, drop, arith, length-append}
use Rattle.deadlist.specs.Spans.{span_of, spans}
use Rattle.deadlist.specs.Segments.{entries_in}
use Rattle.std.proofs.lemmas.List.{take_all, length-map}
use Rattle.deadlist.proofs.Counts.{part_le, take_pile, cut_length}
use Rattle.deadlist.proofs.parts.Parts.sum_from.Goals as goal

pub overflow_add-sum : goal.overflow_add-sum
overflow_add-sum c =
    let s = c.args.self.now in
    let le = part_le s.closed.items c.loop-i.i c.index.result.now (omega arith) c.index.ensures in
    let all = length-append (entries_in (spans s.closed.items)) s.last.entries in
    let fits = c.requires.fits in
    let sum = c.loop-i.invariant in
    let len = c.len-sum-in-loop-i.ensures in
    omega (arith, le, all, fits, sum, len)

pub loop-i-preserved : goal.loop-i-preserved
loop-i-preserved c =
    let s = c.args.self.now in
    let e = take_pile s.closed.items c.loop-i.i c.index.result.now (omega arith) c.index.ensures in
    let sum = c.loop-i.invariant in
    let len = c.len-sum-in-loop-i.ensures in
    omega (arith, e, sum, len)

pub returns : goal.returns
returns c =
    let s = c.args.self.now in
    let all : take c.loop-i.i (spans s.closed.items) ≡ (spans s.closed.items) = take_all c.loop-i.i (spans s.closed.items) (let own = length-map s.closed.items span_of in omega (arith, own)) in
    let sum = rw all at c.loop-i.invariant in
    let two = cut_length (spans s.closed.items) c.args.at in
    let l = length-append (entries_in (drop c.args.at (spans s.closed.items))) s.last.entries in
    omega (arith, sum, two, l)
