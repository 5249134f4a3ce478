use Rattle.std.proofs.Common.{◌≡◌, ◌<◌, length, take, ap, arith}
use Rattle.std.specs.Arc.{arc_value}
use Rattle.shared_list.specs.Elements.{elements}
use Rattle.shared_list.proofs.Points.{long, inside}
use Rattle.shared_list.proofs.spine.place.index_of.Goals as goal

pub overflow_add-before : goal.overflow_add-before
overflow_add-before g c =
    let xs = c.args.chunks.now in
    let within : c.loop-k.k < length xs = omega (arith, c.requires.place.chunk, c.loop-k-test.true) in
    let all = long arc_value xs c.loop-k.k c.index-chunks-k.result within c.index-chunks-k.is in
    omega (arith, all, c.loop-k.invariant, c.len-before.ensures.len, ap length c.deref.ensures, c.requires.len, c.ranges.len.fits)

pub overflow_add-result : goal.overflow_add-result
overflow_add-result g c =
    let within = inside arc_value c.args.chunks.now c.args.place.k c.args.place.at c.requires.place.chunk c.requires.place.within in
    let at : c.loop-k.before ≡ length (elements (take c.args.place.k c.args.chunks.now)) = grind arith in
    omega (arith, within, at, c.requires.len, c.ranges.len.fits)
