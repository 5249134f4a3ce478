use Rattle.std.proofs.Common.{◌<◌, arith}
use Rattle.zalloc.proofs.Words.{high, no_higher, lowest_higher}
use Rattle.zalloc.proofs.bits.lowest.Goals as goal

pub returns-then-rest-eq0-clause-none : goal.returns-then-rest-eq0-clause-none
returns-then-rest-eq0-clause-none c = no_higher c.args.word c.args.from c.requires c.if-rest-eq0.true

pub returns-else-rest-eq0-clause-found : goal.returns-else-rest-eq0-clause-found
returns-else-rest-eq0-clause-found c =
    let n = c.if-rest-eq0.false in
    let some : 0 < high c.args.word c.args.from = omega (arith, n) in
    lowest_higher c.args.word c.args.from c.requires c.ranges.word.fits some
