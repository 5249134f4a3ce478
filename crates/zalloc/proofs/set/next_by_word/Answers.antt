use Rattle.zalloc.proofs.Sets.{first_after, first_past}
use Rattle.zalloc.proofs.set.next_by_word.Goals as goal

pub returns-else-fill-eq0-clause-found : goal.returns-else-fill-eq0-clause-found
returns-else-fill-eq0-clause-found c =
    let i = c.loop-start.invariant in
    let s = c.loop-start.start in
    first_after c.args.fill c.args.words.now c.args.from s s i.from i.below (first_past c.args.fill c.args.words.now s c.requires.fill c.if-fill-eq0.false c.loop-start-test.false)
