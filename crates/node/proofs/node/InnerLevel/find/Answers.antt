-- One step down: the part at the place, and then what the call below found in it.
use Rattle.std.proofs.Common.{refl}
use Rattle.node.specs.Node.{shared_part}
use Rattle.node.proofs.Pairs.{part_there, part_missing}
use Rattle.node.proofs.Reach.{cell_below-deep, steps_below-deep, counted-counted}
use Rattle.node.proofs.node.InnerLevel.find.Goals as goal

pub returns-in-Some-clause-found : goal.returns-in-Some-clause-found
returns-in-Some-clause-found g c =
    let at = part_there (shared_part g.C.Level.part) c.args.self.now.kids c.step-place.result.0 _ _ c.owner.ensures c.in-Some.is in
    rw (cell_below-deep _ _ _ c.if-depth-eq0.false, ← c.step-place.ensures.place, at, ← c.step-place.ensures.rest, ← c.deref.ensures) c.find.ensures.found

pub returns-in-Some-clause-metered : goal.returns-in-Some-clause-metered
returns-in-Some-clause-metered g c =
    let at = part_there (shared_part g.C.Level.part) c.args.self.now.kids c.step-place.result.0 _ _ c.owner.ensures c.in-Some.is in
    rw (steps_below-deep _ _ _ c.if-depth-eq0.false, ← c.step-place.ensures.place, at, ← c.step-place.ensures.rest, ← c.deref.ensures, ← counted-counted, ← c.add_one.ensures.metered) c.find.ensures.metered

pub returns-in-None-clause-found : goal.returns-in-None-clause-found
returns-in-None-clause-found g c =
    let at = part_missing (shared_part g.C.Level.part) c.args.self.now.kids c.step-place.result.0 _ c.owner.ensures c.in-None.is in
    rw (cell_below-deep _ _ _ c.if-depth-eq0.false, ← c.step-place.ensures.place, at) refl

pub returns-in-None-clause-metered : goal.returns-in-None-clause-metered
returns-in-None-clause-metered g c =
    let at = part_missing (shared_part g.C.Level.part) c.args.self.now.kids c.step-place.result.0 _ c.owner.ensures c.in-None.is in
    rw (steps_below-deep _ _ _ c.if-depth-eq0.false, ← c.step-place.ensures.place, at) c.add_one.ensures.metered
