use Rattle.std.proofs.Common.{arith, refl, ◌∙◌}
use Rattle.deadlist.specs.Segments.{entries_of}
use Rattle.deadlist.proofs.Merges.{perm_element, perm_none}
use Rattle.deadlist.proofs.parts.Parts.place_all.Goals as goal

pub place-requires : goal.place-requires
place-requires c = c.loop-dead.invariant.2

pub loop-dead-init : goal.loop-dead-init
loop-dead-init c = (perm_none (entries_of c.args.self.now), refl, c.requires)

pub loop-dead-preserved : goal.loop-dead-preserved
loop-dead-preserved c =
    (perm_element (entries_of c.args.self.now) (entries_of c.loop-dead.self) (entries_of c.place.new.self) c.args.entries.now c.loop-dead.dead-index _ (omega arith) c.loop-dead.invariant.0 c.in_ok-place.ensures.entries, c.in_ok-place.ensures.cuts ∙ c.loop-dead.invariant.1, c.in_ok-place.ensures.cut)
