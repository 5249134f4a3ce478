use Rattle.std.proofs.Common.{List, ◌∷◌, ◌++◌, ap, sym, ◌∙◌}
use Rattle.base.specs.declared.number.Dead.{Dead}
use Rattle.deadlist.specs.Left.{left_here, left_beyond}
use Rattle.deadlist.proofs.iter.IterIterator.next.Goals as goal

pub returns-in-Some-clause-steps : goal.returns-in-Some-clause-steps
returns-in-Some-clause-steps c =
    let now = c.loop-dead.self in
    let later = c.next_here.new.self in
    sym c.loop-dead.invariant
    ∙ ap (λ (ds : List Dead). ds ++ left_beyond now) c.in-Some.ensures.here
    ∙ ap (λ (ds : List Dead). c.in-Some.dead ∷ (left_here later ++ ds)) (sym c.in-Some.ensures.beyond)
