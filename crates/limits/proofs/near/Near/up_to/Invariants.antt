use Rattle.limits.proofs.near.Near.up_to.Given as goal

abbrev pub decreases-loop-at : goal.decreases-loop-at
decreases-loop-at l = l.at
