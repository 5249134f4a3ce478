use Rattle.std.proofs.Common.{sym, subst, ◌∙◌}
use Rattle.snap.specs.Viewing.{Viewing}
use Rattle.pool.specs.Pools.{AreBelow}
use Rattle.pool.proofs.Numbered.{closed_below}
use Rattle.pool.proofs.keep.Keep.settle.Goals as goal

pub returns-in-Closed-clause-below : goal.returns-in-Closed-clause-below
returns-in-Closed-clause-below c = λ below. subst (λ (v : Viewing). AreBelow v.opened v.next) (sym c.close.ensures) (closed_below c.args.self.now.views.opened c.args.self.now.views.next below c.in-Closed.number)

pub keep_synced-requires : goal.keep_synced-requires
keep_synced-requires c = c.requires.image ∙ sym c.requires.synced
