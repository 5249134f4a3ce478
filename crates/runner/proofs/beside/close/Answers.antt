use Rattle.std.proofs.Common.{◌≡◌, ◌∷◌, [], List, map, subst}
use Rattle.std.specs.Arc.{arc_value}
use Rattle.session.specs.Handed.{Kept, IsAnswered}
use Rattle.runner.proofs.beside.close.Goals as goal

pub returns-in-Ok-close-clause-history : goal.returns-in-Ok-close-clause-history
returns-in-Ok-close-clause-history g c = λ low.
    let e = c.in-Ok-close.ensures in
    let seats : c.in-Ok.seats.items ≡ c.args.script ∷ c.args.workers.syncer ∷ c.args.workers.destroyer ∷ [] = c.in-Ok.ensures.items in
    record {
      history = map arc_value c.in-Ok-close.closed.history.items;
      end = c.in-Ok-close.closed.pool.state;
      legal = e.run;
      answered = subst (λ (xs : List Kept). IsAnswered (map arc_value c.in-Ok-close.closed.history.items) xs) seats e.answered;
    }
