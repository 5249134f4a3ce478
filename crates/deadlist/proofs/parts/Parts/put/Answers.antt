use Rattle.deadlist.specs.Spans.{spans}
use Rattle.deadlist.proofs.Puts.{with_pile_twice, last_with_twice}
use Rattle.deadlist.proofs.parts.Parts.put.Goals as goal

pub returns-clause-closed : goal.returns-clause-closed
returns-clause-closed c =
    let s = c.args.self.now in
    let twice = with_pile_twice (spans s.closed.items) c.args.at in
    rw (c.replace-none.ensures.closed, c.in_ok-push.ensures.ok, c.replace-pile.ensures.closed, c.replace-pile.ensures.old) (twice _ _)

pub returns-clause-last : goal.returns-clause-last
returns-clause-last c =
    let s = c.args.self.now in
    let twice = last_with_twice (spans s.closed.items) s.last.entries c.args.at in
    rw (c.replace-none.ensures.last, c.in_ok-push.ensures.ok, c.replace-pile.ensures.closed, c.replace-pile.ensures.last, c.replace-pile.ensures.old) (twice _ _)
