use Rattle.std.proofs.Common.{refl, sym, ◌∙◌}
use Rattle.steps.specs.Edits.{datasets_of}
use Rattle.steps.proofs.ledgers.Losses.{gone_counted, close_kept}
use Rattle.pool.specs.Pools.{state_in}
use Rattle.pool.proofs.Performed.{apart, bare}
use Rattle.pool.proofs.Sights.{close_missing, close_stays}
use Rattle.pool.proofs.Synced.{closed_few, closed_performed}
use Rattle.pool.proofs.keep.Keep.close.Goals as goal

pub returns-then-is_none-clause-performed : goal.returns-then-is_none-clause-performed
returns-then-is_none-clause-performed c = close_missing (state_in c.args.self.now c.args.world.now) c.args.self.now.numbers.present c.requires.sound c.args.number c.find.result c.find.ensures c.if-is_none.ensures

pub close_view-requires-clause-apart : goal.close_view-requires-clause-apart
close_view-requires-clause-apart c = apart c.args.self.now c.args.world.now c.requires

pub follow_close-requires-clause-some : goal.follow_close-requires-clause-some
follow_close-requires-clause-some c = λ name is.
    let s = state_in c.args.self.now c.args.world.now in (
      datasets_of s,
      gone_counted s c.requires.sound.steady c.args.number c.close_view.new.table c.facts.ensures.good c.in_ok-gone.ensures.ok c.args.world.now.ledger c.requires.now name (sym c.in_ok-gone.ensures.name ∙ is),
    )

pub follow_close-requires-clause-none : goal.follow_close-requires-clause-none
follow_close-requires-clause-none c = λ is.
    let s = state_in c.args.self.now c.args.world.now in
    close_kept s c.requires.sound.steady c.args.number c.close_view.new.table c.facts.ensures.good c.in_ok-gone.ensures.ok c.args.world.now.ledger c.requires.now (sym c.in_ok-gone.ensures.name ∙ is)

pub follow_close-requires-clause-unlimited : goal.follow_close-requires-clause-unlimited
follow_close-requires-clause-unlimited c =
    bare c.args.self.now c.args.world.now c.requires c.close_view.new.table c.close_view.new.table refl (close_stays (state_in c.args.self.now c.args.world.now) c.args.self.now.numbers.present c.requires.sound c.args.number c.close_view.new.table c.in_ok-gone.ensures.ok)

pub follow_close-requires-clause-few : goal.follow_close-requires-clause-few
follow_close-requires-clause-few c = closed_few c.args.self.now c.args.world.now c.requires c.args.number c.close_view.new.table c.in_ok-gone.ensures.ok c.close_view.new.freeing c.in_ok-gone.ensures.lost

pub returns-clause-performed : goal.returns-clause-performed
returns-clause-performed c =
    closed_performed c.args.self.now c.args.world.now c.requires c.args.number c.close_view.new.table c.in_ok-gone.ensures.ok c.close_view.new.freeing c.in_ok-gone.ensures.lost
    c.find.result c.find.ensures c.if-is_none.ensures c.follow_close.new.ledger c.follow_close.ensures
