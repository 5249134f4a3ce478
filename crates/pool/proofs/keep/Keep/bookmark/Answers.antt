use Rattle.std.proofs.Common.{sym, subst}
use Rattle.model.specs.declared.request.Request.TheVariants.{Bookmark}
use Rattle.marks.specs.Requests.{bookmarked_in}
use Rattle.steps.specs.Edits.{datasets_of}
use Rattle.steps.specs.Handed.{IsAccounted}
use Rattle.steps.proofs.ledgers.Labels.{bookmark_accounted}
use Rattle.steps.proofs.requests.Marking as steps
use Rattle.pool.specs.Pools.{state_in}
use Rattle.pool.proofs.Performed.{exits, on_err, same_table, placed}
use Rattle.pool.proofs.keep.Keep.bookmark.Goals as goal

pub returns-in_err-bookmark-clause-performed : goal.returns-in_err-bookmark-clause-performed
returns-in_err-bookmark-clause-performed c =
    let s = state_in c.args.self.now c.args.world.now in
    exits s c.args.self.now.numbers.present _ (Bookmark c.args.target.now c.args.mark.now) c.from_residual.result c.in_err-bookmark.field-0.0 c.from_residual.ensures.1
    (steps.bookmark_refused s c.args.target.now c.args.mark.now c.in_err-bookmark.field-0.0 c.in_err-bookmark.ensures.only)

pub returns-in_err-bookmark-clause-unchanged : goal.returns-in_err-bookmark-clause-unchanged
returns-in_err-bookmark-clause-unchanged c = on_err c.from_residual.result _ (same_table c.args.world.now c.bookmark.new.table c.in_err-bookmark.ensures.unchanged)

pub returns-clause-performed : goal.returns-clause-performed
returns-clause-performed c =
    let s = state_in c.args.self.now c.args.world.now in
    placed c.args.self.now c.args.world.now c.requires (bookmarked_in (datasets_of s) c.args.target.now c.args.mark.now) c.bookmark.new.table c.in_ok-bookmark.ensures.ok (steps.bookmark_can s c.args.target.now c.args.mark.now c.requires.sound.steady) c.args.world.now.ledger (subst (λ t. IsAccounted t c.args.world.now.ledger) (sym c.in_ok-bookmark.ensures.ok) (bookmark_accounted s c.args.target.now c.args.mark.now c.requires.sound.steady c.args.world.now.ledger c.requires.now))
    (Bookmark c.args.target.now c.args.mark.now) (steps.bookmark_done s c.args.target.now c.args.mark.now c.requires.sound.steady c.in_ok-bookmark.ensures.can)
