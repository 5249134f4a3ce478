use Rattle.std.proofs.Common.{sym, subst}
use Rattle.base.specs.declared.name.member.Member.{Member}
use Rattle.model.specs.declared.request.Request.TheVariants.{Release}
use Rattle.marks.specs.Requests.{released_in}
use Rattle.removals.specs.Requests.{swept}
use Rattle.steps.specs.Edits.{datasets_of}
use Rattle.steps.specs.Limiting.{CanRecount}
use Rattle.steps.proofs.ledgers.Losses.{release_counted}
use Rattle.steps.proofs.requests.Releasing as steps
use Rattle.pool.specs.Pools.{state_in}
use Rattle.pool.proofs.Performed.{exits, on_err, same_both, apart, clean, bare, lost_few, lost_placed}
use Rattle.pool.proofs.keep.Keep.release.Goals as goal

pub release-requires-clause-apart : goal.release-requires-clause-apart
release-requires-clause-apart c = apart c.args.self.now c.args.world.now c.requires

pub release-requires-clause-swept : goal.release-requires-clause-swept
release-requires-clause-swept c = clean c.args.self.now c.args.world.now c.requires

pub returns-in_err-release-clause-performed : goal.returns-in_err-release-clause-performed
returns-in_err-release-clause-performed c =
    let s = state_in c.args.self.now c.args.world.now in
    exits s c.args.self.now.numbers.present _ (Release c.args.tag.now c.args.target.now) c.from_residual.result c.in_err-release.field-0.0 c.from_residual.ensures.1
    (steps.release_refused s c.args.tag.now c.args.target.now c.in_err-release.field-0.0 c.in_err-release.ensures.only)

pub returns-in_err-release-clause-unchanged : goal.returns-in_err-release-clause-unchanged
returns-in_err-release-clause-unchanged c =
    on_err c.from_residual.result _ (same_both c.args.world.now c.release.new.table c.release.new.freeing c.in_err-release.ensures.unchanged c.in_err-release.ensures.kept)

pub recount-requires-clause-unlimited : goal.recount-requires-clause-unlimited
recount-requires-clause-unlimited c =
    let s = state_in c.args.self.now c.args.world.now in
    bare c.args.self.now c.args.world.now c.requires (swept (released_in (datasets_of s) c.args.tag.now c.args.target.now) s.views) c.release.new.table c.in_ok-release.ensures.ok (steps.release_unlimited s c.args.tag.now c.args.target.now c.requires.sound.steady)

pub recount-requires-clause-few : goal.recount-requires-clause-few
recount-requires-clause-few c =
    let s = state_in c.args.self.now c.args.world.now in
    lost_few c.args.self.now c.args.world.now c.requires (swept (released_in (datasets_of s) c.args.tag.now c.args.target.now) s.views) c.release.new.table c.in_ok-release.ensures.ok c.release.new.freeing c.in_ok-release.ensures.lost
    (steps.release_can s c.args.tag.now c.args.target.now c.requires.sound.steady)

pub recount-requires-clause-before : goal.recount-requires-clause-before
recount-requires-clause-before c =
    let s = state_in c.args.self.now c.args.world.now in (
      datasets_of s,
      subst (λ (m : Member). CanRecount (datasets_of s) c.release.new.table m.file_system c.args.world.now.ledger) (sym c.member.ensures.value)
          (release_counted s c.requires.sound.steady c.args.tag.now c.args.target.now c.in-Snapshot.name c.in-Snapshot.is c.release.new.table c.in_ok-release.ensures.ok c.args.world.now.ledger c.requires.now),
    )

pub returns-clause-performed : goal.returns-clause-performed
returns-clause-performed c =
    let s = state_in c.args.self.now c.args.world.now in
    lost_placed c.args.self.now c.args.world.now c.requires (swept (released_in (datasets_of s) c.args.tag.now c.args.target.now) s.views) c.release.new.table c.in_ok-release.ensures.ok c.release.new.freeing c.in_ok-release.ensures.lost
    (steps.release_can s c.args.tag.now c.args.target.now c.requires.sound.steady) c.recount.new.ledger c.recount.ensures
    (Release c.args.tag.now c.args.target.now) (steps.release_done s c.args.tag.now c.args.target.now c.requires.sound.steady c.in_ok-release.ensures.can)
