use Rattle.std.proofs.Common.{sym, ap, subst, ◌∙◌}
use Rattle.model.specs.declared.request.Request.TheVariants.{Destroy}
use Rattle.world.specs.Tables.{Datasets}
use Rattle.world.specs.Worlds.{AreFileSystems}
use Rattle.removals.specs.Requests.{destroyed, swept}
use Rattle.steps.specs.Edits.{datasets_of}
use Rattle.steps.specs.Handed.{IsAccounted}
use Rattle.steps.proofs.ledgers.Labels.{unmarked_accounted}
use Rattle.steps.proofs.ledgers.Losses.{destroy_counted, alone_counted}
use Rattle.steps.proofs.requests.Destroying as steps
use Rattle.pool.specs.Pools.{state_in}
use Rattle.pool.proofs.Performed.{exits, on_err, same_both, apart, clean, bare, lost_few, lost_placed}
use Rattle.pool.proofs.keep.Keep.destroy.Goals as goal

pub destroy-requires-clause-apart : goal.destroy-requires-clause-apart
destroy-requires-clause-apart c = apart c.args.self.now c.args.world.now c.requires

pub destroy-requires-clause-swept : goal.destroy-requires-clause-swept
destroy-requires-clause-swept c = clean c.args.self.now c.args.world.now c.requires

pub returns-in_err-destroy-clause-performed : goal.returns-in_err-destroy-clause-performed
returns-in_err-destroy-clause-performed c =
    let s = state_in c.args.self.now c.args.world.now in
    exits s c.args.self.now.numbers.present _ (Destroy c.args.target.now c.args.recursive c.args.defer) c.from_residual.result c.in_err-destroy.field-0.0 c.from_residual.ensures.1
    (steps.destroy_refused s c.requires.sound.steady c.args.target.now c.args.recursive c.args.defer c.in_err-destroy.field-0.0 c.in_err-destroy.ensures.only)

pub returns-in_err-destroy-clause-unchanged : goal.returns-in_err-destroy-clause-unchanged
returns-in_err-destroy-clause-unchanged c =
    on_err c.from_residual.result _ (same_both c.args.world.now c.destroy.new.table c.destroy.new.freeing c.in_err-destroy.ensures.unchanged c.in_err-destroy.ensures.kept)

pub follow_destroy-requires-clause-unlimited : goal.follow_destroy-requires-clause-unlimited
follow_destroy-requires-clause-unlimited c =
    let s = state_in c.args.self.now c.args.world.now in
    bare c.args.self.now c.args.world.now c.requires (swept (destroyed (datasets_of s) s.views c.args.target.now c.args.recursive c.args.defer) s.views) c.destroy.new.table c.in_ok-destroy.ensures.ok (steps.destroy_unlimited s c.requires.sound.steady c.args.target.now c.args.recursive c.args.defer)

pub follow_destroy-requires-clause-few : goal.follow_destroy-requires-clause-few
follow_destroy-requires-clause-few c =
    let s = state_in c.args.self.now c.args.world.now in
    lost_few c.args.self.now c.args.world.now c.requires (swept (destroyed (datasets_of s) s.views c.args.target.now c.args.recursive c.args.defer) s.views) c.destroy.new.table c.in_ok-destroy.ensures.ok c.destroy.new.freeing c.in_ok-destroy.ensures.lost
    (steps.destroy_can s c.requires.sound.steady c.args.target.now c.args.recursive c.args.defer c.in_ok-destroy.ensures.can (subst (λ (t : Datasets). AreFileSystems t.file_systems t.group) c.in_ok-destroy.ensures.ok c.facts.ensures.good))

pub follow_destroy-requires-clause-system : goal.follow_destroy-requires-clause-system
follow_destroy-requires-clause-system c = λ name is alone.
    let s = state_in c.args.self.now c.args.world.now in (
      datasets_of s,
      alone_counted s c.requires.sound.steady c.args.target.now c.args.recursive c.args.defer name is (c.is_alone-alone.ensures.one alone) (c.is_alone-alone.ensures.origin alone name is) c.destroy.new.table c.facts.ensures.good
          c.in_ok-destroy.ensures.ok c.args.world.now.ledger c.requires.now,
    )

pub follow_destroy-requires-clause-snapshot : goal.follow_destroy-requires-clause-snapshot
follow_destroy-requires-clause-snapshot c = λ m is alone.
    let s = state_in c.args.self.now c.args.world.now in (
      datasets_of s,
      destroy_counted s c.requires.sound.steady c.args.target.now c.args.recursive c.args.defer m is (c.is_alone-alone.ensures.one alone) c.destroy.new.table c.facts.ensures.good c.in_ok-destroy.ensures.ok
          c.args.world.now.ledger c.requires.now,
    )

pub follow_destroy-requires-clause-bookmark : goal.follow_destroy-requires-clause-bookmark
follow_destroy-requires-clause-bookmark c = λ m is.
    let s = state_in c.args.self.now c.args.world.now in
    let led = c.in_ok-destroy.ensures.ok ∙ ap (λ x. swept (destroyed (datasets_of s) s.views x c.args.recursive c.args.defer) s.views) is in
    subst (λ (t : Datasets). IsAccounted t c.args.world.now.ledger) (sym led)
    (unmarked_accounted s m c.args.recursive c.args.defer c.requires.sound.steady (subst (λ (t : Datasets). AreFileSystems t.file_systems t.group) led c.facts.ensures.good) c.args.world.now.ledger
    c.requires.now)

pub returns-clause-performed : goal.returns-clause-performed
returns-clause-performed c =
    let s = state_in c.args.self.now c.args.world.now in
    lost_placed c.args.self.now c.args.world.now c.requires (swept (destroyed (datasets_of s) s.views c.args.target.now c.args.recursive c.args.defer) s.views) c.destroy.new.table c.in_ok-destroy.ensures.ok c.destroy.new.freeing c.in_ok-destroy.ensures.lost
    (steps.destroy_can s c.requires.sound.steady c.args.target.now c.args.recursive c.args.defer c.in_ok-destroy.ensures.can (subst (λ (t : Datasets). AreFileSystems t.file_systems t.group) c.in_ok-destroy.ensures.ok c.facts.ensures.good)) c.follow_destroy.new.ledger c.follow_destroy.ensures
    (Destroy c.args.target.now c.args.recursive c.args.defer) (steps.destroy_done s c.requires.sound.steady c.args.target.now c.args.recursive c.args.defer c.in_ok-destroy.ensures.can (steps.destroy_can s c.requires.sound.steady c.args.target.now c.args.recursive c.args.defer c.in_ok-destroy.ensures.can (subst (λ (t : Datasets). AreFileSystems t.file_systems t.group) c.in_ok-destroy.ensures.ok c.facts.ensures.good)))
