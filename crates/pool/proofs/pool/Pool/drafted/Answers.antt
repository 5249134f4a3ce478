use Rattle.std.proofs.Common.{◌≡◌, true, sym, ap, subst, ◌∙◌}
use Rattle.image.specs.StepWrites.{writes_nothing}
use Rattle.image.specs.Stored.{changes_maps}
use Rattle.pool.specs.Effects.{WritesBlocks, IsPerformed}
use Rattle.pool.specs.Plans.{CanDo}
use Rattle.pool.specs.Pools.{state_in}
use Rattle.pool.specs.Shown.{Shown}
use Rattle.pool.specs.declared.effect.Effect.{Effect}
use Rattle.pool.specs.declared.pool.Plan.TheVariants.{Put}
use Rattle.pool.specs.declared.worlds.World.{World}
use Rattle.pool.proofs.Done.{done_of, blocks_of, no_memory, one_done}
use Rattle.pool.proofs.Imaged.{images, only_reading}
use Rattle.pool.proofs.pool.Pool.drafted.Goals as goal

pub returns-in-Err-owned-clause-step : goal.returns-in-Err-owned-clause-step
returns-in-Err-owned-clause-step c = no_memory c.args.self.now.state c.args.request.now c.in-Err-owned.refusal c.in-Err-owned.ensures.err c.requires.no_question c.requires.no_view

pub returns-clause-can : goal.returns-clause-can
returns-clause-can c =
    let s = state_in c.self.inside.keep c.self.inside.present in
    let numbers = c.self.inside.keep.numbers.present in
    let to = c.perform-performed.new.world in
    let q = c.args.request.now in
    let performed = subst (λ (x : World). IsPerformed (state_in c.self.inside.keep x) numbers to q c.perform-performed.result) c.in-Ok.ensures.ok c.perform-performed.ensures.performed in
    let done = done_of s numbers to q c.perform-performed.result c.in-Ok-performed.effect c.in-Ok-performed.is performed in
    let blocks : changes_maps q ≡ true → WritesBlocks c.in-Ok-performed.effect =
    λ changes. blocks_of q c.perform-performed.result c.in-Ok-performed.effect c.in-Ok-performed.is (c.perform-performed.ensures.blocks changes) in
    subst (λ (x : Shown). CanDo x.state x.numbers (Put to c.in-Ok-owned.effect)) c.self.view_is
    (subst (λ (e : Effect). CanDo s numbers (Put to e)) (sym c.in-Ok-owned.ensures.ok) (
      done.0,
      images s numbers c.self.invariant.sound to c.in-Ok-performed.effect done.0 q done.1 blocks,
      one_done c.self.inside.keep c.self.inside.keep c.self.inside.present to c.self.invariant q c.in-Ok-performed.effect done blocks,
    ))

pub returns-clause-none : goal.returns-clause-none
returns-clause-none c = λ quiet. absurd (c.requires.no_question (only_reading c.args.request.now c.in-Ok-owned.effect (ap (writes_nothing c.args.request.now) (sym c.tell.ensures) ∙ quiet)))
