use Rattle.std.proofs.Common.{Some, refl, ◌∙◌}
use Rattle.model.specs.declared.request.Request.TheVariants.{Set}
use Rattle.pool.specs.Pools.{state_in}
use Rattle.pool.proofs.Limited.{state_with, set_can, set_done}
use Rattle.pool.proofs.Performed.{exits, placed}
use Rattle.pool.proofs.keep.Keep.set.Goals as goal

pub with_limit-requires : goal.with_limit-requires
with_limit-requires c = record { state = ((state_in c.args.self.now c.args.world.now), (state_with (state_in c.args.self.now c.args.world.now) c.args.self.now.numbers.present c.requires.sound c.space-space.result c.space-space.ensures.size (c.space-space.ensures.freeing ∙ c.len.ensures) c.space-space.ensures.waiting)) }

pub returns-in_err-to-clause-performed : goal.returns-in_err-to-clause-performed
returns-in_err-to-clause-performed c =
    exits (state_in c.args.self.now c.args.world.now) c.args.self.now.numbers.present _ (Set c.args.name.now c.args.limit c.args.amount) c.from_residual.result c.in_err-to.field-0.0 c.from_residual.ensures.1 (c.in_err-to.ensures.err (state_in c.args.self.now c.args.world.now) (state_with (state_in c.args.self.now c.args.world.now) c.args.self.now.numbers.present c.requires.sound c.space-space.result c.space-space.ensures.size (c.space-space.ensures.freeing ∙ c.len.ensures) c.space-space.ensures.waiting))

pub returns-clause-performed : goal.returns-clause-performed
returns-clause-performed c =
    let fits = c.in_ok-to.ensures.fits (state_in c.args.self.now c.args.world.now) (state_with (state_in c.args.self.now c.args.world.now) c.args.self.now.numbers.present c.requires.sound c.space-space.result c.space-space.ensures.size (c.space-space.ensures.freeing ∙ c.len.ensures) c.space-space.ensures.waiting) in
    placed c.args.self.now c.args.world.now c.requires c.in_ok-to.to c.in_ok-to.to refl (set_can (state_in c.args.self.now c.args.world.now) c.args.self.now.numbers.present c.requires.sound c.args.name.now c.args.limit c.args.amount c.in_ok-to.ensures.there fits c.in_ok-to.to c.in_ok-to.ensures.ok) (Some c.in_ok-to.ledger) c.in_ok-to.ensures.ledger
    (Set c.args.name.now c.args.limit c.args.amount) (set_done (state_in c.args.self.now c.args.world.now) c.args.self.now.numbers.present c.requires.sound c.args.name.now c.args.limit c.args.amount c.in_ok-to.ensures.there fits c.in_ok-to.to c.in_ok-to.ensures.ok)
