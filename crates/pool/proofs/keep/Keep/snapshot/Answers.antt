use Rattle.std.proofs.Common.{◌+◌, Ok, refl, sym, subst, ◌∙◌, arith}
use Rattle.std.specs.FinSet as set
use Rattle.model.specs.Step.{Step}
use Rattle.model.specs.declared.reply.Reply.TheVariants.{Refused}
use Rattle.model.specs.declared.request.Request.TheVariants.{Snapshot}
use Rattle.steps.specs.Limiting.{IsOver}
use Rattle.pool.specs.Effects.{IsPerformed}
use Rattle.pool.specs.Pools.{state_in}
use Rattle.pool.specs.declared.effect.Effect.TheVariants.{Nothing, Guids}
use Rattle.pool.proofs.Performed.{exits, bare, unlimited, placed_with}
use Rattle.pool.proofs.Fitting.{nothing_taken, snapshot_refused, snapshot_nothing, snapshot_few, snapshot_stays, snapshot_over, snapshot_guids, snapshot_can, snapshot_done}
use Rattle.pool.proofs.keep.Keep.snapshot.Goals as goal

pub returns-in_err-count-clause-performed : goal.returns-in_err-count-clause-performed
returns-in_err-count-clause-performed c =
    exits (state_in c.args.self.now c.args.world.now) c.args.self.now.numbers.present _ (Snapshot c.args.names.now c.args.recursive) c.from_residual.result c.in_err-count.field-0.0 c.from_residual.ensures.1
    (subst (λ ms. Step (state_in c.args.self.now c.args.world.now) (Snapshot ms c.args.recursive) (Refused c.in_err-count.field-0.0) (state_in c.args.self.now c.args.world.now)) c.as_slice.ensures
    (snapshot_refused (state_in c.args.self.now c.args.world.now) c.args.self.now.numbers.present c.requires.sound c.as_slice.result.now c.args.recursive c.in_err-count.field-0.0 c.in_err-count.ensures.only))

pub returns-then-count-eq0-clause-performed : goal.returns-then-count-eq0-clause-performed
returns-then-count-eq0-clause-performed c =
    let same = c.in_ok-count.ensures.ok ∙ nothing_taken _ _ _ (sym c.in_ok-count.ensures.count ∙ c.if-count-eq0.true) in
    subst (λ ms. IsPerformed (state_in c.args.self.now c.args.world.now) c.args.self.now.numbers.present (record c.args.world.now { table = c.snapshot.new.table }) (Snapshot ms c.args.recursive) (Ok Nothing)) c.as_slice.ensures
    (subst (λ t. IsPerformed (state_in c.args.self.now c.args.world.now) c.args.self.now.numbers.present (record c.args.world.now { table = t }) (Snapshot c.as_slice.result.now c.args.recursive) (Ok Nothing)) (sym same)
    (record { sound = c.requires.sound; kept = c.requires.now; may = tt; leads = tt }, snapshot_nothing (state_in c.args.self.now c.args.world.now) c.args.self.now.numbers.present c.requires.sound c.as_slice.result.now c.args.recursive c.in_ok-count.ensures.can c.in_ok-count.count c.in_ok-count.ensures.count c.if-count-eq0.true))

pub over-requires-clause-unlimited : goal.over-requires-clause-unlimited
over-requires-clause-unlimited c =
    bare c.args.self.now c.args.world.now c.requires c.snapshot.new.table c.snapshot.new.table refl (snapshot_stays (state_in c.args.self.now c.args.world.now) c.args.self.now.numbers.present c.requires.sound c.as_slice.result.now c.args.recursive c.in_ok-count.ensures.can c.in_ok-count.count c.in_ok-count.ensures.count (omega (arith, c.if-count-eq0.false)) c.snapshot.new.table c.in_ok-count.ensures.ok)

pub over-requires-clause-few : goal.over-requires-clause-few
over-requires-clause-few c = snapshot_few (state_in c.args.self.now c.args.world.now) c.args.self.now.numbers.present c.requires.sound c.as_slice.result.now c.args.recursive c.in_ok-count.ensures.can c.in_ok-count.count c.in_ok-count.ensures.count (omega (arith, c.if-count-eq0.false)) c.snapshot.new.table c.in_ok-count.ensures.ok

pub returns-in-Some-clause-performed : goal.returns-in-Some-clause-performed
returns-in-Some-clause-performed c =
    subst (λ ms. Step (state_in c.args.self.now c.args.world.now) (Snapshot ms c.args.recursive) (Refused c.in-Some.refusal) (state_in c.args.self.now c.args.world.now)) c.as_slice.ensures
    (snapshot_over (state_in c.args.self.now c.args.world.now) c.args.self.now.numbers.present c.requires.sound c.as_slice.result.now c.args.recursive c.in_ok-count.ensures.can c.in_ok-count.count c.in_ok-count.ensures.count (omega (arith, c.if-count-eq0.false)) c.snapshot.new.table c.in_ok-count.ensures.ok c.in-Some.refusal (subst (IsOver (state_in c.args.self.now c.args.world.now) c.snapshot.new.table (set.len c.args.world.now.freeing)) c.in-Some.is (c.over.ensures.over (state_in c.args.self.now c.args.world.now) c.requires.sound refl (unlimited c.args.self.now c.args.world.now c.requires))))

pub returns-in-None-clause-performed : goal.returns-in-None-clause-performed
returns-in-None-clause-performed c =
    let fits = subst (IsOver (state_in c.args.self.now c.args.world.now) c.snapshot.new.table (set.len c.args.world.now.freeing)) c.in-None.is (c.over.ensures.over (state_in c.args.self.now c.args.world.now) c.requires.sound refl (unlimited c.args.self.now c.args.world.now c.requires)) in
    subst (λ ms. IsPerformed (state_in c.args.self.now c.args.world.now) c.args.self.now.numbers.present c.over.new.world (Snapshot ms c.args.recursive) (Ok (Guids (c.args.self.now.next_guid + c.in_ok-count.count)))) c.as_slice.ensures
    (subst (λ w. IsPerformed (state_in c.args.self.now c.args.world.now) c.args.self.now.numbers.present w (Snapshot c.as_slice.result.now c.args.recursive) (Ok (Guids (c.args.self.now.next_guid + c.in_ok-count.count)))) (sym c.over.ensures.same)
    (placed_with c.args.self.now c.args.world.now c.requires c.snapshot.new.table c.snapshot.new.table refl c.in_ok-count.count (snapshot_guids (state_in c.args.self.now c.args.world.now) c.args.self.now.numbers.present c.requires.sound c.as_slice.result.now c.args.recursive c.in_ok-count.ensures.can c.in_ok-count.count c.in_ok-count.ensures.count (omega (arith, c.if-count-eq0.false)) c.snapshot.new.table c.in_ok-count.ensures.ok) (snapshot_can (state_in c.args.self.now c.args.world.now) c.args.self.now.numbers.present c.requires.sound c.as_slice.result.now c.args.recursive c.in_ok-count.ensures.can c.in_ok-count.count c.in_ok-count.ensures.count (omega (arith, c.if-count-eq0.false)) c.snapshot.new.table c.in_ok-count.ensures.ok fits) c.over.new.world.ledger c.over.ensures.ledger
    (Snapshot c.as_slice.result.now c.args.recursive) (snapshot_done (state_in c.args.self.now c.args.world.now) c.args.self.now.numbers.present c.requires.sound c.as_slice.result.now c.args.recursive c.in_ok-count.ensures.can c.in_ok-count.count c.in_ok-count.ensures.count (omega (arith, c.if-count-eq0.false)) c.snapshot.new.table c.in_ok-count.ensures.ok fits) (c.args.self.now.next_guid + c.in_ok-count.count) refl))
