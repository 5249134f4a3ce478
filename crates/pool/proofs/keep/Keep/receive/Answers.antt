use Rattle.std.proofs.Common.{◌≡◌, ap, List, Option, None, Some, false, refl, sym, subst, ◌∙◌, rules}
use Rattle.std.specs.Option.{is_some}
use Rattle.model.specs.Step.{Step}
use Rattle.model.specs.declared.reply.Reply.TheVariants.{Refused}
use Rattle.model.specs.declared.request.Request.TheVariants.{Receive}
use Rattle.base.specs.declared.refusal.Refusal.TheVariants.{NoMemory}
use Rattle.base.specs.declared.name.member.Member.{Member}
use Rattle.batch.specs.declared.draft.Draft.{Draft}
use Rattle.steps.specs.Edits.{datasets_of}
use Rattle.steps.specs.Handed.{Line}
use Rattle.steps.specs.Limiting.{CanRecount}
use Rattle.steps.specs.Intakes.{IsIntakeOf}
use Rattle.pool.specs.Pools.{state_in}
use Rattle.steps.proofs.requests.Receiving.{receive_no_memory}
use Rattle.pool.proofs.Intakes.{present, intake_few, intake_bare, intake_present, intake_counted, intake_performed}
use Rattle.pool.proofs.Performed.{exits, unlimited}
use Rattle.pool.proofs.keep.Keep.receive.Goals as goal

no_ledger : (l : Option (List Line)) → is_some l ≡ false → l ≡ None
no_ledger None e = refl
no_ledger (Some x) e = absurd cc

pub intake_of-requires : goal.intake_of-requires
intake_of-requires c = ((state_in c.args.self.now c.args.world.now), (present (state_in c.args.self.now c.args.world.now) c.args.self.now.numbers.present c.requires.sound _ (sym c.present.ensures) refl refl refl (sym c.group.ensures) refl (λ no. unlimited c.args.self.now c.args.world.now c.requires (no_ledger c.args.world.now.ledger (sym c.is_some.ensures ∙ no)))))

pub returns-in_err-intake-clause-performed : goal.returns-in_err-intake-clause-performed
returns-in_err-intake-clause-performed c =
    exits (state_in c.args.self.now c.args.world.now) c.args.self.now.numbers.present _ (Receive c.args.snapshot.now c.args.bytes.now c.args.mode.now) c.from_residual-in_err-intake.result c.in_err-intake.field-0.0 c.from_residual-in_err-intake.ensures.1
    (subst (λ b. Step (state_in c.args.self.now c.args.world.now) (Receive c.args.snapshot.now b c.args.mode.now) (Refused c.in_err-intake.field-0.0) (state_in c.args.self.now c.args.world.now)) c.as_slice.ensures (c.in_err-intake.ensures.err (state_in c.args.self.now c.args.world.now) (present (state_in c.args.self.now c.args.world.now) c.args.self.now.numbers.present c.requires.sound _ (sym c.present.ensures) refl refl refl (sym c.group.ensures) refl (λ no. unlimited c.args.self.now c.args.world.now c.requires (no_ledger c.args.world.now.ledger (sym c.is_some.ensures ∙ no))))))

pub recount-requires-clause-unlimited : goal.recount-requires-clause-unlimited
recount-requires-clause-unlimited c =
    let i = c.in_ok-intake.intake in
    intake_bare c.args.self.now c.args.world.now c.requires c.args.snapshot.now c.as_slice.result.now c.args.mode.now i c.intake_of.new.draft (c.in_ok-intake.ensures.ok (state_in c.args.self.now c.args.world.now) (present (state_in c.args.self.now c.args.world.now) c.args.self.now.numbers.present c.requires.sound _ (sym c.present.ensures) refl refl refl (sym c.group.ensures) refl (λ no. unlimited c.args.self.now c.args.world.now c.requires (no_ledger c.args.world.now.ledger (sym c.is_some.ensures ∙ no)))))

pub recount-requires-clause-few : goal.recount-requires-clause-few
recount-requires-clause-few c =
    let i = c.in_ok-intake.intake in
    intake_few c.args.self.now c.args.world.now c.requires c.args.snapshot.now c.as_slice.result.now c.args.mode.now i c.intake_of.new.draft (c.in_ok-intake.ensures.ok (state_in c.args.self.now c.args.world.now) (present (state_in c.args.self.now c.args.world.now) c.args.self.now.numbers.present c.requires.sound _ (sym c.present.ensures) refl refl refl (sym c.group.ensures) refl (λ no. unlimited c.args.self.now c.args.world.now c.requires (no_ledger c.args.world.now.ledger (sym c.is_some.ensures ∙ no)))))

pub returns-in_err-blocks-clause-performed : goal.returns-in_err-blocks-clause-performed
returns-in_err-blocks-clause-performed c =
    exits (state_in c.args.self.now c.args.world.now) c.args.self.now.numbers.present _ (Receive c.args.snapshot.now c.args.bytes.now c.args.mode.now) c.from_residual-in_err-blocks.result NoMemory (search rules)
    (receive_no_memory (state_in c.args.self.now c.args.world.now) c.args.snapshot.now c.args.bytes.now c.args.mode.now)

pub recount-requires-clause-before : goal.recount-requires-clause-before
recount-requires-clause-before c =
    let i = c.in_ok-intake.intake in (
      datasets_of (state_in c.args.self.now c.args.world.now),
      subst (λ (m : Member). CanRecount (datasets_of (state_in c.args.self.now c.args.world.now)) i.to m.file_system c.args.world.now.ledger) (sym c.member.ensures.value)
          (intake_counted c.args.self.now c.args.world.now c.requires c.args.snapshot.now c.as_slice.result.now c.args.mode.now i c.intake_of.new.draft (c.in_ok-intake.ensures.ok (state_in c.args.self.now c.args.world.now) (present (state_in c.args.self.now c.args.world.now) c.args.self.now.numbers.present c.requires.sound _ (sym c.present.ensures) refl refl refl (sym c.group.ensures) refl (λ no. unlimited c.args.self.now c.args.world.now c.requires (no_ledger c.args.world.now.ledger (sym c.is_some.ensures ∙ no)))))),
    )

pub returns-clause-performed : goal.returns-clause-performed
returns-clause-performed c =
    let i = c.in_ok-intake.intake in
    let is = (c.in_ok-intake.ensures.ok (state_in c.args.self.now c.args.world.now) (present (state_in c.args.self.now c.args.world.now) c.args.self.now.numbers.present c.requires.sound _ (sym c.present.ensures) refl refl refl (sym c.group.ensures) refl (λ no. unlimited c.args.self.now c.args.world.now c.requires (no_ledger c.args.world.now.ledger (sym c.is_some.ensures ∙ no))))) in
    let made = c.as_slice-2.ensures ∙ ap (λ (d : Draft). d.made.items) c.deref.ensures in
    let told = rw made at (rw c.member.ensures.value at c.in_ok-blocks.ensures.ok) (intake_present c.args.self.now c.args.world.now c.requires c.args.snapshot.now c.as_slice.result.now c.args.mode.now i c.intake_of.new.draft is) in
    let whole = subst (λ b. IsIntakeOf (state_in c.args.self.now c.args.world.now) c.args.snapshot.now b c.args.mode.now i c.intake_of.new.draft) c.as_slice.ensures is in
    intake_performed c.args.self.now c.args.world.now c.requires c.args.snapshot.now c.args.bytes.now c.args.mode.now i _ whole c.recount.new.ledger c.recount.ensures c.in_ok-blocks.blocks told
