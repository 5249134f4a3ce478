use Rattle.std.proofs.Common.{zero, true, false, sym, ap, ◌∙◌}
use Rattle.std.specs.Prelude.{slice_get}
use Rattle.std.specs.List.{list_all}
use Rattle.std.specs.Option.{option_copied}
use Rattle.std.proofs.lemmas.List.{take_all}
use Rattle.std.proofs.lemmas.List.Folds.{list_all_at}
use Rattle.limits.specs.Lines.{is_in_quota, is_in_refquota}
use Rattle.limits.proofs.LimitRow.{over_quota, over_refquota, told_by_room, has_root}
use Rattle.limits.proofs.ledger.Ledger.first_over.Goals as goal

pub returns-then-not-is_in_quota : goal.returns-then-not-is_in_quota
returns-then-not-is_in_quota c =
    let items = c.deref-line-items.ensures.value ∙ c.self.view_is in
    let broken = sym (c.is_in_quota.ensures ∙ ap is_in_quota c.line-item.is) ∙ c.if-not-is_in_quota.true in
    λ s good all is. sym (over_quota s good c.args.space is c.args.self.now all
    (ap (list_all is_in_quota) (sym items) ∙ list_all_at is_in_quota c.deref-line-items.result.now c.loop-line.line-index c.line-item.result c.loop-line-test.true broken))

pub returns-then-not-are_in_refquotas : goal.returns-then-not-are_in_refquotas
returns-then-not-are_in_refquotas c =
    let items = take_all c.loop-line.line-index c.deref-line-items.result.now c.loop-line-test.false ∙ c.deref-line-items.ensures.value ∙ c.self.view_is in
    λ s good all is. sym (over_refquota s good c.args.space is c.args.self.now all
    (ap (list_all is_in_quota) (sym items) ∙ c.loop-line.invariant.quotas)
    (ap (list_all is_in_refquota) (sym items) ∙ sym c.loop-line.invariant.refquotas ∙ c.if-not-are_in_refquotas.true))

pub returns-in_err-root : goal.returns-in_err-root
returns-in_err-root c =
    let lines = c.deref.ensures.value ∙ c.self.view_is in
    λ s good all is. absurd (has_root s good c.args.space is c.args.self.now all
    (ap (λ ls. slice_get ls zero) (sym lines) ∙ sym c.first.ensures.value ∙ ap (λ x. option_copied x) c.in_err-root.was))

pub returns-then-has_room : goal.returns-then-has_room
returns-then-has_room c =
    let items = take_all c.loop-line.line-index c.deref-line-items.result.now c.loop-line-test.false ∙ c.deref-line-items.ensures.value ∙ c.self.view_is in
    let lines = c.deref.ensures.value ∙ c.self.view_is in
    λ s good all is. sym (told_by_room s good c.args.space is c.args.self.now all
    (ap (list_all is_in_quota) (sym items) ∙ c.loop-line.invariant.quotas)
    (ap (list_all is_in_refquota) (sym items) ∙ sym c.loop-line.invariant.refquotas ∙ c.if-not-are_in_refquotas.false)
    c.in_ok-root.root.now (ap (λ ls. slice_get ls zero) (sym lines) ∙ sym c.first.ensures.value ∙ ap (λ x. option_copied x) c.in_ok-root.was)
    c.charge.result c.charge.ensures.value true (sym c.if-has_room.true ∙ c.has_room.ensures))

pub returns-else-has_room : goal.returns-else-has_room
returns-else-has_room c =
    let items = take_all c.loop-line.line-index c.deref-line-items.result.now c.loop-line-test.false ∙ c.deref-line-items.ensures.value ∙ c.self.view_is in
    let lines = c.deref.ensures.value ∙ c.self.view_is in
    λ s good all is. sym (told_by_room s good c.args.space is c.args.self.now all
    (ap (list_all is_in_quota) (sym items) ∙ c.loop-line.invariant.quotas)
    (ap (list_all is_in_refquota) (sym items) ∙ sym c.loop-line.invariant.refquotas ∙ c.if-not-are_in_refquotas.false)
    c.in_ok-root.root.now (ap (λ ls. slice_get ls zero) (sym lines) ∙ sym c.first.ensures.value ∙ ap (λ x. option_copied x) c.in_ok-root.was)
    c.charge.result c.charge.ensures.value false (sym c.if-has_room.false ∙ c.has_room.ensures))
