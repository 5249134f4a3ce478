use Rattle.std.proofs.Common.{◌≡◌, ◌==◌, Some, None, ap, subst, ◌∙◌, rules}
use Rattle.std.specs.List.{position}
use Rattle.model.specs.declared.request.Request.TheVariants.{CloseView}
use Rattle.model.specs.declared.reply.Reply.TheVariants.{Refused}
use Rattle.base.specs.declared.refusal.Refusal.TheVariants.{NoView}
use Rattle.session.specs.Views.{Viewed}
use Rattle.runner.specs.Beside.{Gains}
use Rattle.runner.proofs.Gaining.{gains_unheld, gains_closed, gains_refused, gains_nothing, numbers}
use Rattle.runner.proofs.seated.Seated.close.Goals as goal

pub swap_remove-view-requires : goal.swap_remove-view-requires
swap_remove-view-requires g c = search rules

pub returns-in_default : goal.returns-in_default
returns-in_default g c =
    let none : None ≡ position (λ (v : Viewed). v.number == c.args.number) c.self.inside.views.items = c.in_default.ensures.first ∙ ap (position (λ (v : Viewed). v.number == c.args.number)) c.deref.ensures.value in
    subst (λ s. Gains s (CloseView c.args.number) (Some (Refused NoView)) s) c.self.view_is (gains_unheld c.self.inside.seat c.self.inside.views.items c.args.number none)

pub returns-in-Closed : goal.returns-in-Closed
returns-in-Closed g c =
    let v : Viewed = c.swap_remove-view.result in
    let first : Some c.in-Some.place ≡ position (λ (w : Viewed). w.number == c.args.number) c.self.inside.views.items = c.in-Some.ensures.first ∙ ap (position (λ (w : Viewed). w.number == c.args.number)) c.deref.ensures.value in
    let e = c.in-Closed.ensures.closed in
    subst (λ s. Gains s (CloseView c.args.number) c.reply_of.result (record { seat = c.close_view.new.seat; held = numbers c.swap_remove-view.new.self.items })) c.self.view_is
    (gains_closed c.self.inside.seat c.self.inside.views.items c.swap_remove-view.new.self.items c.args.number c.in-Some.place v first c.swap_remove-view.ensures.value c.swap_remove-view.ensures.items
    c.close_view.new.seat c.in-Closed.receipt c.reply_of.result e.0 e.1 c.reply_of.ensures)

pub returns-in-Refused : goal.returns-in-Refused
returns-in-Refused g c =
    let v : Viewed = c.swap_remove-view.result in
    let first : Some c.in-Some.place ≡ position (λ (w : Viewed). w.number == c.args.number) c.self.inside.views.items = c.in-Some.ensures.first ∙ ap (position (λ (w : Viewed). w.number == c.args.number)) c.deref.ensures.value in
    let e = c.in-Refused.ensures.closed in
    subst (λ s. Gains s (CloseView c.args.number) c.reply_of-in-Refused.result (record { seat = c.close_view.new.seat; held = numbers c.push_reserved.new.self.items })) c.self.view_is
    (gains_refused c.self.inside.seat c.self.inside.views.items c.swap_remove-view.new.self.items c.args.number c.in-Some.place v first c.swap_remove-view.ensures.value c.swap_remove-view.ensures.items
    c.close_view.new.seat c.push_reserved.new.self.items c.in-Refused.view c.in-Refused.receipt c.reply_of-in-Refused.result e.2 c.push_reserved.ensures.items e.0 e.1 c.reply_of-in-Refused.ensures)

pub returns-in-NotRun : goal.returns-in-NotRun
returns-in-NotRun g c =
    let v : Viewed = c.swap_remove-view.result in
    let first : Some c.in-Some.place ≡ position (λ (w : Viewed). w.number == c.args.number) c.self.inside.views.items = c.in-Some.ensures.first ∙ ap (position (λ (w : Viewed). w.number == c.args.number)) c.deref.ensures.value in
    let e = c.in-NotRun.ensures.closed in
    subst (λ s. Gains s (CloseView c.args.number) (Some (Refused c.in-NotRun.refusal)) (record { seat = c.close_view.new.seat; held = numbers c.push_reserved-in-NotRun.new.self.items })) c.self.view_is
    (gains_nothing c.self.inside.seat c.self.inside.views.items c.swap_remove-view.new.self.items c.args.number c.in-Some.place v first c.swap_remove-view.ensures.value c.swap_remove-view.ensures.items
    c.close_view.new.seat c.push_reserved-in-NotRun.new.self.items c.in-NotRun.view c.in-NotRun.refusal e.1 c.push_reserved-in-NotRun.ensures.items e.0 e.2)
