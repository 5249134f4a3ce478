use Rattle.std.proofs.Common.{◌≡◌, ◌++◌, ◌∷◌, [], List, ap, subst, ◌∙◌}
use Rattle.model.specs.declared.request.Request.TheVariants.{OpenView}
use Rattle.session.specs.ViewCalls.{HasOpened}
use Rattle.session.specs.Views.{Viewed}
use Rattle.runner.specs.Beside.{Gains}
use Rattle.runner.proofs.Gaining.{gains_opened, gains_unopened, numbers}
use Rattle.runner.proofs.seated.Seated.open.Goals as goal

pub returns-in-Ok-Opened : goal.returns-in-Ok-Opened
returns-in-Ok-Opened g c =
    let v : Viewed = c.in-Ok-Opened.view in
    let e = subst (λ o. HasOpened c.args.target c.self.inside.seat o c.open_view.new.seat) c.in-Ok-Opened.field-0-is c.in-Ok-Opened.ensures.ok in
    let grown : c.push_reserved.new.self.items ≡ c.self.inside.views.items ++ v ∷ [] = c.push_reserved.ensures.items ∙ ap (λ (vs : List Viewed). vs ++ v ∷ []) c.reserve.ensures.items in
    subst (λ s. Gains s (OpenView c.args.target) c.reply_of.result (record { seat = c.open_view.new.seat; held = numbers c.push_reserved.new.self.items })) c.self.view_is
    (gains_opened c.self.inside.seat c.open_view.new.seat c.self.inside.views.items c.push_reserved.new.self.items v c.args.target c.in-Ok-Opened.receipt c.reply_of.result grown e.0 e.1 c.reply_of.ensures)

pub returns-in-Ok-Refused : goal.returns-in-Ok-Refused
returns-in-Ok-Refused g c =
    let e = subst (λ o. HasOpened c.args.target c.self.inside.seat o c.open_view.new.seat) c.in-Ok-Refused.field-0-is c.in-Ok-Refused.ensures.ok in
    subst (λ s. Gains s (OpenView c.args.target) c.reply_of-in-Ok-Refused.result (record { seat = c.open_view.new.seat; held = numbers c.reserve.new.self.items })) c.self.view_is
    (gains_unopened c.self.inside.seat c.open_view.new.seat c.self.inside.views.items c.reserve.new.self.items c.args.target c.in-Ok-Refused.receipt c.reply_of-in-Ok-Refused.result
    c.reserve.ensures.items e.0 e.1 c.reply_of-in-Ok-Refused.ensures)
