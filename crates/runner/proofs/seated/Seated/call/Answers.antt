use Rattle.std.proofs.Common.{◌≡◌, subst, sym}
use Rattle.std.specs.Prelude.{IfSome}
use Rattle.runner.specs.Beside.{Gains}
use Rattle.runner.proofs.Gaining.{gains_called, gains_uncalled, numbers}
use Rattle.runner.proofs.seated.Seated.call.Goals as goal
use Rattle.runner.proofs.seated.Seated.call.Goals.{in-Ok, in-Err}

pub returns : goal.returns
returns g c =
    subst (λ s. Gains s c.args.request c.match-call.result (record { seat = c.call.new.seat; held = numbers c.self.inside.views.items })) c.self.view_is
    (elim c.match-call.branch [
      | in-Ok w ↦
          gains_called c.self.inside.seat c.call.new.seat c.self.inside.views.items c.args.request c.match-call.result c.requires w.in-Ok.receipt w.in-Ok.ensures.ok
          (subst (λ o. IfSome o (λ x. x ≡ w.in-Ok.receipt.entry.reply)) (sym w.result-is) w.reply_of.ensures)
      | in-Err w ↦
          gains_uncalled c.self.inside.seat c.call.new.seat c.self.inside.views.items c.args.request c.match-call.result c.requires w.in-Err.refusal w.in-Err.ensures.err w.result-is
          w.in-Err.ensures.refusal
    ])
