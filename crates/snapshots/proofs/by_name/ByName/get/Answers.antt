use Rattle.std.proofs.Common.{◌≡◌, sym, ap, ◌∙◌, Some, None, cond, true, false}
use Rattle.std.specs.List.{find}
use Rattle.snapshots.specs.Order.{is_named}
use Rattle.snapshots.proofs.by_name.ByName.get.Goals as goal

pub returns-in_err-kept : goal.returns-in_err-kept
returns-in_err-kept c = rw c.from_residual.ensures (sym c.in_err-kept.ensures ∙ ap (find (is_named c.args.name.now)) c.self.view_is)

pub returns-then-has_name : goal.returns-then-has_name
returns-then-has_name c =
    let named : is_named c.args.name.now c.in_ok-kept.kept.now ≡ true = cc (c.has_name.ensures, c.if-has_name.true) in
    sym (sym (ap (find (is_named c.args.name.now)) c.self.view_is) ∙ c.in_ok-kept.ensures ∙ ap (λ b. cond b (Some c.in_ok-kept.kept.now) None) named)

pub returns : goal.returns
returns c =
    let named : is_named c.args.name.now c.in_ok-kept.kept.now ≡ false = cc (c.has_name.ensures, c.if-has_name.false) in
    sym (sym (ap (find (is_named c.args.name.now)) c.self.view_is) ∙ c.in_ok-kept.ensures ∙ ap (λ b. cond b (Some c.in_ok-kept.kept.now) None) named)
