use Rattle.std.proofs.Common.{sym, rules}
use Rattle.std.proofs.lemmas.Fn.{always_returns_same}
use Rattle.snap.specs.declared.row.Open.{Open}
use Rattle.snap.proofs.Rows.{found, missed}
use Rattle.snap.proofs.row.shown.Goals as goal

-- the closure gives a view's number
pub returns-in-Ok : goal.returns-in-Ok
returns-in-Ok c =
    let facts = c.in-Ok.ensures in
    let tied = facts.position (λ (v : Open). v.number) (always_returns_same _ _ _ (λ a r g called. search rules)) in
    sym (found c.args.views.now c.requires c.args.number c.in-Ok.place _ facts.bound (tied _))

pub returns-in-Err : goal.returns-in-Err
returns-in-Err c =
    let facts = c.in-Err.ensures in
    let parted = facts.position (λ (v : Open). v.number) (always_returns_same _ _ _ (λ a r g called. search rules)) in
    sym (missed c.args.views.now c.requires c.args.number c.in-Err.field-0 parted)
