use Rattle.std.proofs.Common.{ap, ◌∙◌, rules}
use Rattle.model.specs.declared.entry.Entry.{Entry}
use Rattle.session.specs.Asked.{Asked}
use Rattle.session.proofs.Stays.{stays}
use Rattle.session.proofs.book.entering.changed.Goals as goal

pub returns-clause-none : goal.returns-clause-none
returns-clause-none c =
    let same = ap (λ (e : Entry). e.request) c.deref.ensures ∙ ap (λ (a : Asked). a.request) c.call.view_is in
    let h = stays c.args.pool.now.state _ _ _ _ c.is_done.result c.requires same c.apply.ensures.step c.is_done.ensures c.if-is_done.false in
    search (rules, h)
