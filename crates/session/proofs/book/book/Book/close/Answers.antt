use Rattle.std.proofs.Common.{◌≡◌, ◌∙◌, map, refl, sym, ap, subst}
use Rattle.std.specs.Arc.{arc_value}
use Rattle.session.specs.Books.{Pages}
use Rattle.session.specs.Whole.{IsAnswered}
use Rattle.session.proofs.Answered.{whole_answered}
use Rattle.session.proofs.book.book.Book.close.Goals as goal

pub returns-clause-answered : goal.returns-clause-answered
returns-clause-answered g c =
    let whole : IsAnswered (map arc_value c.as_slice.result.now) c.as_slice-2.result.now = whole_answered _ _ _ (c.if-not-is_whole.ensures.0 refl) in
    let history : map arc_value c.as_slice.result.now ≡ map arc_value c.give_up.result.history.items =
    ap (map arc_value) c.as_slice.ensures.value ∙ ap (λ (p : Pages). p.history) c.self.view_is ∙ sym c.give_up.ensures.history in
    subst (λ h. IsAnswered h c.args.seats.items) history (subst (λ xs. IsAnswered (map arc_value c.as_slice.result.now) xs) c.as_slice-2.ensures.value whole)
