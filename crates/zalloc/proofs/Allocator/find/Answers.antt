use Rattle.std.proofs.Common.{◌∙◌, sym, ap}
use Rattle.std.specs.Prelude.{slice_get}
use Rattle.zalloc.proofs.Finding.{if_none}
use Rattle.zalloc.proofs.States.{free_get, not_free}
use Rattle.zalloc.proofs.Allocator.find.Goals as goal

pub returns-in_err-number-clause-none : goal.returns-in_err-number-clause-none
returns-in_err-number-clause-none c =
    let n = c.in_err-number.ensures.none in
    if_none c.from_residual.result (λ k p e. not_free c.self.inside.free c.self.inside.waiting k (λ q. n k p q) (ap (λ s. slice_get s k) c.self.view_is ∙ e))

pub returns-clause-found : goal.returns-clause-found
returns-clause-found c =
    let f = c.in_ok-number.ensures.found in
    let b = c.in_ok-number.number in
    ap (λ s. slice_get s b) (sym c.self.view_is) ∙ free_get c.self.inside.free c.self.inside.waiting b c.in_ok-number.ensures.within f.one

pub returns-clause-least : goal.returns-clause-least
returns-clause-least c = λ k p q e.
    let f = c.in_ok-number.ensures.found in
    not_free c.self.inside.free c.self.inside.waiting k (λ _. f.below k p q) (ap (λ s. slice_get s k) c.self.view_is ∙ e)
