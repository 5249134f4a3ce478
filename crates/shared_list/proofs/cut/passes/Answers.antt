use Rattle.std.proofs.Common.{◌≡◌, ◌<◌, length, get_or, sym, ap, ◌∙◌, arith}
use Rattle.std.proofs.lemmas.List.{get_or_default}
use Rattle.shared_list.proofs.Points.{answered}
use Rattle.shared_list.proofs.cut.passes.Goals as goal

pub returns : goal.returns
returns g c = λ p d h.
    let items = c.args.items.now in
    let w = (g.met.P.FnMut.1.post_iff _ _ _).0 c.test.ensures in
    let x : c.test.result ≡ p c.deref.result.now = answered g.P.Fn _ _ _ _ _ w.1 h in
    let read : c.index-items-at.result ≡ get_or items c.args.at d = c.index-items-at.is ∙ get_or_default items c.args.at c.index-items-at.result d c.requires.at in
    x ∙ ap p c.deref.ensures ∙ ap (λ b. p b.value) read
