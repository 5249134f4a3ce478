use Rattle.std.proofs.Common.{ap, ◌∙◌, arith}
use Rattle.std.specs.FinMap.{len}
use Rattle.snap.specs.Viewing.{Viewing}
use Rattle.snap.proofs.Kept.{count_is}
use Rattle.snap.proofs.list.Views.len.Goals as goal

-- as many as the map has
pub returns-clause-len : goal.returns-clause-len
returns-clause-len c = c.len.ensures ∙ count_is c.self.inside c.self.invariant ∙ ap (λ (v : Viewing). len v.opened) c.self.view_is

pub returns-clause-few : goal.returns-clause-few
returns-clause-few c =
    let few = c.self.invariant.few in
    let same = count_is c.self.inside c.self.invariant ∙ ap (λ (v : Viewing). len v.opened) c.self.view_is in
    omega (arith, few, same)
