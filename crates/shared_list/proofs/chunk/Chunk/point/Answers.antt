use Rattle.std.proofs.Common.{◌≡◌, ◌+◌, ◌-◌, length, take, ap, subst, ◌∙◌, arith}
use Rattle.std.proofs.lemmas.List.{length-map}
use Rattle.shared_list.specs.Places.{ends}
use Rattle.shared_list.specs.Cuts.{IsCut}
use Rattle.shared_list.proofs.Points.{cut_of_values}
use Rattle.shared_list.proofs.chunk.Chunk.point.Goals as goal

pub returns-clause-cut : goal.returns-clause-cut
returns-clause-cut g c = λ p h last.
    let items = c.self.inside.items.items in
    let n = c.len.result - 1 in
    let some = c.self.invariant in
    let long : length items ≡ n + 1 = omega (arith, some.0, length-map items (λ a. a.value), c.len.ensures) in
    let but_last : IsCut (λ a. p a.value) (take n items) c.cut_of.result = subst (λ v. IsCut (λ a. p a.value) (take n v) c.cut_of.result) c.deref.ensures.value (c.cut_of.ensures.cut p h) in
    let cut = cut_of_values p items n c.cut_of.result long (ap (ends p) c.self.view_is ∙ last) but_last in
    subst (λ v. IsCut p v c.cut_of.result) c.self.view_is cut
