use Rattle.std.proofs.Common.{◌≡◌, ◌+◌, ◌-◌, length, get_or, Some, slice_get, sym, subst, arith, rules}
use Rattle.std.specs.Arc.{arc_value}
use Rattle.shared_list.proofs.Points.{last_within}
use Rattle.shared_list.proofs.spine.Spine.last.Goals as goal

pub returns : goal.returns
returns g c =
    let xs = c.self.inside.chunks.items in
    let k = c.in_ok-k.k in
    let a = c.index.result.now in
    let y = c.last.result.now in
    let end : k + 1 ≡ length xs = grind arith in
    let read : a ≡ get_or xs k a = search rules in
    let is = subst (λ v. slice_get v (length v - 1) ≡ Some y) c.deref.ensures c.last.ensures in
    sym (subst (λ v. slice_get v (length v - 1) ≡ Some y) c.self.view_is (last_within arc_value xs k a y end read is))
