use Rattle.std.proofs.Common.{◌≡◌, ◌<◌, sym, subst, length, slice_get, Some}
use Rattle.std.specs.Arc.{arc_value}
use Rattle.shared_list.proofs.Chunks.{got_within}
use Rattle.shared_list.proofs.spine.place.item_at.Goals as goal

pub returns : goal.returns
returns g c =
    let xs = c.args.chunks.now in
    let k = c.args.place.k in
    let at = c.args.place.at in
    let a = c.index-chunks-place.result in
    let within = subst (λ b. at < length b.value) (sym c.index-chunks-place.is) (c.requires.within a) in
    let is = subst (λ v. slice_get v at ≡ Some c.get.result.now) c.deref.ensures c.get.ensures in
    got_within arc_value xs k at a c.get.result.now c.requires.chunk c.index-chunks-place.is within is
