use Rattle.std.proofs.Common.{◌≡◌, ◌+◌, ◌<◌, length, take, slice_get, ap, sym, ◌∙◌, arith}
use Rattle.std.proofs.lemmas.List.{length-set}
use Rattle.shared_list.specs.Changes.{changed}
use Rattle.shared_list.specs.Elements.{elements}
use Rattle.shared_list.proofs.Chunks.{is_there}
use Rattle.shared_list.proofs.spine.Spine+Chunk+T.change.Goals as goal

pub invariant_of-self-2 : goal.invariant_of-self-2
invariant_of-self-2 g c =
    let xs = c.self.inside.chunks.items in
    let p = c.place_of-place.result in
    let within : c.args.k < length (elements xs) = omega (arith, c.requires.k, ap length c.self.view_is) in
    let found = is_there (elements xs) c.args.k within in
    let at : length (elements (take p.k xs)) + p.at ≡ c.args.k = cc (c.place_of-place.ensures.index, c.deref.ensures.value) in
    let put = c.in_ok-change_deep.ensures.ok found.0 (ap (slice_get (elements xs)) at ∙ found.1) in
    c.self.invariant ∙ sym (ap length put ∙ length-set (elements xs) (length (elements (take p.k xs)) + p.at) (changed found.0 c.args.change))
