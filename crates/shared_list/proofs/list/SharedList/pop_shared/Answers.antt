use Rattle.std.proofs.Common.{◌≡◌, ◌+◌, length, take, arith}
use Rattle.shared_list.specs.Elements.{flattened}
use Rattle.shared_list.proofs.Chunks.{popped}
use Rattle.shared_list.proofs.list.SharedList.pop_shared.Goals as goal

pub returns-clause-ok : goal.returns-clause-ok
returns-clause-ok g c =
    let xs = c.self.inside.chunks in
    let i = length (flattened (take c.in-Some.place.k xs)) + c.in-Some.place.at in
    let last : length (flattened xs) ≡ i + 1 = omega (arith, c.in-Some.ensures.last) in
    cc (popped (flattened xs) i c.in_ok-item.item.value last c.in_ok-item.ensures.item, c.in_ok-item.ensures.ok, c.self.view_is)
