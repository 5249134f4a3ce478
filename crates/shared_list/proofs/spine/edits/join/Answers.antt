use Rattle.std.proofs.Common.{◌≡◌, suc, ◌-◌, ◌<◌, ◌++◌, length, get_or, arith, rules}
use Rattle.std.specs.Arc.{arc_value}
use Rattle.shared_list.proofs.Chunks.{met}
use Rattle.shared_list.proofs.spine.edits.join.Goals as goal

pub returns-in-Ok : goal.returns-in-Ok
returns-in-Ok g c =
    let xs = c.args.chunks.now.items in
    let k = c.args.k in
    let a = c.index-3.result.now in
    let b = c.index-4.result.now in
    let next : k ≡ suc (k - 1) = omega arith in
    let within : k < length xs = grind arith in
    let read_a : a ≡ get_or xs (k - 1) a = search rules in
    let read_b : b ≡ get_or xs k b = search rules in
    let value : c.in-Ok.whole.value ≡ a.value ++ b.value = search rules in
    let m = met arc_value xs (k - 1) k a b c.in-Ok.whole next within read_a read_b value in
    cc (m, c.remove-joined.ensures.items)
