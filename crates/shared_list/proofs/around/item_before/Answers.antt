use Rattle.std.proofs.Common.{◌≡◌, ◌+◌, ◌-◌, ◌<◌, suc, length, take, ap, arith}
use Rattle.std.proofs.lemmas.Option.{slice_get_within}
use Rattle.shared_list.specs.Elements.{flattened}
use Rattle.shared_list.proofs.Chunks.{got_within}
use Rattle.shared_list.proofs.Neighbours.{before_next}
use Rattle.shared_list.proofs.Points.{read_of, taken_more}
use Rattle.shared_list.proofs.around.item_before.Goals as goal

pub returns-then-place-gt0 : goal.returns-then-place-gt0
returns-then-place-gt0 g c =
    let xs = c.args.chunks.now in
    let k = c.args.place.k in
    let at = c.args.place.at in
    let a = c.args.chunk.now in
    let read = read_of xs k a c.requires.chunk in
    let lt : at - 1 < length a = omega (arith, ap length (read a), c.requires.place.within a) in
    let y = c.get.result.now in
    let low = length (flattened (take k xs)) in
    before_next (flattened xs) (low + (at - 1)) (low + at) y (got_within (λ v. v) xs k (at - 1) a y c.requires.place.chunk (read a) lt c.get.ensures) (omega arith)

pub returns : goal.returns
returns g c =
    let xs = c.args.chunks.now in
    let k = c.in_ok-k.k in
    let a = c.at.result.now in
    let y = c.last.result.now in
    let next : suc k ≡ c.args.place.k = grind arith in
    let h : k < length xs = omega (arith, c.requires.place.chunk) in
    let read = read_of xs k a c.at.ensures a in
    let low = length (flattened (take k xs)) in
    let i = length a - 1 in
    let lt = slice_get_within a i y c.last.ensures in
    let more = taken_more (λ v. v) xs k a h read in
    before_next (flattened xs) (low + i) (length (flattened (take c.args.place.k xs)) + c.args.place.at) y (got_within (λ v. v) xs k i a y h read lt c.last.ensures)
    (omega (arith, more, lt, ap (λ n. length (flattened (take n xs))) next))
