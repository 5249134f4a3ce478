use Rattle.std.proofs.Common.{◌≡◌, ◌+◌, ◌<◌, ◌≤◌, suc, length, take, slice_get, ap, sym, ◌∙◌, arith}
use Rattle.std.proofs.lemmas.List.{take_all}
use Rattle.std.proofs.lemmas.Option.{slice_get_within}
use Rattle.shared_list.specs.Elements.{flattened}
use Rattle.shared_list.proofs.Chunks.{got_within}
use Rattle.shared_list.proofs.Neighbours.{none_behind}
use Rattle.shared_list.proofs.Points.{read_of, taken_more}
use Rattle.shared_list.proofs.around.item_after.Goals as goal

pub returns-then-place-len : goal.returns-then-place-len
returns-then-place-len g c =
    let xs = c.args.chunks.now in
    let k = c.args.place.k in
    let at = c.args.place.at in
    let a = c.args.chunk.now in
    let read = read_of xs k a c.requires.chunk a in
    let y = c.get.result.now in
    let low = length (flattened (take k xs)) in
    let next : low + (at + 1) ≡ low + at + 1 = omega arith in
    let lt = slice_get_within a (at + 1) y c.get.ensures in
    sym (ap (slice_get (flattened xs)) (sym next) ∙ got_within (λ v. v) xs k (at + 1) a y c.requires.place.chunk read lt c.get.ensures)

pub returns-then-len-place : goal.returns-then-len-place
returns-then-len-place g c =
    let xs = c.args.chunks.now in
    let k = c.args.place.k in
    let at = c.args.place.at in
    let a = c.args.chunk.now in
    let read = read_of xs k a c.requires.chunk a in
    let more = taken_more (λ v. v) xs k a c.requires.place.chunk read in
    let all = take_all (suc k) xs (omega arith) in
    let end : length (flattened xs) ≤ length (flattened (take k xs)) + at + 1 = omega (arith, more, c.len.ensures.len, ap (λ ys. length (flattened ys)) all) in
    sym (none_behind (flattened xs) (length (flattened (take k xs)) + at + 1) end)

pub returns : goal.returns
returns g c =
    let xs = c.args.chunks.now in
    let k = c.args.place.k in
    let at = c.args.place.at in
    let a = c.args.chunk.now in
    let read = read_of xs k a c.requires.chunk in
    let within : at < length a = omega (arith, ap length (read a), c.requires.place.within a) in
    let more = taken_more (λ v. v) xs k a c.requires.place.chunk (read a) in
    let next : suc k ≡ k + 1 = omega arith in
    let b = c.at.result.now in
    let y = c.first.result.now in
    let h : k + 1 < length xs = omega arith in
    let lt = slice_get_within b 0 y c.first.ensures in
    let seam : length (flattened (take (k + 1) xs)) + 0 ≡ length (flattened (take k xs)) + at + 1 = omega (arith, more, within, c.len.ensures.len, ap (λ n. length (flattened (take n xs))) next) in
    sym (ap (slice_get (flattened xs)) (sym seam) ∙ got_within (λ v. v) xs (k + 1) 0 b y h (read_of xs (k + 1) b c.at.ensures b) lt c.first.ensures)
