use Rattle.std.proofs.Common.{◌+◌, ◌<◌, ◌≤◌, length, take, refl, subst, arith}
use Rattle.std.proofs.lemmas.Fn.{always_returns_same}
use Rattle.std.proofs.lemmas.Option.{slice_get_within}
use Rattle.shared_list.specs.Elements.{flattened}
use Rattle.shared_list.specs.Places.{ends}
use Rattle.shared_list.proofs.Points.{cut_within, last_fails, none_left, point_of, read_of}
use Rattle.shared_list.proofs.place.partition_point.Goals as goal

pub returns-in_err-k-clause-partitioned : goal.returns-in_err-k-clause-partitioned
returns-in_err-k-clause-partitioned g c = λ p h parts.
    let xs = c.args.chunks.now in
    let all = flattened xs in
    let cut = c.in_err-k.ensures.none (ends p) (always_returns_same _ _ _ (λ a r f' k. (k.met.0 p h, k.met.1))) refl in
    let end : length xs ≤ length xs = omega arith in
    rw c.from_residual.ensures (point_of p all (length all) parts (none_left (λ v. v) p xs (length xs) cut end))

pub returns-clause-place : goal.returns-clause-place
returns-clause-place g c =
    let xs = c.args.chunks.now in
    let a = c.in_ok-k.chunk.now in
    let is = c.in_ok-k.ensures.item in
    record {
      chunk = slice_get_within xs c.in_ok-k.k a is;
      within = λ d. subst (λ v. c.point-at.result < length v) (read_of xs c.in_ok-k.k a is d) c.point-at.ensures.within;
    }

pub returns-clause-partitioned : goal.returns-clause-partitioned
returns-clause-partitioned g c = λ p h parts.
    let xs = c.args.chunks.now in
    let k = c.in_ok-k.k in
    let a = c.in_ok-k.chunk.now in
    let i = c.point-at.result in
    let within = slice_get_within xs k a c.in_ok-k.ensures.item in
    let read = read_of xs k a c.in_ok-k.ensures.item a in
    let cut = c.in_ok-k.ensures.cut (ends p) (always_returns_same _ _ _ (λ a r f' k. (k.met.0 p h, k.met.1))) in
    let inner = c.point-at.ensures.cut p h (last_fails (λ v. v) p xs k cut a within read) in
    point_of p (flattened xs) (length (flattened (take k xs)) + i) parts (cut_within (λ v. v) p xs k cut a within read i c.point-at.ensures.within inner)
