use Rattle.std.proofs.Common.{◌+◌, length, take, sym, ap, ◌∙◌, arith}
use Rattle.std.proofs.lemmas.Fn.{always_returns_same}
use Rattle.std.proofs.lemmas.Option.{slice_get_within}
use Rattle.std.specs.Option.{option_copied}
use Rattle.shared_list.specs.Elements.{flattened}
use Rattle.shared_list.specs.Places.{ends}
use Rattle.shared_list.proofs.Chunks.{got_within}
use Rattle.shared_list.proofs.Neighbours.{none_behind}
use Rattle.shared_list.proofs.Points.{behind_all, cut_within, last_fails, none_left, point_of, read_of}
use Rattle.shared_list.proofs.place.first.Goals as goal

pub returns-in_err-chunk : goal.returns-in_err-chunk
returns-in_err-chunk g c =
    let xs = c.args.chunks.now in
    let all = flattened xs in
    let found = c.in_err-chunk.ensures in
    let end = behind_all xs found.0 (sym found.2) in (
      length all,
      (λ p h parts. point_of p all (length all) parts (none_left (λ v. v) p xs found.0 (found.1 (ends p) (always_returns_same _ _ _ (λ a r f' k. (k.met.0 p h, k.met.1)))) end)),
      ap option_copied c.from_residual.ensures ∙ sym (none_behind all (length all) (omega arith)),
    )

pub returns : goal.returns
returns g c =
    let xs = c.args.chunks.now in
    let found = c.in_ok-chunk.ensures in
    let k = found.0 in
    let a = c.in_ok-chunk.chunk.now in
    let within = slice_get_within xs k a (sym found.2) in
    let read = read_of xs k a (sym found.2) a in
    let i = c.point.result in (
      length (flattened (take k xs)) + i,
      (λ p h parts.
          let cut = found.1 (ends p) (always_returns_same _ _ _ (λ a r f' k. (k.met.0 p h, k.met.1))) in
          let inner = c.point.ensures.cut p h (last_fails (λ v. v) p xs k cut a within read) in
          point_of p (flattened xs) (length (flattened (take k xs)) + i) parts (cut_within (λ v. v) p xs k cut a within read i c.point.ensures.within inner)),
      sym (got_within (λ v. v) xs k i a c.get.result.now within read c.point.ensures.within c.get.ensures),
    )
