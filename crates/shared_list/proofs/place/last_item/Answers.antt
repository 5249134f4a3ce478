use Rattle.std.proofs.Common.{◌≡◌, ◌+◌, ◌-◌, Some, length, slice_get, sym, ap, ◌∙◌, arith}
use Rattle.std.proofs.lemmas.Option.{slice_get_within}
use Rattle.std.specs.Option.{option_copied}
use Rattle.shared_list.specs.Elements.{flattened}
use Rattle.shared_list.proofs.Points.{last_within, none_last, read_of}
use Rattle.shared_list.proofs.place.last_item.Goals as goal

pub returns-in_err-last : goal.returns-in_err-last
returns-in_err-last g c =
    let none = none_last c.args.chunks.now (sym c.in_err-last.ensures) in
    ap option_copied c.from_residual.ensures ∙ ap (λ v. slice_get (flattened v) (length (flattened v) - 1)) (sym none)

pub returns : goal.returns
returns g c =
    let xs = c.args.chunks.now in
    let k = length xs - 1 in
    let a = c.in_ok-last.field-0.now in
    let is : slice_get xs k ≡ Some a = sym c.in_ok-last.ensures in
    let lt = slice_get_within xs k a is in
    let end : k + 1 ≡ length xs = omega (arith, lt) in
    sym (last_within (λ v. v) xs k a c.last-2.result.now end (read_of xs k a is a) c.last-2.ensures)
