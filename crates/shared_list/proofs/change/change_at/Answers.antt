use Rattle.std.proofs.Common.{◌≡◌, ◌<◌, length, get_or, arith, ap, ◌∙◌, rules}
use Rattle.std.proofs.lemmas.List.{length-map}
use Rattle.std.proofs.lemmas.Result.{err_from_is_err_and}
use Rattle.shared_list.proofs.Chunks.{set_values, got_value, kept_values}
use Rattle.shared_list.proofs.change.change_at.Goals as goal

pub returns-in_err-change_in-clause-err : goal.returns-in_err-change_in-clause-err
returns-in_err-change_in-clause-err g c =
    let xs = c.group.inside.items.items in
    let a = c.index_mut.result.now in
    let within : c.args.j < length xs = omega (arith, ap length c.group.view_is, length-map xs (λ a. a.value)) in
    let read : a ≡ get_or xs c.args.j a = search rules in
    let refused = err_from_is_err_and c.from_residual.result c.from_residual.ensures.1 in
    rw refused.1 (kept_values xs c.args.j a c.change_in.new.place within read c.in_err-change_in.ensures.err ∙ c.group.view_is)

pub returns-clause-ok : goal.returns-clause-ok
returns-clause-ok g c = λ v is.
    let xs = c.group.inside.items.items in
    let a = c.index_mut.result.now in
    let within : c.args.j < length xs = omega (arith, ap length c.group.view_is, length-map xs (λ a. a.value)) in
    let read : a ≡ get_or xs c.args.j a = search rules in
    cc (set_values xs c.args.j c.change_in.new.place, got_value xs c.args.j a within read, is, c.group.view_is, c.in_ok-change_in.ensures.ok)
