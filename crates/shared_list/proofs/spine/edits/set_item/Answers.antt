use Rattle.std.proofs.Common.{◌≡◌, ◌<◌, sym, subst, length, get_or, rules}
use Rattle.std.proofs.lemmas.Result.{err_from_is_err_and}
use Rattle.std.specs.Arc.{arc_value}
use Rattle.shared_list.proofs.Chunks.{kept, set_within}
use Rattle.shared_list.proofs.spine.edits.set_item.Goals as goal

pub returns-in_err-set_in-clause-err : goal.returns-in_err-set_in-clause-err
returns-in_err-set_in-clause-err g c =
    let xs = c.args.chunks.now.items in
    let a = c.index_mut.result.now in
    let read : a ≡ get_or xs c.args.k a = search rules in
    let refused = err_from_is_err_and c.from_residual.result c.from_residual.ensures.1 in
    rw refused.1 (kept arc_value xs c.args.k a c.set_in.new.place c.requires.chunk read c.in_err-set_in.ensures.err)

pub returns-clause-ok : goal.returns-clause-ok
returns-clause-ok g c =
    let xs = c.args.chunks.now.items in
    let a = c.index_mut.result.now in
    let read : a ≡ get_or xs c.args.k a = search rules in
    let within = subst (λ b. c.args.at < length b.value) (sym read) (c.requires.within a) in
    set_within arc_value xs c.args.k c.args.at a c.set_in.new.place c.args.item.value c.requires.chunk read within c.in_ok-set_in.ensures.ok
