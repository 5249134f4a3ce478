use Rattle.std.proofs.Common.{◌≡◌, ◌<◌, ◌∙◌, sym, subst, length, get_or, rules}
use Rattle.std.specs.Arc.{arc_value}
use Rattle.std.proofs.lemmas.Result.{err_from_is_err_and}
use Rattle.shared_list.specs.Changes.{changed}
use Rattle.shared_list.proofs.Chunks.{kept, set_within, got_within, at_within}
use Rattle.shared_list.proofs.spine.edits.change_deep.Goals as goal

pub change_within-requires-clause-can : goal.change_within-requires-clause-can
change_within-requires-clause-can g c = λ v is.
    let xs = c.args.groups.now.items in
    let k = c.args.place.k in
    let at = c.args.place.at in
    let a = c.index_mut.result.now in
    let read : a ≡ get_or xs k a = search rules in
    let within = subst (λ b. at < length b.value) (sym read) (c.requires.place.within a) in
    c.requires.can v (got_within arc_value xs k at a v c.requires.place.chunk read within is)

pub returns-in_err-change_within-clause-err : goal.returns-in_err-change_within-clause-err
returns-in_err-change_within-clause-err g c =
    let xs = c.args.groups.now.items in
    let a = c.index_mut.result.now in
    let read : a ≡ get_or xs c.args.place.k a = search rules in
    let refused = err_from_is_err_and c.from_residual.result c.from_residual.ensures.1 in
    rw refused.1 (kept arc_value xs c.args.place.k a c.change_within.new.place c.requires.place.chunk read c.in_err-change_within.ensures.err)

pub returns-clause-ok : goal.returns-clause-ok
returns-clause-ok g c = λ v is.
    let xs = c.args.groups.now.items in
    let k = c.args.place.k in
    let at = c.args.place.at in
    let a = c.index_mut.result.now in
    let read : a ≡ get_or xs k a = search rules in
    let within = subst (λ b. at < length b.value) (sym read) (c.requires.place.within a) in
    let its = sym (at_within arc_value xs k at a c.requires.place.chunk read within) ∙ is in
    set_within arc_value xs k at a c.change_within.new.place (changed v c.args.change) c.requires.place.chunk read within (c.in_ok-change_within.ensures.ok v its)
