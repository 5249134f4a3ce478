use Rattle.std.proofs.Common.{◌≡◌, ◌<◌, ◌∙◌, sym, subst, ap, length, get_or, slice_get, Some, arith, rules}
use Rattle.std.proofs.lemmas.Result.{err_from_is_err_and}
use Rattle.std.specs.Arc.{arc_value}
use Rattle.shared_list.specs.Elements.{elements}
use Rattle.shared_list.proofs.Chunks.{kept, gone_within, gone_whole, got_within}
use Rattle.shared_list.proofs.spine.edits.take_item.Goals as goal

pub returns-in_err-item-clause-err : goal.returns-in_err-item-clause-err
returns-in_err-item-clause-err g c =
    let xs = c.args.chunks.now.items in
    let a = c.index_mut.result.now in
    let read : a ≡ get_or xs c.args.k a = search rules in
    let refused = err_from_is_err_and c.from_residual.result c.from_residual.ensures.1 in
    rw refused.1 (kept arc_value xs c.args.k a c.take_from.new.place c.requires.chunk read c.in_err-item.ensures.err)

pub returns-then-len-gt1-clause-ok : goal.returns-then-len-gt1-clause-ok
returns-then-len-gt1-clause-ok g c =
    let xs = c.args.chunks.now.items in
    let a = c.index_mut.result.now in
    let read : a ≡ get_or xs c.args.k a = search rules in
    let within = subst (λ b. c.args.at < length b.value) (sym read) (c.requires.within a) in
    gone_within arc_value xs c.args.k c.args.at a c.take_from.new.place c.requires.chunk read within c.in_ok-item.ensures.ok

pub returns-then-len-gt1-clause-item : goal.returns-then-len-gt1-clause-item
returns-then-len-gt1-clause-item g c =
    let xs = c.args.chunks.now.items in
    let a = c.index_mut.result.now in
    let read : a ≡ get_or xs c.args.k a = search rules in
    let within = subst (λ b. c.args.at < length b.value) (sym read) (c.requires.within a) in
    got_within arc_value xs c.args.k c.args.at a c.in_ok-item.item.value c.requires.chunk read within c.in_ok-item.ensures.item

pub returns-clause-ok : goal.returns-clause-ok
returns-clause-ok g c =
    let xs = c.args.chunks.now.items in
    let a = c.index.result.now in
    let read : a ≡ get_or xs c.args.k a = search rules in
    let within = subst (λ b. c.args.at < length b.value) (sym read) (c.requires.within a) in
    let one : length a.value ≡ 1 = omega (arith, c.len.ensures.len, c.len.ensures.some, ap length c.deref.ensures) in
    ap elements c.remove-gone.ensures.items ∙ gone_whole arc_value xs c.args.k c.args.at a c.requires.chunk read within one

pub returns-clause-item : goal.returns-clause-item
returns-clause-item g c =
    let xs = c.args.chunks.now.items in
    let a = c.index-2.result.now in
    let read : a ≡ get_or xs c.args.k a = search rules in
    let within = subst (λ b. c.args.at < length b.value) (sym read) (c.requires.within a) in
    let is = subst (λ v. slice_get v c.args.at ≡ Some c.in_ok-item-2.item.value) c.deref-2.ensures c.in_ok-item-2.ensures in
    got_within arc_value xs c.args.k c.args.at a c.in_ok-item-2.item.value c.requires.chunk read within is
