use Rattle.std.proofs.Common.{◌≡◌, ◌+◌, ◌≤◌, suc, ◌++◌, sym, subst, ap, ◌∙◌, length, get_or, set, arith, rules}
use Rattle.std.specs.Prelude.{insert}
use Rattle.std.specs.Arc.{arc_value}
use Rattle.shared_list.specs.Elements.{elements}
use Rattle.std.proofs.lemmas.Result.{err_from_is_err_and}
use Rattle.shared_list.proofs.Chunks.{kept, put_within, split_within}
use Rattle.shared_list.proofs.spine.edits.insert_item.Goals as goal

pub returns-in_err-put_in-clause-err : goal.returns-in_err-put_in-clause-err
returns-in_err-put_in-clause-err g c =
    let xs = c.args.chunks.now.items in
    let a = c.index_mut.result.now in
    let read : a ≡ get_or xs c.args.k a = search rules in
    let refused = err_from_is_err_and c.from_residual.result c.from_residual.ensures.1 in
    rw refused.1 (kept arc_value xs c.args.k a c.put_in.new.place c.requires.chunk read c.in_err-put_in.ensures.err)

pub returns-then-len-lt-CHUNK-clause-ok : goal.returns-then-len-lt-CHUNK-clause-ok
returns-then-len-lt-CHUNK-clause-ok g c =
    let xs = c.args.chunks.now.items in
    let a = c.index_mut.result.now in
    let read : a ≡ get_or xs c.args.k a = search rules in
    let within = subst (λ b. c.args.at ≤ length b.value) (sym read) (c.requires.within a) in
    put_within arc_value xs c.args.k c.args.at a c.put_in.new.place c.args.item.value c.requires.chunk read within c.in_ok-put_in.ensures.ok

pub returns-clause-ok : goal.returns-clause-ok
returns-clause-ok g c =
    let xs = c.args.chunks.now.items in
    let a = c.index-2.result.now in
    let read : a ≡ get_or xs c.args.k a = search rules in
    let within = subst (λ b. c.args.at ≤ length b.value) (sym read) (c.requires.within a) in
    let next : c.args.k + 1 ≡ suc c.args.k = omega arith in
    let put : c.in_ok-low.low.value ++ c.in_ok-low.high.value ≡ insert a.value c.args.at c.args.item.value = cc (c.in_ok-low.ensures, c.deref-2.ensures) in
    ap (λ v. elements (set v c.args.k c.in_ok-low.low)) c.in_ok-insert.ensures.items
    ∙ split_within arc_value xs c.args.k (c.args.k + 1) c.args.at a c.in_ok-low.low c.in_ok-low.high c.args.item.value next c.requires.chunk read within put
