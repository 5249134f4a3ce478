use Rattle.std.proofs.Common.{◌≡◌, ◌+◌, ◌-◌, ◌<◌, length, get_or, arith, rules}
use Rattle.std.proofs.lemmas.Result.{err_from_is_err_and}
use Rattle.std.specs.Arc.{arc_value}
use Rattle.shared_list.proofs.Chunks.{added_one, ended, kept, read_same}
use Rattle.shared_list.proofs.spine.edits.push_item.Goals as goal

pub returns-then-len-lt-CHUNK-clause-ok : goal.returns-then-len-lt-CHUNK-clause-ok
returns-then-len-lt-CHUNK-clause-ok g c =
    let xs = c.args.chunks.now.items in
    let k = c.len-count.result - 1 in
    let a = c.index_mut.result.now in
    let last : k + 1 ≡ length xs = grind arith in
    let within : k < length xs = omega arith in
    let read : a ≡ get_or xs k a = search rules in
    let first : c.index-then-len-lt-CHUNK.result.now ≡ get_or xs k c.index-then-len-lt-CHUNK.result.now = search rules in
    let same = read_same xs k a c.index-then-len-lt-CHUNK.result.now within read first in
    let long : c.len-at.result ≡ length a.value = cc (same, c.len-at.ensures.len, c.deref-then-len-lt-CHUNK.ensures) in
    added_one arc_value xs k c.len-at.result a c.put_in.new.place c.args.item.value last read long c.in_ok-put_in.ensures.ok

pub returns-in_err-put_in-clause-err : goal.returns-in_err-put_in-clause-err
returns-in_err-put_in-clause-err g c =
    let xs = c.args.chunks.now.items in
    let k = c.len-count.result - 1 in
    let a = c.index_mut.result.now in
    let within : k < length xs = grind arith in
    let read : a ≡ get_or xs k a = search rules in
    let refused = err_from_is_err_and c.from_residual.result c.from_residual.ensures.1 in
    rw refused.1 (kept arc_value xs k a c.put_in.new.place within read c.in_err-put_in.ensures.err)

pub returns-clause-ok : goal.returns-clause-ok
returns-clause-ok g c = cc (ended arc_value c.args.chunks.now.items c.in_ok-fresh.fresh, c.in_ok-fresh.ensures, c.in_ok-push.ensures.items)
