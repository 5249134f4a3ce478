use Rattle.std.proofs.Common.{◌≡◌, ◌<◌, ◌-◌, ◌^◌, length, get_or, arith, ap, sym, ◌∙◌}
use Rattle.deadlist.specs.Entries.{last_length}
use Rattle.deadlist.proofs.Steps.{last_length_is}
use Rattle.deadlist.proofs.pile.pop_short.Goals as goal

pub returns-then-len-clause-none : goal.returns-then-len-clause-none
returns-then-len-clause-none c =
    let ys = c.deref.result.now in
    let last = c.in_ok-last.last.now in
    let pos : 0 < length ys = c.in_ok-last.ensures.item.3.0 in
    let is : last ≡ get_or ys (length ys - 1) last = c.in_ok-last.ensures.item.1 in
    let k = ap (last_length (2 ^ 65)) (sym c.deref.ensures.value) ∙ last_length_is ys last last (2 ^ 65) (length ys - 1) (omega arith) is in
    omega (arith, k, c.len.ensures, c.if-len.true)
