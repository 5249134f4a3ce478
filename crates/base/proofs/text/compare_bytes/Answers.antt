use Rattle.std.proofs.Common.{◌∙◌, arith}
use Rattle.base.proofs.Compared.{ended}
use Rattle.base.proofs.text.compare_bytes.Goals as goal

pub returns : goal.returns
returns c =
    let i = c.loop-place.invariant in
    ended c.args.one.now c.args.other.now c.loop-place.place c.cmp-2.result (omega arith) c.cmp-2.ensures ∙ i.same
