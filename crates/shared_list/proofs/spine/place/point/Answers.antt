use Rattle.std.proofs.Common.{◌<◌, length, subst, ap, ◌∙◌}
use Rattle.std.specs.Arc.{arc_value}
use Rattle.std.proofs.lemmas.Fn.{always_returns_same}
use Rattle.shared_list.specs.Cuts.{IsCut}
use Rattle.shared_list.specs.Places.{ends}
use Rattle.shared_list.proofs.Points.{none_left, last_fails, cut_within}
use Rattle.shared_list.proofs.spine.place.point.Goals as goal

pub returns-then-k-chunks-clause-cut : goal.returns-then-k-chunks-clause-cut
returns-then-k-chunks-clause-cut g c = λ p h.
    let cut = c.cut_of-k.ensures.cut (ends p) (always_returns_same _ _ _ (λ a r f' k. (k.met.0 p h, k.met.1))) in
    none_left arc_value p c.args.chunks.now c.cut_of-k.result cut c.if-k-chunks.true

pub returns-clause-cut : goal.returns-clause-cut
returns-clause-cut g c = λ p h.
    let xs = c.args.chunks.now in
    let k = c.cut_of-k.result in
    let cut = c.cut_of-k.ensures.cut (ends p) (always_returns_same _ _ _ (λ a r f' k. (k.met.0 p h, k.met.1))) in
    let a = c.index-chunks-k.result in
    let read = c.index-chunks-k.is in
    let last = last_fails arc_value p xs k cut a c.if-k-chunks.false read in
    let inner = subst (λ v. IsCut p v c.point-at.result) c.deref.ensures (c.point-at.ensures.cut p h (ap (ends p) c.deref.ensures ∙ last)) in
    cut_within arc_value p xs k cut a c.if-k-chunks.false read c.point-at.result (subst (λ v. c.point-at.result < length v) c.deref.ensures c.point-at.ensures.within) inner
