use Rattle.std.proofs.Common.{◌≡◌, ◌<◌, ◌∙◌, refl, sym, subst, ap, length, remove, arith}
use Rattle.shared_list.specs.Elements.{flattened}
use Rattle.shared_list.proofs.Chunks.{gone_within, gone_whole, got_within}
use Rattle.shared_list.proofs.Points.{read_of}
use Rattle.shared_list.proofs.edits.take_item.Goals as goal

pub change-requires-clause-can : goal.change-requires-clause-can
change-requires-clause-can g c = λ v is.
    let same : c.at-chunk.result.now ≡ v = cc (is, c.at-chunk.ensures) in
    let within = subst (λ w. c.args.at < length w) (sym (read_of c.args.chunks.now c.args.k c.at-chunk.result.now c.at-chunk.ensures c.at-chunk.result.now)) (c.requires.within c.at-chunk.result.now) in
    subst (λ w. (c.args.at < length w) × (1 < length w)) same (within, omega arith)

pub returns-then-len-gt1-clause-ok : goal.returns-then-len-gt1-clause-ok
returns-then-len-gt1-clause-ok g c =
    let xs = c.args.chunks.now in
    let k = c.args.k in
    let at = c.args.at in
    let a = c.at-chunk.result.now in
    let read = read_of xs k a c.at-chunk.ensures a in
    let within = subst (λ v. at < length v) (sym read) (c.requires.within a) in
    ap flattened (c.in_ok-change.ensures.ok a c.at-chunk.ensures) ∙ gone_within (λ v. v) xs k at a (remove a at) c.requires.chunk read within refl

pub returns-then-len-gt1-clause-item : goal.returns-then-len-gt1-clause-item
returns-then-len-gt1-clause-item g c =
    let xs = c.args.chunks.now in
    let k = c.args.k in
    let at = c.args.at in
    let a = c.at-chunk.result.now in
    let read = read_of xs k a c.at-chunk.ensures a in
    let within = subst (λ v. at < length v) (sym read) (c.requires.within a) in
    got_within (λ v. v) xs k at a c.in_ok-item.item.value c.requires.chunk read within c.in_ok-item.ensures

pub returns-clause-ok : goal.returns-clause-ok
returns-clause-ok g c =
    let xs = c.args.chunks.now in
    let k = c.args.k in
    let at = c.args.at in
    let a = c.at-chunk.result.now in
    let read = read_of xs k a c.at-chunk.ensures a in
    let within = subst (λ v. at < length v) (sym read) (c.requires.within a) in
    let one : length a ≡ 1 = omega (arith, c.len.ensures.len, c.len.ensures.some) in
    ap flattened c.in_ok-remove.ensures.ok ∙ gone_whole (λ v. v) xs k at a c.requires.chunk read within one

pub returns-clause-item : goal.returns-clause-item
returns-clause-item g c =
    let xs = c.args.chunks.now in
    let k = c.args.k in
    let at = c.args.at in
    let a = c.at-chunk.result.now in
    let read = read_of xs k a c.at-chunk.ensures a in
    let within = subst (λ v. at < length v) (sym read) (c.requires.within a) in
    got_within (λ v. v) xs k at a c.in_ok-item.item.value c.requires.chunk read within c.in_ok-item.ensures
