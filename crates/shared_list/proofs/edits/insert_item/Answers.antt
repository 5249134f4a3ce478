use Rattle.std.proofs.Common.{◌≡◌, ◌+◌, ◌<◌, ◌≤◌, suc, refl, sym, subst, ap, ◌∙◌, length, arith}
use Rattle.std.specs.Prelude.{insert}
use Rattle.shared_list.specs.Elements.{flattened}
use Rattle.shared_list.proofs.Chunks.{put_within, split_within}
use Rattle.shared_list.proofs.Points.{read_of}
use Rattle.shared_list.proofs.edits.insert_item.Goals as goal

pub change-requires-clause-can : goal.change-requires-clause-can
change-requires-clause-can g c = λ v is.
    let same : c.at.result.now ≡ v = cc (is, c.at.ensures) in
    let within = subst (λ w. c.args.at ≤ length w) (sym (read_of c.args.chunks.now c.args.k c.at.result.now c.at.ensures c.at.result.now)) (c.requires.within c.at.result.now) in
    subst (λ w. (length w < 64) × (c.args.at ≤ length w)) same (omega arith, within)

pub returns-then-len-lt-CHUNK-clause-ok : goal.returns-then-len-lt-CHUNK-clause-ok
returns-then-len-lt-CHUNK-clause-ok g c =
    let xs = c.args.chunks.now in
    let k = c.args.k in
    let at = c.args.at in
    let a = c.at.result.now in
    let y = c.args.item.value in
    let read = read_of xs k a c.at.ensures a in
    let within = subst (λ v. at ≤ length v) (sym read) (c.requires.within a) in
    ap flattened (c.in_ok-change.ensures.ok a c.at.ensures) ∙ put_within (λ v. v) xs k at a (insert a at y) y c.requires.chunk read within refl

pub split_with-requires-clause-at : goal.split_with-requires-clause-at
split_with-requires-clause-at g c =
    let a = c.at-2.result.now in
    subst (λ v. c.args.at ≤ length v) (sym (read_of c.args.chunks.now c.args.k a c.at-2.ensures a)) (c.requires.within a)

pub returns-clause-ok : goal.returns-clause-ok
returns-clause-ok g c =
    let xs = c.args.chunks.now in
    let k = c.args.k in
    let at = c.args.at in
    let a = c.at-2.result.now in
    let read = read_of xs k a c.at-2.ensures a in
    let within = subst (λ v. at ≤ length v) (sym read) (c.requires.within a) in
    let next : k + 1 ≡ suc k = omega arith in
    ap flattened c.in_ok-both.ensures
    ∙ split_within (λ v. v) xs k (k + 1) at a c.in_ok-low.low.value c.in_ok-low.high.value c.args.item.value next c.requires.chunk read within c.in_ok-low.ensures
