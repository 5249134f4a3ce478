use Rattle.std.proofs.Common.{◌≡◌, ◌+◌, ◌-◌, ◌<◌, ◌≤◌, Some, length, slice_get, refl, sym, ap, subst, ◌∙◌, arith}
use Rattle.std.proofs.lemmas.Option.{slice_get_within}
use Rattle.std.specs.Prelude.{insert}
use Rattle.shared_list.specs.Elements.{flattened}
use Rattle.shared_list.proofs.Chunks.{added_one}
use Rattle.shared_list.proofs.Points.{read_of}
use Rattle.shared_list.proofs.edits.push_item.Goals as goal

pub change-requires-clause-can : goal.change-requires-clause-can
change-requires-clause-can g c = λ v is.
    let a = c.in-Some.last.now in
    let there : slice_get c.args.chunks.now (c.len-end.result - 1) ≡ Some a = ap (λ n. slice_get c.args.chunks.now (n - 1)) c.len-end.ensures ∙ sym c.in-Some.ensures in
    let same : a ≡ v = cc (is, there) in
    subst (λ w. (length w < 64) × (c.len-at.result ≤ length w)) same (omega arith, omega arith)

pub returns-then-at-lt-CHUNK-clause-ok : goal.returns-then-at-lt-CHUNK-clause-ok
returns-then-at-lt-CHUNK-clause-ok g c =
    let xs = c.args.chunks.now in
    let k = c.len-end.result - 1 in
    let at = c.len-at.result in
    let a = c.in-Some.last.now in
    let y = c.args.item.value in
    let there : slice_get xs k ≡ Some a = ap (λ n. slice_get xs (n - 1)) c.len-end.ensures ∙ sym c.in-Some.ensures in
    let last : k + 1 ≡ length xs = omega (arith, slice_get_within xs k a there, c.len-end.ensures) in
    ap flattened (c.in_ok-change.ensures.ok a there) ∙ added_one (λ v. v) xs k at a (insert a at y) y last (read_of xs k a there a) c.len-at.ensures.len refl
