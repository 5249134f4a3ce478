use Rattle.std.proofs.Common.{◌≡◌, ◌+◌, ◌/◌, ◌%◌, ◌^◌, ◌<◌, suc, length, sym, ap, subst, ◌∙◌, arith}
use Rattle.node.proofs.Order.{span_positive}
use Rattle.image.specs.BlockWrites.{images_put}
use Rattle.image.specs.Image.{ShownImage, IsOpen}
use Rattle.image.specs.ImageBlocks.{block_at}
use Rattle.image.specs.PathWrites.{block_on, inner_writes}
use Rattle.image.proofs.PathOpen.{some_root, level_more}
use Rattle.image.proofs.image.Image.write_path.Goals as goal

pub write_leaf-requires : goal.write_leaf-requires
write_leaf-requires c = some_root (IsOpen c.args.self.now.kept) _ (λ n e. c.requires.open.open_to 0 n (omega arith) e)

pub nonzero_div-place : goal.nonzero_div-place
nonzero_div-place c = omega (arith, c.span.ensures, span_positive c.from.result)

pub write_inner-requires-clause-open : goal.write_inner-requires-clause-open
write_inner-requires-clause-open c =
    some_root (IsOpen c.loop-level.self.kept) _ (λ n e.
    subst (λ kept. IsOpen kept n.number) (sym (ap (λ (s : ShownImage). s.kept) c.loop-level.invariant)) (c.requires.open.open_to (c.loop-level.level + 1) n (omega (arith, c.loop-level-test.true)) e))

pub write_inner-requires-clause-there : goal.write_inner-requires-clause-there
write_inner-requires-clause-there c =
    some_root (λ n. n < length c.loop-level.self.kept) _ (λ o e.
    subst (λ kept. o.number < length kept) (sym (ap (λ (s : ShownImage). s.kept) c.loop-level.invariant)) (c.requires.open.there (c.loop-level.level + 1) o (omega (arith, c.loop-level-test.true)) e))

pub loop-level-preserved : goal.loop-level-preserved
loop-level-preserved c =
    let level = c.loop-level.level in
    let inv = c.loop-level.invariant in
    let before = block_on c.args.before.now in
    let after = block_on c.args.after.now in
    let next : c.loop-level.level + 1 ≡ suc c.loop-level.level = omega arith in
    let place = ap (λ n. (c.args.leaf / n) % 16) (c.span.ensures ∙ ap (λ n. 16 ^ n) c.from.ensures) in
    c.write_inner.ensures
    ∙ (λ i. record (inv i) { bytes = images_put (inv i).bytes (inner_writes (block_at (inv i).bytes) level (place i) (before (next i)) (after (next i)) (before level) (after level)) })
    ∙ ap (λ bs. record c.args.self.now { bytes = bs })
    (level_more c.args.self.now.bytes c.args.bytes.now c.args.self.now.kept c.args.leaf before after c.bytes-written.ensures.size c.told-bytes c.requires.open c.requires.apart level (omega (arith, c.loop-level-test.true)))
