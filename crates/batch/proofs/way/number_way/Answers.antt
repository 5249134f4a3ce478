use Rattle.std.proofs.Common.{suc, ◌≡◌, ◌+◌, ◌/◌, ◌<◌, ◌≤◌, ◌++◌, true, slice_index_or, length, None, take, refl, ap, subst, ◌∙◌, arith}
use Rattle.base.specs.declared.refusal.Refusal.TheVariants.{NoSpace}
use Rattle.batch.specs.Touch.{let_go}
use Rattle.batch.specs.Way.{way_claims, way_released, IsNumbered}
use Rattle.batch.proofs.Prepare.{handed_on}
use Rattle.batch.proofs.Numbered.{numbered_none, way_short}
use Rattle.batch.proofs.WayLaws.{way_more, gone_more}
use Rattle.node.proofs.Digits.{high_digits}
use Rattle.batch.proofs.way.number_way.Goals as goal

pub loop-level-init : goal.loop-level-init
unfolding way_claims way_released
loop-level-init c = record {
  index = omega arith;
  numbered = numbered_none c.args.allocator.now _ c.requires.taken c.requires.made;
  released = c.requires.released;
}

pub returns-in_err-from-clause-no_space : goal.returns-in_err-from-clause-no_space
returns-in_err-from-clause-no_space c = λ e.
    let none = c.in_err-from.ensures.no_space (handed_on _ _ NoSpace c.from_residual.ensures.1 e) in
    way_short c.args.young.0 c.args.leaf c.args.blocks.now c.loop-level.level c.loop-level.from c.args.allocator.now c.loop-level.draft _ (omega (arith, c.loop-level-test.true)) (omega (arith, c.loop-level-test.true, c.told-blocks)) refl c.loop-level.invariant.numbered none.0 none.1

pub loop-level-preserved : goal.loop-level-preserved
loop-level-preserved c =
    let y = c.args.young.0 in
    let n = c.loop-level.level in
    let bs = c.args.blocks.now in
    let on : suc n ≡ n + 1 = omega arith in
    let low : n ≤ 5 = omega (arith, c.loop-level-test.true) in
    let within : n < length bs = omega (arith, c.loop-level-test.true, c.told-blocks) in
    record {
      index = ap (λ k. k / 16) c.loop-level.invariant.index ∙ high_digits c.args.leaf n 1 (n + 1) refl;
      numbered = subst (λ cs. IsNumbered cs c.args.allocator.now c.in_ok-from.from c.add.new.self)
          (way_more y c.args.leaf bs n c.loop-level.index _ low within c.loop-level.invariant.index refl ∙ ap (λ k. way_claims y c.args.leaf (take k bs)) on)
          (c.in_ok-from.ensures.numbered _ c.loop-level.invariant.numbered);
      released = c.in_ok-from.ensures.released ∙ ap (λ ds. ds ++ let_go true true y (slice_index_or bs n None)) c.loop-level.invariant.released
          ∙ gone_more y bs n _ within refl ∙ ap (λ k. way_released y (take k bs)) on;
    }
