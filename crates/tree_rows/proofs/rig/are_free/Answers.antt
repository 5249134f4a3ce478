use Rattle.std.proofs.Common.{◌≡◌, Some, sym, ap, ◌∙◌, arith}
use Rattle.std.specs.Prelude.{slice_get}
use Rattle.base.specs.declared.number.BlockNo.{BlockNo}
use Rattle.zalloc.specs.declared.BlockState.TheVariants.{Free}
use Rattle.tree.proofs.Lists.{one_more}
use Rattle.tree_rows.proofs.Taking.{in_turn}
use Rattle.tree_rows.proofs.rig.are_free.Goals as goal

pub loop-number-preserved : goal.loop-number-preserved
loop-number-preserved c =
    one_more (λ (b : BlockNo). slice_get c.args.allocator.now b.0 ≡ Some Free) c.args.numbers.now c.loop-number.number-index _ c.loop-number.invariant
    (sym c.state.ensures ∙ c.in-Some-Free.is ∙ ap Some c.in-Some-Free.field-0-is)

pub returns : goal.returns
returns c = λ _. in_turn c.args.allocator.now c.args.numbers.now (λ i b h. c.loop-number.invariant i b (omega (arith, h))) c.requires
