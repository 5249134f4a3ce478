use Rattle.std.proofs.Common.{◌+◌, length, get_or, set, Some, take, refl, sym, ap, subst, ◌∙◌, length-set}
use Rattle.std.proofs.lemmas.List.{take_more}
use Rattle.batch.specs.declared.numbers.NewBlock.{NewBlock}
use Rattle.image.specs.PathWrites.{block_on}
use Rattle.image.specs.Writes.{ArePlaced}
use Rattle.tree.specs.declared.block.Root.{Root}
use Rattle.image.proofs.Placing.{one_placed, none_more}
use Rattle.image.proofs.writes.place.Goals.{then-level-lt6, else-level-lt6}
use Rattle.image.proofs.writes.place.Goals as goal

pub loop-new-preserved : goal.loop-new-preserved
loop-new-preserved c =
    let g = c.args.group.0 in
    let before = take c.loop-new.new-index c.args.made.now in
    let x : NewBlock = get_or c.args.made.now c.loop-new.new-index (record { key = record { level = 0; index = 0 }; block = record { 0 = 0 } }) in
    let root : Root = record { block = x.block; birth = c.args.group } in
    let more = take_more c.args.made.now c.loop-new.new-index (record { key = record { level = 0; index = 0 }; block = record { 0 = 0 } }) c.loop-new-test.true in
    let old = c.loop-new.invariant in
    elim c.if-level-lt6.branch [
      | then-level-lt6 w ↦ record {
        placed = subst (λ p. ArePlaced g (take (c.loop-new.new-index + 1) c.args.made.now) (block_on p)) (sym w.path-is)
            (subst (λ xs. ArePlaced g xs (block_on (set c.loop-new.path x.key.level (Some root)))) (sym more) (one_placed g before c.loop-new.path old.placed x root refl old.long w.if-level-lt6.true));
        long = ap length w.path-is ∙ length-set c.loop-new.path x.key.level (Some root) ∙ old.long;
      }
      | else-level-lt6 w ↦ record {
        placed = subst (λ p. ArePlaced g (take (c.loop-new.new-index + 1) c.args.made.now) (block_on p)) (sym w.path-is)
            (subst (λ xs. ArePlaced g xs (block_on c.loop-new.path)) (sym more) (none_more g before c.loop-new.path old.placed x w.if-level-lt6.false));
        long = ap length w.path-is ∙ old.long;
      }
    ]
