use Rattle.std.proofs.Common.{◌/◌, ◌^◌, refl, sym, ◌∙◌, arith}
use Rattle.node.specs.Kid.{birth_of}
use Rattle.node.specs.Node.{leaf_part, part_of_node}
use Rattle.node.proofs.Options.{some_mapped}
use Rattle.batch.proofs.Metering.{leaf_counted}
use Rattle.batch.proofs.OneWrite.{claims_of_leaf, released_of_leaf, claims_on_top, released_on_top}
use Rattle.batch.proofs.WayLaws.{no_claims, none_released}
use Rattle.batch.proofs.TouchLaws.{dropped_at_leaf}
use Rattle.batch.proofs.findings.LeafSurvey.blocks_to.Goals as goal

pub returns-clause-claims : goal.returns-clause-claims
returns-clause-claims c = λ s y one.
    let o = part_of_node leaf_part c.args.old in
    sym (claims_on_top y c.args._leaf c.args.level 0 c.args.blocks.now c.block_of.result c.requires.level c.requires.low (omega (arith, c.told-blocks, c.requires.low)) ∙ no_claims y c.args._leaf c.args.blocks.now _
    ∙ claims_of_leaf s c.args._leaf one (birth_of o) (c.args._leaf / 16 ^ c.args.level) c.args.level o c.requires.sound c.requires.level refl y _ c.block_of.ensures.block)

pub returns-clause-released : goal.returns-clause-released
returns-clause-released c = λ s y one.
    let o = part_of_node leaf_part c.args.old in
    sym (released_on_top y c.args._leaf c.args.level 0 c.args.blocks.now c.block_of.result c.requires.level c.requires.low (omega (arith, c.told-blocks, c.requires.low)) ∙ none_released y c.args.blocks.now _
    ∙ released_of_leaf s c.args._leaf one (birth_of o) (c.args._leaf / 16 ^ c.args.level) c.args.level o c.requires.sound c.requires.level refl y _ c.block_of.ensures.block)

pub returns-clause-metered : goal.returns-clause-metered
returns-clause-metered c = λ s y one.
    let o = part_of_node leaf_part c.args.old in
    leaf_counted _ _ _ _ y o _ (dropped_at_leaf s y (c.args._leaf / 16 ^ c.args.level) o) (sym (some_mapped _ c.args.old)) c.block_of.ensures.metered
