use Rattle.std.proofs.Common.{◌-◌, ◌/◌, ◌%◌, ◌^◌, [], refl, sym, ap, ◌∙◌, arith}
use Rattle.node.specs.Kid.{birth_of}
use Rattle.node.specs.Node.{inner_part, part_of_node}
use Rattle.node.proofs.Options.{some_mapped}
use Rattle.node.proofs.Order.{span_positive}
use Rattle.batch.proofs.KidLaws.{kid_sound}
use Rattle.batch.proofs.OneWrite.{claims_above, released_above, counted_above, claims_on_top, released_on_top}
use Rattle.batch.proofs.findings.InnerSurvey.blocks_to.Goals as goal

pub nonzero_div-below : goal.nonzero_div-below
nonzero_div-below g c = let p = span_positive c.from.result in omega (arith, p, c.span.ensures)

pub blocks_to-requires-clause-sound : goal.blocks_to-requires-clause-sound
blocks_to-requires-clause-sound g c =
    let o = part_of_node (inner_part g.C.Level.part) c.args.old in
    kid_sound g.C.Level.height (birth_of o) _ o _ c.requires.sound c.kid_at-kid.ensures

pub returns-clause-claims : goal.returns-clause-claims
returns-clause-claims g c = λ s y one.
    let h = g.C.Level.height in
    let o = part_of_node (inner_part g.C.Level.part) c.args.old in
    let digit = ap (λ n. c.args.leaf / n % 16) (c.span.ensures ∙ ap (λ n. 16 ^ n) c.from.ensures) in
    sym (claims_above s c.args.leaf one h (birth_of o) (c.args.leaf / 16 ^ c.args.level) c.args.level (c.args.leaf / 16 ^ (c.args.level - 1)) _ o _ c.requires.sound c.requires.level refl refl digit c.kid_at-kid.ensures y _ [] _ _ c.block_of-own.ensures.block
    (sym (c.blocks_to.ensures.claims s y one)) (claims_on_top y c.args.leaf c.args.level _ c.blocks_to.new.blocks c.block_of-own.result c.requires.level c.requires.low (omega (arith, c.blocks_to.array_long, c.requires.low))))

pub returns-clause-released : goal.returns-clause-released
returns-clause-released g c = λ s y one.
    let h = g.C.Level.height in
    let o = part_of_node (inner_part g.C.Level.part) c.args.old in
    let digit = ap (λ n. c.args.leaf / n % 16) (c.span.ensures ∙ ap (λ n. 16 ^ n) c.from.ensures) in
    sym (released_above s c.args.leaf one h (birth_of o) (c.args.leaf / 16 ^ c.args.level) c.args.level (c.args.leaf / 16 ^ (c.args.level - 1)) _ o _ c.requires.sound c.requires.level refl refl digit c.kid_at-kid.ensures y _ [] _ _ c.block_of-own.ensures.block
    (sym (c.blocks_to.ensures.released s y one)) (released_on_top y c.args.leaf c.args.level _ c.blocks_to.new.blocks c.block_of-own.result c.requires.level c.requires.low (omega (arith, c.blocks_to.array_long, c.requires.low))))

pub returns-clause-metered : goal.returns-clause-metered
returns-clause-metered g c = λ s y one.
    let h = g.C.Level.height in
    let o = part_of_node (inner_part g.C.Level.part) c.args.old in
    let digit = ap (λ n. c.args.leaf / n % 16) (c.span.ensures ∙ ap (λ n. 16 ^ n) c.from.ensures) in
    counted_above s c.args.leaf one h (birth_of o) (c.args.leaf / 16 ^ c.args.level) c.args.level (c.args.leaf / 16 ^ (c.args.level - 1)) _ o _ c.requires.sound c.requires.level refl refl digit c.kid_at-kid.ensures y c.args.meter.now _ _ _
    (sym (some_mapped _ c.args.old)) c.block_of-own.ensures.metered (c.blocks_to.ensures.metered s y one)
