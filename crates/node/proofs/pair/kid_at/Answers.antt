use Rattle.std.proofs.Common.{sym, ap, ◌∙◌, ◌%◌, ◌/◌, arith}
use Rattle.std.proofs.lemmas.List.{get_or_default}
use Rattle.node.specs.declared.pair.Pair.TheVariants.{Neither}
use Rattle.node.specs.Pairs.{side_of}
use Rattle.node.proofs.Pairs.{place_side}
use Rattle.node.proofs.pair.kid_at.Goals as goal

pub returns : goal.returns
returns g c =
    let kids = c.args.kids.now in
    let place = c.args.place in
    c.side.ensures
    ∙ ap (λ p. side_of p (place % 2)) (get_or_default kids (place / 2) c.index-kids-place.result Neither (omega (arith, c.type_inv.kids, c.requires)))
    ∙ sym (place_side kids place)
