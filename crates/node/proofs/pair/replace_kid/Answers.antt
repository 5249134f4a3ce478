use Rattle.std.proofs.Common.{◌≡◌, ◌%◌, ◌/◌, get_or, set, sym, ap, ◌∙◌, arith}
use Rattle.std.proofs.lemmas.List.{get_or_default, set-set}
use Rattle.node.specs.declared.pair.Pair.TheVariants.{Neither}
use Rattle.node.specs.Pairs.{left_of, right_of, side_of, places_in}
use Rattle.node.proofs.Pairs.{place_side, place_set}
use Rattle.node.proofs.pair.replace_kid.Goals as goal

pub returns-then-place-eq0-clause-stood : goal.returns-then-place-eq0-clause-stood
returns-then-place-eq0-clause-stood g c =
    let kids = c.args.kids.now in
    let place = c.args.place in
    let there = c.replace-pair.ensures.value ∙ get_or_default kids (place / 2) c.index-kids-place.result Neither (omega arith) in
    c.sides-left.ensures.left ∙ ap left_of there ∙ ap (side_of (get_or kids (place / 2) Neither)) (sym c.if-place-eq0.true) ∙ sym (place_side kids place)

pub returns-then-place-eq0-clause-stands : goal.returns-then-place-eq0-clause-stands
returns-then-place-eq0-clause-stands g c =
    let kids = c.args.kids.now in
    let place = c.args.place in
    let there = c.replace-pair.ensures.value ∙ get_or_default kids (place / 2) c.index-kids-place.result Neither (omega arith) in
    ap places_in (set-set kids (place / 2) c.replace-pair.new.dest c.of.result)
    ∙ place_set kids place c.of.result (λ e. c.of.ensures.right ∙ c.sides-left.ensures.right ∙ ap right_of there) (λ n. absurd (n c.if-place-eq0.true))
    ∙ ap (set (places_in kids) place) (ap (side_of c.of.result) c.if-place-eq0.true ∙ c.of.ensures.left)

pub returns-else-place-eq0-clause-stood : goal.returns-else-place-eq0-clause-stood
returns-else-place-eq0-clause-stood g c =
    let kids = c.args.kids.now in
    let place = c.args.place in
    let odd : place % 2 ≡ 1 = omega (arith, c.if-place-eq0.false) in
    let there = c.replace-pair.ensures.value ∙ get_or_default kids (place / 2) c.index-kids-place.result Neither (omega arith) in
    c.sides-left.ensures.right ∙ ap right_of there ∙ ap (side_of (get_or kids (place / 2) Neither)) (sym odd) ∙ sym (place_side kids place)

pub returns-else-place-eq0-clause-stands : goal.returns-else-place-eq0-clause-stands
returns-else-place-eq0-clause-stands g c =
    let kids = c.args.kids.now in
    let place = c.args.place in
    let odd : place % 2 ≡ 1 = omega (arith, c.if-place-eq0.false) in
    let there = c.replace-pair.ensures.value ∙ get_or_default kids (place / 2) c.index-kids-place.result Neither (omega arith) in
    ap places_in (set-set kids (place / 2) c.replace-pair.new.dest c.of-else-place-eq0.result)
    ∙ place_set kids place c.of-else-place-eq0.result (λ e. absurd (c.if-place-eq0.false e)) (λ n. c.of-else-place-eq0.ensures.left ∙ c.sides-left.ensures.left ∙ ap left_of there)
    ∙ ap (set (places_in kids) place) (ap (side_of c.of-else-place-eq0.result) odd ∙ c.of-else-place-eq0.ensures.right)
