use Rattle.std.proofs.Common.{◌≡◌, ◌++◌, ◌∷◌, [], ap, ◌∙◌}
use Rattle.std.specs.Option.{option_map, option_to_list}
use Rattle.std.specs.Arc.{arc_value}
use Rattle.snapshots.specs.declared.kept.Kept.{Kept}
use Rattle.snapshots.proofs.Moving.{move_one}
use Rattle.snapshots.proofs.parts.with.Goals as goal

pub kept-preserved : goal.kept-preserved
kept-preserved c =
    let k : Kept = arc_value c.in-Some.kept in
    let last : c.kept.left ≡ c.pop_shared.new.self ++ k ∷ [] = c.in_ok-kept.ensures.ok ∙ ap (λ o. c.pop_shared.new.self ++ option_to_list (option_map arc_value o)) c.in-Some.is in
    move_one c.args.kept.now c.kept.left c.pop_shared.new.self c.args.others.now k c.kept.by_name c.index.new.by_name last c.requires.once c.kept.invariant c.index.ensures.before
