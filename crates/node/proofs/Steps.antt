-- One block more of a walk.
use Rattle.std.proofs.Common.{◌≡◌, List, [], ◌∷◌, ◌++◌, map, ap, ◌∙◌}
use Rattle.std.proofs.lemmas.List.{map-append}
use Rattle.base.specs.declared.number.Dead.{Dead}
use Rattle.base.specs.Surveys.{dead_block}

pub follow_push : (old new : List Dead) (d e : Dead) → new ≡ old ++ d ∷ [] → d ≡ e → map dead_block new ≡ map dead_block old ++ (dead_block e ∷ [])
follow_push old new d e n same = ap (map dead_block) n ∙ map-append dead_block old (d ∷ []) ∙ ap (λ x. map dead_block old ++ (dead_block x ∷ [])) same
