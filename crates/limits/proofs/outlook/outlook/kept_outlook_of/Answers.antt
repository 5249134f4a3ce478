use Rattle.std.proofs.Common.{refl}
use Rattle.limits.proofs.Kept.{kept_outlook}
use Rattle.limits.proofs.outlook.outlook.kept_outlook_of.Goals as goal

pub returns-clause-ok : goal.returns-clause-ok
returns-clause-ok c = λ s ch k m named can guid.
    kept_outlook s ch _ _ _ k m named can guid c.in_ok-tally.tally (c.in_ok-tally.ensures.ok s ch k) _ refl refl refl
