use Rattle.image.proofs.Rooted.{root_walked}
use Rattle.image.proofs.laws.root_laws.Goals as goal

pub returns : goal.returns
returns c = record { walked = λ image n size w r good all i. root_walked image n size w good all r i }
