-- How long the names of refusals are.
use Rattle.std.proofs.Common.{◌≡◌, ◌≤◌, true, length, refl}
use Rattle.std.proofs.lemmas.Bool.{leb-true}
use Rattle.std.specs.Prelude.{nat_le}
use Rattle.base.specs.declared.refusal.Refusal.{Refusal}
use Rattle.base.specs.declared.refusal.Refusal.TheVariants.{BadName}
use Rattle.base.specs.Refusals.{name_of}

is_short : (refusal : Refusal) → nat_le (length (name_of refusal)) 12 ≡ true
is_short BadName = refl
is_short refusal = refl

pub length_name : (refusal : Refusal) → length (name_of refusal) ≤ 12
length_name refusal = leb-true (length (name_of refusal)) 12 (is_short refusal)
