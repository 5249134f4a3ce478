-- Values that may be absent.
use Rattle.std.proofs.Common.{◌≡◌, Option, Some, ap}
use Rattle.std.specs.Prelude.{IsSome, is_some}

pub is_there : {X : Type 0} (o : Option X) (x : X) → o ≡ Some x → IsSome o
is_there o x e = ap is_some e
