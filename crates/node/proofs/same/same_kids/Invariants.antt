use Rattle.std.proofs.Common.{◌≡◌, ℕ, ◌<◌, get_or, None}
use Rattle.std.specs.Option.{option_map}
use Rattle.node.specs.Node.{shared_part}
use Rattle.node.specs.Pairs.{places_in}
use Rattle.node.proofs.same.same_kids.Given as goal

abbrev pub invariant-loop-place : goal.invariant-loop-place
invariant-loop-place g l = (i : ℕ) → i < l.place → option_map (shared_part g.C.Level.part) (get_or (places_in l.one) i None) ≡ option_map (shared_part g.C.Level.part) (get_or (places_in l.other) i None)
