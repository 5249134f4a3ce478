use Rattle.std.proofs.Common.{◌≡◌, ◌++◌, drop}
use Rattle.std.specs.List.{filter_map}
use Rattle.batch.proofs.way.present.Given as goal

abbrev pub invariant-loop-own : goal.invariant-loop-own
invariant-loop-own l = l.out.items ++ filter_map (λ o. o) (drop l.own-index l.blocks) ≡ filter_map (λ o. o) l.blocks
