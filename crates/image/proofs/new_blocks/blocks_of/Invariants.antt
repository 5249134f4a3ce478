-- the blocks so far are listed
use Rattle.std.proofs.Common.{◌≡◌, map, take, ◌≤◌}
use Rattle.std.specs.Prelude.{IsSome}
use Rattle.std.specs.List.{All}
use Rattle.std.specs.FinMap.{get}
use Rattle.tree.specs.ChangeParts.{made_pair}
use Rattle.image.specs.BlockWrites.{writes_of, written_pair}
use Rattle.image.proofs.new_blocks.blocks_of.Given as goal

abbrev pub invariant-loop-new : goal.invariant-loop-new
invariant-loop-new l = (All (λ b. IsSome (get l.tree b.key)) l.made → map written_pair l.blocks.items ≡ writes_of l.tree (map made_pair (take l.new-index l.made))) × (l.fn.meter ≤ l.meter)
