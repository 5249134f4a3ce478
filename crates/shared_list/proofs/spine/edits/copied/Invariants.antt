use Rattle.std.proofs.Common.{◌≡◌, take}
use Rattle.shared_list.specs.Elements.{elements}
use Rattle.shared_list.proofs.spine.edits.copied.Given as goal

abbrev pub invariant-loop-chunk : goal.invariant-loop-chunk
invariant-loop-chunk g l = elements l.owners.items ≡ elements (take l.chunk-index l.chunks)
