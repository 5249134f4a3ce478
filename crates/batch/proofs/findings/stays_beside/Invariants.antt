use Rattle.std.proofs.Common.{◌≡◌, ℕ, ◌<◌, get_or, None}
use Rattle.node.specs.Kid.{places_of}
use Rattle.node.specs.Node.{inner_part, part_of_node}
use Rattle.batch.proofs.findings.stays_beside.Given as goal

abbrev pub invariant-loop-at : goal.invariant-loop-at
invariant-loop-at g l = (q : ℕ) → q < l.at → ¬ (q ≡ l.fn.place) → get_or (places_of (part_of_node (inner_part g.C.Level.part) l.fn.old)) q None ≡ None
