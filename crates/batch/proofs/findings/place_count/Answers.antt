use Rattle.std.proofs.Common.{ap, ◌∙◌, length}
use Rattle.node.specs.Kid.{places_of}
use Rattle.node.specs.Pairs.{places_in}
use Rattle.node.specs.Node.{inner_part, shared_part, part_of_node}
use Rattle.node.proofs.Places.{length-places}
use Rattle.batch.proofs.findings.place_count.Goals as goal

pub returns-in-Some-clause-all : goal.returns-in-Some-clause-all
returns-in-Some-clause-all g c =
    ap (λ o. length (places_of (part_of_node (inner_part g.C.Level.part) o))) c.in-Some.is
    ∙ length-places (shared_part g.C.Level.part) (places_in c.in-Some.node.now.kids)
    ∙ c.place_count.ensures.all
