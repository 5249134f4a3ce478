use Rattle.std.proofs.Common.{sym, ap, ◌∙◌, None, get_or}
use Rattle.std.specs.Option.{option_map}
use Rattle.node.specs.Kid.{places_of}
use Rattle.node.specs.Pairs.{places_in}
use Rattle.node.specs.Node.{inner_part, shared_part, part_of_node}
use Rattle.node.proofs.Options.{twice}
use Rattle.node.proofs.Places.{places-forest_of}
use Rattle.batch.proofs.findings.kid_at.Goals as goal

pub returns-in-Some : goal.returns-in-Some
returns-in-Some g c =
    twice (λ k. k.now) g.C.Level.part c.kid.result
    ∙ ap (option_map g.C.Level.part) c.kid.ensures
    ∙ sym (twice (λ a. a.value) g.C.Level.part _)
    ∙ sym (places-forest_of (shared_part g.C.Level.part) (places_in c.in-Some.node.now.kids) c.args.place)
    ∙ ap (λ o. get_or (places_of (part_of_node (inner_part g.C.Level.part) o)) c.args.place None) (sym c.in-Some.is)
