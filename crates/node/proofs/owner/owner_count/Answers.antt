use Rattle.std.proofs.Common.{sym, ap, ◌∙◌, length}
use Rattle.std.specs.Option.{option_map}
use Rattle.node.specs.Kid.{places_of, places}
use Rattle.node.specs.Pairs.{places_in}
use Rattle.node.specs.Node.{inner_part, shared_part}
use Rattle.node.proofs.Places.{length-places}
use Rattle.node.proofs.owner.owner_count.Goals as goal

pub returns-in-Some-clause-all : goal.returns-in-Some-clause-all
returns-in-Some-clause-all g c =
    ap (λ o. length (places_of (option_map (λ a. inner_part g.C.Level.part a.now.value) o))) c.in-Some.is
    ∙ ap (λ n. length (places (inner_part g.C.Level.part n).below)) (sym c.deref.ensures)
    ∙ length-places (shared_part g.C.Level.part) (places_in c.deref.result.now.kids)
    ∙ c.place_count.ensures.all
