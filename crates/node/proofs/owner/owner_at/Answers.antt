use Rattle.std.proofs.Common.{sym, ap, ◌∙◌, None, get_or}
use Rattle.std.specs.Option.{option_map}
use Rattle.node.specs.Kid.{places_of, places}
use Rattle.node.specs.Pairs.{places_in}
use Rattle.node.specs.Node.{inner_part, shared_part}
use Rattle.node.proofs.Options.{twice}
use Rattle.node.proofs.Places.{places-forest_of}
use Rattle.node.proofs.owner.owner_at.Goals as goal

pub returns-in-Some : goal.returns-in-Some
returns-in-Some g c =
    twice (λ a. a.now) (shared_part g.C.Level.part) c.owner.result
    ∙ ap (option_map (shared_part g.C.Level.part)) c.owner.ensures
    ∙ sym (places-forest_of (shared_part g.C.Level.part) (places_in c.deref.result.now.kids) c.args.place)
    ∙ ap (λ n. get_or (places (inner_part g.C.Level.part n).below) c.args.place None) c.deref.ensures
    ∙ ap (λ o. get_or (places_of (option_map (λ a. inner_part g.C.Level.part a.now.value) o)) c.args.place None) (sym c.in-Some.is)
