use Rattle.std.proofs.Common.{◌<◌, length, slice_get, arith, sym, ap, ◌∙◌}
use Rattle.std.proofs.lemmas.List.{length-map}
use Rattle.shared_list.proofs.Chunks.{removed_values, got_value}
use Rattle.shared_list.proofs.chunk.Chunk.take.Goals as goal

pub returns-clause-rest : goal.returns-clause-rest
returns-clause-rest g c = cc (removed_values c.self.inside.items.items c.args.at, c.self.view_is, c.remove.ensures.items)

pub returns-clause-item : goal.returns-clause-item
returns-clause-item g c =
    let xs = c.self.inside.items.items in
    let within : c.args.at < length xs = omega (arith, ap length c.self.view_is, length-map xs (λ a. a.value)) in
    ap (λ v. slice_get v c.args.at) (sym c.self.view_is) ∙ got_value xs c.args.at c.remove.result within c.remove.ensures.value
