use Rattle.std.proofs.Common.{◌≡◌, ◌++◌, ◌∷◌, [], take, drop, arith, rules}
use Rattle.shared_list.specs.Elements.{values}
use Rattle.shared_list.proofs.Chunks.{mapped, put_together}
use Rattle.shared_list.proofs.chunk.Chunk.with.Goals as goal

pub returns : goal.returns
returns g c =
    let xs = c.self.inside.items.items in
    let front : values c.share.new.to.items ≡ values (take c.args.at xs) = search rules in
    let one : c.push.new.self.items ≡ c.share.new.to.items ++ c.args.item ∷ [] = search rules in
    let rest : values c.share-2.new.to.items ≡ values c.push.new.self.items ++ values (drop c.args.at xs) = grind (arith, mapped) in
    let whole = put_together xs c.share.new.to.items c.push.new.self.items c.share-2.new.to.items c.args.at c.args.item front one rest in
    cc (whole, c.self.view_is, c.in_ok-new.ensures.ok)
