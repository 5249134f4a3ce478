use Rattle.std.proofs.Common.{◌≡◌, set, ap, rules}
use Rattle.shared_list.specs.Elements.{values}
use Rattle.shared_list.proofs.Chunks.{set_values}
use Rattle.shared_list.proofs.chunk.Chunk.with_other.Goals as goal

pub returns : goal.returns
returns g c =
    let xs = c.self.inside.items.items in
    let all : values c.share.new.to.items ≡ values xs = search rules in
    let put = ap (λ v. set v c.args.at c.args.item.value) all in
    cc (set_values c.share.new.to.items c.args.at c.args.item, put, c.self.view_is, c.in_ok-new.ensures.ok)
