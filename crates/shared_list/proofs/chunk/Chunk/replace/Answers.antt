use Rattle.shared_list.proofs.Chunks.{set_values}
use Rattle.shared_list.proofs.chunk.Chunk.replace.Goals as goal

pub returns : goal.returns
returns g c = cc (set_values c.self.inside.items.items c.args.at c.args.item, c.self.view_is)
