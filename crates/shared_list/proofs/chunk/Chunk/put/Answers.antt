use Rattle.shared_list.proofs.Chunks.{inserted}
use Rattle.shared_list.proofs.chunk.Chunk.put.Goals as goal

pub returns-clause-ok : goal.returns-clause-ok
returns-clause-ok g c = cc (inserted c.self.inside.items.items c.args.at c.args.item, c.self.view_is, c.in_ok-insert.ensures.items)
