use Rattle.shared_list.proofs.chunk.Chunk.items.Goals as goal

pub returns : goal.returns
returns g c = cc (c.self.view_is, c.deref.ensures.value)
