use Rattle.snap.specs.Members.{members}
use Rattle.snap.proofs.Together.{len_is}
use Rattle.snap.proofs.freeing.Freeing.len.Goals as goal

pub returns : goal.returns
returns c = len_is (members c.self.inside.pieces) c.args.self.now c.self.inside.len c.self.invariant.1 c.self.invariant.0 c.self.view_is
