use Rattle.pool.proofs.Metered.{carried}
use Rattle.pool.proofs.Planned.{done_writes}
use Rattle.pool.proofs.pool.Pool.prepared.Goals as goal

pub returns-clause-metered : goal.returns-clause-metered
returns-clause-metered c = carried c.args.self.now c.args.request.now c.prepare-reply.result.0 c.prepare-reply.new.self c.commit.new.self c.prepare-reply.ensures.metered c.commit.ensures.nodes c.commit.ensures.segments

pub returns-clause-writes : goal.returns-clause-writes
returns-clause-writes c =
    done_writes c.args.self.now.state c.prepare-reply.new.self.state c.prepare-reply.result.1.to c.commit.new.self.state c.args.request.now c.prepare-reply.result.0 c.prepare-reply.result.1.writes c.args.self.now.image c.prepare-reply.new.self.image c.commit.new.self.image
    c.prepare-reply.ensures.same c.prepare-reply.ensures.same_image c.commit.ensures.to c.prepare-reply.ensures.none c.commit.ensures.writes
