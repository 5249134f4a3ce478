use Rattle.std.proofs.Common.{◌≤◌, ◌<◌, subst}
use Rattle.model.specs.Targets.{number_limit}
use Rattle.steps.proofs.requests.Syncing.{sync_too_many}
use Rattle.pool.specs.Pools.{state_in}
use Rattle.pool.proofs.Synced.{synced_performed}
use Rattle.pool.proofs.keep.Keep.sync.Goals as goal

pub returns-then-group-ge-LAST_GROUP-clause-performed : goal.returns-then-group-ge-LAST_GROUP-clause-performed
returns-then-group-ge-LAST_GROUP-clause-performed c = sync_too_many (state_in c.args.self.now c.args.world.now) (subst (λ n. number_limit ≤ n) c.group.ensures c.if-group-ge-LAST_GROUP.true)

pub returns-clause-performed : goal.returns-clause-performed
returns-clause-performed c =
    synced_performed c.args.self.now c.args.world.now c.requires (subst (λ n. n < number_limit) c.group.ensures c.if-group-ge-LAST_GROUP.false) c.in_ok-last.last c.in_ok-last.ensures.ok
    c.close_group.new.self c.close_group-2.new.self c.close_group.ensures c.close_group-2.ensures c.in_ok-kept.kept c.in_ok-kept.ensures.ok c.in_ok-viewed.viewed c.in_ok-viewed.ensures.ok
