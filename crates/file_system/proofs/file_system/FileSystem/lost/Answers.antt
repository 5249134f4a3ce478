use Rattle.std.proofs.Common.{ap, ◌∙◌}
use Rattle.base.specs.Map.{blocks}
use Rattle.world.specs.Blocks.{after}
use Rattle.file_system.specs.Origins.{origin_group}
use Rattle.file_system.specs.Rows.{Row}
use Rattle.file_system.proofs.Losses.{born_since}
use Rattle.file_system.proofs.file_system.FileSystem.lost.Goals as goal

pub returns-clause-ok : goal.returns-clause-ok
returns-clause-ok c = record {
  tree_is = c.in_ok-tree.ensures.ok ∙ ap (λ (r : Row). r.system.live) c.self.view_is;
  after_is = c.newest_group.ensures;
  blocks_are = ap (λ n. after n (blocks c.args.self.now.system.live)) c.newest_group.ensures ∙ born_since (blocks c.args.self.now.below) (origin_group c.args.self.now.system.origin) c.args.self.now.system.live c.args.self.now.system.snaps c.requires;
  counted = c.written.ensures;
}
