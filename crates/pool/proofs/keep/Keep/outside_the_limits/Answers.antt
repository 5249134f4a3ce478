use Rattle.datasets.specs.Clones.{row_in}
use Rattle.model.specs.World.{FileSystem}
use Rattle.steps.proofs.questions.Names.{mapped, unmapped}
use Rattle.pool.specs.Pools.{state_in}
use Rattle.pool.proofs.Changes.{outside_refused, outside_absent}
use Rattle.pool.proofs.keep.Keep.outside_the_limits.Goals as goal

pub returns-in-Some : goal.returns-in-Some
returns-in-Some c q asks =
    let found = mapped (λ (f : FileSystem). row_in c.args.world.now.table.file_systems (c.args.name.now, f)) _ c.in-Some.field-0.now c.in-Some.ensures in
    outside_refused (state_in c.args.self.now c.args.world.now) c.args.self.now.numbers.present c.requires.sound q c.args.name.now c.args.refusal asks found.0 found.1

pub returns-in-None : goal.returns-in-None
returns-in-None c q asks =
    outside_absent (state_in c.args.self.now c.args.world.now) c.args.self.now.numbers.present c.requires.sound q c.args.name.now c.args.refusal asks
    (unmapped (λ (f : FileSystem). row_in c.args.world.now.table.file_systems (c.args.name.now, f)) _ c.in-None.ensures)
