use Rattle.pool.specs.Pools.{state_in}
use Rattle.pool.proofs.Commits.{sound_freed}
use Rattle.pool.proofs.Slicing.{slice_can, slice_may, slice_step}
use Rattle.pool.proofs.keep.Keep.slice.Goals as goal

pub returns-clause-performed : goal.returns-clause-performed
returns-clause-performed c =
    let e = c.in_ok-slice.ensures in (
      record {
        sound = sound_freed (state_in c.args.self.now c.args.world.now) c.args.self.now.numbers.present c.requires.sound c.in_ok-slice.slice.rest _ (slice_can (state_in c.args.self.now c.args.world.now) c.args.self.now.numbers.present c.requires.sound c.in_ok-slice.slice.rest c.in_ok-slice.slice.taken.items e.once e.within e.rest);
        kept = c.requires.now;
        may = slice_may (state_in c.args.self.now c.args.world.now) c.args.self.now.numbers.present c.requires.sound c.in_ok-slice.slice.rest c.in_ok-slice.slice.taken.items e.once e.within e.rest;
        leads = tt;
      },
      slice_step (state_in c.args.self.now c.args.world.now) c.args.self.now.numbers.present c.requires.sound c.in_ok-slice.slice.rest c.in_ok-slice.slice.taken.items e.once e.within e.rest c.args.count e.count,
    )
