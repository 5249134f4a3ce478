use Rattle.std.proofs.Common.{◌<◌, ◌^◌, subst, sym, arith}
use Rattle.image.specs.Opened.{KeepsJust}
use Rattle.image.proofs.Walking.{walks_now, walks_last}
use Rattle.image.specs.ImageBlocks.{block_at}
use Rattle.model.specs.World.{reach_of}
use Rattle.pool.specs.Pools.{state_in}
use Rattle.pool.proofs.Born.{have_births}
use Rattle.pool.proofs.Kept.{kept_just}
use Rattle.world.proofs.steps.States.{state_numbered}
use Rattle.steps.proofs.questions.Properties.{are_balanced}
use Rattle.steps.proofs.requests.Seeing.{once, closed}
use Rattle.pool.proofs.pool.Pool.facts.Goals as goal

-- each is told of what is inside
pub returns : goal.returns
returns c =
    let s = state_in c.self.inside.keep c.self.inside.present in
    let numbers = c.self.inside.keep.numbers.present in
    let sound = c.self.invariant.sound in
    let image = c.self.inside.keep.image in
    let is = c.self.invariant.image in
    let good = sound.steady.good in
    let few : s.size < 2 ^ 64 = let small = sound.small in omega (arith, small) in
    let low : s.now.group < 2 ^ 64 = subst (λ n. n < 2 ^ 64) c.group-group.ensures (omega arith) in
    let just = subst (KeepsJust (reach_of s.last)) (sym is.kept) (kept_just s good) in
    rw (← c.self.view_is) (record {
      numbered = state_numbered s good;
      states = sound.states;
      balanced = are_balanced s sound.steady numbers sound.states;
      kept = good;
      quotas = sound.steady.limits.now;
      viewing = record {
        numbers = c.self.invariant.views;
        there = good.views;
        now = record { once = once s.size s.now good.now; closed = closed s.size s.now good.now };
        last = record { once = once s.size s.last good.last; closed = closed s.size s.last good.last };
      };
      swept = sound.steady.swept;
      births = have_births s good is.stored.rising;
      snapshots = c.self.invariant.one;
      walked = record { now = walks_now s good few low (block_at image.bytes) is.stored; last = walks_last s good few low (block_at image.bytes) is.stored; kept = just };
      image = is;
    })
