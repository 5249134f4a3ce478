use Rattle.std.proofs.Common.{arith, ◌≤◌, suc, None, sym, ap, ◌∙◌, refl, length, sub-one, length-append, map}
use Rattle.std.specs.Option.{option_map}
use Rattle.base.specs.Counting.{counted, most}
use Rattle.base.specs.Surveys.{dead_block}
use Rattle.node.specs.Walk.{born_after, part_blocks}
use Rattle.node.specs.Entries.{width}
use Rattle.node.specs.Shape.{forest_of}
use Rattle.node.specs.Pairs.{places_in}
use Rattle.node.specs.Node.{inner_part, shared_part}
use Rattle.node.proofs.Steps.{follow_push}
use Rattle.node.proofs.Walk.{sound_at, part_young, part_old, rest_some, rest_none, step_lists, step_meter, rest_end, born_after-none, ended, first_lists, none_more}
use Rattle.node.proofs.node.InnerLevel.gather.Goals as goal
use Rattle.node.proofs.node.InnerLevel.gather.Goals.{in-Some+in_ok-gather, in_default}

pub returns-then-self-cut-clause-gathered : goal.returns-then-self-cut-clause-gathered
returns-then-self-cut-clause-gathered g c =
    none_more (map dead_block c.args.out.now.items) _ (part_old (suc g.C.Level.height) c.args.cut.0 (inner_part g.C.Level.part c.args.self.now) c.requires.sound c.if-self-cut.true)

pub returns-then-self-cut-clause-metered : goal.returns-then-self-cut-clause-metered
unfolding counted most
returns-then-self-cut-clause-metered g c =
    rw (part_old (suc g.C.Level.height) c.args.cut.0 (inner_part g.C.Level.part c.args.self.now) c.requires.sound c.if-self-cut.true) (omega (arith, c.reach.ensures.metered))

pub loop-place-init : goal.loop-place-init
unfolding counted most
loop-place-init g c =
    let young = part_young c.args.cut.0 (inner_part g.C.Level.part c.args.self.now) c.if-self-cut.false in
    record {
      gathered = first_lists _ _ _ _ _ (follow_push _ _ _ _ c.in_ok-push.ensures.items c.block.ensures) young;
      metered = rw young (omega (arith, c.reach.ensures.metered));
      never_lower = c.reach.ensures.never_lower;
    }

pub gather-requires : goal.gather-requires
gather-requires g c =
    let w = rw sub-one at c.requires.sound.1 in
    let there = sym c.owner.ensures ∙ ap (option_map (λ a. a.now)) c.in-Some.is in
    record { sound = rw c.deref.ensures (sound_at (shared_part g.C.Level.part) (places_in c.args.self.now.kids) g.C.Level.height _ c.loop-place.place None c.in-Some.kid.now w (omega arith) there).1 }

pub loop-place-preserved : goal.loop-place-preserved
loop-place-preserved g c =
    let part = shared_part g.C.Level.part in
    let kids = places_in c.args.self.now.kids in
    let cut = c.args.cut.0 in
    let i = c.loop-place.place in
    elim c.match-owner.branch [
      | in-Some+in_ok-gather w ↦
          let there = sym c.owner.ensures ∙ ap (option_map (λ a. a.now)) w.in-Some.is in
          let rest = rest_some part kids cut i None w.in-Some.kid.now (omega arith) there in
          let new = w.in_ok-gather.ensures.gathered in
          let steps = w.in_ok-gather.ensures.metered in
          let same = w.deref.ensures in
          record {
            gathered = rw w.out-is (step_lists _ _ _ _ _ _ c.loop-place.invariant.gathered rest (rw same at new));
            metered = rw w.meter-is (step_meter _ _ _ _ _ _ _ c.loop-place.invariant.metered (ap length rest ∙ length-append (born_after cut (part_blocks (part w.in-Some.kid.now))) _) (rw same at steps));
            never_lower = omega (arith, w.meter-is, w.in_ok-gather.ensures.never_lower, c.loop-place.invariant.never_lower);
          }
      | in_default w ↦
          let gone = sym c.owner.ensures ∙ ap (option_map (λ a. a.now)) w.in_default.is in
          let rest = rest_none part kids cut i None (omega arith) gone in
          record {
            gathered = rw (w.out-is, ← rest) c.loop-place.invariant.gathered;
            metered = rw (w.meter-is, ← rest) c.loop-place.invariant.metered;
            never_lower = rw w.meter-is c.loop-place.invariant.never_lower;
          }
    ]

pub returns-clause-gathered : goal.returns-clause-gathered
returns-clause-gathered g c =
    let over : width (forest_of (shared_part g.C.Level.part) (places_in c.args.self.now.kids)) ≤ c.loop-place.place = omega (arith, c.requires.sound.0.0) in
    let e = rest_end (shared_part g.C.Level.part) (places_in c.args.self.now.kids) c.loop-place.place over in
    ended _ _ _ c.loop-place.invariant.gathered (rw (e, born_after-none) refl)

pub returns-clause-metered : goal.returns-clause-metered
unfolding counted most
returns-clause-metered g c =
    let over : width (forest_of (shared_part g.C.Level.part) (places_in c.args.self.now.kids)) ≤ c.loop-place.place = omega (arith, c.requires.sound.0.0) in
    let e = rest_end (shared_part g.C.Level.part) (places_in c.args.self.now.kids) c.loop-place.place over in
    let m = rw (e, born_after-none) at c.loop-place.invariant.metered in
    omega (arith, m)
