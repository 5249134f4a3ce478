-- One more leaf: its node on this level is counted, and the one below is on the rest of its path.
use Rattle.std.proofs.Common.{◌≡◌, suc, ◌+◌, ◌%◌, ◌<◌, get_or, length, None, Some, sym, ap, subst, ◌∙◌, arith}
use Rattle.std.proofs.lemmas.List.{get_or_default, get_or-set_other, length-set}
use Rattle.node.specs.Kid.{IsKid}
use Rattle.node.specs.Node.{inner_part, part_of_node}
use Rattle.tree.specs.Ahead.{nodes_to}
use Rattle.tree.proofs.Paths.{more_there, more_gone, kid_sound, set_each, none_there, digit}
use Rattle.tree.proofs.ahead.read_level.Goals as goal
use Rattle.tree.proofs.ahead.read_level.Goals.{in-Some+then-node-newest, in-Some+else-node-newest, in_default}

pub loop-at-preserved : goal.loop-at-preserved
loop-at-preserved g c =
    let sixteen : length c.args.nodes ≡ 16 = omega arith in
    let small : c.loop-at.at < length c.args.nodes = omega (arith, sixteen, c.min-at-end.ensures, c.loop-at-test.true) in
    let room : c.loop-at.at < length c.loop-at.below = omega (arith, small, sixteen, c.loop-at.invariant.sixteen) in
    elim c.match-nodes-at.branch [
      | in-Some+then-node-newest w ↦
          let here : get_or c.args.nodes c.loop-at.at None ≡ Some w.in-Some.node = get_or_default c.args.nodes c.loop-at.at None _ small ∙ w.in-Some.is in
          let place = ap (λ n. n % 16) (digit (get_or c.args.leaves.now c.loop-at.at 0) c.args.level c.requires.low) in
          record {
            sixteen = ap length w.below-is ∙ length-set c.loop-at.below c.loop-at.at w.kid.result ∙ c.loop-at.invariant.sixteen;
            sound = λ i. subst (λ xs. IsKid g.C.Level.height c.args.newest.0 (part_of_node g.C.Level.part (get_or xs i None))) (sym w.below-is)
                (set_each (λ o. IsKid g.C.Level.height c.args.newest.0 (part_of_node g.C.Level.part o)) c.loop-at.below c.loop-at.at w.kid.result c.loop-at.invariant.sound
                (kid_sound g.C.Level.part w.in-Some.node.now _ w.kid.result w.kid.ensures g.C.Level.height c.args.newest.0
                (subst (λ o. IsKid (suc g.C.Level.height) c.args.newest.0 (part_of_node (inner_part g.C.Level.part) o)) here (c.requires.sound c.loop-at.at))) i);
            rest = λ i h. ap (λ xs. get_or xs i None) w.below-is ∙ get_or-set_other c.loop-at.below c.loop-at.at i w.kid.result None (λ e. omega arith) ∙ c.loop-at.invariant.rest i (omega arith);
            counted =
                (λ i. w.there-is i + nodes_to g.C.Level.part c.args.level (c.loop-at.at + 1) (w.below-is i) c.args.leaves.now)
                ∙ more_there g.C.Level.part c.args.level c.loop-at.at c.loop-at.there c.args.there.now c.args.nodes c.loop-at.below c.args.leaves.now w.in-Some.node w.kid.result _ here room place w.kid.ensures c.loop-at.invariant.counted;
            few = omega (arith, w.there-is, c.loop-at.invariant.few);
          }
      | in-Some+else-node-newest w ↦
          let here : get_or c.args.nodes c.loop-at.at None ≡ Some w.in-Some.node = get_or_default c.args.nodes c.loop-at.at None _ small ∙ w.in-Some.is in
          let sound = subst (λ o. IsKid (suc g.C.Level.height) c.args.newest.0 (part_of_node (inner_part g.C.Level.part) o)) here (c.requires.sound c.loop-at.at) in
          absurd (omega (arith, sound.0, w.if-node-newest.false))
      | in_default w ↦
          let here = get_or_default c.args.nodes c.loop-at.at None _ small ∙ none_there _ w.in_default.not-Some in
          record {
            sixteen = ap length w.below-is ∙ c.loop-at.invariant.sixteen;
            sound = λ i. subst (λ xs. IsKid g.C.Level.height c.args.newest.0 (part_of_node g.C.Level.part (get_or xs i None))) (sym w.below-is) (c.loop-at.invariant.sound i);
            rest = λ i h. ap (λ xs. get_or xs i None) w.below-is ∙ c.loop-at.invariant.rest i (omega arith);
            counted =
                (λ i. w.there-is i + nodes_to g.C.Level.part c.args.level (c.loop-at.at + 1) (w.below-is i) c.args.leaves.now)
                ∙ more_gone g.C.Level.part c.args.level c.loop-at.at c.loop-at.there c.args.there.now c.args.nodes c.loop-at.below c.args.leaves.now here (c.loop-at.invariant.rest _ (omega arith)) c.loop-at.invariant.counted;
            few = omega (arith, w.there-is, c.loop-at.invariant.few);
          }
    ]
