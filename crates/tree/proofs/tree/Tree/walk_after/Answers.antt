use Rattle.std.proofs.Common.{◌≡◌, ◌++◌, sym, ap, ◌∙◌, append-nil, map, arith, length}
use Rattle.base.specs.Surveys.{dead_block}
use Rattle.std.proofs.lemmas.List.{length-map}
use Rattle.base.specs.Counting.{counted, most}
use Rattle.node.specs.Walk.{born_after, blocks_of, forest_blocks, part_blocks}
use Rattle.node.specs.Kid.{birth_of}
use Rattle.node.specs.Node.{whole, root_forest, root_part}
use Rattle.node.proofs.Walk.{blocks-map_of, born_after-none}
use Rattle.tree.proofs.tree.Tree.walk_after.Goals as goal
use Rattle.tree.proofs.tree.Tree.walk_after.Goals.{in-Some+in_ok-gather, in_default}

pub returns-clause-ok : goal.returns-clause-ok
returns-clause-ok c =
    let cut = c.args.cut.0 in
    let all = ap blocks_of (sym c.self.view_is) ∙ blocks-map_of (birth_of (whole c.self.inside.root)) (root_forest c.self.inside.root) c.self.invariant.well in
    elim c.match-self.branch [
      | in-Some+in_ok-gather w ↦
          ap (λ v. map dead_block v.items) w.out-is
          ∙ w.in_ok-gather.ensures.gathered
          ∙ ap (λ xs. map dead_block xs ++ born_after cut (part_blocks (root_part w.deref.result.now))) c.new-out.ensures.items
          ∙ ap (λ r. born_after cut (part_blocks (root_part r))) w.deref.ensures
          ∙ sym (ap (born_after cut) (all ∙ ap (λ r. forest_blocks (root_forest r)) w.in-Some.is ∙ append-nil (part_blocks (root_part w.in-Some.root.value))))
      | in_default w ↦
          ap (λ v. map dead_block v.items) w.out-is ∙ ap (map dead_block) c.new-out.ensures.items
          ∙ sym (ap (born_after cut) (all ∙ ap (λ r. forest_blocks (root_forest r)) w.in_default.is) ∙ born_after-none cut)
    ]

pub returns-clause-metered : goal.returns-clause-metered
unfolding counted most
returns-clause-metered c =
    let cut = c.args.cut.0 in
    elim c.match-self.branch [
      | in-Some+in_ok-gather w ↦
          let e : length c.match-self.out.items ≡ length (born_after cut (part_blocks (root_part w.deref.result.now))) =
          ap (λ v. length v.items) w.out-is ∙ sym (length-map _ dead_block)
          ∙ ap length (w.in_ok-gather.ensures.gathered ∙ ap (λ xs. map dead_block xs ++ born_after cut (part_blocks (root_part w.deref.result.now))) c.new-out.ensures.items) in
          rw (e, w.meter-is) w.in_ok-gather.ensures.metered
      | in_default w ↦
          let e : length c.match-self.out.items ≡ length c.new-out.result.items = ap (λ v. length v.items) w.out-is in
          let z = ap length c.new-out.ensures.items in
          let m = w.meter-is in
          omega (arith, e, z, m)
    ]
