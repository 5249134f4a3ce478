use Rattle.std.proofs.Common.{◌≡◌, ◌+◌, ◌++◌, ◌∷◌, [], sym, ap, subst, ◌∙◌, arith, length, length-append}
use Rattle.std.specs.FinSet.{union, from_list, empty_of_len}
use Rattle.base.specs.Map.{BlockSet, blocks}
use Rattle.base.specs.Surveys.{AreDifferent}
use Rattle.world.specs.Blocks.{after}
use Rattle.world.specs.Sets.{AreDisjoint}
use Rattle.snap.specs.Members.{members, tops_after}
use Rattle.snap.proofs.Pieces.{last_piece}
use Rattle.snap.proofs.Together.{top_lists, none_added, nothing_added, added}
use Rattle.snap.proofs.freeing.Freeing.add_tree.Goals as goal

pub returns-in_default-2-clause-ok : goal.returns-in_default-2-clause-ok
returns-in_default-2-clause-ok c = none_added c.args.self.now c.args.tree.now c.args.cut.0 (rw c.in_default-2.is at c.in_ok-top.ensures.none)

pub returns-then-count-eq0-clause-ok : goal.returns-then-count-eq0-clause-ok
returns-then-count-eq0-clause-ok c =
    nothing_added c.args.self.now (after c.args.cut.0 (blocks c.args.tree.now)) (empty_of_len (after c.args.cut.0 (blocks c.args.tree.now)) (sym c.requires.count ∙ c.if-count-eq0.true))

pub invariant_of-self-2 : goal.invariant_of-self-2
invariant_of-self-2 c =
    let old = members c.self.inside.pieces in
    let new = tops_after c.args.cut.0 c.push_reserved.new.self.items in
    let born = after c.args.cut.0 (blocks c.args.tree.now) in
    let whole = ap members c.in_ok-push.ensures.ok ∙ last_piece c.self.inside.pieces _ in
    let own = top_lists c.args.tree.now c.in-Some-2.top c.push_reserved.new.self.items c.args.cut.0 (c.push_reserved.ensures.items ∙ ap (λ ts. ts ++ c.in-Some-2.top ∷ []) c.in_ok-tops.ensures.items) c.node_count-count.ensures.unique (rw c.in-Some-2.is at c.in_ok-top.ensures.map) in
    let apart = subst (λ s. AreDisjoint s born) (sym c.self.view_is) c.requires.apart in
    let a = added new old born own.0 c.self.invariant.0 apart in
    let long : length (members c.push.new.self) ≡ length new + length old = ap length whole ∙ length-append new old in
    let count = own.1 in
    let kept = c.self.invariant.1 in
    let asked = c.requires.count in (
      subst AreDifferent (sym whole) a.0,
      omega (arith, long, count, kept, asked, c.in-Some.ensures),
    )

pub returns-clause-ok : goal.returns-clause-ok
returns-clause-ok c =
    let old = members c.self.inside.pieces in
    let new = tops_after c.args.cut.0 c.push_reserved.new.self.items in
    let born = after c.args.cut.0 (blocks c.args.tree.now) in
    let own = top_lists c.args.tree.now c.in-Some-2.top c.push_reserved.new.self.items c.args.cut.0 (c.push_reserved.ensures.items ∙ ap (λ ts. ts ++ c.in-Some-2.top ∷ []) c.in_ok-tops.ensures.items) c.node_count-count.ensures.unique (rw c.in-Some-2.is at c.in_ok-top.ensures.map) in
    let apart = subst (λ s. AreDisjoint s born) (sym c.self.view_is) c.requires.apart in
    ap (λ bs. from_list bs) (ap members c.in_ok-push.ensures.ok ∙ last_piece c.self.inside.pieces _)
    ∙ (added new old born own.0 c.self.invariant.0 apart).1
    ∙ ap (λ (s : BlockSet). union s born) c.self.view_is
