use Rattle.std.proofs.Common.{◌≡◌, ◌++◌, ◌∷◌, [], List, sym, ap, ◌∙◌}
use Rattle.std.proofs.lemmas.List.{map-append}
use Rattle.base.specs.Map.{Block}
use Rattle.base.specs.Surveys.{dead_block}
use Rattle.tree.specs.Branch.{Branch, branches_below}
use Rattle.snap.specs.Members.{dead_blocks, tops_after}
use Rattle.snap.proofs.Peeling.{peeled, none_after}
use Rattle.snap.proofs.tops.peel_top.Goals as goal

pub returns-in_ok-push-clause-blocks : goal.returns-in_ok-push-clause-blocks
returns-in_ok-push-clause-blocks c =
    peeled c.args.cut.0 c.args.top (dead_block c.in-Some.block) (branches_below c.args.top) c.peel.new.tops.items c.args.tops.now.items (dead_blocks c.args.taken.now.items) (dead_blocks c.push.new.self.items) (rw c.in-Some.is at c.in_ok-block.ensures.all) (rw c.in-Some.is at c.in_ok-block.ensures.young) (rw c.in-Some.is at c.in_ok-block.ensures.below) (ap dead_blocks c.in_ok-push.ensures.items ∙ map-append dead_block c.args.taken.now.items (c.in-Some.block ∷ []))

pub returns-in_default-clause-blocks : goal.returns-in_default-clause-blocks
returns-in_default-clause-blocks c =
    let kept : c.peel.new.tops.items ≡ c.args.tops.now.items = rw c.in_default.is at c.in_ok-block.ensures.kept in
    ap (λ (ts : List Branch). dead_blocks c.args.taken.now.items ++ tops_after c.args.cut.0 ts) kept
    ∙ ap (λ (xs : List Block). dead_blocks c.args.taken.now.items ++ (xs ++ tops_after c.args.cut.0 c.args.tops.now.items))
    (sym (none_after c.args.cut.0 c.args.top (rw c.in_default.is at c.in_ok-block.ensures.old)))
