use Rattle.std.proofs.Common.{◌++◌, Bor, map, is_gt, nat_cmp, sym, ap, ◌∙◌}
use Rattle.model.specs.World.{Snap}
use Rattle.snapshots.specs.declared.kept.Kept.{Kept}
use Rattle.shared_list.specs.Left.{left}
use Rattle.datasets.specs.Dead.{snaps_in}
use Rattle.model.specs.Lengths.{is_long}
use Rattle.snap.proofs.Yielded.{gt_is, yielded_all, yielded_front, none_early, none_left, one_early, still_none}
use Rattle.snap.proofs.lengths.any_long_upto.Goals as goal

pub returns-then-gt : goal.returns-then-gt
returns-then-gt c =
    let front = yielded_front left c.into_iter-kept-iterator.result c.loop-kept.yielded c.loop-kept.kept-iterator c.loop-kept.yielded_by ∙ ap (λ l. map (λ (x : Bor Kept). x.now) c.loop-kept.yielded ++ l) c.in-Some.ensures.steps in
    sym (none_left (λ (t : Snap). is_long c.args.length t.name) c.args.group.0 c.args.owner.now.system.snaps c.loop-kept.yielded c.loop-kept.invariant c.in-Some.kept.now (left c.next.new.self)
    (sym c.snapshots.ensures ∙ ap snaps_in (sym c.iter-kept-items.ensures ∙ ap left (sym c.into_iter-kept-iterator.ensures.into_iter_gives) ∙ front))
    c.requires
    (sym (gt_is c.in-Some.kept.now.snapshot.group c.args.group.0) ∙ ap (λ n. is_gt (nat_cmp n c.args.group.0)) (sym c.group.ensures) ∙ sym c.gt.ensures ∙ c.if-gt.true))

pub returns-then-is_long : goal.returns-then-is_long
returns-then-is_long c =
    let front = yielded_front left c.into_iter-kept-iterator.result c.loop-kept.yielded c.loop-kept.kept-iterator c.loop-kept.yielded_by ∙ ap (λ l. map (λ (x : Bor Kept). x.now) c.loop-kept.yielded ++ l) c.in-Some.ensures.steps in
    sym (one_early (λ (t : Snap). is_long c.args.length t.name) c.args.group.0 c.args.owner.now.system.snaps c.loop-kept.yielded c.loop-kept.invariant c.in-Some.kept.now (left c.next.new.self)
    (sym c.snapshots.ensures ∙ ap snaps_in (sym c.iter-kept-items.ensures ∙ ap left (sym c.into_iter-kept-iterator.ensures.into_iter_gives) ∙ front))
    (sym (gt_is c.in-Some.kept.now.snapshot.group c.args.group.0) ∙ ap (λ n. is_gt (nat_cmp n c.args.group.0)) (sym c.group.ensures) ∙ sym c.gt.ensures ∙ c.if-gt.false)
    (ap (is_long c.args.length) (sym c.name.ensures) ∙ sym c.is_long.ensures ∙ c.if-is_long.true))

pub returns : goal.returns
returns c =
    let all = yielded_all left c.into_iter-kept-iterator.result c.loop-kept.yielded c.loop-kept.kept-iterator c.loop-kept.yielded_by c.in-None.ensures.steps.0 in
    sym (none_early (λ (t : Snap). is_long c.args.length t.name) c.args.group.0 c.args.owner.now.system.snaps c.loop-kept.yielded c.loop-kept.invariant
    (sym c.snapshots.ensures ∙ ap snaps_in (sym c.iter-kept-items.ensures ∙ ap left (sym c.into_iter-kept-iterator.ensures.into_iter_gives) ∙ all)))

pub loop-kept-preserved : goal.loop-kept-preserved
loop-kept-preserved c =
    still_none (λ (t : Snap). is_long c.args.length t.name) c.args.group.0 c.args.owner.now.system.snaps c.loop-kept.yielded c.loop-kept.invariant c.in-Some.kept
    (ap (is_long c.args.length) (sym c.name.ensures) ∙ sym c.is_long.ensures ∙ c.if-is_long.false)
