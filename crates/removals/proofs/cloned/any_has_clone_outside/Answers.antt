use Rattle.std.proofs.Common.{◌≡◌, Bor, true, List, ◌∷◌, ◌++◌, map, sym, ap, ◌∙◌}
use Rattle.std.specs.List.{list_any}
use Rattle.snapshots.specs.declared.kept.Kept.{Kept}
use Rattle.shared_list.specs.Left.{left}
use Rattle.datasets.specs.Dead.{snaps_in}
use Rattle.removals.specs.Families.{is_cloned_outside}
use Rattle.snap.proofs.Yielded.{yielded_all, yielded_front, snaps_yielded}
use Rattle.removals.proofs.Seen.{any_pushed, any_here}
use Rattle.snap.proofs.Shared.{any_value}
use Rattle.removals.proofs.cloned.any_has_clone_outside.Goals as goal

pub returns-then-is_cloned_outside : goal.returns-then-is_cloned_outside
returns-then-is_cloned_outside c =
    let p = is_cloned_outside c.args.table.now c.args.name.now in
    let x : Kept = c.in-Some.kept.now in
    let xs : List Kept = map (λ (x : Bor Kept). x.now) c.loop-kept.yielded in
    let ys : List Kept = left c.next.new.self in
    let front = yielded_front left c.into_iter-kept-iterator.result c.loop-kept.yielded c.loop-kept.kept-iterator c.loop-kept.yielded_by ∙ ap (λ l. xs ++ l) c.in-Some.ensures.steps in
    let snaps : c.args.file_system.now.system.snaps ≡ snaps_in (xs ++ x ∷ ys) =
    sym c.snapshots.ensures ∙ ap snaps_in (sym c.iter-kept-items.ensures ∙ ap left (sym c.into_iter-kept-iterator.ensures.into_iter_gives) ∙ front) in
    let shown : p x.snapshot ≡ true = sym c.is_cloned_outside.ensures ∙ c.if-is_cloned_outside.true in
    sym (ap (list_any p) snaps ∙ sym (any_value (λ (k : Kept). k.snapshot) p (xs ++ x ∷ ys)) ∙ any_here (λ (k : Kept). p k.snapshot) xs x ys shown)

pub returns : goal.returns
returns c =
    let all = yielded_all left c.into_iter-kept-iterator.result c.loop-kept.yielded c.loop-kept.kept-iterator c.loop-kept.yielded_by c.in-None.ensures.steps.0 in
    sym (ap (list_any (is_cloned_outside c.args.table.now c.args.name.now)) (sym c.snapshots.ensures ∙ ap snaps_in (sym c.iter-kept-items.ensures ∙ ap left (sym c.into_iter-kept-iterator.ensures.into_iter_gives) ∙ all)
    ∙ sym (snaps_yielded c.loop-kept.yielded))
    ∙ c.loop-kept.invariant)

pub loop-kept-preserved : goal.loop-kept-preserved
loop-kept-preserved c =
    any_pushed (is_cloned_outside c.args.table.now c.args.name.now) (λ (x : Bor Kept). x.now.snapshot) c.loop-kept.yielded c.in-Some.kept c.loop-kept.invariant
    (sym c.is_cloned_outside.ensures ∙ c.if-is_cloned_outside.false)
