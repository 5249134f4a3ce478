use Rattle.std.proofs.Common.{◌≡◌, ◌&&◌, Bool, Bor, true, false, List, ◌∷◌, ◌++◌, map, is_gt, nat_cmp, refl, sym, ap, ◌∙◌}
use Rattle.std.specs.Prelude.{nat_lt}
use Rattle.std.specs.List.{list_any}
use Rattle.model.specs.World.{id_of}
use Rattle.snapshots.specs.declared.kept.Kept.{Kept}
use Rattle.shared_list.specs.Left.{left}
use Rattle.datasets.specs.Dead.{snaps_in}
use Rattle.removals.specs.Needs.{has_clone, has_clone_and_is_later}
use Rattle.snap.proofs.Yielded.{gt_is, yielded_all, yielded_front, snaps_yielded}
use Rattle.removals.proofs.Seen.{any_pushed, any_here}
use Rattle.snap.proofs.Shared.{any_value}
use Rattle.removals.proofs.cloned.any_later_has_clone.Goals as goal
use Rattle.removals.proofs.cloned.any_later_has_clone.Goals.{else-gt-via-then-gt+else-has_clone, else-gt-via-else-gt}

and_none : (b : Bool) → (b && false) ≡ false
and_none true = refl
and_none false = refl

pub returns-then-has_clone : goal.returns-then-has_clone
returns-then-has_clone c =
    let p = has_clone_and_is_later c.args.table.now c.args.group.0 in
    let x : Kept = c.in-Some.kept.now in
    let xs : List Kept = map (λ (x : Bor Kept). x.now) c.loop-kept.yielded in
    let ys : List Kept = left c.next.new.self in
    let front = yielded_front left c.into_iter-kept-iterator.result c.loop-kept.yielded c.loop-kept.kept-iterator c.loop-kept.yielded_by ∙ ap (λ l. xs ++ l) c.in-Some.ensures.steps in
    let snaps : c.args.file_system.now.system.snaps ≡ snaps_in (xs ++ x ∷ ys) =
    sym c.snapshots.ensures ∙ ap snaps_in (sym c.iter-kept-items.ensures ∙ ap left (sym c.into_iter-kept-iterator.ensures.into_iter_gives) ∙ front) in
    let later : nat_lt c.args.group.0 x.snapshot.group ≡ true =
    sym (gt_is x.snapshot.group c.args.group.0) ∙ ap (λ n. is_gt (nat_cmp n c.args.group.0)) (sym c.group.ensures) ∙ sym c.gt.ensures ∙ c.if-gt.true in
    let shown : p x.snapshot ≡ true = λ i. later i && (ap (has_clone c.args.table.now) (sym c.id.ensures) ∙ sym c.has_clone.ensures.clones ∙ c.if-has_clone.true) i in
    sym (ap (list_any p) snaps ∙ sym (any_value (λ (k : Kept). k.snapshot) p (xs ++ x ∷ ys)) ∙ any_here (λ (k : Kept). p k.snapshot) xs x ys shown)

pub returns : goal.returns
returns c =
    let all = yielded_all left c.into_iter-kept-iterator.result c.loop-kept.yielded c.loop-kept.kept-iterator c.loop-kept.yielded_by c.in-None.ensures.steps.0 in
    sym (ap (list_any (has_clone_and_is_later c.args.table.now c.args.group.0)) (sym c.snapshots.ensures ∙ ap snaps_in (sym c.iter-kept-items.ensures ∙ ap left (sym c.into_iter-kept-iterator.ensures.into_iter_gives) ∙ all)
    ∙ sym (snaps_yielded c.loop-kept.yielded))
    ∙ c.loop-kept.invariant)

pub loop-kept-preserved : goal.loop-kept-preserved
loop-kept-preserved c =
    any_pushed (has_clone_and_is_later c.args.table.now c.args.group.0) (λ (x : Bor Kept). x.now.snapshot) c.loop-kept.yielded c.in-Some.kept c.loop-kept.invariant
    (elim c.else-gt.branch [
      | else-gt-via-then-gt+else-has_clone w ↦ ap (λ b. nat_lt c.args.group.0 c.in-Some.kept.now.snapshot.group && b) (ap (has_clone c.args.table.now) (sym w.id.ensures) ∙ sym w.has_clone.ensures.clones ∙ w.if-has_clone.false) ∙ and_none (nat_lt c.args.group.0 c.in-Some.kept.now.snapshot.group)
      | else-gt-via-else-gt w ↦
          ap (λ b. b && has_clone c.args.table.now (id_of c.in-Some.kept.now.snapshot))
          (sym (gt_is c.in-Some.kept.now.snapshot.group c.args.group.0) ∙ ap (λ n. is_gt (nat_cmp n c.args.group.0)) (sym c.group.ensures) ∙ sym c.gt.ensures ∙ w.if-gt.false)
    ])
