use Rattle.std.proofs.Common.{◌≡◌, [], ◌∷◌, ◌||◌, None, Some, cond, refl, sym, ap, subst, ◌∙◌, arith}
use Rattle.std.specs.Prelude.{nat_lt}
use Rattle.std.specs.List.{list_any, find}
use Rattle.std.specs.Option.{option_map, option_or}
use Rattle.std.proofs.Math.Bool.{or-false}
use Rattle.std.proofs.lemmas.Bool.{le-ltb}
use Rattle.std.proofs.lemmas.List.Folds.{find-append, list_any-append}
use Rattle.model.specs.World.{Snap}
use Rattle.shared_list.specs.Left.{left}
use Rattle.datasets.specs.Dead.{snaps_in}
use Rattle.datasets.specs.Origins.{origin_group}
use Rattle.world.specs.Worlds.{AreRising}
use Rattle.limits.specs.Space.{newest_group}
use Rattle.lookups.specs.Ranges.{has_clone_between, group_after, older_than}
use Rattle.lookups.proofs.Walks.{passed, passed_more, walked_all, walked_to, newest_joined, end_is}
use Rattle.lookups.proofs.space.range.look_around.Goals as goal

pub loop-kept-preserved : goal.loop-kept-preserved
loop-kept-preserved c =
    let base = origin_group c.args.file_system.now.system.origin in
    let us = passed c.loop-kept.yielded in
    let u = c.in-Some.kept.now.snapshot in
    let p = has_clone_between c.args.table.now c.args.first.0 c.args.last.0 in
    let q = λ (v : Snap). nat_lt c.args.last.0 v.group in
    let inv = c.loop-kept.invariant in
    let more = passed_more c.loop-kept.yielded c.in-Some.kept in
    record {
      before =
          c.older.ensures
          ∙ (λ i. cond (nat_lt (c.group-group.ensures i) c.args.first.0) (c.group-group.ensures i) (inv.before i))
          ∙ sym (ap (λ l. newest_group base (older_than c.args.first.0 l)) more ∙ newest_joined (λ (v : Snap). nat_lt v.group c.args.first.0) base us u);
      next = refl;
      none =
          ap (find q) more
          ∙ find-append q us (u ∷ [])
          ∙ ap (λ o. option_or o (find q (u ∷ []))) inv.none
          ∙ ap (λ b. cond b (Some u) None) (le-ltb c.args.last.0 u.group (omega (arith, c.if-last-group.false, c.group-group.ensures)));
      cloned =
          (λ i. inv.cloned i || (c.has_clone_between.ensures ∙ sym (or-false (p u))) i)
          ∙ sym (ap (list_any p) more ∙ list_any-append p us (u ∷ []));
    }

pub returns-clause-before : goal.returns-clause-before
returns-clause-before c =
    let first = c.args.first.0 in
    let last = c.args.last.0 in
    let base = origin_group c.args.file_system.now.system.origin in
    let snaps = c.args.file_system.now.system.snaps in
    let all : snaps ≡ snaps_in (left c.into_iter-kept-iterator.result) = sym c.snapshots.ensures ∙ ap snaps_in (sym c.iter-kept-items.ensures ∙ ap left (sym c.into_iter-kept-iterator.ensures.into_iter_gives)) in
    let passed_all = walked_all left c.into_iter-kept-iterator.result c.loop-kept.yielded c.loop-kept.kept-iterator snaps c.loop-kept.yielded_by all c.in-None.ensures.steps.0 in
    c.loop-kept.invariant.before ∙ ap (λ l. newest_group base (older_than first l)) (sym passed_all)

pub returns-clause-next : goal.returns-clause-next
returns-clause-next c =
    let first = c.args.first.0 in
    let last = c.args.last.0 in
    let base = origin_group c.args.file_system.now.system.origin in
    let snaps = c.args.file_system.now.system.snaps in
    let all : snaps ≡ snaps_in (left c.into_iter-kept-iterator.result) = sym c.snapshots.ensures ∙ ap snaps_in (sym c.iter-kept-items.ensures ∙ ap left (sym c.into_iter-kept-iterator.ensures.into_iter_gives)) in
    let passed_all = walked_all left c.into_iter-kept-iterator.result c.loop-kept.yielded c.loop-kept.kept-iterator snaps c.loop-kept.yielded_by all c.in-None.ensures.steps.0 in
    ap (option_map (λ g. g.0)) c.loop-kept.invariant.next ∙ sym (ap (option_map (λ (x : Snap). x.group)) c.loop-kept.invariant.none) ∙ ap (group_after last) (sym passed_all)

pub returns-clause-cloned : goal.returns-clause-cloned
returns-clause-cloned c =
    let first = c.args.first.0 in
    let last = c.args.last.0 in
    let base = origin_group c.args.file_system.now.system.origin in
    let snaps = c.args.file_system.now.system.snaps in
    let all : snaps ≡ snaps_in (left c.into_iter-kept-iterator.result) = sym c.snapshots.ensures ∙ ap snaps_in (sym c.iter-kept-items.ensures ∙ ap left (sym c.into_iter-kept-iterator.ensures.into_iter_gives)) in
    let passed_all = walked_all left c.into_iter-kept-iterator.result c.loop-kept.yielded c.loop-kept.kept-iterator snaps c.loop-kept.yielded_by all c.in-None.ensures.steps.0 in
    c.loop-kept.invariant.cloned ∙ ap (list_any (has_clone_between c.args.table.now first last)) (sym passed_all)

pub returns-then-last-group-clause-before : goal.returns-then-last-group-clause-before
returns-then-last-group-clause-before c =
    let first = c.args.first.0 in
    let last = c.args.last.0 in
    let base = origin_group c.args.file_system.now.system.origin in
    let snaps = c.args.file_system.now.system.snaps in
    let all : snaps ≡ snaps_in (left c.into_iter-kept-iterator.result) = sym c.snapshots.ensures ∙ ap snaps_in (sym c.iter-kept-items.ensures ∙ ap left (sym c.into_iter-kept-iterator.ensures.into_iter_gives)) in
    let u = c.in-Some.kept.now.snapshot in
    let cut = walked_to left c.into_iter-kept-iterator.result c.loop-kept.yielded c.loop-kept.kept-iterator snaps c.loop-kept.yielded_by all c.in-Some.kept (left c.next.new.self) c.in-Some.ensures.steps in
    let at = end_is first last base base (passed c.loop-kept.yielded) u (snaps_in (left c.next.new.self)) c.requires.order (omega (arith, c.if-last-group.true, c.group-group.ensures)) (subst (AreRising base) cut c.requires.rising) c.loop-kept.invariant.none in
    c.loop-kept.invariant.before ∙ sym at.before ∙ ap (λ l. newest_group base (older_than first l)) (sym cut)

pub returns-then-last-group-clause-next : goal.returns-then-last-group-clause-next
returns-then-last-group-clause-next c =
    let first = c.args.first.0 in
    let last = c.args.last.0 in
    let base = origin_group c.args.file_system.now.system.origin in
    let snaps = c.args.file_system.now.system.snaps in
    let all : snaps ≡ snaps_in (left c.into_iter-kept-iterator.result) = sym c.snapshots.ensures ∙ ap snaps_in (sym c.iter-kept-items.ensures ∙ ap left (sym c.into_iter-kept-iterator.ensures.into_iter_gives)) in
    let u = c.in-Some.kept.now.snapshot in
    let cut = walked_to left c.into_iter-kept-iterator.result c.loop-kept.yielded c.loop-kept.kept-iterator snaps c.loop-kept.yielded_by all c.in-Some.kept (left c.next.new.self) c.in-Some.ensures.steps in
    let at = end_is first last base base (passed c.loop-kept.yielded) u (snaps_in (left c.next.new.self)) c.requires.order (omega (arith, c.if-last-group.true, c.group-group.ensures)) (subst (AreRising base) cut c.requires.rising) c.loop-kept.invariant.none in
    ap Some c.group-group.ensures ∙ sym at.next ∙ ap (group_after last) (sym cut)

pub returns-then-last-group-clause-cloned : goal.returns-then-last-group-clause-cloned
returns-then-last-group-clause-cloned c =
    let first = c.args.first.0 in
    let last = c.args.last.0 in
    let base = origin_group c.args.file_system.now.system.origin in
    let snaps = c.args.file_system.now.system.snaps in
    let all : snaps ≡ snaps_in (left c.into_iter-kept-iterator.result) = sym c.snapshots.ensures ∙ ap snaps_in (sym c.iter-kept-items.ensures ∙ ap left (sym c.into_iter-kept-iterator.ensures.into_iter_gives)) in
    let u = c.in-Some.kept.now.snapshot in
    let cut = walked_to left c.into_iter-kept-iterator.result c.loop-kept.yielded c.loop-kept.kept-iterator snaps c.loop-kept.yielded_by all c.in-Some.kept (left c.next.new.self) c.in-Some.ensures.steps in
    let at = end_is first last base base (passed c.loop-kept.yielded) u (snaps_in (left c.next.new.self)) c.requires.order (omega (arith, c.if-last-group.true, c.group-group.ensures)) (subst (AreRising base) cut c.requires.rising) c.loop-kept.invariant.none in
    c.loop-kept.invariant.cloned ∙ sym (at.cloned c.args.table.now) ∙ ap (list_any (has_clone_between c.args.table.now first last)) (sym cut)
