use Rattle.std.proofs.Common.{◌≡◌, true, Bor, Some, None, cond, map, sym, ap, ◌∙◌}
use Rattle.std.specs.Prelude.{◌==◌}
use Rattle.std.specs.List.{filter, last_or}
use Rattle.model.specs.World.{Snap}
use Rattle.snapshots.specs.declared.kept.Kept.{Kept}
use Rattle.shared_list.specs.Left.{left}
use Rattle.datasets.specs.Dead.{snaps_in}
use Rattle.snap.proofs.Yielded.{yielded_all, snaps_yielded}
use Rattle.receives.proofs.Sourced.{last_yielded}
use Rattle.receives.proofs.sources.source_of.Goals as goal

pub loop-kept-preserved-then-eq : goal.loop-kept-preserved-then-eq
loop-kept-preserved-then-eq c =
    let p = λ (t : Snap). t.guid == c.args.guid.0 in
    let here : p c.in-Some.kept.now.snapshot ≡ true = ap (λ n. n == c.args.guid.0) (sym c.guid.ensures) ∙ sym c.eq.ensures ∙ c.if-eq.true in
    sym (last_yielded p c.loop-kept.yielded c.in-Some.kept
    ∙ ap (λ b. cond b (Some c.in-Some.kept.now.snapshot) (last_or None (filter p (map (λ (y : Bor Kept). y.now.snapshot) c.loop-kept.yielded)))) here)

pub returns : goal.returns
returns c =
    let all = yielded_all left c.into_iter-kept-iterator.result c.loop-kept.yielded c.loop-kept.kept-iterator c.loop-kept.yielded_by c.in-None.ensures.steps.0 in
    c.loop-kept.invariant
    ∙ ap (λ us. last_or None (filter (λ (t : Snap). t.guid == c.args.guid.0) us))
    (snaps_yielded c.loop-kept.yielded ∙ sym (sym c.snapshots.ensures ∙ ap snaps_in (sym c.iter-kept-items.ensures ∙ ap left (sym c.into_iter-kept-iterator.ensures.into_iter_gives) ∙ all)))
