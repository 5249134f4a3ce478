use Rattle.std.proofs.Common.{◌≡◌, ◌≤◌, ◌-◌, ◌+◌, ◌^◌, ◌∷◌, ◌++◌, [], ℕ, List, Bor, min, map, sym, ap, subst, ◌∙◌, arith}
use Rattle.std.proofs.lemmas.List.{map_push}
use Rattle.std.proofs.lemmas.List.Sums.{sum_by_push}
use Rattle.std.specs.List.{sum_by}
use Rattle.snapshots.specs.declared.kept.Kept.{Kept}
use Rattle.shared_list.specs.Left.{left}
use Rattle.file_system.specs.Gone.{kept_count, kept_reach}
use Rattle.file_system.proofs.Sizes.{yielded_all}
use Rattle.file_system.proofs.gone.count_snapshots.Goals as goal

-- one more adds what it has
pushed : (count : Kept → ℕ) (xs : List (Bor Kept)) (x : Bor Kept) → sum_by count (map (λ (y : Bor Kept). y.now) (xs ++ x ∷ [])) ≡ sum_by count (map (λ (y : Bor Kept). y.now) xs) + count x.now
pushed count xs x = ap (sum_by count) (map_push (λ (y : Bor Kept). y.now) xs x) ∙ sum_by_push count (map (λ (y : Bor Kept). y.now) xs) x.now

pub loop-kept-preserved : goal.loop-kept-preserved
loop-kept-preserved c =
    let counts = pushed (kept_count c.args.asked) c.loop-kept.yielded c.in-Some.kept in
    let segments = pushed (kept_reach c.args.asked) c.loop-kept.yielded c.in-Some.kept in
    let was = c.loop-kept.invariant.0 in
    let reached = c.loop-kept.invariant.1 in
    let more = c.count_kept.ensures.count in
    let further = c.count_kept.ensures.meter in
    let risen = c.loop-kept.invariant.2 in
    let higher = c.count_kept.ensures.never_lower in
    let total = c.saturating_add-total.ensures in
    (omega arith, omega arith, omega (arith, risen, higher))

pub returns-clause-count : goal.returns-clause-count
returns-clause-count c =
    let all = yielded_all left c.into_iter-kept-iterator.result c.loop-kept.yielded c.loop-kept.kept-iterator c.loop-kept.yielded_by c.in-None.ensures.steps.0 in
    let is = sym c.iter-kept-items.ensures ∙ ap left (sym c.into_iter-kept-iterator.ensures.into_iter_gives) ∙ all in
    c.loop-kept.invariant.0 ∙ ap (λ l. min (2 ^ 64 - 1) (sum_by (kept_count c.args.asked) l)) (sym is)

pub returns-clause-meter : goal.returns-clause-meter
returns-clause-meter c =
    let all = yielded_all left c.into_iter-kept-iterator.result c.loop-kept.yielded c.loop-kept.kept-iterator c.loop-kept.yielded_by c.in-None.ensures.steps.0 in
    let is = sym c.iter-kept-items.ensures ∙ ap left (sym c.into_iter-kept-iterator.ensures.into_iter_gives) ∙ all in
    subst (λ l. c.loop-kept.segments ≤ c.args.segments.now + sum_by (kept_reach c.args.asked) l) (sym is) c.loop-kept.invariant.1
