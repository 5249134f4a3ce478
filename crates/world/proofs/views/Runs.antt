-- What holds of every run: it grows by a step at its end, and a view that isn't closed keeps its snapshot.
use Rattle.std.proofs.Common.{suc, [], ◌∷◌, Some, refl, sym, ap, subst, ◌∙◌, ⊎_elim}
use Rattle.std.specs.FinMap.{get, empty, get-empty}
use Rattle.std.specs.Ordering.{nat_cmp}
use Rattle.base.specs.Surveys.{IsIn}
use Rattle.base.specs.Names.{name_cmp, root_name}
use Rattle.model.specs.World.{FileSystem, Snap, snap_at, empty_file_system}
use Rattle.model.specs.State.{State, fresh_world, fresh_state}
use Rattle.model.specs.Step.{Step}
use Rattle.world.specs.RunLaws.{RunGrows, HasSnap, HasIdentities, IsViewing, ViewsBegin, ViewsLast, ViewsStand}
use Rattle.world.specs.Shapes.{Name}
use Rattle.world.proofs.lists.Maps.{no_value}
use Rattle.world.proofs.lineage.Put.{put_cases}
use Rattle.world.proofs.views.ViewedSteps.{stands_after, viewing_after}
use Rattle.world.proofs.views.ViewedRules.{step_keeps}

pub run_grows : RunGrows
run_grows s t u [] [] q r e step = (u, subst (λ x. Step x q r u) (sym e) step, refl)
run_grows s t u [] (r' ∷ rs) q r e step = absurd e
run_grows s t u (q' ∷ qs) [] q r e step = absurd e
run_grows s t u (q' ∷ qs) (r' ∷ rs) q r (v, first, rest) step = (v, first, run_grows v t u qs rs q r rest step)

-- ---- views

-- a new pool has no snapshot
fresh_bare : (name : Name) (t : Snap) → HasSnap fresh_world name t → ⊥
unfolding fresh_world
fresh_bare name t h = ⊎_elim
    (λ k. subst (λ (x : FileSystem). IsIn x.snaps t) k.1 h.2)
    (λ k. no_value h.0 (sym (get-empty name_cmp name) ∙ k.1))
    (put_cases empty root_name empty_file_system name h.0 h.1)

fresh_identities : HasIdentities fresh_world
fresh_identities = record { once = λ name other t u h k ids. absurd (fresh_bare name t h); closed = λ name t h. absurd (fresh_bare name t h) }

pub views_begin : ViewsBegin
unfolding fresh_state
views_begin id size = record {
  numbers = λ v i e. absurd (no_value i (sym (get-empty nat_cmp v) ∙ e));
  there = λ v i e. absurd (no_value i (sym (get-empty nat_cmp v) ∙ e));
  now = fresh_identities;
  last = fresh_identities;
}

pub views_last : ViewsLast
views_last s u [] [] viewing e = subst IsViewing e viewing
views_last s u [] (r ∷ rs) viewing e = absurd e
views_last s u (q ∷ qs) [] viewing e = absurd e
views_last s u (q ∷ qs) (r ∷ rs) viewing (t, first, rest) = views_last t u qs rs (viewing_after q r s t (step_keeps q r s t viewing first)) rest

pub views_stand : ViewsStand
views_stand s u [] [] v id p viewing e view found never = (ap (λ (x : State). get x.views v) (sym e) ∙ view, (p, ap (λ (x : State). snap_at x.now id) (sym e) ∙ found, refl, refl))
views_stand s u [] (r ∷ rs) v id p viewing e view found never = absurd e
views_stand s u (q ∷ qs) [] v id p viewing e view found never = absurd e
views_stand s u (q ∷ qs) (r ∷ rs) v id p viewing (t, first, rest) view found never =
    let keeps = step_keeps q r s t viewing first in
    let same = keeps.stays v id view (λ is done. never 0 (ap Some is) (ap Some done)) in
    let x = stands_after q r s t keeps v id same p found in
    let y = views_stand t u qs rs v id x.0 (viewing_after q r s t keeps) rest same x.1 (λ i. never (suc i)) in
    (y.0, (y.1.0, y.1.1, y.1.2 ∙ ap (λ k. k.1) x.2, y.1.3 ∙ ap (λ k. k.2) x.2))
