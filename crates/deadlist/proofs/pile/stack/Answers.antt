use Rattle.std.proofs.Common.{◌≡◌, ◌++◌, ◌∷◌, [], ◌^◌, List, arith, subst, ◌∙◌}
use Rattle.std.proofs.lemmas.List.Sorted.{IsPermutation-trans}
use Rattle.std.proofs.lemmas.List.{append-nil}
use Rattle.base.specs.declared.number.Dead.{Dead}
use Rattle.deadlist.specs.Entries.{run_entries, AreHalved}
use Rattle.deadlist.proofs.Steps.{halved_front, halved_push}
use Rattle.deadlist.proofs.Runs.{run_merged}
use Rattle.deadlist.proofs.pile.stack.Goals as goal

pub loop-last-preserved : goal.loop-last-preserved
loop-last-preserved c =
    let step = run_merged c.loop-last.runs.items c.pop_short.new.runs.items c.in-Some.last c.loop-last.run c.in_ok-run.run' c.in-Some.ensures.runs c.in_ok-run.ensures in
    record {
      entries = IsPermutation-trans (run_entries c.args.runs.now.items ++ c.args.run) (run_entries c.loop-last.runs.items ++ c.loop-last.run) (run_entries c.pop_short.new.runs.items ++ c.in_ok-run.run') c.loop-last.invariant.entries step;
      halved = halved_front c.pop_short.new.runs.items (c.in-Some.last ∷ []) (2 ^ 65) (rw c.in-Some.ensures.runs at c.loop-last.invariant.halved);
    }

pub returns-clause-halved : goal.returns-clause-halved
returns-clause-halved c =
    let rs = c.loop-last.runs.items in
    let us = c.pop_short.new.runs.items in
    let run = c.loop-last.run in
    let same : rs ≡ us = c.in_default.ensures.runs ∙ append-nil us in
    let all = halved_push rs run (2 ^ 65) c.loop-last.invariant.halved (omega (arith, c.in_default.ensures.none, c.len.ensures)) in
    rw c.in_ok-push.ensures.items (subst (λ (xs : List (List Dead)). AreHalved (xs ++ run ∷ [])) same all)
