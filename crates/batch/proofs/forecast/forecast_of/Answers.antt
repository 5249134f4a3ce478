-- The lists of the findings, by the lemmas of Forecasts.
use Rattle.std.proofs.Common.{◌++◌, List, length, map, sym, ap, subst, ◌∙◌, arith}
use Rattle.std.proofs.lemmas.List.{length-map}
use Rattle.base.specs.declared.number.Dead.{Dead}
use Rattle.base.specs.Surveys.{IsSurvey, dead_block}
use Rattle.batch.specs.Forecast.{kept_of}
use Rattle.batch.specs.Said.{said}
use Rattle.batch.specs.Touch.{claims}
use Rattle.batch.specs.Updates.{changes_of}
use Rattle.batch.proofs.Filled.{claim_key}
use Rattle.batch.proofs.Forecasts.{root_survey, root_counts}
use Rattle.batch.proofs.Numbered.{way_length, way_stays, way_kept}
use Rattle.batch.proofs.Words.{batch_in_order}
use Rattle.batch.proofs.forecast.forecast_of.Goals as goal
use Rattle.node.specs.Entries.{map_of}
use Rattle.node.specs.Node.{whole, root_forest}

pub way_of_write-requires-clause-order : goal.way_of_write-requires-clause-order
way_of_write-requires-clause-order c = batch_in_order c.args.updates.now c.requires.batch

pub findings_of-requires-clause-order : goal.findings_of-requires-clause-order
findings_of-requires-clause-order c = batch_in_order c.args.updates.now c.requires.batch

-- a write of one leaf
pub returns-in-Some-clause-ok : goal.returns-in-Some-clause-ok
returns-in-Some-clause-ok c =
    let u = c.args.updates.now in
    let bs = c.way_of_write.new.blocks in
    let claimed = c.in-Some.ensures.claims 0 in
    let none = c.in-Some.ensures.released 0 ∙ way_stays bs in
    let kept = ap (λ ds. ds ++ kept_of (claims (said u) 0 5 0 (whole c.args.root.now))) none ∙ ap kept_of claimed ∙ way_kept c.in-Some._leaf bs c.way_of_write.array_long ∙ sym c.in_ok-dropped.ensures in
    record {
      made = map claim_key (claims (said u) 0 5 0 (whole c.args.root.now));
      survey = subst (λ (ds : List Dead). IsSurvey (map_of (root_forest c.args.root.now)) (changes_of u) (map dead_block ds) (map claim_key (claims (said u) 0 5 0 (whole c.args.root.now)))) kept
          (root_survey c.args.root.now u c.requires.sound c.requires.batch c.write_count.ensures.sized);
      count =
          let e = ap length claimed in
          let l = length-map (claims (said u) 0 5 0 (whole c.args.root.now)) claim_key in
          let n = way_length 0 c.in-Some._leaf bs c.way_of_write.array_long in
          omega (arith, e, l, n);
    }

pub returns-in-Some-clause-metered : goal.returns-in-Some-clause-metered
returns-in-Some-clause-metered c =
    let u = c.args.updates.now in
    root_counts c.args.root.now u c.requires.sound c.requires.batch c.write_count.ensures.sized _ _ (c.in-Some.ensures.metered 0)

-- any other batch
pub returns-clause-ok : goal.returns-clause-ok
returns-clause-ok c =
    let u = c.args.updates.now in
    let claimed = c.in_ok-findings.ensures.claims in
    let kept = c.in_ok-add_kept.ensures ∙ (λ i. (c.reserve.ensures.items ∙ c.in_ok-findings.ensures.released) i ++ kept_of ((c.deref.ensures.value ∙ claimed) i)) in
    record {
      made = map claim_key (claims (said u) 0 5 0 (whole c.args.root.now));
      survey = subst (λ (ds : List Dead). IsSurvey (map_of (root_forest c.args.root.now)) (changes_of u) (map dead_block ds) (map claim_key (claims (said u) 0 5 0 (whole c.args.root.now)))) (sym kept)
          (root_survey c.args.root.now u c.requires.sound c.requires.batch c.write_count.ensures.sized);
      count =
          let e = ap length claimed in
          let l = length-map (claims (said u) 0 5 0 (whole c.args.root.now)) claim_key in
          omega (arith, e, l, c.len-made.ensures);
    }

pub returns-clause-metered : goal.returns-clause-metered
returns-clause-metered c =
    rw (sym c.in_default.ensures.same_meter) (root_counts c.args.root.now c.args.updates.now c.requires.sound c.requires.batch c.write_count.ensures.sized _ _ c.in_ok-findings.ensures.metered)
