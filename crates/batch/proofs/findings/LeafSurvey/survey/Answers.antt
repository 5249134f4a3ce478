use Rattle.std.proofs.Common.{◌++◌, sym, ap, ◌∙◌, append-nil}
use Rattle.node.specs.Node.{leaf_part, part_of_node}
use Rattle.batch.specs.Said.{said}
use Rattle.batch.proofs.TouchLaws.{idle_touched, untouched_stays, untouched_claims, untouched_released, untouched_dropped, own_claims, own_released, claims_at_leaf, released_at_leaf, dropped_at_leaf}
use Rattle.batch.proofs.Metering.{none_counted, leaf_counted}
use Rattle.node.proofs.Options.{some_mapped}
use Rattle.batch.proofs.findings.LeafSurvey.survey.Goals as goal

pub returns-then-is_idle-clause-touched : goal.returns-then-is_idle-clause-touched
returns-then-is_idle-clause-touched c =
    let o = part_of_node leaf_part c.args.old in
    sym (idle_touched (said c.args.updates.now) 0 c.args.index o c.is_some-present.result (c.is_some-present.ensures ∙ sym (some_mapped _ c.args.old)) (c.is_idle.ensures.idle c.if-is_idle.true))

pub returns-then-is_idle-clause-stays : goal.returns-then-is_idle-clause-stays
returns-then-is_idle-clause-stays c =
    let o = part_of_node leaf_part c.args.old in
    let e = idle_touched (said c.args.updates.now) 0 c.args.index o c.is_some-present.result (c.is_some-present.ensures ∙ sym (some_mapped _ c.args.old)) (c.is_idle.ensures.idle c.if-is_idle.true) in
    c.is_some-present.ensures ∙ sym (some_mapped _ c.args.old) ∙ sym (untouched_stays (said c.args.updates.now) 0 c.args.index o e)

pub returns-then-is_idle-clause-claims : goal.returns-then-is_idle-clause-claims
returns-then-is_idle-clause-claims c =
    let o = part_of_node leaf_part c.args.old in
    let e = idle_touched (said c.args.updates.now) 0 c.args.index o c.is_some-present.result (c.is_some-present.ensures ∙ sym (some_mapped _ c.args.old)) (c.is_idle.ensures.idle c.if-is_idle.true) in
    sym (append-nil c.args.findings.now.claims.items) ∙ ap (λ xs. c.args.findings.now.claims.items ++ xs) (sym (untouched_claims (said c.args.updates.now) c.args.young.0 0 c.args.index o e))

pub returns-then-is_idle-clause-released : goal.returns-then-is_idle-clause-released
returns-then-is_idle-clause-released c =
    let o = part_of_node leaf_part c.args.old in
    let e = idle_touched (said c.args.updates.now) 0 c.args.index o c.is_some-present.result (c.is_some-present.ensures ∙ sym (some_mapped _ c.args.old)) (c.is_idle.ensures.idle c.if-is_idle.true) in
    sym (append-nil c.args.findings.now.released.items) ∙ ap (λ xs. c.args.findings.now.released.items ++ xs) (sym (untouched_released (said c.args.updates.now) c.args.young.0 0 c.args.index o e))

pub returns-clause-claims : goal.returns-clause-claims
returns-clause-claims c =
    let o = part_of_node leaf_part c.args.old in
    c.in_ok-close.ensures.claims
    ∙ ap (λ xs. c.args.findings.now.claims.items ++ xs) (own_claims (said c.args.updates.now) c.args.young.0 0 c.args.index c.args.level o _ _ _ c.requires.level c.leaf_fate-fate.ensures.touched c.leaf_fate-fate.ensures.stays c.block_of-own.ensures.block ∙ sym (claims_at_leaf (said c.args.updates.now) c.args.young.0 c.args.index o))

pub returns-clause-released : goal.returns-clause-released
returns-clause-released c =
    let o = part_of_node leaf_part c.args.old in
    c.in_ok-close.ensures.released
    ∙ ap (λ xs. c.args.findings.now.released.items ++ xs) (own_released (said c.args.updates.now) c.args.young.0 0 c.args.index o _ _ _ c.leaf_fate-fate.ensures.touched c.leaf_fate-fate.ensures.stays c.block_of-own.ensures.block ∙ sym (released_at_leaf (said c.args.updates.now) c.args.young.0 c.args.index o))

pub returns-then-is_idle-clause-metered : goal.returns-then-is_idle-clause-metered
returns-then-is_idle-clause-metered c =
    let o = part_of_node leaf_part c.args.old in
    let e = idle_touched (said c.args.updates.now) 0 c.args.index o c.is_some-present.result (c.is_some-present.ensures ∙ sym (some_mapped _ c.args.old)) (c.is_idle.ensures.idle c.if-is_idle.true) in
    none_counted _ _ (untouched_dropped (said c.args.updates.now) c.args.young.0 0 c.args.index o e)

pub returns-clause-metered : goal.returns-clause-metered
returns-clause-metered c =
    let o = part_of_node leaf_part c.args.old in
    leaf_counted _ _ _ _ c.args.young.0 o _ (dropped_at_leaf (said c.args.updates.now) c.args.young.0 c.args.index o) (sym (some_mapped _ c.args.old)) c.block_of-own.ensures.metered
