use Rattle.std.proofs.Common.{suc, ◌*◌, ◌++◌, sym, ap, ◌∙◌, append-nil, append_assoc}
use Rattle.node.specs.Kid.{places_of}
use Rattle.node.specs.Node.{inner_part, part_of_node}
use Rattle.batch.specs.Said.{said}
use Rattle.batch.specs.Touch.{claims, released, claim_of, let_go, later_first}
use Rattle.batch.proofs.Metering.{none_counted, part_counted}
use Rattle.node.proofs.Options.{some_mapped}
use Rattle.batch.proofs.TouchLaws.{idle_touched, untouched_stays, untouched_claims, untouched_released, untouched_dropped, fate_touched, fate_stays, own_claims, own_released, claims_down, released_down, dropped_down}
use Rattle.batch.proofs.findings.InnerSurvey.survey.Goals as goal

pub returns-then-is_idle-clause-touched : goal.returns-then-is_idle-clause-touched
returns-then-is_idle-clause-touched g c =
    let o = part_of_node (inner_part g.C.Level.part) c.args.old in
    sym (idle_touched (said c.args.updates.now) (suc g.C.Level.height) c.args.index o c.is_some-present.result (c.is_some-present.ensures ∙ sym (some_mapped _ c.args.old)) (c.is_idle.ensures.idle c.if-is_idle.true))

pub returns-then-is_idle-clause-stays : goal.returns-then-is_idle-clause-stays
returns-then-is_idle-clause-stays g c =
    let o = part_of_node (inner_part g.C.Level.part) c.args.old in
    let e = idle_touched (said c.args.updates.now) (suc g.C.Level.height) c.args.index o c.is_some-present.result (c.is_some-present.ensures ∙ sym (some_mapped _ c.args.old)) (c.is_idle.ensures.idle c.if-is_idle.true) in
    c.is_some-present.ensures ∙ sym (some_mapped _ c.args.old) ∙ sym (untouched_stays (said c.args.updates.now) (suc g.C.Level.height) c.args.index o e)

pub returns-then-is_idle-clause-claims : goal.returns-then-is_idle-clause-claims
returns-then-is_idle-clause-claims g c =
    let o = part_of_node (inner_part g.C.Level.part) c.args.old in
    let e = idle_touched (said c.args.updates.now) (suc g.C.Level.height) c.args.index o c.is_some-present.result (c.is_some-present.ensures ∙ sym (some_mapped _ c.args.old)) (c.is_idle.ensures.idle c.if-is_idle.true) in
    sym (append-nil c.args.findings.now.claims.items) ∙ ap (λ xs. c.args.findings.now.claims.items ++ xs) (sym (untouched_claims (said c.args.updates.now) c.args.young.0 (suc g.C.Level.height) c.args.index o e))

pub returns-then-is_idle-clause-released : goal.returns-then-is_idle-clause-released
returns-then-is_idle-clause-released g c =
    let o = part_of_node (inner_part g.C.Level.part) c.args.old in
    let e = idle_touched (said c.args.updates.now) (suc g.C.Level.height) c.args.index o c.is_some-present.result (c.is_some-present.ensures ∙ sym (some_mapped _ c.args.old)) (c.is_idle.ensures.idle c.if-is_idle.true) in
    sym (append-nil c.args.findings.now.released.items) ∙ ap (λ xs. c.args.findings.now.released.items ++ xs) (sym (untouched_released (said c.args.updates.now) c.args.young.0 (suc g.C.Level.height) c.args.index o e))

pub returns-clause-touched : goal.returns-clause-touched
returns-clause-touched g c =
    let o = part_of_node (inner_part g.C.Level.part) c.args.old in
    ap (λ f. f.touched) c.fate_above-fate.ensures ∙ fate_touched (said c.args.updates.now) g.C.Level.height c.args.index o _ c.in_ok-below.ensures.touched

pub returns-clause-stays : goal.returns-clause-stays
returns-clause-stays g c =
    let o = part_of_node (inner_part g.C.Level.part) c.args.old in
    ap (λ f. f.stays) c.fate_above-fate.ensures ∙ fate_stays (said c.args.updates.now) g.C.Level.height c.args.index o _ _ _ c.in_ok-below.ensures.touched c.in_ok-below.ensures.stays (c.is_some-present.ensures ∙ sym (some_mapped _ c.args.old))

pub returns-clause-claims : goal.returns-clause-claims
returns-clause-claims g c =
    let h = g.C.Level.height in
    let s = said c.args.updates.now in
    let o = part_of_node (inner_part g.C.Level.part) c.args.old in
    let t = ap (λ f. f.touched) c.fate_above-fate.ensures ∙ fate_touched s h c.args.index o _ c.in_ok-below.ensures.touched in
    let p = ap (λ f. f.stays) c.fate_above-fate.ensures ∙ fate_stays s h c.args.index o _ _ _ c.in_ok-below.ensures.touched c.in_ok-below.ensures.stays (c.is_some-present.ensures ∙ sym (some_mapped _ c.args.old)) in
    c.in_ok-close.ensures.claims
    ∙ ap (λ xs. xs ++ claim_of c.fate_above-fate.result.touched c.fate_above-fate.result.stays (record { level = c.args.level; index = c.args.index }) c.args.young.0 c.block_of-own.result) c.in_ok-below.ensures.claims
    ∙ append_assoc c.args.findings.now.claims.items (later_first (claims s c.args.young.0 h) (16 * c.args.index) (places_of o)) _
    ∙ ap (λ xs. c.args.findings.now.claims.items ++ (later_first (claims s c.args.young.0 h) (16 * c.args.index) (places_of o) ++ xs)) (own_claims s c.args.young.0 (suc h) c.args.index c.args.level o _ _ _ c.requires.level t p c.block_of-own.ensures.block)
    ∙ ap (λ xs. c.args.findings.now.claims.items ++ xs) (sym (claims_down s c.args.young.0 h c.args.index o))

pub returns-clause-released : goal.returns-clause-released
returns-clause-released g c =
    let h = g.C.Level.height in
    let s = said c.args.updates.now in
    let o = part_of_node (inner_part g.C.Level.part) c.args.old in
    let t = ap (λ f. f.touched) c.fate_above-fate.ensures ∙ fate_touched s h c.args.index o _ c.in_ok-below.ensures.touched in
    let p = ap (λ f. f.stays) c.fate_above-fate.ensures ∙ fate_stays s h c.args.index o _ _ _ c.in_ok-below.ensures.touched c.in_ok-below.ensures.stays (c.is_some-present.ensures ∙ sym (some_mapped _ c.args.old)) in
    c.in_ok-close.ensures.released
    ∙ ap (λ xs. xs ++ let_go c.fate_above-fate.result.touched c.fate_above-fate.result.stays c.args.young.0 c.block_of-own.result) c.in_ok-below.ensures.released
    ∙ append_assoc c.args.findings.now.released.items (later_first (released s c.args.young.0 h) (16 * c.args.index) (places_of o)) _
    ∙ ap (λ xs. c.args.findings.now.released.items ++ (later_first (released s c.args.young.0 h) (16 * c.args.index) (places_of o) ++ xs)) (own_released s c.args.young.0 (suc h) c.args.index o _ _ _ t p c.block_of-own.ensures.block)
    ∙ ap (λ xs. c.args.findings.now.released.items ++ xs) (sym (released_down s c.args.young.0 h c.args.index o))

pub returns-then-is_idle-clause-metered : goal.returns-then-is_idle-clause-metered
returns-then-is_idle-clause-metered g c =
    let o = part_of_node (inner_part g.C.Level.part) c.args.old in
    let e = idle_touched (said c.args.updates.now) (suc g.C.Level.height) c.args.index o c.is_some-present.result (c.is_some-present.ensures ∙ sym (some_mapped _ c.args.old)) (c.is_idle.ensures.idle c.if-is_idle.true) in
    none_counted _ _ (untouched_dropped (said c.args.updates.now) c.args.young.0 (suc g.C.Level.height) c.args.index o e)

pub returns-clause-metered : goal.returns-clause-metered
returns-clause-metered g c =
    let o = part_of_node (inner_part g.C.Level.part) c.args.old in
    part_counted _ _ _ _ _ c.args.young.0 o _ _ (dropped_down (said c.args.updates.now) c.args.young.0 g.C.Level.height c.args.index o) (sym (some_mapped _ c.args.old)) c.block_of-own.ensures.metered c.in_ok-below.ensures.metered
