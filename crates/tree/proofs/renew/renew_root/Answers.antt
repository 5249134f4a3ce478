use Rattle.std.proofs.Common.{◌≡◌, ◌+◌, ◌-◌, ◌≤◌, Some, length, sym, ap, subst, ◌∙◌, arith}
use Rattle.base.specs.Counting.{counted}
use Rattle.batch.specs.Said.{said}
use Rattle.batch.specs.Touch.{dropped}
use Rattle.batch.specs.Build.{number_of, made_keys}
use Rattle.batch.proofs.Metering.{none_counted}
use Rattle.batch.proofs.TouchLaws.{untouched_rebuilt, untouched_dropped, untouched_made}
use Rattle.node.specs.Node.{whole}
use Rattle.tree.proofs.Metering.{counted_later}
use Rattle.tree.proofs.Staying.{if_none}
use Rattle.tree.proofs.renew.renew_root.Goals as goal
use Rattle.tree.proofs.renew.renew_root.Goals.{in-Some+in_ok-renewed+else-is_some, in_default}

pub returns-then-not-is_touched-clause-part : goal.returns-then-not-is_touched-clause-part
returns-then-not-is_touched-clause-part c = sym (untouched_rebuilt (said c.args.updates.now) (number_of c.args.made.now) c.args.group.0 5 0 (whole c.args.root.now) (sym c.requires.touched ∙ c.if-not-is_touched.true))

pub returns-then-not-is_touched-clause-metered : goal.returns-then-not-is_touched-clause-metered
returns-then-not-is_touched-clause-metered c = none_counted _ _ (untouched_dropped (said c.args.updates.now) 0 5 0 (whole c.args.root.now) (sym c.requires.touched ∙ c.if-not-is_touched.true))

pub returns-then-not-is_touched-clause-metered_made : goal.returns-then-not-is_touched-clause-metered_made
returns-then-not-is_touched-clause-metered_made c = none_counted _ _ (untouched_made (said c.args.updates.now) 5 0 (whole c.args.root.now) (sym c.requires.touched ∙ c.if-not-is_touched.true))

pub returns-clause-metered : goal.returns-clause-metered
returns-clause-metered c =
    let s = said c.args.updates.now in
    let stood : whole c.match-root.root ≡ whole c.args.root.now = elim c.match-root.branch [
      | in-Some+in_ok-renewed+else-is_some w ↦ ap whole w.root-is ∙ ap (λ p. Some p) (if_none _ _ (sym w.is_some.ensures ∙ w.if-is_some.false) w.in_ok-renewed.ensures.alike) ∙ sym (ap whole w.in-Some.is)
      | in_default w ↦ ap whole w.root-is
    ] in
    let later : c.args.meter.now ≤ c.match-root.meter = elim c.match-root.branch [
      | in-Some+in_ok-renewed+else-is_some w ↦ omega (arith, w.meter-is, w.in_ok-renewed.ensures.never_lower)
      | in_default w ↦ omega (arith, w.meter-is)
    ] in
    counted_later c.args.meter.now c.match-root.meter _ _ later
    (subst (λ x. counted c.match-root.meter (length (dropped s 0 5 0 x)) ≤ c.build.new.meter) (c.owner_in-old.ensures ∙ stood) c.in_ok-built.ensures.metered)

pub returns-clause-metered_made : goal.returns-clause-metered_made
returns-clause-metered_made c =
    let s = said c.args.updates.now in
    let stood : whole c.match-root.root ≡ whole c.args.root.now = elim c.match-root.branch [
      | in-Some+in_ok-renewed+else-is_some w ↦ ap whole w.root-is ∙ ap (λ p. Some p) (if_none _ _ (sym w.is_some.ensures ∙ w.if-is_some.false) w.in_ok-renewed.ensures.alike) ∙ sym (ap whole w.in-Some.is)
      | in_default w ↦ ap whole w.root-is
    ] in
    let later : c.args.meter.now ≤ c.match-root.meter = elim c.match-root.branch [
      | in-Some+in_ok-renewed+else-is_some w ↦ omega (arith, w.meter-is, w.in_ok-renewed.ensures.never_lower)
      | in_default w ↦ omega (arith, w.meter-is)
    ] in
    let n = c.in_ok-built.ensures.next ∙ ap (λ x. 0 + length (made_keys s 5 0 x)) (c.owner_in-old.ensures ∙ stood) in
    let same : c.in_ok-built.built.next - 0 ≡ length (made_keys s 5 0 (whole c.args.root.now)) = omega (arith, n) in
    counted_later c.args.meter.now c.match-root.meter _ _ later (subst (λ k. counted c.match-root.meter k ≤ c.build.new.meter) same c.in_ok-built.ensures.metered_made)
