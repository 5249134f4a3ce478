use Rattle.std.proofs.Common.{◌∙◌, length, sym, ap, arith}
use Rattle.node.specs.Node.{part_of_owner}
use Rattle.node.proofs.Options.{some_mapped}
use Rattle.batch.specs.Said.{said}
use Rattle.batch.specs.Build.{number_of}
use Rattle.batch.proofs.TouchLaws.{idle_touched, untouched_stays, untouched_made, untouched_dropped, untouched_rebuilt}
use Rattle.batch.proofs.Metering.{none_counted}
use Rattle.tree.proofs.Metering.{none_made}
use Rattle.tree.proofs.build.build_kid.Goals as goal

pub returns-then-is_idle-clause-part : goal.returns-then-is_idle-clause-part
returns-then-is_idle-clause-part g c =
    let h = g.C.Level.height in
    let o = part_of_owner g.C.Level.part c.args.old in
    let e = idle_touched (said c.args.updates.now) h c.args.index o c.is_some-present.result (c.is_some-present.ensures ∙ sym (some_mapped _ c.args.old)) (c.is_idle.ensures.idle c.if-is_idle.true) in
    c.in_ok-keep.ensures ∙ sym (untouched_rebuilt (said c.args.updates.now) (number_of c.args.made.now) c.args.group.0 h c.args.index o e)

pub returns-then-is_idle-clause-touched : goal.returns-then-is_idle-clause-touched
returns-then-is_idle-clause-touched g c =
    let o = part_of_owner g.C.Level.part c.args.old in
    sym (idle_touched (said c.args.updates.now) g.C.Level.height c.args.index o c.is_some-present.result (c.is_some-present.ensures ∙ sym (some_mapped _ c.args.old)) (c.is_idle.ensures.idle c.if-is_idle.true))

pub returns-then-is_idle-clause-stays : goal.returns-then-is_idle-clause-stays
returns-then-is_idle-clause-stays g c =
    let o = part_of_owner g.C.Level.part c.args.old in
    let e = idle_touched (said c.args.updates.now) g.C.Level.height c.args.index o c.is_some-present.result (c.is_some-present.ensures ∙ sym (some_mapped _ c.args.old)) (c.is_idle.ensures.idle c.if-is_idle.true) in
    c.is_some-present.ensures ∙ sym (some_mapped _ c.args.old) ∙ sym (untouched_stays (said c.args.updates.now) g.C.Level.height c.args.index o e)

pub returns-then-is_idle-clause-next : goal.returns-then-is_idle-clause-next
returns-then-is_idle-clause-next g c =
    let o = part_of_owner g.C.Level.part c.args.old in
    let e = idle_touched (said c.args.updates.now) g.C.Level.height c.args.index o c.is_some-present.result (c.is_some-present.ensures ∙ sym (some_mapped _ c.args.old)) (c.is_idle.ensures.idle c.if-is_idle.true) in
    let n = ap length (untouched_made (said c.args.updates.now) g.C.Level.height c.args.index o e) in
    omega (arith, n)

pub returns-then-is_idle-clause-metered : goal.returns-then-is_idle-clause-metered
returns-then-is_idle-clause-metered g c =
    let o = part_of_owner g.C.Level.part c.args.old in
    let e = idle_touched (said c.args.updates.now) g.C.Level.height c.args.index o c.is_some-present.result (c.is_some-present.ensures ∙ sym (some_mapped _ c.args.old)) (c.is_idle.ensures.idle c.if-is_idle.true) in
    none_counted _ _ (untouched_dropped (said c.args.updates.now) 0 g.C.Level.height c.args.index o e)

pub returns-then-is_idle-clause-metered_made : goal.returns-then-is_idle-clause-metered_made
returns-then-is_idle-clause-metered_made g c = none_made _ _
