use Rattle.std.proofs.Common.{sym, subst, arith}
use Rattle.deadlist.specs.Held.{Held}
use Rattle.snap.specs.Members.{dead_blocks, dead_set}
use Rattle.base.specs.Surveys.{AreDifferent}
use Rattle.world.specs.Sets.{AreDisjoint}
use Rattle.layers_tests.proofs.Young.{AreAfter, kept_apart, all_after, entries_once, entries_after, entries_by}
use Rattle.layers_tests.proofs.slices.Work.add_dead.Goals as goal

pub add_dead-requires-clause-once : goal.add_dead-requires-clause-once
add_dead-requires-clause-once c =
    let cut = c.args.cut.0 in
    let low = c.args.self.now.low in
    subst (λ (h : Held). AreDifferent (dead_blocks h.entries)) c.deref.ensures (entries_once cut low c.deref.result.now.entries 0 (c.are_rising.ensures c.if-not-are_rising.false))

pub add_dead-requires-clause-apart : goal.add_dead-requires-clause-apart
add_dead-requires-clause-apart c =
    let self = c.args.self.now in
    let cut = c.args.cut.0 in
    subst (λ (h : Held). AreDisjoint self.freeing (dead_set h.entries)) c.deref.ensures
    (kept_apart self.low self.freeing (dead_set c.deref.result.now.entries) self.young (entries_by cut self.low c.deref.result.now.entries 0 (c.are_rising.ensures c.if-not-are_rising.false)))

pub invariant_of-self-2 : goal.invariant_of-self-2
invariant_of-self-2 c =
    let self = c.args.self.now in
    let cut = c.args.cut.0 in
    let after = subst (λ (h : Held). AreAfter cut (dead_set h.entries)) c.deref.ensures (entries_after cut self.low c.deref.result.now.entries 0 (c.are_rising.ensures c.if-not-are_rising.false)) in
    record { young = subst (AreAfter cut) (sym c.in_ok-add_dead.ensures.ok) (all_after cut self.low self.freeing (dead_set c.args.list.value.entries) (omega (arith, c.if-cut-self.false)) self.young after) }
