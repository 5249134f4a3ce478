use Rattle.std.proofs.Common.{◌≡◌, ◌+◌, List, refl, sym, ap, subst, ◌∙◌, arith, length}
use Rattle.std.proofs.lemmas.List.{length-append, length-map, nil_from_length}
use Rattle.std.specs.FinSet.{union, from_list}
use Rattle.base.specs.Map.{Block, BlockSet}
use Rattle.base.specs.Surveys.{AreDifferent, dead_block}
use Rattle.deadlist.specs.Held.{Held}
use Rattle.world.specs.Sets.{AreDisjoint}
use Rattle.snap.specs.Members.{members, dead_blocks, dead_set}
use Rattle.snap.proofs.Pieces.{last_piece}
use Rattle.snap.proofs.Together.{nothing_added, added}
use Rattle.snap.proofs.freeing.Freeing.add_dead.Goals as goal

pub returns-then-len-eq0-clause-ok : goal.returns-then-len-eq0-clause-ok
returns-then-len-eq0-clause-ok c =
    let entries = c.args.list.value.entries in
    let none : length (dead_blocks entries) ≡ 0 = length-map entries dead_block ∙ sym (c.len.ensures ∙ ap (λ (h : Held). length h.entries) c.deref.ensures) ∙ c.if-len-eq0.true in
    nothing_added c.args.self.now (dead_set entries) (ap (λ (bs : List Block). from_list bs) (nil_from_length (dead_blocks entries) none))

pub invariant_of-self-2 : goal.invariant_of-self-2
invariant_of-self-2 c =
    let old = members c.self.inside.pieces in
    let entries = c.args.list.value.entries in
    let new = dead_blocks entries in
    let whole = ap members c.in_ok-push.ensures.ok ∙ last_piece c.self.inside.pieces _ in
    let apart = subst (λ s. AreDisjoint s (dead_set entries)) (sym c.self.view_is) c.requires.apart in
    let a = added new old (dead_set entries) (record { once = c.requires.once; is = refl }) c.self.invariant.0 apart in
    let long : length (members c.push.new.self) ≡ length new + length old = ap length whole ∙ length-append new old in
    let count = length-map entries dead_block in
    let kept = c.self.invariant.1 in
    let given : c.len-2.result ≡ length entries = c.len-2.ensures ∙ ap (λ (h : Held). length h.entries) c.deref-2.ensures in (
      subst AreDifferent (sym whole) a.0,
      omega (arith, long, count, kept, given, c.in-Some.ensures),
    )

pub returns-clause-ok : goal.returns-clause-ok
returns-clause-ok c =
    let old = members c.self.inside.pieces in
    let entries = c.args.list.value.entries in
    let apart = subst (λ s. AreDisjoint s (dead_set entries)) (sym c.self.view_is) c.requires.apart in
    ap (λ bs. from_list bs) (ap members c.in_ok-push.ensures.ok ∙ last_piece c.self.inside.pieces _)
    ∙ (added (dead_blocks entries) old (dead_set entries) (record { once = c.requires.once; is = refl }) c.self.invariant.0 apart).1
    ∙ ap (λ (s : BlockSet). union s (dead_set entries)) c.self.view_is
