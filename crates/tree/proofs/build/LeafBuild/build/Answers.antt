use Rattle.std.proofs.Common.{◌≡◌, [], ◌∷◌, ◌&&◌, Bool, true, false, cond, length, Some, refl, sym, ap, subst, ◌∙◌, arith}
use Rattle.std.specs.Prelude.{is_some}
use Rattle.node.specs.Entries.{key_at}
use Rattle.node.specs.Node.{leaf_part, part_of_owner}
use Rattle.batch.specs.Said.{said, full}
use Rattle.batch.specs.Word.{word_said}
use Rattle.batch.specs.Touch.{leaf_touched, leaf_stays}
use Rattle.batch.specs.Build.{leaf_rebuilt, number_of, HasKeys, no_block}
use Rattle.node.proofs.Options.{some_mapped}
use Rattle.batch.proofs.TouchLaws.{touched_at_leaf, stays_at_leaf, dropped_at_leaf}
use Rattle.batch.proofs.MadeLaws.{key_place, rebuilt_at_leaf, made_of_leaf}
use Rattle.tree.proofs.Metering.{leaf_counted, one_made}
use Rattle.tree.proofs.build.LeafBuild.build.Goals as goal

not_made : (b : Bool) → (b && false) ≡ false
not_made true = refl
not_made false = refl

pub number_at-after-requires : goal.number_at-after-requires
number_at-after-requires c =
    let o = part_of_owner leaf_part c.args.old in
    let w = sym c.word_of.ensures ∙ ap word_said c.in-Full.is in
    let k = subst (HasKeys c.args.made.now c.args.next) (made_of_leaf (said c.args.updates.now) c.args.index o _ w) c.requires.keys in
    (key_place c.args.made.now c.args.next (key_at 0 c.args.index) [] no_block c.requires.once k).0

pub returns-in_ok-keep-in-Silent-clause-part : goal.returns-in_ok-keep-in-Silent-clause-part
returns-in_ok-keep-in-Silent-clause-part c =
    let o = part_of_owner leaf_part c.args.old in
    let w = sym c.word_of.ensures ∙ ap word_said c.in-Silent.is in
    c.in_ok-keep-in-Silent.ensures ∙ sym (rebuilt_at_leaf (said c.args.updates.now) (number_of c.args.made.now) c.args.group.0 c.args.index o _ w)

pub returns-in_ok-keep-in-Silent-clause-touched : goal.returns-in_ok-keep-in-Silent-clause-touched
returns-in_ok-keep-in-Silent-clause-touched c =
    let o = part_of_owner leaf_part c.args.old in
    sym (touched_at_leaf (said c.args.updates.now) c.args.index o ∙ ap (λ w. leaf_touched w o) (sym c.word_of.ensures ∙ ap word_said c.in-Silent.is))

pub returns-in_ok-keep-in-Silent-clause-stays : goal.returns-in_ok-keep-in-Silent-clause-stays
returns-in_ok-keep-in-Silent-clause-stays c =
    let o = part_of_owner leaf_part c.args.old in
    c.is_some-present.ensures ∙ sym (some_mapped _ c.args.old)
    ∙ sym (stays_at_leaf (said c.args.updates.now) c.args.index o ∙ ap (λ w. leaf_stays w o) (sym c.word_of.ensures ∙ ap word_said c.in-Silent.is))

pub returns-in_ok-keep-in-Silent-clause-next : goal.returns-in_ok-keep-in-Silent-clause-next
returns-in_ok-keep-in-Silent-clause-next c =
    let o = part_of_owner leaf_part c.args.old in
    let w = sym c.word_of.ensures ∙ ap word_said c.in-Silent.is in
    let n = ap length (made_of_leaf (said c.args.updates.now) c.args.index o _ w) in
    omega (arith, n)

pub returns-in-Hole-clause-part : goal.returns-in-Hole-clause-part
returns-in-Hole-clause-part c =
    let o = part_of_owner leaf_part c.args.old in
    let w = sym c.word_of.ensures ∙ ap word_said c.in-Hole.is in
    sym (rebuilt_at_leaf (said c.args.updates.now) (number_of c.args.made.now) c.args.group.0 c.args.index o _ w)

pub returns-in-Hole-clause-touched : goal.returns-in-Hole-clause-touched
returns-in-Hole-clause-touched c =
    let o = part_of_owner leaf_part c.args.old in
    c.is_some-present.ensures ∙ sym (some_mapped _ c.args.old)
    ∙ sym (touched_at_leaf (said c.args.updates.now) c.args.index o ∙ ap (λ w. leaf_touched w o) (sym c.word_of.ensures ∙ ap word_said c.in-Hole.is))

pub returns-in-Hole-clause-stays : goal.returns-in-Hole-clause-stays
returns-in-Hole-clause-stays c =
    let o = part_of_owner leaf_part c.args.old in
    sym (stays_at_leaf (said c.args.updates.now) c.args.index o ∙ ap (λ w. leaf_stays w o) (sym c.word_of.ensures ∙ ap word_said c.in-Hole.is))

pub returns-in-Hole-clause-next : goal.returns-in-Hole-clause-next
returns-in-Hole-clause-next c =
    let o = part_of_owner leaf_part c.args.old in
    let w = sym c.word_of.ensures ∙ ap word_said c.in-Hole.is in
    let n = ap length (made_of_leaf (said c.args.updates.now) c.args.index o _ w ∙ ap (λ b. cond b (key_at 0 c.args.index ∷ []) []) (not_made (is_some o))) in
    omega (arith, n)

pub returns-in_ok-new-in-Full-clause-part : goal.returns-in_ok-new-in-Full-clause-part
returns-in_ok-new-in-Full-clause-part c =
    let o = part_of_owner leaf_part c.args.old in
    let w = sym c.word_of.ensures ∙ ap word_said c.in-Full.is in
    let k = subst (HasKeys c.args.made.now c.args.next) (made_of_leaf (said c.args.updates.now) c.args.index o _ w) c.requires.keys in
    let n = (key_place c.args.made.now c.args.next (key_at 0 c.args.index) [] no_block c.requires.once k).1 in
    ap Some (ap leaf_part (c.in_ok-new-in-Full.ensures.ok ∙ c.new.ensures))
    ∙ (λ i. leaf_rebuilt (full c.in-Full.bytes.now) ((ap (λ b. b.0) c.number_at-after.ensures.number ∙ n) i) c.args.group.0 o)
    ∙ sym (rebuilt_at_leaf (said c.args.updates.now) (number_of c.args.made.now) c.args.group.0 c.args.index o _ w)

pub returns-in_ok-new-in-Full-clause-touched : goal.returns-in_ok-new-in-Full-clause-touched
returns-in_ok-new-in-Full-clause-touched c =
    let o = part_of_owner leaf_part c.args.old in
    sym (touched_at_leaf (said c.args.updates.now) c.args.index o ∙ ap (λ w. leaf_touched w o) (sym c.word_of.ensures ∙ ap word_said c.in-Full.is))

pub returns-in_ok-new-in-Full-clause-stays : goal.returns-in_ok-new-in-Full-clause-stays
returns-in_ok-new-in-Full-clause-stays c =
    let o = part_of_owner leaf_part c.args.old in
    sym (stays_at_leaf (said c.args.updates.now) c.args.index o ∙ ap (λ w. leaf_stays w o) (sym c.word_of.ensures ∙ ap word_said c.in-Full.is))

pub returns-in_ok-new-in-Full-clause-next : goal.returns-in_ok-new-in-Full-clause-next
returns-in_ok-new-in-Full-clause-next c =
    let o = part_of_owner leaf_part c.args.old in
    let w = sym c.word_of.ensures ∙ ap word_said c.in-Full.is in
    let n = ap length (made_of_leaf (said c.args.updates.now) c.args.index o _ w) in
    omega (arith, n, c.number_at-after.ensures.next)

pub returns-in_ok-keep-in-Silent-clause-metered : goal.returns-in_ok-keep-in-Silent-clause-metered
returns-in_ok-keep-in-Silent-clause-metered c = leaf_counted _ _ _ 0 (part_of_owner leaf_part c.args.old) _ (dropped_at_leaf (said c.args.updates.now) 0 c.args.index (part_of_owner leaf_part c.args.old)) c.reach.ensures.metered

pub returns-in_ok-keep-in-Silent-clause-metered_made : goal.returns-in_ok-keep-in-Silent-clause-metered_made
returns-in_ok-keep-in-Silent-clause-metered_made c = one_made _ _ _ _ c.reach.ensures.metered (omega arith)

pub returns-in-Hole-clause-metered : goal.returns-in-Hole-clause-metered
returns-in-Hole-clause-metered c = leaf_counted _ _ _ 0 (part_of_owner leaf_part c.args.old) _ (dropped_at_leaf (said c.args.updates.now) 0 c.args.index (part_of_owner leaf_part c.args.old)) c.reach.ensures.metered

pub returns-in-Hole-clause-metered_made : goal.returns-in-Hole-clause-metered_made
returns-in-Hole-clause-metered_made c = one_made _ _ _ _ c.reach.ensures.metered (omega arith)

pub returns-in_ok-new-in-Full-clause-metered : goal.returns-in_ok-new-in-Full-clause-metered
returns-in_ok-new-in-Full-clause-metered c = leaf_counted _ _ _ 0 (part_of_owner leaf_part c.args.old) _ (dropped_at_leaf (said c.args.updates.now) 0 c.args.index (part_of_owner leaf_part c.args.old)) c.reach.ensures.metered

pub returns-in_ok-new-in-Full-clause-metered_made : goal.returns-in_ok-new-in-Full-clause-metered_made
returns-in_ok-new-in-Full-clause-metered_made c = one_made _ _ _ _ c.reach.ensures.metered (omega (arith, c.number_at-after.ensures.next))
