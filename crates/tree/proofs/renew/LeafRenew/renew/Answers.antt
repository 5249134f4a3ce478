use Rattle.std.proofs.Common.{[], Some, length, sym, ap, subst, ◌∙◌, arith}
use Rattle.node.specs.Entries.{key_at}
use Rattle.node.specs.Node.{leaf_part}
use Rattle.batch.specs.Said.{said, full}
use Rattle.batch.specs.Word.{word_said}
use Rattle.batch.specs.Build.{leaf_rebuilt, number_of, HasKeys, no_block}
use Rattle.batch.proofs.MadeLaws.{key_place, rebuilt_at_leaf, made_of_leaf}
use Rattle.batch.proofs.TouchLaws.{dropped_at_leaf}
use Rattle.tree.proofs.Metering.{leaf_counted, one_made}
use Rattle.tree.proofs.renew.LeafRenew.renew.Goals as goal

pub number_at-after-requires : goal.number_at-after-requires
number_at-after-requires c =
    let o = Some (leaf_part c.args.owner.now.value) in
    let w = sym c.word_of.ensures ∙ ap word_said c.in-Full.is in
    let k = subst (HasKeys c.args.made.now c.args.next) (made_of_leaf (said c.args.updates.now) c.args.index o _ w) c.requires.keys in
    (key_place c.args.made.now c.args.next (key_at 0 c.args.index) [] no_block c.requires.once k).0

pub returns-in-Some-clause-part : goal.returns-in-Some-clause-part
returns-in-Some-clause-part c =
    let o = Some (leaf_part c.args.owner.now.value) in
    let w = sym c.word_of.ensures ∙ ap word_said c.in-Full.is in
    let k = subst (HasKeys c.args.made.now c.args.next) (made_of_leaf (said c.args.updates.now) c.args.index o _ w) c.requires.keys in
    let n = (key_place c.args.made.now c.args.next (key_at 0 c.args.index) [] no_block c.requires.once k).1 in
    (λ i. leaf_rebuilt (full c.in-Full.bytes.now) ((ap (λ b. b.0) c.number_at-after.ensures.number ∙ n) i) c.args.group.0 o)
    ∙ sym (rebuilt_at_leaf (said c.args.updates.now) (number_of c.args.made.now) c.args.group.0 c.args.index o _ w)

pub returns-in-Some-clause-next : goal.returns-in-Some-clause-next
returns-in-Some-clause-next c =
    let o = Some (leaf_part c.args.owner.now.value) in
    let w = sym c.word_of.ensures ∙ ap word_said c.in-Full.is in
    let n = ap length (made_of_leaf (said c.args.updates.now) c.args.index o _ w) in
    omega (arith, n, c.number_at-after.ensures.next)

pub returns-in-Some-clause-metered : goal.returns-in-Some-clause-metered
returns-in-Some-clause-metered c =
    let o = Some (leaf_part c.args.owner.now.value) in
    leaf_counted _ _ _ 0 o _ (dropped_at_leaf (said c.args.updates.now) 0 c.args.index o) c.reach.ensures.metered

pub returns-in-Some-clause-metered_made : goal.returns-in-Some-clause-metered_made
returns-in-Some-clause-metered_made c = one_made _ _ _ _ c.reach.ensures.metered (omega (arith, c.number_at-after.ensures.next))
