use Rattle.std.proofs.Common.{sym, ap, ◌∙◌}
use Rattle.node.specs.Node.{leaf_part, part_of_node}
use Rattle.batch.specs.Said.{said}
use Rattle.batch.specs.Word.{word_said}
use Rattle.batch.specs.Touch.{leaf_touched, leaf_stays}
use Rattle.node.proofs.Options.{some_mapped}
use Rattle.batch.proofs.TouchLaws.{touched_at_leaf, stays_at_leaf}
use Rattle.batch.proofs.findings.leaf_fate.Goals as goal

pub returns-in-Silent-clause-touched : goal.returns-in-Silent-clause-touched
returns-in-Silent-clause-touched c =
    let o = part_of_node leaf_part c.args.old in
    sym (touched_at_leaf (said c.args.updates.now) c.args.index o ∙ ap (λ w. leaf_touched w o) (sym c.word_of.ensures ∙ ap word_said c.in-Silent.is))

pub returns-in-Silent-clause-stays : goal.returns-in-Silent-clause-stays
returns-in-Silent-clause-stays c =
    let o = part_of_node leaf_part c.args.old in
    c.is_some-present.ensures ∙ sym (some_mapped (λ n. leaf_part n.now) c.args.old)
    ∙ sym (stays_at_leaf (said c.args.updates.now) c.args.index o ∙ ap (λ w. leaf_stays w o) (sym c.word_of.ensures ∙ ap word_said c.in-Silent.is))

pub returns-in-Hole-clause-touched : goal.returns-in-Hole-clause-touched
returns-in-Hole-clause-touched c =
    let o = part_of_node leaf_part c.args.old in
    c.is_some-present.ensures ∙ sym (some_mapped (λ n. leaf_part n.now) c.args.old)
    ∙ sym (touched_at_leaf (said c.args.updates.now) c.args.index o ∙ ap (λ w. leaf_touched w o) (sym c.word_of.ensures ∙ ap word_said c.in-Hole.is))

pub returns-in-Hole-clause-stays : goal.returns-in-Hole-clause-stays
returns-in-Hole-clause-stays c =
    let o = part_of_node leaf_part c.args.old in
    sym (stays_at_leaf (said c.args.updates.now) c.args.index o ∙ ap (λ w. leaf_stays w o) (sym c.word_of.ensures ∙ ap word_said c.in-Hole.is))

pub returns-in-Full-clause-touched : goal.returns-in-Full-clause-touched
returns-in-Full-clause-touched c =
    let o = part_of_node leaf_part c.args.old in
    sym (touched_at_leaf (said c.args.updates.now) c.args.index o ∙ ap (λ w. leaf_touched w o) (sym c.word_of.ensures ∙ ap word_said c.in-Full.is))

pub returns-in-Full-clause-stays : goal.returns-in-Full-clause-stays
returns-in-Full-clause-stays c =
    let o = part_of_node leaf_part c.args.old in
    sym (stays_at_leaf (said c.args.updates.now) c.args.index o ∙ ap (λ w. leaf_stays w o) (sym c.word_of.ensures ∙ ap word_said c.in-Full.is))
