use Rattle.std.proofs.Common.{◌≡◌, ℕ, ◌+◌, ◌-◌, ◌≤◌, List, length, take, drop, sym, ap, subst, ◌∙◌, arith}
use Rattle.std.proofs.lemmas.List.{take_all, length-drop}
use Rattle.std.proofs.lemmas.Option.{slice_get-get_or, slice_get_within}
use Rattle.batch.specs.declared.update.Update.{Update}
use Rattle.batch.specs.declared.update.Update.TheVariants.{Punch}
use Rattle.batch.specs.Said.{said, AreInOrder}
use Rattle.batch.proofs.SaidLaws.{said_after, said_before, order_drop, order_take, later_begin, begins_here}
use Rattle.batch.proofs.update.split_at_leaf.Goals as goal
use Rattle.batch.proofs.update.split_at_leaf.Goals.{then-at-updates+then-first-leaf, else-at-updates, else-at-updates-via-then-at-updates+else-first-leaf, else-at-updates-via-else-at-updates}

rest : (at : ℕ) (us : List Update) → take (length us - at) (drop at us) ≡ drop at us
rest at us = take_all (length us - at) (drop at us) (let n = length-drop at us in omega (arith, n))

pub returns-clause-after : goal.returns-clause-after
returns-clause-after c = λ n l. ap (λ us. said us n) (rest c.count_before-at.result c.args.updates.now) ∙ said_after c.count_before-at.result c.args.leaf c.args.updates.now c.count_before-at.ensures.before n l

pub returns-clause-after_order : goal.returns-clause-after_order
returns-clause-after_order c = subst AreInOrder (sym (rest c.count_before-at.result c.args.updates.now)) (order_drop c.count_before-at.result c.args.updates.now c.requires)

pub returns-clause-before : goal.returns-clause-before
returns-clause-before c = λ n l. elim c.if-at-updates.branch [
  | then-at-updates+then-first-leaf w ↦
      ap (λ e. said (take e c.args.updates.now) n) w.end-is
      ∙ said_before (c.count_before-at.result + 1) c.args.leaf c.args.updates.now
      (later_begin c.args.updates.now c.count_before-at.result c.args.leaf _ c.requires (slice_get-get_or c.args.updates.now c.count_before-at.result (Punch (record { level = 0; index = 0 })) w.if-at-updates.true) (c.count_before-at.ensures.after c.count_before-at.result _ (omega arith) (slice_get-get_or c.args.updates.now c.count_before-at.result (Punch (record { level = 0; index = 0 })) w.if-at-updates.true)))
      n l
  | else-at-updates w ↦
      ap (λ e. said (take e c.args.updates.now) n) w.end-is
      ∙ elim w.else-at-updates.branch [
        | else-at-updates-via-then-at-updates+else-first-leaf v ↦
            said_before c.count_before-at.result c.args.leaf c.args.updates.now
            (begins_here c.args.updates.now c.count_before-at.result c.args.leaf _ c.requires (subst (λ n. c.args.leaf ≤ n) v.first.ensures v.if-first-leaf.false) c.count_before-at.ensures.after)
            n l
        | else-at-updates-via-else-at-updates v ↦
            said_before c.count_before-at.result c.args.leaf c.args.updates.now
            (λ i u b e. let w = slice_get_within c.args.updates.now i u e in absurd (omega (arith, v.if-at-updates.false)))
            n l
      ]
]

pub returns-clause-before_order : goal.returns-clause-before_order
returns-clause-before_order c = order_take c.if-at-updates.end c.args.updates.now c.requires
