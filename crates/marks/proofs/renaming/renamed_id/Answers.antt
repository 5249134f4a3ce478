use Rattle.std.proofs.Common.{true, false, sym, ap, ◌∙◌}
use Rattle.marks.specs.Naming.{snap_naming_refusal}
use Rattle.marks.proofs.Naming.{own_placed, refusal_own}
use Rattle.marks.proofs.renaming.renamed_id.Goals as goal
use Rattle.marks.proofs.renaming.renamed_id.Goals.{then-recursive, else-recursive}

pub returns-in-Some-refusal-clause-err : goal.returns-in-Some-refusal-clause-err
returns-in-Some-refusal-clause-err c =
    let t = c.args.table.now in
    let own = own_placed t c.args.name.now c.in-Some.own.now c.in-Some.snapshot.now c.in-Some.ensures.place in
    elim c.if-recursive.branch [
      | then-recursive w ↦ ap (snap_naming_refusal t c.args.views.now.opened c.args.name.now c.args.to.now) w.if-recursive.true ∙ sym w.refusal_below-refusal.ensures ∙ sym w.refusal-is ∙ c.in-Some-refusal.is
      | else-recursive w ↦
          ap (snap_naming_refusal t c.args.views.now.opened c.args.name.now c.args.to.now) w.if-recursive.false
          ∙ sym (refusal_own t (record { systems = c.facts.ensures.good; numbers = c.facts.ensures.numbers }) c.args.name.now c.in-Some.own.now.system c.in-Some.snapshot.now own.1 c.args.to.now c.args.views.now.opened c.in-Some.own.now.name own.0)
          ∙ sym w.refusal_here-refusal.ensures ∙ sym w.refusal-is ∙ c.in-Some-refusal.is
    ]

pub returns-in-None-clause-can : goal.returns-in-None-clause-can
returns-in-None-clause-can c =
    let t = c.args.table.now in
    let own = own_placed t c.args.name.now c.in-Some.own.now c.in-Some.snapshot.now c.in-Some.ensures.place in
    elim c.if-recursive.branch [
      | then-recursive w ↦ ap (snap_naming_refusal t c.args.views.now.opened c.args.name.now c.args.to.now) w.if-recursive.true ∙ sym w.refusal_below-refusal.ensures ∙ sym w.refusal-is ∙ c.in-None.is
      | else-recursive w ↦
          ap (snap_naming_refusal t c.args.views.now.opened c.args.name.now c.args.to.now) w.if-recursive.false
          ∙ sym (refusal_own t (record { systems = c.facts.ensures.good; numbers = c.facts.ensures.numbers }) c.args.name.now c.in-Some.own.now.system c.in-Some.snapshot.now own.1 c.args.to.now c.args.views.now.opened c.in-Some.own.now.name own.0)
          ∙ sym w.refusal_here-refusal.ensures ∙ sym w.refusal-is ∙ c.in-None.is
    ]
