use Rattle.std.proofs.Common.{◌++◌, length, ap, sym, ◌∙◌}
use Rattle.deadlist.specs.Entries.{run_entries}
use Rattle.deadlist.proofs.Births.{upto_born_by, upto_born_from}
use Rattle.deadlist.proofs.pile.Pile.count_upto.Goals as goal

pub returns-then-self-cut-clause-count : goal.returns-then-self-cut-clause-count
returns-then-self-cut-clause-count c =
    let s = c.self.inside in
    let es = run_entries s.runs.items ++ s.tail.items in
    rw (← c.self.view_is) (c.self.invariant.0 ∙ ap length (sym (upto_born_by s.high c.args.cut es c.self.invariant.2 c.if-self-cut.true)))

pub returns-then-cut-self-clause-count : goal.returns-then-cut-self-clause-count
returns-then-cut-self-clause-count c =
    let s = c.self.inside in
    let es = run_entries s.runs.items ++ s.tail.items in
    rw (← c.self.view_is) (ap length (sym (upto_born_from s.low c.args.cut es c.self.invariant.1 c.if-cut-self.true)))
