use Rattle.std.proofs.lemmas.List.{append-nil}
use Rattle.std.proofs.lemmas.List.Sorted.{IsPermutation-append_right, IsPermutation-trans}
use Rattle.std.proofs.Common.{◌++◌}
use Rattle.deadlist.specs.Entries.{run_entries}
use Rattle.deadlist.proofs.pile.stack_many.Goals as goal

pub returns-clause-entries : goal.returns-clause-entries
returns-clause-entries c =
    let rs = run_entries c.args.runs.now.items in
    let run = c.in_ok-run.run' in
    let own = c.in_ok-own.own.items in
    rw (c.new-2.ensures.items, append-nil, ← c.in_ok-own.ensures.items) (IsPermutation-trans (rs ++ own) (rs ++ run) (run_entries c.stack.new.runs.items) (IsPermutation-append_right rs own run c.in_ok-run.ensures) c.in_ok-stack.ensures.ok)
