use Rattle.std.proofs.Common.{map, sym, ap, subst, ◌∙◌}
use Rattle.std.specs.FinMap.{entries, from_entries}
use Rattle.model.specs.requests.Rename.{renamed}
use Rattle.file_system.specs.Rows.{Entry, entry_in}
use Rattle.datasets.specs.Clones.{AreOnce}
use Rattle.datasets.specs.Renames.{AreMoved}
use Rattle.datasets.proofs.Counts.{counted}
use Rattle.datasets.proofs.Moves.{moved_tied}
use Rattle.datasets.proofs.Rows.{entries_are}
use Rattle.datasets.proofs.file_systems.FileSystems.rename.Goals as goal

-- the rows are the old ones under their new names
pub invariant_of-self : goal.invariant_of-self
invariant_of-self c =
    let items = c.self.inside.rows.items in
    let moved : AreMoved c.args.from.now c.args.to.now items c.in_ok-rows.rows.items c.in_ok-rows.clones =
    subst (λ l. AreMoved c.args.from.now c.args.to.now l c.in_ok-rows.rows.items c.in_ok-rows.clones) c.deref.ensures.value c.in_ok-rows.ensures.ok in
    record {
      sorted = moved.sorted;
      counted = c.self.invariant.counted ∙ counted (map entry_in items) c.self.invariant.sorted ∙ sym moved.counted ∙ sym (counted (map entry_in c.in_ok-rows.rows.items) moved.sorted);
      tied = moved_tied c.args.from.now c.args.to.now items c.in_ok-rows.rows.items c.in_ok-rows.clones moved c.self.invariant.sorted (subst AreOnce (sym c.self.view_is) c.requires.once) c.self.invariant.tied;
      listed = moved.listed;
    }

pub returns-clause-ok : goal.returns-clause-ok
returns-clause-ok c =
    let items = c.self.inside.rows.items in
    let moved : AreMoved c.args.from.now c.args.to.now items c.in_ok-rows.rows.items c.in_ok-rows.clones =
    subst (λ l. AreMoved c.args.from.now c.args.to.now l c.in_ok-rows.rows.items c.in_ok-rows.clones) c.deref.ensures.value c.in_ok-rows.ensures.ok in
    moved.named
    ∙ ap (λ es. from_entries (map (λ (e : Entry). (renamed c.args.from.now c.args.to.now e.0, e.1)) es)) (sym (ap entries (sym c.self.view_is) ∙ entries_are (map entry_in items) c.self.invariant.sorted))
