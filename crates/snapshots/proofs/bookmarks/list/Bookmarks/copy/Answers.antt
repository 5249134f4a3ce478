use Rattle.std.proofs.Common.{◌≡◌, map, ap, sym, subst, ◌∙◌}
use Rattle.std.specs.Arc.{arc_value}
use Rattle.std.specs.FinMap.{from_sorted}
use Rattle.base.specs.Names.{name_cmp}
use Rattle.snapshots.specs.Marks.{entry_in}
use Rattle.snapshots.specs.SoundMarks.{AreSound}
use Rattle.snapshots.proofs.Ordering.{same_entries}
use Rattle.snapshots.proofs.bookmarks.list.Bookmarks.copy.Goals as goal

-- the entries are the same
pub invariant_of-result : goal.invariant_of-result
invariant_of-result c =
    let same : map entry_in c.in_ok-rows.rows.items ≡ map entry_in c.self.inside.rows.items = same_entries _ _ (c.in_ok-rows.ensures.ok ∙ ap (map arc_value) c.deref.ensures.value) in
    subst AreSound (sym same) c.self.invariant

pub returns-clause-ok : goal.returns-clause-ok
returns-clause-ok c =
    let same : map entry_in c.in_ok-rows.rows.items ≡ map entry_in c.self.inside.rows.items = same_entries _ _ (c.in_ok-rows.ensures.ok ∙ ap (map arc_value) c.deref.ensures.value) in
    ap (from_sorted {R = name_cmp}) same ∙ c.self.view_is
