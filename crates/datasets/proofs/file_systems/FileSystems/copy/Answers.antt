use Rattle.std.proofs.Common.{◌≡◌, map, ap, ◌∙◌}
use Rattle.std.specs.Arc.{arc_value}
use Rattle.std.specs.FinMap.{from_sorted}
use Rattle.base.specs.Names.{name_cmp}
use Rattle.file_system.specs.Rows.{entry_in}
use Rattle.datasets.proofs.Ties.{same_entries}
use Rattle.datasets.proofs.file_systems.FileSystems.copy.Goals as goal

-- the rows are the same
pub invariant_of-result : goal.invariant_of-result
invariant_of-result c =
    let same : map entry_in c.in_ok-rows.rows.items ≡ map entry_in c.self.inside.rows.items = same_entries _ _ (c.in_ok-rows.ensures.ok ∙ ap (map arc_value) c.deref.ensures.value) in
    let rows : map arc_value c.in_ok-rows.rows.items ≡ map arc_value c.self.inside.rows.items = c.in_ok-rows.ensures.ok ∙ ap (map arc_value) c.deref.ensures.value in
    record { sorted = rw same c.self.invariant.sorted; counted = rw same c.self.invariant.counted; tied = rw rows c.self.invariant.tied; listed = rw (same, c.in_ok-clones.ensures.ok) c.self.invariant.listed }

pub returns-clause-ok : goal.returns-clause-ok
returns-clause-ok c =
    let same : map entry_in c.in_ok-rows.rows.items ≡ map entry_in c.self.inside.rows.items = same_entries _ _ (c.in_ok-rows.ensures.ok ∙ ap (map arc_value) c.deref.ensures.value) in
    ap (from_sorted {R = name_cmp}) same ∙ c.self.view_is
