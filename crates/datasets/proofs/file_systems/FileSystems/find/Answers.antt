use Rattle.std.proofs.Common.{ap, sym, map}
use Rattle.std.specs.Option.{option_map}
use Rattle.std.specs.FinMap.{from_sorted}
use Rattle.base.specs.Names.{name_cmp}
use Rattle.datasets.specs.Clones.{row_in}
use Rattle.datasets.specs.Places.{IsAt, IsGapFor}
use Rattle.file_system.specs.Rows.{entry_in}
use Rattle.datasets.proofs.Rows.{get_gap}
use Rattle.datasets.proofs.Ties.{row_found}
use Rattle.datasets.proofs.file_systems.FileSystems.find.Goals as goal

-- the row at its place is what the map has
pub returns-in-Ok : goal.returns-in-Ok
returns-in-Ok c =
    let items = c.self.inside.rows.items in
    let at : IsAt (map entry_in items) c.args.name.now c.in-Ok.place = rw (← c.deref.ensures.value, ← c.as_bytes.ensures.value) c.in-Ok.ensures.found in
    rw (← c.self.view_is, c.deref-in-Ok.ensures) (row_found items c.self.invariant.sorted c.self.invariant.tied c.args.name.now c.in-Ok.place at c.index.result.now c.index.ensures)

-- a name in a gap isn't there
pub returns-in-Err : goal.returns-in-Err
returns-in-Err c =
    let gap : IsGapFor (map entry_in c.self.inside.rows.items) c.args.name.now c.in-Err.field-0 = rw (← c.deref.ensures.value, ← c.as_bytes.ensures.value) c.in-Err.ensures.absent in
    rw (← c.self.view_is) (sym (ap (option_map (λ f. row_in (from_sorted {R = name_cmp} (map entry_in c.self.inside.rows.items)) (c.args.name.now, f))) (get_gap _ c.self.invariant.sorted c.args.name.now c.in-Err.field-0 gap)))
