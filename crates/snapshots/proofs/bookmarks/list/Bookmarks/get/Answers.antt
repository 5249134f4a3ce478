use Rattle.std.proofs.Common.{Some, map, ap, sym, ◌∙◌}
use Rattle.std.specs.FinMap.{get}
use Rattle.snapshots.specs.declared.bookmarks.mark.Mark.{Mark}
use Rattle.snapshots.specs.Marks.{Marks, bookmark_of, entry_in}
use Rattle.snapshots.specs.Places.{IsAt, IsGapFor}
use Rattle.base.specs.Names.{name_cmp}
use Rattle.snapshots.proofs.Orders.{by_name}
use Rattle.snapshots.proofs.Places.{get_gap}
use Rattle.snapshots.proofs.Rows.{found_is}
use Rattle.snapshots.proofs.bookmarks.list.Bookmarks.get.Goals as goal

-- the one at its place is what the map has
pub returns-in-Ok : goal.returns-in-Ok
returns-in-Ok c =
    let rows = c.self.inside.rows.items in
    let name = c.args.name.now in
    let at : IsAt (map entry_in rows) name c.in-Ok.place = rw (← c.deref.ensures.value) c.in-Ok.ensures.found in
    ap (λ (m : Mark). Some (bookmark_of m.snapshot)) c.deref-in-Ok.ensures
    ∙ sym (found_is rows c.self.invariant name c.in-Ok.place at c.index.result.now c.index.ensures)
    ∙ ap (λ (m : Marks). get m name) c.self.view_is

-- a name in a gap isn't there
pub returns-in-Err : goal.returns-in-Err
returns-in-Err c =
    let rows = map entry_in c.self.inside.rows.items in
    let name = c.args.name.now in
    let gap : IsGapFor name_cmp rows name c.in-Err.field-0 = rw (← c.deref.ensures.value) c.in-Err.ensures.absent in
    sym (get_gap by_name rows c.self.invariant.sorted name c.in-Err.field-0 gap) ∙ ap (λ (m : Marks). get m name) c.self.view_is
