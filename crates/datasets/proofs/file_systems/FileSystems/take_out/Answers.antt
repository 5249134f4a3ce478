use Rattle.std.proofs.Common.{◌≡◌, None, length, map, ap, sym, subst, ◌∙◌}
use Rattle.std.specs.Prelude.{remove}
use Rattle.std.specs.Arc.{arc_value}
use Rattle.std.specs.FinMap.{get, from_sorted}
use Rattle.std.specs.Option.{option_map}
use Rattle.base.specs.Names.{name_cmp}
use Rattle.model.specs.Ids.{snap_id}
use Rattle.tree.proofs.Options.{not_some}
use Rattle.file_system.specs.Rows.{entry_in, Row, Entry, snaps_at}
use Rattle.datasets.specs.CloneNames.{IsListed, without_origin}
use Rattle.datasets.specs.Places.{IsAt, IsGapFor}
use Rattle.datasets.proofs.Rows.{row_of, get_gap, snaps_are}
use Rattle.datasets.proofs.Ties.{row_place, row_within, tied_removed, origin_is}
use Rattle.datasets.proofs.RowGone.{map_removed, removed_sorted, removed_counted, removed_is}
use Rattle.datasets.proofs.Listing.{listed_left}
use Rattle.datasets.proofs.file_systems.FileSystems.take_out.Goals as goal

-- the file system is there
pub unreachable-requires : goal.unreachable-requires
unreachable-requires c =
    let gap : IsGapFor (map entry_in c.self.inside.rows.items) c.args.name.now c.in_default.field-0 = rw (← c.deref.ensures.value, ← c.as_bytes.ensures.value) c.in_default.ensures.absent in
    let none : get c.args.self.now c.args.name.now ≡ None = rw (← c.self.view_is) (get_gap _ c.self.invariant.sorted c.args.name.now c.in_default.field-0 gap) in
    not_some (get c.args.self.now c.args.name.now) none c.requires.there

-- its row is gone
pub invariant_of-self : goal.invariant_of-self
invariant_of-self c =
    let rows = map entry_in c.self.inside.rows.items in
    let row = entry_in c.index.result.now in
    let at : IsAt rows c.args.name.now c.in-Ok.place = rw (← c.deref.ensures.value, ← c.as_bytes.ensures.value) c.in-Ok.ensures.found in
    let is = row_of entry_in c.self.inside.rows.items c.in-Ok.place c.index.result.now c.index.ensures in
    let snaps = ap (λ m. snaps_at m c.args.name.now) (sym c.self.view_is) ∙ snaps_are _ c.self.invariant.sorted c.args.name.now c.in-Ok.place at row is in
    let left : map entry_in c.remove-gone.new.self.items ≡ remove rows c.in-Ok.place = map_removed entry_in c.self.inside.rows.items c.remove-gone.new.self.items c.in-Ok.place c.remove-gone.ensures.items in
    let left_rows : map arc_value c.remove-gone.new.self.items ≡ remove (map arc_value c.self.inside.rows.items) c.in-Ok.place =
    map_removed arc_value c.self.inside.rows.items c.remove-gone.new.self.items c.in-Ok.place c.remove-gone.ensures.items in
    let sorted = removed_sorted rows c.self.invariant.sorted c.args.name.now c.in-Ok.place at in
    let bare = ap (λ (r : Entry). length r.1.snaps) (sym is) ∙ ap length (sym snaps ∙ c.requires.bare) in
    let origin : option_map snap_id c.origin-origin.result ≡ row.1.origin =
    c.origin-origin.ensures ∙ ap (λ (r : Row). r.system.origin) c.deref-2.ensures in
    let clones_are = c.leave.ensures ∙ ap (without_origin c.self.inside.clones c.args.name.now) origin in
    record {
      sorted = rw left sorted;
      listed = subst (λ s. IsListed (from_sorted {R = name_cmp} (map entry_in c.remove-gone.new.self.items)) s) (sym clones_are)
          (subst (λ m. IsListed m (without_origin c.self.inside.clones c.args.name.now row.1.origin)) (sym (ap (from_sorted {R = name_cmp}) left ∙ removed_is rows c.self.invariant.sorted c.args.name.now c.in-Ok.place at row))
          (listed_left (from_sorted {R = name_cmp} rows) c.self.inside.clones c.self.invariant.listed c.args.name.now row.1.origin
          (origin_is c.self.inside.rows.items c.self.invariant.sorted c.self.invariant.tied c.args.name.now c.in-Ok.place at c.index.result.now c.index.ensures)));
      tied = rw left_rows (tied_removed (map arc_value c.self.inside.rows.items) c.in-Ok.place (arc_value c.index.result.now) c.self.invariant.tied (row_within c.self.inside.rows.items c.self.invariant.sorted c.self.invariant.tied c.args.name.now c.in-Ok.place at c.index.result.now c.index.ensures)
          (row_place c.self.inside.rows.items c.self.invariant.sorted c.self.invariant.tied c.args.name.now c.in-Ok.place at c.index.result.now c.index.ensures) (sym snaps ∙ c.requires.bare));
      counted = rw left (removed_counted rows c.in-Ok.place row c.self.inside.snapshot_count c.self.invariant.sorted sorted at.within bare c.self.invariant.counted);
    }

pub returns : goal.returns
returns c =
    let rows = map entry_in c.self.inside.rows.items in
    let row = entry_in c.index.result.now in
    let at : IsAt rows c.args.name.now c.in-Ok.place = rw (← c.deref.ensures.value, ← c.as_bytes.ensures.value) c.in-Ok.ensures.found in
    let left : map entry_in c.remove-gone.new.self.items ≡ remove rows c.in-Ok.place = map_removed entry_in c.self.inside.rows.items c.remove-gone.new.self.items c.in-Ok.place c.remove-gone.ensures.items in
    rw (left, ← c.self.view_is) (removed_is rows c.self.invariant.sorted c.args.name.now c.in-Ok.place at row)
