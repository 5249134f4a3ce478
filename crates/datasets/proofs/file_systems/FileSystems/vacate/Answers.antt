use Rattle.std.proofs.Common.{set, ◌≡◌, ℕ, List, None, length, map, ap, sym, subst, ◌∙◌}
use Rattle.std.proofs.lemmas.List.{map-set}
use Rattle.std.specs.Arc.{arc_value}
use Rattle.std.specs.FinMap.{get, from_sorted}
use Rattle.std.specs.Option.{option_map}
use Rattle.base.specs.Names.{name_cmp}
use Rattle.model.specs.Ids.{snap_id}
use Rattle.model.specs.World.{empty_file_system}
use Rattle.tree.proofs.Options.{not_some}
use Rattle.file_system.specs.Rows.{entry_in, entry_of, Row, Entry, snaps_at, new_row}
use Rattle.datasets.specs.CloneNames.{IsListed, without_origin}
use Rattle.datasets.specs.Places.{IsAt, IsGapFor}
use Rattle.datasets.proofs.Rows.{row_of, get_gap, snaps_are, its_name, placed_sorted, placed_is}
use Rattle.datasets.proofs.Counts.{set_counted_same}
use Rattle.datasets.proofs.Ties.{row_place, row_within, origin_is}
use Rattle.datasets.proofs.RowEmptied.{tied_emptied}
use Rattle.datasets.proofs.Listing.{listed_moved}
use Rattle.datasets.proofs.file_systems.FileSystems.vacate.Goals as goal

-- the file system is there
pub unreachable-requires : goal.unreachable-requires
unreachable-requires c =
    let gap : IsGapFor (map entry_in c.self.inside.rows.items) c.args.name.now c.in_default.field-0 = rw (← c.deref.ensures.value, ← c.as_bytes.ensures.value) c.in_default.ensures.absent in
    let none : get c.args.self.now c.args.name.now ≡ None = rw (← c.self.view_is) (get_gap _ c.self.invariant.sorted c.args.name.now c.in_default.field-0 gap) in
    not_some (get c.args.self.now c.args.name.now) none c.requires.there

-- a new row stands in its place
pub invariant_of-self : goal.invariant_of-self
invariant_of-self c =
    let items = c.self.inside.rows.items in
    let rows = map entry_in items in
    let row = entry_in c.index.result.now in
    let at : IsAt rows c.args.name.now c.in-Ok.place = rw (← c.deref.ensures.value, ← c.as_bytes.ensures.value) c.in-Ok.ensures.found in
    let is = row_of entry_in items c.in-Ok.place c.index.result.now c.index.ensures in
    let fresh : arc_value c.in_ok-empty.empty ≡ new_row c.args.name.now = c.in_ok-empty.ensures.ok ∙ c.in_ok-new.ensures.ok in
    let others : entry_in c.in_ok-empty.empty ≡ (row.0, empty_file_system) = ap entry_of fresh ∙ ap (λ (n : List ℕ). (n, empty_file_system)) (sym (its_name rows c.self.invariant.sorted c.args.name.now c.in-Ok.place at row is)) in
    let sorted = placed_sorted rows c.self.invariant.sorted c.args.name.now c.in-Ok.place at row is empty_file_system (entry_in c.in_ok-empty.empty) others in
    let snaps = ap (λ m. snaps_at m c.args.name.now) (sym c.self.view_is) ∙ snaps_are _ c.self.invariant.sorted c.args.name.now c.in-Ok.place at row is in
    let bare = ap (λ (r : Entry). length r.1.snaps) others ∙ ap length (sym c.requires.bare ∙ snaps) in
    let origin : option_map snap_id c.origin-origin.result ≡ row.1.origin =
    c.origin-origin.ensures ∙ ap (λ (r : Row). r.system.origin) c.deref-2.ensures in
    let clones_are = c.leave.ensures ∙ ap (without_origin c.self.inside.clones c.args.name.now) origin in
    record {
      sorted = rw map-set sorted;
      counted = rw map-set (set_counted_same rows c.in-Ok.place (entry_in c.in_ok-empty.empty) row c.self.inside.snapshot_count c.self.invariant.sorted sorted at.within is bare c.self.invariant.counted);
      listed = subst (λ s. IsListed (from_sorted {R = name_cmp} (map entry_in (set items c.in-Ok.place c.in_ok-empty.empty))) s) (sym clones_are)
          (subst (λ m. IsListed m (without_origin c.self.inside.clones c.args.name.now row.1.origin)) (sym (ap (from_sorted {R = name_cmp}) (map-set entry_in items c.in-Ok.place c.in_ok-empty.empty) ∙ placed_is rows c.self.invariant.sorted c.args.name.now c.in-Ok.place at row is empty_file_system (entry_in c.in_ok-empty.empty) others))
          (listed_moved (from_sorted {R = name_cmp} rows) c.self.inside.clones c.self.invariant.listed c.args.name.now row.1.origin empty_file_system
          (origin_is items c.self.invariant.sorted c.self.invariant.tied c.args.name.now c.in-Ok.place at c.index.result.now c.index.ensures)));
      tied = rw map-set (tied_emptied (map arc_value items) c.in-Ok.place (arc_value c.in_ok-empty.empty) (arc_value c.index.result.now) c.args.name.now c.self.invariant.tied
          (row_within items c.self.invariant.sorted c.self.invariant.tied c.args.name.now c.in-Ok.place at c.index.result.now c.index.ensures)
          (row_place items c.self.invariant.sorted c.self.invariant.tied c.args.name.now c.in-Ok.place at c.index.result.now c.index.ensures) (sym snaps ∙ c.requires.bare) fresh);
    }

pub returns-clause-ok : goal.returns-clause-ok
returns-clause-ok c =
    let items = c.self.inside.rows.items in
    let rows = map entry_in items in
    let row = entry_in c.index.result.now in
    let at : IsAt rows c.args.name.now c.in-Ok.place = rw (← c.deref.ensures.value, ← c.as_bytes.ensures.value) c.in-Ok.ensures.found in
    let is = row_of entry_in items c.in-Ok.place c.index.result.now c.index.ensures in
    let fresh : arc_value c.in_ok-empty.empty ≡ new_row c.args.name.now = c.in_ok-empty.ensures.ok ∙ c.in_ok-new.ensures.ok in
    let others : entry_in c.in_ok-empty.empty ≡ (row.0, empty_file_system) = ap entry_of fresh ∙ ap (λ (n : List ℕ). (n, empty_file_system)) (sym (its_name rows c.self.invariant.sorted c.args.name.now c.in-Ok.place at row is)) in
    rw (map-set, ← c.self.view_is) (placed_is rows c.self.invariant.sorted c.args.name.now c.in-Ok.place at row is empty_file_system (entry_in c.in_ok-empty.empty) others)
