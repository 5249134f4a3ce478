use Rattle.std.proofs.Common.{◌≡◌, ◌≤◌, None, List, length, map, ap, sym, subst, ◌∙◌, arith}
use Rattle.std.proofs.lemmas.List.{length-map}
use Rattle.std.specs.Arc.{arc_value}
use Rattle.std.specs.List.{insert}
use Rattle.std.specs.Option.{option_map, option_and_then}
use Rattle.std.specs.FinMap.{get, from_sorted}
use Rattle.base.specs.Names.{name_cmp}
use Rattle.model.specs.Ids.{snap_id}
use Rattle.model.specs.World.{FileSystem, Snap}
use Rattle.file_system.specs.Rows.{entry_in, Row}
use Rattle.datasets.specs.CloneNames.{IsListed, with_origin}
use Rattle.datasets.specs.Clones.{all_snaps, IsTied}
use Rattle.datasets.specs.Places.{IsGapFor}
use Rattle.datasets.proofs.Rows.{insert_is, insert_sorted}
use Rattle.datasets.proofs.Ties.{tied_inserted, map_inserted, inserted_entries, snaps_of_all}
use Rattle.datasets.proofs.Counts.{counted, insert_count}
use Rattle.datasets.proofs.Listing.{listed_moved}
use Rattle.datasets.proofs.file_systems.FileSystems.add.Goals as goal

-- where memory was refused the rows are the same
pub invariant_of-self : goal.invariant_of-self
invariant_of-self c =
    let same = ap (map entry_in) c.reserve.ensures.items in
    let same_rows = ap (map arc_value) c.reserve.ensures.items in
    record { sorted = rw same c.self.invariant.sorted; counted = rw same c.self.invariant.counted; tied = rw same_rows c.self.invariant.tied; listed = rw same c.self.invariant.listed }

-- the row stands in its gap, and has no snapshot
pub invariant_of-self-2 : goal.invariant_of-self-2
invariant_of-self-2 c =
    let items = c.self.inside.rows.items in
    let rows = map entry_in items in
    let row = c.args.file_system in
    let gap : IsGapFor rows row.name c.gap-place.result = rw (← c.deref.ensures.value, ← c.name.ensures, ← c.as_bytes.ensures.value) c.gap-place.ensures in
    let made_rows : map arc_value c.put.new.rows.items ≡ insert (map arc_value items) c.gap-place.result row =
    ap (map arc_value) (c.put.ensures ∙ ap (λ l. insert l c.gap-place.result c.in_ok-added.added) c.in_ok-reserve.ensures.items)
    ∙ map_inserted arc_value items c.gap-place.result c.in_ok-added.added ∙ ap (insert (map arc_value items) c.gap-place.result) c.in_ok-added.ensures.ok in
    let made : map entry_in c.put.new.rows.items ≡ insert rows c.gap-place.result (row.name, row.system) = inserted_entries c.put.new.rows.items items c.gap-place.result row made_rows in
    let within : c.gap-place.result ≤ length (map arc_value items) = let low = gap.within in omega (arith, length-map items entry_in, length-map items arc_value) in
    let sorted = insert_sorted rows c.self.invariant.sorted row.name row.system c.gap-place.result gap in
    let absent : get (from_sorted {R = name_cmp} rows) row.name ≡ None = ap (λ m. get m row.name) c.self.view_is ∙ c.requires.absent in
    let snaps = ap all_snaps (sym c.self.view_is) ∙ snaps_of_all items c.self.invariant.sorted in
    let named : arc_value c.owned_name.result.now ≡ row.name = c.owned_name.ensures ∙ ap (λ (r : Row). r.name) (c.deref-3.ensures ∙ c.in_ok-added.ensures.ok) in
    let origin : option_map snap_id c.origin.result ≡ row.system.origin = c.origin.ensures ∙ ap (λ (r : Row). r.system.origin) (c.deref-2.ensures ∙ c.in_ok-added.ensures.ok) in
    let clones_are : c.enter.new.self ≡ with_origin c.self.inside.clones row.name row.system.origin =
    c.in_ok-enter.ensures.ok ∙ (λ k. with_origin c.self.inside.clones (named k) (origin k)) in
    record {
      sorted = rw made sorted;
      counted = rw made (c.self.invariant.counted ∙ counted rows c.self.invariant.sorted ∙ sym (insert_count rows c.gap-place.result (row.name, row.system) gap.within c.requires.bare) ∙ sym (counted _ sorted));
      listed = subst (λ s. IsListed (from_sorted {R = name_cmp} (map entry_in c.put.new.rows.items)) s) (sym clones_are)
          (subst (λ m. IsListed m (with_origin c.self.inside.clones row.name row.system.origin))
          (sym (ap (from_sorted {R = name_cmp}) made ∙ insert_is rows c.self.invariant.sorted row.name row.system c.gap-place.result gap))
          (listed_moved (from_sorted {R = name_cmp} rows) c.self.inside.clones c.self.invariant.listed row.name None row.system (ap (λ x. option_and_then (λ (f : FileSystem). f.origin) x) absent)));
      tied = rw made_rows (tied_inserted (map arc_value items) c.gap-place.result row c.self.invariant.tied within c.requires.bare (subst (λ (ts : List Snap). IsTied ts row) snaps c.requires.tied));
    }

pub returns-clause-ok : goal.returns-clause-ok
returns-clause-ok c =
    let items = c.self.inside.rows.items in
    let rows = map entry_in items in
    let row = c.args.file_system in
    let gap : IsGapFor rows row.name c.gap-place.result = rw (← c.deref.ensures.value, ← c.name.ensures, ← c.as_bytes.ensures.value) c.gap-place.ensures in
    let made_rows : map arc_value c.put.new.rows.items ≡ insert (map arc_value items) c.gap-place.result row =
    ap (map arc_value) (c.put.ensures ∙ ap (λ l. insert l c.gap-place.result c.in_ok-added.added) c.in_ok-reserve.ensures.items)
    ∙ map_inserted arc_value items c.gap-place.result c.in_ok-added.added ∙ ap (insert (map arc_value items) c.gap-place.result) c.in_ok-added.ensures.ok in
    let made : map entry_in c.put.new.rows.items ≡ insert rows c.gap-place.result (row.name, row.system) = inserted_entries c.put.new.rows.items items c.gap-place.result row made_rows in
    rw (made, ← c.self.view_is) (insert_is rows c.self.invariant.sorted row.name row.system c.gap-place.result gap)
