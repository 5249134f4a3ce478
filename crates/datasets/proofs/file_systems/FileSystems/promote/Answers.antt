use Rattle.std.proofs.Common.{◌≡◌, ◌<◌, None, Some, length, get_or, map, is_some, true, sym, ap, subst, ◌∙◌, arith, true≢false}
use Rattle.std.proofs.lemmas.List.{length-map, with_items_is}
use Rattle.std.specs.Vec.{with_items}
use Rattle.std.specs.Prelude.{slice_get, IsTrue}
use Rattle.std.specs.Arc.{arc_value}
use Rattle.std.specs.List.{find}
use Rattle.std.specs.Option.{option_map}
use Rattle.std.specs.FinMap.{get, is_sorted, from_sorted}
use Rattle.base.specs.Names.{name_cmp}
use Rattle.base.specs.Surveys.{IsIn}
use Rattle.model.specs.Ids.{snap_id}
use Rattle.model.specs.World.{FileSystem, Snap, id_of, same_id}
use Rattle.world.proofs.lists.Maps.{same_value}
use Rattle.datasets.specs.Places.{IsAt, IsGapFor}
use Rattle.file_system.specs.Promotions.{CanPromote}
use Rattle.datasets.specs.Promoted.{CanPromoteIn, IsPromotion, promoted_in, promoted_at, row_at}
use Rattle.datasets.specs.Clones.{AreTied}
use Rattle.datasets.specs.CloneNames.{IsListed, promoted_set}
use Rattle.file_system.specs.Rows.{Row, entry_in, FileSystems, snap_count}
use Rattle.datasets.proofs.Exchanged.{read_itself, row_read, same_entries, rows_after, entries_after}
use Rattle.datasets.proofs.Rows.{on_err, row_of, get_gap, got, its_name}
use Rattle.datasets.proofs.Ties.{row_got}
use Rattle.datasets.proofs.Promoting.{snap_there, nowhere, apart, can_promote, after_tied, after_sorted, after_is, after_counted, after_listed}
use Rattle.datasets.proofs.file_systems.FileSystems.promote.Goals as goal

-- the file system is there
pub unreachable-requires : goal.unreachable-requires
unreachable-requires c =
    let gap : IsGapFor (map entry_in c.self.inside.rows.items) c.args.name.now c.in_default.field-0 = rw (← c.deref.ensures.value, ← c.as_bytes.ensures.value) c.in_default.ensures.absent in
    let none : get c.args.self.now c.args.name.now ≡ None = rw (← c.self.view_is) (get_gap _ c.self.invariant.sorted c.args.name.now c.in_default.field-0 gap) in
    let there = c.requires.is.here in
    true≢false (ap is_some (sym there ∙ none))

-- it is a clone
pub unreachable-requires-in_default-origin : goal.unreachable-requires-in_default-origin
unreachable-requires-in_default-origin c =
    let at : IsAt (map entry_in c.self.inside.rows.items) c.args.name.now c.in-Ok.place = rw (← c.deref.ensures.value, ← c.as_bytes.ensures.value) c.in-Ok.ensures.found in
    let here = got (map entry_in c.self.inside.rows.items) c.self.invariant.sorted c.args.name.now c.in-Ok.place at (entry_in c.index.result.now) (row_of entry_in c.self.inside.rows.items c.in-Ok.place c.index.result.now c.index.ensures) in
    let system = same_value c.requires.between.clone (arc_value c.index.result.now).system (sym c.requires.is.here ∙ ap (λ m. get m c.args.name.now) (sym c.self.view_is) ∙ here) in
    let none = ap (option_map snap_id) (sym c.in_default-origin.is) ∙ c.origin.ensures ∙ ap (λ (r : Row). r.system.origin) c.deref-2.ensures in
    true≢false (ap is_some (sym c.requires.is.is ∙ ap (λ (f : FileSystem). f.origin) system ∙ sym none))

-- the snapshots of each stand in order
pub owner_place-requires : goal.owner_place-requires
owner_place-requires c r h =
    let inside : IsIn (map arc_value c.self.inside.rows.items) r = subst (λ l. IsIn (map arc_value l) r) c.deref-3.ensures.value h in
    c.requires.rising r.name r.system (ap (λ m. get m r.name) (sym c.self.view_is) ∙ row_got c.self.inside.rows.items c.self.invariant.sorted r inside)

-- a row has its origin
pub unreachable-requires-in_default-owner_place : goal.unreachable-requires-in_default-owner_place
unreachable-requires-in_default-owner_place c =
    let items = c.self.inside.rows.items in
    let at : IsAt (map entry_in items) c.args.name.now c.in-Ok.place = rw (← c.deref.ensures.value, ← c.as_bytes.ensures.value) c.in-Ok.ensures.found in
    let a = c.index.result.now in
    let id = snap_id c.in-Some.origin in
    let origin : (arc_value a).system.origin ≡ Some id = sym (ap (λ (r : Row). r.system.origin) c.deref-2.ensures) ∙ sym c.origin.ensures ∙ ap (option_map snap_id) c.in-Some.is in
    let can : CanPromoteIn (from_sorted {R = name_cmp} (map entry_in items)) c.args.name.now = subst (λ (x : FileSystems). CanPromoteIn x c.args.name.now) (sym c.self.view_is) c.requires in
    let none = subst (λ l. (r : Row) → IsIn (map arc_value l) r → find (λ (t : Snap). same_id (id_of t) id) r.system.snaps ≡ None) c.deref-3.ensures.value c.in_default-owner_place.ensures.none in
    nowhere items c.self.invariant.sorted c.args.name.now c.in-Ok.place at a c.index.ensures id origin can none

-- ---- the two rows

pub promote_at-requires-clause-apart : goal.promote_at-requires-clause-apart
promote_at-requires-clause-apart c =
    let items = c.self.inside.rows.items in
    let q = c.args.name.now in
    let m = from_sorted {R = name_cmp} (map entry_in items) in
    let at : IsAt (map entry_in items) q c.in-Ok.place = rw (← c.deref.ensures.value, ← c.as_bytes.ensures.value) c.in-Ok.ensures.found in
    let a = c.index.result.now in
    let id = snap_id c.in-Some.origin in
    let other : c.in-Some-owner_place.other < length items = subst (λ l. c.in-Some-owner_place.other < length l) c.deref-3.ensures.value c.in-Some-owner_place.ensures.within in
    let b = get_or items c.in-Some-owner_place.other a in
    let b_is : b ≡ get_or items c.in-Some-owner_place.other b = read_itself items c.in-Some-owner_place.other a other in
    let i_within : c.in-Ok.place < length items = let within = at.within in omega (arith, length-map items entry_in) in
    let origin : (arc_value a).system.origin ≡ Some id = sym (ap (λ (r : Row). r.system.origin) c.deref-2.ensures) ∙ sym c.origin.ensures ∙ ap (option_map snap_id) c.in-Some.is in
    let says = subst (λ l. (r : Row) → slice_get (map arc_value l) c.in-Some-owner_place.other ≡ Some r → is_some (find (λ (t : Snap). same_id (id_of t) id) r.system.snaps) ≡ true) c.deref-3.ensures.value c.in-Some-owner_place.ensures.is in
    let there = snap_there items c.in-Some-owner_place.other b id other b_is says in
    let can : CanPromoteIn m q = subst (λ (x : FileSystems). CanPromoteIn x q) (sym c.self.view_is) c.requires in
    apart items c.self.invariant.sorted c.self.invariant.tied q c.in-Ok.place at a c.index.ensures c.in-Some-owner_place.other other b b_is id origin there.0 there.1 there.2 can

pub promote_at-requires-clause-can : goal.promote_at-requires-clause-can
promote_at-requires-clause-can c =
    let items = c.self.inside.rows.items in
    let q = c.args.name.now in
    let m = from_sorted {R = name_cmp} (map entry_in items) in
    let at : IsAt (map entry_in items) q c.in-Ok.place = rw (← c.deref.ensures.value, ← c.as_bytes.ensures.value) c.in-Ok.ensures.found in
    let a = c.index.result.now in
    let id = snap_id c.in-Some.origin in
    let other : c.in-Some-owner_place.other < length items = subst (λ l. c.in-Some-owner_place.other < length l) c.deref-3.ensures.value c.in-Some-owner_place.ensures.within in
    let b = get_or items c.in-Some-owner_place.other a in
    let b_is : b ≡ get_or items c.in-Some-owner_place.other b = read_itself items c.in-Some-owner_place.other a other in
    let i_within : c.in-Ok.place < length items = let within = at.within in omega (arith, length-map items entry_in) in
    let origin : (arc_value a).system.origin ≡ Some id = sym (ap (λ (r : Row). r.system.origin) c.deref-2.ensures) ∙ sym c.origin.ensures ∙ ap (option_map snap_id) c.in-Some.is in
    let says = subst (λ l. (r : Row) → slice_get (map arc_value l) c.in-Some-owner_place.other ≡ Some r → is_some (find (λ (t : Snap). same_id (id_of t) id) r.system.snaps) ≡ true) c.deref-3.ensures.value c.in-Some-owner_place.ensures.is in
    let there = snap_there items c.in-Some-owner_place.other b id other b_is says in
    let can : CanPromoteIn m q = subst (λ (x : FileSystems). CanPromoteIn x q) (sym c.self.view_is) c.requires in
    let done : CanPromote (arc_value a) (arc_value b) id = can_promote items c.self.invariant.sorted c.self.invariant.tied q c.in-Ok.place at a c.index.ensures c.in-Some-owner_place.other other b b_is id origin there.0 there.1 there.2 can in
    let first = row_read items c.in-Ok.place a c.index.ensures i_within in
    let second = row_read items c.in-Some-owner_place.other b b_is other in
    subst (λ l. CanPromote (row_at (map arc_value l) c.in-Ok.place) (row_at (map arc_value l) c.in-Some-owner_place.other) id) (sym c.deref_mut.ensures.value)
    (subst (λ (r : Row). CanPromote r (row_at (map arc_value items) c.in-Some-owner_place.other) id) (sym first) (subst (λ (r : Row). CanPromote (arc_value a) r id) (sym second) done))

-- ---- where memory was refused, they are as they were

pub invariant_of-self : goal.invariant_of-self
invariant_of-self c =
    let items = c.self.inside.rows.items in
    let new = (with_items c.self.inside.rows c.promote_at.new.rows).items in
    let put : new ≡ c.promote_at.new.rows =
    with_items_is c.self.inside.rows c.promote_at.new.rows (c.promote_at.auto.rows ∙ ap length c.deref_mut.ensures.value ∙ sym c.self.inside.rows.ok.0) in
    let rows_are : map arc_value new ≡ map arc_value items = ap (map arc_value) put ∙ c.in_err-promote_at.ensures.rows_stay ∙ ap (map arc_value) c.deref_mut.ensures.value in
    let entries_are = same_entries items new rows_are in
    record {
      sorted = subst (λ l. IsTrue (is_sorted name_cmp l)) (sym entries_are) c.self.invariant.sorted;
      counted = subst (λ l. c.self.inside.snapshot_count ≡ snap_count (from_sorted {R = name_cmp} l)) (sym entries_are) c.self.invariant.counted;
      listed = subst (λ s. IsListed (from_sorted {R = name_cmp} (map entry_in new)) s) (sym c.in_err-promote_at.ensures.clones_stay)
          (subst (λ l. IsListed (from_sorted {R = name_cmp} l) c.self.inside.clones) (sym entries_are) c.self.invariant.listed);
      tied = subst AreTied (sym rows_are) c.self.invariant.tied;
    }

pub returns-in_err-promote_at-clause-err : goal.returns-in_err-promote_at-clause-err
returns-in_err-promote_at-clause-err c =
    let items = c.self.inside.rows.items in
    let new = (with_items c.self.inside.rows c.promote_at.new.rows).items in
    let put : new ≡ c.promote_at.new.rows =
    with_items_is c.self.inside.rows c.promote_at.new.rows (c.promote_at.auto.rows ∙ ap length c.deref_mut.ensures.value ∙ sym c.self.inside.rows.ok.0) in
    let rows_are : map arc_value new ≡ map arc_value items = ap (map arc_value) put ∙ c.in_err-promote_at.ensures.rows_stay ∙ ap (map arc_value) c.deref_mut.ensures.value in
    on_err c.from_residual.result (ap (from_sorted {R = name_cmp}) (same_entries items new rows_are) ∙ c.self.view_is)

-- ---- afterwards

pub invariant_of-self-2 : goal.invariant_of-self-2
invariant_of-self-2 c =
    let items = c.self.inside.rows.items in
    let q = c.args.name.now in
    let m = from_sorted {R = name_cmp} (map entry_in items) in
    let at : IsAt (map entry_in items) q c.in-Ok.place = rw (← c.deref.ensures.value, ← c.as_bytes.ensures.value) c.in-Ok.ensures.found in
    let a = c.index.result.now in
    let id = snap_id c.in-Some.origin in
    let other : c.in-Some-owner_place.other < length items = subst (λ l. c.in-Some-owner_place.other < length l) c.deref-3.ensures.value c.in-Some-owner_place.ensures.within in
    let b = get_or items c.in-Some-owner_place.other a in
    let b_is : b ≡ get_or items c.in-Some-owner_place.other b = read_itself items c.in-Some-owner_place.other a other in
    let i_within : c.in-Ok.place < length items = let within = at.within in omega (arith, length-map items entry_in) in
    let origin : (arc_value a).system.origin ≡ Some id = sym (ap (λ (r : Row). r.system.origin) c.deref-2.ensures) ∙ sym c.origin.ensures ∙ ap (option_map snap_id) c.in-Some.is in
    let says = subst (λ l. (r : Row) → slice_get (map arc_value l) c.in-Some-owner_place.other ≡ Some r → is_some (find (λ (t : Snap). same_id (id_of t) id) r.system.snaps) ≡ true) c.deref-3.ensures.value c.in-Some-owner_place.ensures.is in
    let there = snap_there items c.in-Some-owner_place.other b id other b_is says in
    let can : CanPromoteIn m q = subst (λ (x : FileSystems). CanPromoteIn x q) (sym c.self.view_is) c.requires in
    let new = (with_items c.self.inside.rows c.promote_at.new.rows).items in
    let put : new ≡ c.promote_at.new.rows =
    with_items_is c.self.inside.rows c.promote_at.new.rows (c.promote_at.auto.rows ∙ ap length c.deref_mut.ensures.value ∙ sym c.self.inside.rows.ok.0) in
    let said = ap (map arc_value) put ∙ c.in_ok-promote_at.ensures.rows ∙ ap (λ l. promoted_at (map arc_value l) c.in-Ok.place c.in-Some-owner_place.other id) c.deref_mut.ensures.value in
    let rows_are = rows_after items new c.in-Ok.place c.in-Some-owner_place.other a b c.index.ensures i_within b_is other id said in
    let entries_are = entries_after items new c.in-Ok.place c.in-Some-owner_place.other a b c.index.ensures i_within b_is other id said in
    let first : row_at (map arc_value c.deref_mut.result.now) c.in-Ok.place ≡ arc_value a = ap (λ l. row_at (map arc_value l) c.in-Ok.place) c.deref_mut.ensures.value ∙ row_read items c.in-Ok.place a c.index.ensures i_within in
    let second : row_at (map arc_value c.deref_mut.result.now) c.in-Some-owner_place.other ≡ arc_value b = ap (λ l. row_at (map arc_value l) c.in-Some-owner_place.other) c.deref_mut.ensures.value ∙ row_read items c.in-Some-owner_place.other b b_is other in
    let named : (row_at (map arc_value c.deref_mut.result.now) c.in-Ok.place).name ≡ q = ap (λ (r : Row). r.name) first ∙ its_name (map entry_in items) c.self.invariant.sorted q c.in-Ok.place at (entry_in a) (row_of entry_in items c.in-Ok.place a c.index.ensures) in
    let clones_are : c.promote_at.new.clones ≡ promoted_set c.self.inside.clones q (arc_value b).name id (arc_value b).system.origin =
    c.in_ok-promote_at.ensures.clones ∙ (λ k. promoted_set c.self.inside.clones (named k) (second k).name id (second k).system.origin) in
    record {
      sorted = subst (λ l. IsTrue (is_sorted name_cmp l)) (sym entries_are) (after_sorted items c.self.invariant.sorted c.self.invariant.tied q c.in-Ok.place at a c.index.ensures c.in-Some-owner_place.other other b b_is id origin there.0 there.1 there.2 can);
      counted = subst (λ l. c.self.inside.snapshot_count ≡ snap_count (from_sorted {R = name_cmp} l)) (sym entries_are) (after_counted items c.self.invariant.sorted c.self.invariant.tied q c.in-Ok.place at a c.index.ensures c.in-Some-owner_place.other other b b_is id origin there.0 there.1 there.2 can c.self.inside.snapshot_count c.self.invariant.counted);
      listed = subst (λ s. IsListed (from_sorted {R = name_cmp} (map entry_in new)) s) (sym clones_are)
          (subst (λ l. IsListed (from_sorted {R = name_cmp} l) (promoted_set c.self.inside.clones q (arc_value b).name id (arc_value b).system.origin)) (sym entries_are)
          (after_listed items c.self.invariant.sorted c.self.invariant.tied q c.in-Ok.place at a c.index.ensures c.in-Some-owner_place.other other b b_is id origin there.0 there.1 there.2 can c.self.inside.clones c.self.invariant.listed));
      tied = subst AreTied (sym rows_are) (after_tied items c.self.invariant.sorted c.self.invariant.tied q c.in-Ok.place at a c.index.ensures c.in-Some-owner_place.other other b b_is id origin there.0 there.1 there.2 can);
    }

pub returns-clause-ok : goal.returns-clause-ok
returns-clause-ok c p is =
    let items = c.self.inside.rows.items in
    let q = c.args.name.now in
    let m = from_sorted {R = name_cmp} (map entry_in items) in
    let at : IsAt (map entry_in items) q c.in-Ok.place = rw (← c.deref.ensures.value, ← c.as_bytes.ensures.value) c.in-Ok.ensures.found in
    let a = c.index.result.now in
    let id = snap_id c.in-Some.origin in
    let other : c.in-Some-owner_place.other < length items = subst (λ l. c.in-Some-owner_place.other < length l) c.deref-3.ensures.value c.in-Some-owner_place.ensures.within in
    let b = get_or items c.in-Some-owner_place.other a in
    let b_is : b ≡ get_or items c.in-Some-owner_place.other b = read_itself items c.in-Some-owner_place.other a other in
    let i_within : c.in-Ok.place < length items = let within = at.within in omega (arith, length-map items entry_in) in
    let origin : (arc_value a).system.origin ≡ Some id = sym (ap (λ (r : Row). r.system.origin) c.deref-2.ensures) ∙ sym c.origin.ensures ∙ ap (option_map snap_id) c.in-Some.is in
    let says = subst (λ l. (r : Row) → slice_get (map arc_value l) c.in-Some-owner_place.other ≡ Some r → is_some (find (λ (t : Snap). same_id (id_of t) id) r.system.snaps) ≡ true) c.deref-3.ensures.value c.in-Some-owner_place.ensures.is in
    let there = snap_there items c.in-Some-owner_place.other b id other b_is says in
    let can : CanPromoteIn m q = subst (λ (x : FileSystems). CanPromoteIn x q) (sym c.self.view_is) c.requires in
    let new = (with_items c.self.inside.rows c.promote_at.new.rows).items in
    let put : new ≡ c.promote_at.new.rows =
    with_items_is c.self.inside.rows c.promote_at.new.rows (c.promote_at.auto.rows ∙ ap length c.deref_mut.ensures.value ∙ sym c.self.inside.rows.ok.0) in
    let said = ap (map arc_value) put ∙ c.in_ok-promote_at.ensures.rows ∙ ap (λ l. promoted_at (map arc_value l) c.in-Ok.place c.in-Some-owner_place.other id) c.deref_mut.ensures.value in
    let entries_are = entries_after items new c.in-Ok.place c.in-Some-owner_place.other a b c.index.ensures i_within b_is other id said in
    let here : IsPromotion m q p = subst (λ (x : FileSystems). IsPromotion x q p) (sym c.self.view_is) is in
    ap (from_sorted {R = name_cmp}) entries_are ∙ after_is items c.self.invariant.sorted c.self.invariant.tied q c.in-Ok.place at a c.index.ensures c.in-Some-owner_place.other other b b_is id origin there.0 there.1 there.2 can p here ∙ ap (λ (x : FileSystems). promoted_in x q p) c.self.view_is
