use Rattle.std.proofs.Common.{List, None, refl, sym, subst, ◌≡◌, ◌+◌, length, map, rules, ap, ◌∙◌, ◌∷◌, [], length-append}
use Rattle.std.specs.Arc.{arc_value}
use Rattle.std.specs.FinMap.{get}
use Rattle.std.proofs.lemmas.List.{map-set}
use Rattle.tree.proofs.Options.{not_some}
use Rattle.datasets.specs.Places.{IsAt, IsGapFor}
use Rattle.file_system.specs.Rows.{entry_in, entry_of, Entry, Row, plain_snap, with_snap, with_system}
use Rattle.datasets.proofs.Rows.{on_err, row_of, get_gap, placed_sorted, made_is}
use Rattle.datasets.proofs.Counts.{set_counted}
use Rattle.std.specs.List.{find}
use Rattle.model.specs.World.{Snap, id_of, same_id}
use Rattle.datasets.specs.Clones.{all_snaps, map_found}
use Rattle.datasets.proofs.Ties.{row_place, row_within, tied_set, row_snaps, snaps_of_all, found_more, other_id}
use Rattle.datasets.proofs.Listing.{listed_set}
use Rattle.datasets.proofs.Labelled.{lent, not_lent, same_sorted, same_is}
use Rattle.datasets.proofs.file_systems.FileSystems.take_snapshot.Goals as goal

-- the file system is there
pub unreachable-requires : goal.unreachable-requires
unreachable-requires c =
    let gap : IsGapFor (map entry_in c.self.inside.rows.items) c.args.name.now c.in_default.field-0 = rw (← c.deref.ensures.value, ← c.as_bytes.ensures.value) c.in_default.ensures.absent in
    not_some (get c.args.self.now c.args.name.now) (rw (← c.self.view_is) (get_gap _ c.self.invariant.sorted c.args.name.now c.in_default.field-0 gap)) c.requires.there

-- where memory was refused the rows are the same
pub invariant_of-self : goal.invariant_of-self
invariant_of-self c =
    let at : IsAt (map entry_in c.self.inside.rows.items) c.args.name.now c.in-Ok.place = rw (← c.deref.ensures.value, ← c.as_bytes.ensures.value) c.in-Ok.ensures.found in
    same_sorted c.self.inside c.self.invariant c.args.self.now c.self.view_is c.args.name.now c.in-Ok.place at c.index_mut.result.now c.index_mut.ensures.value
    c.own.follows.lender-at-none (not_lent c.own.result _ c.in_err-file_system.was c.own.follows.holds-at-none) _ refl refl refl

pub returns-in_err-file_system-clause-err : goal.returns-in_err-file_system-clause-err
returns-in_err-file_system-clause-err c =
    let at : IsAt (map entry_in c.self.inside.rows.items) c.args.name.now c.in-Ok.place = rw (← c.deref.ensures.value, ← c.as_bytes.ensures.value) c.in-Ok.ensures.found in
    on_err c.from_residual.result
    (same_is c.self.inside c.self.invariant c.args.self.now c.self.view_is c.args.name.now c.in-Ok.place at c.index_mut.result.now c.index_mut.ensures.value
    c.own.follows.lender-at-none (not_lent c.own.result _ c.in_err-file_system.was c.own.follows.holds-at-none))

pub invariant_of-self-in_err-take : goal.invariant_of-self-in_err-take
invariant_of-self-in_err-take c =
    let at : IsAt (map entry_in c.self.inside.rows.items) c.args.name.now c.in-Ok.place = rw (← c.deref.ensures.value, ← c.as_bytes.ensures.value) c.in-Ok.ensures.found in
    same_sorted c.self.inside c.self.invariant c.args.self.now c.self.view_is c.args.name.now c.in-Ok.place at c.index_mut.result.now c.index_mut.ensures.value (c.own.follows.lender c.take.new.self)
    (lent c.own.result _ c.in_ok-file_system.was (c.own.follows.holds c.take.new.self) ∙ c.in_err-take.ensures.err ∙ c.in_ok-file_system.ensures.value) _ refl refl refl

pub returns-in_err-take-clause-err : goal.returns-in_err-take-clause-err
returns-in_err-take-clause-err c =
    let at : IsAt (map entry_in c.self.inside.rows.items) c.args.name.now c.in-Ok.place = rw (← c.deref.ensures.value, ← c.as_bytes.ensures.value) c.in-Ok.ensures.found in
    on_err c.from_residual-in_err-take.result
    (same_is c.self.inside c.self.invariant c.args.self.now c.self.view_is c.args.name.now c.in-Ok.place at c.index_mut.result.now c.index_mut.ensures.value (c.own.follows.lender c.take.new.self)
    (lent c.own.result _ c.in_ok-file_system.was (c.own.follows.holds c.take.new.self) ∙ c.in_err-take.ensures.err ∙ c.in_ok-file_system.ensures.value))

-- the row has one snapshot more
pub invariant_of-self-2 : goal.invariant_of-self-2
invariant_of-self-2 c =
    let done = (lent c.own.result _ c.in_ok-file_system.was (c.own.follows.holds c.take.new.self) ∙ c.in_ok-take.ensures.ok ∙ ap (λ (r : Row). with_system r (with_snap r.system c.args.component.now c.args.guid.0 c.args.group.0)) c.in_ok-file_system.ensures.value) in
    let rows = map entry_in c.self.inside.rows.items in
    let row = entry_in c.index_mut.result.now in
    let after = entry_in (c.own.follows.lender c.take.new.self) in
    let at : IsAt rows c.args.name.now c.in-Ok.place = rw (← c.deref.ensures.value, ← c.as_bytes.ensures.value) c.in-Ok.ensures.found in
    let is = row_of entry_in c.self.inside.rows.items c.in-Ok.place c.index_mut.result.now c.index_mut.ensures.value in
    let sorted = placed_sorted rows c.self.invariant.sorted c.args.name.now c.in-Ok.place at row is (with_snap row.1 c.args.component.now c.args.guid.0 c.args.group.0) after (ap entry_of done) in
    let longer : length after.1.snaps ≡ length row.1.snaps + 1 =
    ap (λ (r : Entry). length r.1.snaps) (ap entry_of done) ∙ length-append row.1.snaps (plain_snap c.args.component.now row.1.live c.args.guid.0 c.args.group.0 ∷ []) in
    let count : c.in-Some.count ≡ c.self.inside.snapshot_count + 1 = search rules in
    let it = plain_snap c.args.component.now (arc_value c.index_mut.result.now).system.live c.args.guid.0 c.args.group.0 in
    let listed = ap all_snaps (sym c.self.view_is) ∙ snaps_of_all c.self.inside.rows.items c.self.invariant.sorted in
    let fresh : find (λ (t : Snap). same_id (id_of t) (id_of it)) (row_snaps (map arc_value c.self.inside.rows.items)) ≡ None =
    subst (λ (l : List Snap). find (λ (t : Snap). same_id (id_of t) (id_of it)) l ≡ None) listed c.requires.fresh in
    let items = c.self.inside.rows.items in
    let all = map arc_value items in
    let place = row_place c.self.inside.rows.items c.self.invariant.sorted c.self.invariant.tied c.args.name.now c.in-Ok.place at c.index_mut.result.now c.index_mut.ensures.value in
    let within = row_within c.self.inside.rows.items c.self.invariant.sorted c.self.invariant.tied c.args.name.now c.in-Ok.place at c.index_mut.result.now c.index_mut.ensures.value in
    let tied = tied_set all c.in-Ok.place (arc_value (c.own.follows.lender c.take.new.self)) (arc_value c.index_mut.result.now) c.self.invariant.tied within place (ap (λ (r : Row). r.system.origin) done) (ap (λ (r : Row). r.below) done)
    (λ x id h o found. ap (λ (r : Row). map_found r.system.snaps id) done
    ∙ found_more (arc_value c.index_mut.result.now).system.snaps it id (other_id (row_snaps (map arc_value c.self.inside.rows.items)) it id x.below found fresh)) in
    record {
      sorted = rw map-set sorted;
      counted = rw map-set (count ∙ set_counted rows c.in-Ok.place after row 1 c.self.inside.snapshot_count c.self.invariant.sorted sorted at.within is longer c.self.invariant.counted);
      tied = rw map-set tied;
      listed = rw map-set (listed_set rows c.self.invariant.sorted c.args.name.now c.in-Ok.place at row is after c.self.inside.clones (ap (λ (r : Row). r.name) done) (ap (λ (r : Row). r.system.origin) done) c.self.invariant.listed);
    }

pub returns-clause-ok : goal.returns-clause-ok
returns-clause-ok c =
    let done = (lent c.own.result _ c.in_ok-file_system.was (c.own.follows.holds c.take.new.self) ∙ c.in_ok-take.ensures.ok ∙ ap (λ (r : Row). with_system r (with_snap r.system c.args.component.now c.args.guid.0 c.args.group.0)) c.in_ok-file_system.ensures.value) in
    let rows = map entry_in c.self.inside.rows.items in
    let row = entry_in c.index_mut.result.now in
    let at : IsAt rows c.args.name.now c.in-Ok.place = rw (← c.deref.ensures.value, ← c.as_bytes.ensures.value) c.in-Ok.ensures.found in
    let is = row_of entry_in c.self.inside.rows.items c.in-Ok.place c.index_mut.result.now c.index_mut.ensures.value in
    rw (← c.self.view_is, map-set) (made_is rows c.self.invariant.sorted c.args.name.now c.in-Ok.place at row is (λ f. with_snap f c.args.component.now c.args.guid.0 c.args.group.0) (entry_in (c.own.follows.lender c.take.new.self)) (ap entry_of done))
