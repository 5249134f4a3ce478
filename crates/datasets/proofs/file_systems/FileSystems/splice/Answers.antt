use Rattle.std.proofs.Common.{Some, ◌≡◌, ◌+◌, List, [], Option, None, length, map, refl, ap, sym, subst, ◌∙◌, arith, is_some, true≢false}
use Rattle.base.specs.Map.{Map}
use Rattle.std.specs.Prelude.{IfSome, IsSome, ◌==◌}
use Rattle.std.specs.Arc.{arc_value}
use Rattle.std.specs.List.{find}
use Rattle.std.specs.Option.{option_map_or}
use Rattle.std.specs.FinMap.{get, from_sorted}
use Rattle.std.proofs.lemmas.List.{map-set}
use Rattle.model.specs.World.{FileSystem, Snap}
use Rattle.base.specs.Names.{name_cmp}
use Rattle.file_system.specs.Origins.{origin_group}
use Rattle.datasets.specs.Places.{IsAt, IsGapFor}
use Rattle.file_system.specs.Rows.{entry_in, entry_of, Entry, Row, snaps_at, with_system}
use Rattle.file_system.specs.Splices.{AreAbove, without_group}
use Rattle.datasets.proofs.Rows.{on_err, row_of, get_gap, placed_sorted, made_is, rule_here, live_is, snaps_are}
use Rattle.datasets.proofs.Counts.{set_counted_fewer}
use Rattle.file_system.proofs.Stacks.{one_fewer}
use Rattle.base.specs.Surveys.{IsIn}
use Rattle.datasets.specs.Clones.{map_found}
use Rattle.datasets.proofs.Ties.{row_place, row_within, tied_set, row_got, found_filtered, below_is}
use Rattle.datasets.proofs.Listing.{listed_set}
use Rattle.datasets.proofs.Labelled.{lent, not_lent, snap_there, stands_above, same_sorted, same_is}
use Rattle.datasets.proofs.file_systems.FileSystems.splice.Goals as goal

-- a snapshot isn't of a file system that isn't there
pub unreachable-requires : goal.unreachable-requires
unreachable-requires c =
    let gap : IsGapFor (map entry_in c.self.inside.rows.items) c.args.name.now c.in_default.field-0 = rw (← c.deref.ensures.value, ← c.as_bytes.ensures.value) c.in_default.ensures.absent in
    let none : get c.args.self.now c.args.name.now ≡ None = rw (← c.self.view_is) (get_gap _ c.self.invariant.sorted c.args.name.now c.in_default.field-0 gap) in
    true≢false (sym c.requires.there ∙ ap (λ (o : Option FileSystem). is_some (find (λ (t : Snap). t.group == c.args.group.0) (option_map_or (λ (f : FileSystem). f.snaps) o []))) none)

pub splice-requires-clause-there : goal.splice-requires-clause-there
splice-requires-clause-there c =
    let at : IsAt (map entry_in c.self.inside.rows.items) c.args.name.now c.in-Ok.place = rw (← c.deref.ensures.value, ← c.as_bytes.ensures.value) c.in-Ok.ensures.found in
    subst (λ (r : Row). IsSome (find (λ (t : Snap). t.group == c.args.group.0) r.system.snaps)) (sym c.in_ok-file_system.ensures.value)
    (snap_there c.self.inside c.self.invariant c.args.self.now c.self.view_is c.args.name.now c.in-Ok.place at c.index_mut.result.now c.index_mut.ensures.value c.args.group.0 c.requires.there)

pub splice-requires-clause-above : goal.splice-requires-clause-above
splice-requires-clause-above c =
    let at : IsAt (map entry_in c.self.inside.rows.items) c.args.name.now c.in-Ok.place = rw (← c.deref.ensures.value, ← c.as_bytes.ensures.value) c.in-Ok.ensures.found in
    subst (λ (r : Row). AreAbove r.below r.system) (sym c.in_ok-file_system.ensures.value)
    (stands_above c.self.inside c.self.invariant c.args.self.now c.self.view_is c.args.name.now c.in-Ok.place at c.index_mut.result.now c.index_mut.ensures.value c.requires.above)

-- where memory was refused the rows are the same
pub invariant_of-self : goal.invariant_of-self
invariant_of-self c =
    let at : IsAt (map entry_in c.self.inside.rows.items) c.args.name.now c.in-Ok.place = rw (← c.deref.ensures.value, ← c.as_bytes.ensures.value) c.in-Ok.ensures.found in
    same_sorted c.self.inside c.self.invariant c.args.self.now c.self.view_is c.args.name.now c.in-Ok.place at c.index_mut.result.now c.index_mut.ensures.value
    c.own.follows.lender-at-none (not_lent c.own.result _ c.in_err-file_system.was c.own.follows.holds-at-none) _ refl refl refl

pub returns-in_err-file_system-clause-err : goal.returns-in_err-file_system-clause-err
returns-in_err-file_system-clause-err c =
    let at : IsAt (map entry_in c.self.inside.rows.items) c.args.name.now c.in-Ok.place = rw (← c.deref.ensures.value, ← c.as_bytes.ensures.value) c.in-Ok.ensures.found in
    on_err c.from_residual.result
    (same_is c.self.inside c.self.invariant c.args.self.now c.self.view_is c.args.name.now c.in-Ok.place at c.index_mut.result.now c.index_mut.ensures.value
    c.own.follows.lender-at-none (not_lent c.own.result _ c.in_err-file_system.was c.own.follows.holds-at-none))

pub invariant_of-self-in_err-lost : goal.invariant_of-self-in_err-lost
invariant_of-self-in_err-lost c =
    let at : IsAt (map entry_in c.self.inside.rows.items) c.args.name.now c.in-Ok.place = rw (← c.deref.ensures.value, ← c.as_bytes.ensures.value) c.in-Ok.ensures.found in
    same_sorted c.self.inside c.self.invariant c.args.self.now c.self.view_is c.args.name.now c.in-Ok.place at c.index_mut.result.now c.index_mut.ensures.value (c.own.follows.lender c.splice.new.self)
    (lent c.own.result _ c.in_ok-file_system.was (c.own.follows.holds c.splice.new.self) ∙ c.in_err-lost.ensures.err ∙ c.in_ok-file_system.ensures.value) _ refl refl refl

pub returns-in_err-lost-clause-err : goal.returns-in_err-lost-clause-err
returns-in_err-lost-clause-err c =
    let at : IsAt (map entry_in c.self.inside.rows.items) c.args.name.now c.in-Ok.place = rw (← c.deref.ensures.value, ← c.as_bytes.ensures.value) c.in-Ok.ensures.found in
    on_err c.from_residual-in_err-lost.result
    (same_is c.self.inside c.self.invariant c.args.self.now c.self.view_is c.args.name.now c.in-Ok.place at c.index_mut.result.now c.index_mut.ensures.value (c.own.follows.lender c.splice.new.self)
    (lent c.own.result _ c.in_ok-file_system.was (c.own.follows.holds c.splice.new.self) ∙ c.in_err-lost.ensures.err ∙ c.in_ok-file_system.ensures.value))

-- the row has one snapshot fewer
pub overflow_sub-self : goal.overflow_sub-self
overflow_sub-self c =
    let done = (lent c.own.result _ c.in_ok-file_system.was (c.own.follows.holds c.splice.new.self) ∙ c.in_ok-lost.ensures.ok ∙ ap (λ (r : Row). with_system r (without_group r.system c.args.group.0)) c.in_ok-file_system.ensures.value) in
    let rows = map entry_in c.self.inside.rows.items in
    let row = entry_in c.index_mut.result.now in
    let after = entry_in (c.own.follows.lender c.splice.new.self) in
    let at : IsAt rows c.args.name.now c.in-Ok.place = rw (← c.deref.ensures.value, ← c.as_bytes.ensures.value) c.in-Ok.ensures.found in
    let is = row_of entry_in c.self.inside.rows.items c.in-Ok.place c.index_mut.result.now c.index_mut.ensures.value in
    let below = below_is c.self.inside.rows.items c.self.invariant.sorted c.self.invariant.tied c.args.name.now c.in-Ok.place at c.index_mut.result.now c.index_mut.ensures.value in
    let above : AreAbove (arc_value c.index_mut.result.now).below row.1 =
    rule_here _ c.self.invariant.sorted c.args.name.now c.in-Ok.place at row is (AreAbove (arc_value c.index_mut.result.now).below)
    (subst (λ (b : Map). IfSome (get (from_sorted {R = name_cmp} (map entry_in c.self.inside.rows.items)) c.args.name.now) (AreAbove b)) below (rw c.self.view_is c.requires.above)) in
    let snaps = ap (λ m. snaps_at m c.args.name.now) (sym c.self.view_is) ∙ snaps_are _ c.self.invariant.sorted c.args.name.now c.in-Ok.place at row is in
    let there : IsSome (find (λ (t : Snap). t.group == c.args.group.0) row.1.snaps) = subst (λ (l : List Snap). IsSome (find (λ (t : Snap). t.group == c.args.group.0) l)) snaps c.requires.there in
    let shorter : length after.1.snaps + 1 ≡ length row.1.snaps = ap (λ (r : Entry). length r.1.snaps + 1) (ap entry_of done) ∙ one_fewer (origin_group row.1.origin) c.args.group.0 row.1.snaps above.rising there in
    let sorted = placed_sorted rows c.self.invariant.sorted c.args.name.now c.in-Ok.place at row is (without_group row.1 c.args.group.0) after (ap entry_of done) in
    let counts = set_counted_fewer rows c.in-Ok.place after row 1 c.self.inside.snapshot_count c.self.invariant.sorted sorted at.within is shorter c.self.invariant.counted in
    omega arith

pub invariant_of-self-2 : goal.invariant_of-self-2
invariant_of-self-2 c =
    let done = (lent c.own.result _ c.in_ok-file_system.was (c.own.follows.holds c.splice.new.self) ∙ c.in_ok-lost.ensures.ok ∙ ap (λ (r : Row). with_system r (without_group r.system c.args.group.0)) c.in_ok-file_system.ensures.value) in
    let rows = map entry_in c.self.inside.rows.items in
    let row = entry_in c.index_mut.result.now in
    let after = entry_in (c.own.follows.lender c.splice.new.self) in
    let at : IsAt rows c.args.name.now c.in-Ok.place = rw (← c.deref.ensures.value, ← c.as_bytes.ensures.value) c.in-Ok.ensures.found in
    let is = row_of entry_in c.self.inside.rows.items c.in-Ok.place c.index_mut.result.now c.index_mut.ensures.value in
    let below = below_is c.self.inside.rows.items c.self.invariant.sorted c.self.invariant.tied c.args.name.now c.in-Ok.place at c.index_mut.result.now c.index_mut.ensures.value in
    let above : AreAbove (arc_value c.index_mut.result.now).below row.1 =
    rule_here _ c.self.invariant.sorted c.args.name.now c.in-Ok.place at row is (AreAbove (arc_value c.index_mut.result.now).below)
    (subst (λ (b : Map). IfSome (get (from_sorted {R = name_cmp} (map entry_in c.self.inside.rows.items)) c.args.name.now) (AreAbove b)) below (rw c.self.view_is c.requires.above)) in
    let snaps = ap (λ m. snaps_at m c.args.name.now) (sym c.self.view_is) ∙ snaps_are _ c.self.invariant.sorted c.args.name.now c.in-Ok.place at row is in
    let there : IsSome (find (λ (t : Snap). t.group == c.args.group.0) row.1.snaps) = subst (λ (l : List Snap). IsSome (find (λ (t : Snap). t.group == c.args.group.0) l)) snaps c.requires.there in
    let shorter : length after.1.snaps + 1 ≡ length row.1.snaps = ap (λ (r : Entry). length r.1.snaps + 1) (ap entry_of done) ∙ one_fewer (origin_group row.1.origin) c.args.group.0 row.1.snaps above.rising there in
    let sorted = placed_sorted rows c.self.invariant.sorted c.args.name.now c.in-Ok.place at row is (without_group row.1 c.args.group.0) after (ap entry_of done) in
    let counts = set_counted_fewer rows c.in-Ok.place after row 1 c.self.inside.snapshot_count c.self.invariant.sorted sorted at.within is shorter c.self.invariant.counted in
    let items = c.self.inside.rows.items in
    let all = map arc_value items in
    let place = row_place c.self.inside.rows.items c.self.invariant.sorted c.self.invariant.tied c.args.name.now c.in-Ok.place at c.index_mut.result.now c.index_mut.ensures.value in
    let within = row_within c.self.inside.rows.items c.self.invariant.sorted c.self.invariant.tied c.args.name.now c.in-Ok.place at c.index_mut.result.now c.index_mut.ensures.value in
    let tied = tied_set all c.in-Ok.place (arc_value (c.own.follows.lender c.splice.new.self)) (arc_value c.index_mut.result.now) c.self.invariant.tied within place (ap (λ (r : Row). r.system.origin) done) (ap (λ (r : Row). r.below) done)
    (λ x id h o found. ap (λ (r : Row). map_found r.system.snaps id) done
    ∙ found_filtered c.args.group.0 (arc_value c.index_mut.result.now).system.snaps id
    (λ t k g same. c.requires.unused t (subst (λ (l : List Snap). IsIn l t) (sym snaps) k) g x.name x.system
    (ap (λ m. get m x.name) (sym c.self.view_is) ∙ row_got c.self.inside.rows.items c.self.invariant.sorted x h) (o ∙ ap Some (sym same)))) in
    record {
      sorted = rw map-set sorted;
      counted = rw map-set (omega arith);
      tied = rw map-set tied;
      listed = rw map-set (listed_set rows c.self.invariant.sorted c.args.name.now c.in-Ok.place at row is after c.self.inside.clones (ap (λ (r : Row). r.name) done) (ap (λ (r : Row). r.system.origin) done) c.self.invariant.listed);
    }

pub returns-clause-ok : goal.returns-clause-ok
returns-clause-ok c =
    let done = (lent c.own.result _ c.in_ok-file_system.was (c.own.follows.holds c.splice.new.self) ∙ c.in_ok-lost.ensures.ok ∙ ap (λ (r : Row). with_system r (without_group r.system c.args.group.0)) c.in_ok-file_system.ensures.value) in
    let rows = map entry_in c.self.inside.rows.items in
    let row = entry_in c.index_mut.result.now in
    let at : IsAt rows c.args.name.now c.in-Ok.place = rw (← c.deref.ensures.value, ← c.as_bytes.ensures.value) c.in-Ok.ensures.found in
    let is = row_of entry_in c.self.inside.rows.items c.in-Ok.place c.index_mut.result.now c.index_mut.ensures.value in
    rw (← c.self.view_is, map-set) (made_is rows c.self.invariant.sorted c.args.name.now c.in-Ok.place at row is (λ f. without_group f c.args.group.0) (entry_in (c.own.follows.lender c.splice.new.self)) (ap entry_of done))

pub returns-clause-lost : goal.returns-clause-lost
returns-clause-lost c =
    let rows = map entry_in c.self.inside.rows.items in
    let row = entry_in c.index_mut.result.now in
    let at : IsAt rows c.args.name.now c.in-Ok.place = rw (← c.deref.ensures.value, ← c.as_bytes.ensures.value) c.in-Ok.ensures.found in
    let is = row_of entry_in c.self.inside.rows.items c.in-Ok.place c.index_mut.result.now c.index_mut.ensures.value in
    let before = live_is _ c.self.invariant.sorted c.args.name.now c.in-Ok.place at row is in
    let snaps = snaps_are _ c.self.invariant.sorted c.args.name.now c.in-Ok.place at row is in
    let below = below_is c.self.inside.rows.items c.self.invariant.sorted c.self.invariant.tied c.args.name.now c.in-Ok.place at c.index_mut.result.now c.index_mut.ensures.value in
    rw (← c.self.view_is, before, snaps, below, ← c.in_ok-file_system.ensures.value) c.in_ok-lost.ensures.lost
