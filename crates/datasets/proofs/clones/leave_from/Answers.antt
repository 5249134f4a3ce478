use Rattle.std.proofs.Common.{map, ap, sym, subst, ◌∙◌}
use Rattle.std.specs.Prelude.{IsTrue}
use Rattle.std.specs.Option.{option_map}
use Rattle.std.specs.FinMap.{is_sorted, from_sorted}
use Rattle.model.specs.Ids.{snap_id}
use Rattle.datasets.specs.CloneNames.{CloneKey, key_cmp, key_in, set_of, without_origin, IsCloneGap, IsCloneAt}
use Rattle.datasets.proofs.CloneKeys.{left_in_order, left_is, absent_is}
use Rattle.datasets.proofs.RowGone.{map_removed}
use Rattle.datasets.proofs.clones.leave_from.Goals as goal

-- it is gone from its place
pub returns-in-Ok-clause-order : goal.returns-in-Ok-clause-order
returns-in-Ok-clause-order c =
    let items = c.args.entries.now.items in
    subst (λ l. IsTrue (is_sorted key_cmp l)) (sym (map_removed key_in items c.remove-gone.new.self.items c.in-Ok.place c.remove-gone.ensures.items)) (left_in_order (map key_in items) c.requires.order c.in-Ok.place)

pub returns-in-Ok-clause-set : goal.returns-in-Ok-clause-set
returns-in-Ok-clause-set c =
    let items = c.args.entries.now.items in
    let key : CloneKey = (snap_id c.in-Some.origin, c.args.name.now) in
    let at : IsCloneAt (map key_in items) key c.in-Ok.place = rw (← c.deref.ensures.value, ← c.as_bytes.ensures.value) c.in-Ok.ensures.found in
    ap (from_sorted {R = key_cmp}) (map_removed key_in items c.remove-gone.new.self.items c.in-Ok.place c.remove-gone.ensures.items)
    ∙ left_is (map key_in items) c.requires.order key c.in-Ok.place at
    ∙ ap (λ o. without_origin (set_of items) c.args.name.now (option_map snap_id o)) (sym c.in-Some.is)

-- it wasn't there
pub returns-in_default-place-clause-set : goal.returns-in_default-place-clause-set
returns-in_default-place-clause-set c =
    let items = c.args.entries.now.items in
    let key : CloneKey = (snap_id c.in-Some.origin, c.args.name.now) in
    let gap : IsCloneGap (map key_in items) key c.in_default-place.field-0 = rw (← c.deref.ensures.value, ← c.as_bytes.ensures.value) c.in_default-place.ensures.absent in
    absent_is (map key_in items) c.requires.order key c.in_default-place.field-0 gap
    ∙ ap (λ o. without_origin (set_of items) c.args.name.now (option_map snap_id o)) (sym c.in-Some.is)
