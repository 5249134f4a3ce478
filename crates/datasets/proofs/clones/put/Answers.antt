use Rattle.std.proofs.Common.{◌≡◌, map, ap, sym, subst, ◌∙◌}
use Rattle.std.specs.Prelude.{IsTrue}
use Rattle.std.specs.Arc.{arc_value}
use Rattle.std.specs.List.{insert}
use Rattle.std.specs.Option.{option_map}
use Rattle.std.specs.FinMap.{is_sorted, from_sorted}
use Rattle.model.specs.Ids.{snap_id}
use Rattle.datasets.specs.declared.clones.CloneName.{CloneName}
use Rattle.datasets.specs.CloneNames.{CloneKey, key_cmp, key_in, set_of, with_origin, IsCloneGap, IsCloneAt}
use Rattle.datasets.proofs.CloneKeys.{entered_sorted, entered_is, there_is}
use Rattle.datasets.proofs.Ties.{map_inserted}
use Rattle.datasets.proofs.clones.put.Goals as goal

-- it stands in its gap
pub returns-in-Ok-clause-order : goal.returns-in-Ok-clause-order
returns-in-Ok-clause-order c =
    let items = c.args.entries.now.items in
    let key : CloneKey = (snap_id c.in-Some.origin, arc_value c.args.name) in
    let made : CloneName = record { origin = c.in-Some.origin; name = c.args.name } in
    let gap : IsCloneGap (map key_in items) key c.in-Err.place = rw (← c.deref.ensures.value, ← c.deref-2.ensures, ← c.as_bytes.ensures.value) c.in-Err.ensures.absent in
    let more : map key_in c.insert.new.self.items ≡ insert (map key_in items) c.in-Err.place (key, tt) = ap (map key_in) c.in-Ok.ensures.items ∙ map_inserted key_in items c.in-Err.place made in
    subst (λ l. IsTrue (is_sorted key_cmp l)) (sym more) (entered_sorted (map key_in items) c.requires.order key c.in-Err.place gap)

pub returns-in-Ok-clause-set : goal.returns-in-Ok-clause-set
returns-in-Ok-clause-set c =
    let items = c.args.entries.now.items in
    let key : CloneKey = (snap_id c.in-Some.origin, arc_value c.args.name) in
    let made : CloneName = record { origin = c.in-Some.origin; name = c.args.name } in
    let gap : IsCloneGap (map key_in items) key c.in-Err.place = rw (← c.deref.ensures.value, ← c.deref-2.ensures, ← c.as_bytes.ensures.value) c.in-Err.ensures.absent in
    let more : map key_in c.insert.new.self.items ≡ insert (map key_in items) c.in-Err.place (key, tt) = ap (map key_in) c.in-Ok.ensures.items ∙ map_inserted key_in items c.in-Err.place made in
    ap (from_sorted {R = key_cmp}) more ∙ entered_is (map key_in items) c.requires.order key c.in-Err.place gap
    ∙ ap (λ o. with_origin (set_of items) (arc_value c.args.name) (option_map snap_id o)) (sym c.in-Some.is)

-- it was there
pub returns-in_default-place-clause-set : goal.returns-in_default-place-clause-set
returns-in_default-place-clause-set c =
    let items = c.args.entries.now.items in
    let key : CloneKey = (snap_id c.in-Some.origin, arc_value c.args.name) in
    let at : IsCloneAt (map key_in items) key c.in_default-place.field-0 = rw (← c.deref.ensures.value, ← c.deref-2.ensures, ← c.as_bytes.ensures.value) c.in_default-place.ensures.found in
    there_is (map key_in items) c.requires.order key c.in_default-place.field-0 at
    ∙ ap (λ o. with_origin (set_of items) (arc_value c.args.name) (option_map snap_id o)) (sym c.in-Some.is)
