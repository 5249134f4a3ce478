use Rattle.std.proofs.Common.{◌≡◌, ℕ, Bool, true, false, List, map, ap, sym, subst, ◌∙◌}
use Rattle.std.specs.Prelude.{IsTrue, if◌then◌else◌, is_ok}
use Rattle.std.specs.Arc.{arc_value}
use Rattle.std.specs.List.{insert}
use Rattle.std.specs.Option.{option_map}
use Rattle.std.specs.FinMap.{is_sorted, from_sorted}
use Rattle.model.specs.Ids.{snap_id}
use Rattle.datasets.specs.declared.clones.CloneName.{CloneName}
use Rattle.datasets.specs.CloneNames.{CloneSet, CloneKey, key_cmp, key_in, with_key, with_origin, IsInOrder, IsCloneGap, IsCloneAt}
use Rattle.datasets.proofs.CloneKeys.{entered_sorted, entered_is, there_is}
use Rattle.datasets.proofs.Ties.{map_inserted}
use Rattle.datasets.proofs.clones.CloneIndex.enter.Goals as goal

either : (b : Bool) (xs new old : List CloneName) → xs ≡ (if b then new else old) → IsInOrder new → IsInOrder old → IsInOrder xs
either true xs new old e h k = subst IsInOrder (sym e) h
either false xs new old e h k = subst IsInOrder (sym e) k

-- it stands in its gap, or there was no memory for it
pub invariant_of-self : goal.invariant_of-self
invariant_of-self c =
    let items = c.self.inside.entries.items in
    let key : CloneKey = (snap_id c.in-Some.origin, arc_value c.args.name.now) in
    let made : CloneName = record { origin = c.in-Some.origin; name = c.in_ok-name.name } in
    let gap : IsCloneGap (map key_in items) key c.in-Err.place = rw (← c.deref.ensures.value, ← c.deref-2.ensures, ← c.as_bytes.ensures.value) c.in-Err.ensures.absent in
    let more : map key_in (insert items c.in-Err.place made) ≡ insert (map key_in items) c.in-Err.place (key, tt) =
    map_inserted key_in items c.in-Err.place made ∙ ap (λ (n : List ℕ). insert (map key_in items) c.in-Err.place ((snap_id c.in-Some.origin, n), tt)) c.in_ok-name.ensures in
    either (is_ok c.insert.result) c.insert.new.self.items (insert items c.in-Err.place made) items c.insert.ensures.items
    (subst (λ l. IsTrue (is_sorted key_cmp l)) (sym more) (entered_sorted (map key_in items) c.self.invariant key c.in-Err.place gap)) c.self.invariant

pub returns-in_ok-insert-clause-ok : goal.returns-in_ok-insert-clause-ok
returns-in_ok-insert-clause-ok c =
    let items = c.self.inside.entries.items in
    let key : CloneKey = (snap_id c.in-Some.origin, arc_value c.args.name.now) in
    let made : CloneName = record { origin = c.in-Some.origin; name = c.in_ok-name.name } in
    let gap : IsCloneGap (map key_in items) key c.in-Err.place = rw (← c.deref.ensures.value, ← c.deref-2.ensures, ← c.as_bytes.ensures.value) c.in-Err.ensures.absent in
    let more : map key_in (insert items c.in-Err.place made) ≡ insert (map key_in items) c.in-Err.place (key, tt) =
    map_inserted key_in items c.in-Err.place made ∙ ap (λ (n : List ℕ). insert (map key_in items) c.in-Err.place ((snap_id c.in-Some.origin, n), tt)) c.in_ok-name.ensures in
    ap (λ l. from_sorted {R = key_cmp} (map key_in l)) c.in_ok-insert.ensures.items ∙ ap (from_sorted {R = key_cmp}) more
    ∙ entered_is (map key_in items) c.self.invariant key c.in-Err.place gap ∙ ap (λ (s : CloneSet). with_key s key) c.self.view_is
    ∙ ap (λ o. with_origin c.args.self.now (arc_value c.args.name.now) (option_map snap_id o)) (sym c.in-Some.is)

-- it was there
pub returns-in_default-place-clause-ok : goal.returns-in_default-place-clause-ok
returns-in_default-place-clause-ok c =
    let items = c.self.inside.entries.items in
    let key : CloneKey = (snap_id c.in-Some.origin, arc_value c.args.name.now) in
    let at : IsCloneAt (map key_in items) key c.in_default-place.field-0 = rw (← c.deref.ensures.value, ← c.deref-2.ensures, ← c.as_bytes.ensures.value) c.in_default-place.ensures.found in
    sym c.self.view_is ∙ there_is (map key_in items) c.self.invariant key c.in_default-place.field-0 at ∙ ap (λ (s : CloneSet). with_key s key) c.self.view_is
    ∙ ap (λ o. with_origin c.args.self.now (arc_value c.args.name.now) (option_map snap_id o)) (sym c.in-Some.is)
