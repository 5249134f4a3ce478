use Rattle.std.proofs.Common.{◌≡◌, ◌<◌, true, false, Option, None, Some, is_some, length, map, slice_get, refl, sym, ap, subst, ◌∙◌, ⊎_elim, arith, true≢false}
use Rattle.std.proofs.lemmas.List.{length-map}
use Rattle.std.proofs.lemmas.Bool.{cases_lt}
use Rattle.std.specs.Arc.{arc_value}
use Rattle.std.specs.List.{find}
use Rattle.std.specs.Option.{option_copied}
use Rattle.model.specs.Ids.{snap_id}
use Rattle.model.specs.World.{Snap, id_of, same_id}
use Rattle.world.specs.Worlds.{AreRising}
use Rattle.file_system.specs.Rows.{Row}
use Rattle.datasets.proofs.Rows.{row_of}
use Rattle.datasets.proofs.Ties.{in_place, same_at, place_in}
use denote.Ref.{Bor}
use Rattle.datasets.proofs.row.owner_place.Goals as goal

none_copied : {A : Type 0} (o : Option (Bor A)) → is_some o ≡ false → option_copied o ≡ None
none_copied None e = refl
none_copied (Some x) e = absurd (true≢false e)

some_copied : {A : Type 0} (o : Option (Bor A)) → is_some o ≡ true → is_some (option_copied o) ≡ true
some_copied None e = absurd (true≢false (sym e))
some_copied (Some x) e = refl

pub snapshot_of-requires : goal.snapshot_of-requires
snapshot_of-requires c =
    let rows = map arc_value c.args.rows.now in
    let place = row_of arc_value c.args.rows.now c.loop-place.place c.index-rows-place.result c.index-rows-place.is in
    let long = length-map c.args.rows.now arc_value in
    let within : c.loop-place.place < length rows = let test = c.loop-place-test.true in omega arith in
    subst (λ (r : Row). AreRising 0 r.system.snaps) (sym c.deref.ensures) (c.requires (arc_value c.index-rows-place.result) (in_place rows c.loop-place.place (arc_value c.index-rows-place.result) within place))

pub returns-then-is_some-clause-is : goal.returns-then-is_some-clause-is
returns-then-is_some-clause-is c r at =
    let rows = map arc_value c.args.rows.now in
    let place = row_of arc_value c.args.rows.now c.loop-place.place c.index-rows-place.result c.index-rows-place.is in
    let same = same_at rows c.loop-place.place (arc_value c.index-rows-place.result) r place at in
    let found = some_copied c.snapshot_of.result (sym c.is_some.ensures ∙ c.if-is_some.true) in
    subst (λ (x : Row). is_some (find (λ (t : Snap). same_id (id_of t) (snap_id c.args.id)) x.system.snaps) ≡ true) (c.deref.ensures ∙ same) (ap is_some (sym c.snapshot_of.ensures) ∙ found)

pub loop-place-preserved : goal.loop-place-preserved
loop-place-preserved c i r lt at = ⊎_elim
    (λ l. c.loop-place.invariant i r l at)
    (λ l.
    let rows = map arc_value c.args.rows.now in
    let here : i ≡ c.loop-place.place = omega arith in
    let place = row_of arc_value c.args.rows.now c.loop-place.place c.index-rows-place.result c.index-rows-place.is in
    let same = same_at rows c.loop-place.place (arc_value c.index-rows-place.result) r place (ap (slice_get rows) (sym here) ∙ at) in
    let none = none_copied c.snapshot_of.result (sym c.is_some.ensures ∙ c.if-is_some.false) in
    subst (λ (x : Row). find (λ (t : Snap). same_id (id_of t) (snap_id c.args.id)) x.system.snaps ≡ None) (c.deref.ensures ∙ same) (sym c.snapshot_of.ensures ∙ none))
    (cases_lt i c.loop-place.place)

pub returns-clause-none : goal.returns-clause-none
returns-clause-none c r h =
    let rows = map arc_value c.args.rows.now in
    let at = place_in rows r h in
    let long = length-map c.args.rows.now arc_value in
    let ends = c.loop-place-test.false in
    let within = at.1 in
    c.loop-place.invariant at.0 r (omega arith) at.2
