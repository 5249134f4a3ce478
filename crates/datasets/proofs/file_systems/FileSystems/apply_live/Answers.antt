use Rattle.std.proofs.Common.{◌≡◌, ◌⊎◌, Option, Result, Ok, Err, List, map, refl, sym, ap, subst, ◌∙◌, ⊎_elim}
use Rattle.std.specs.Prelude.{IfErr, OnOk, OnErr}
use Rattle.std.specs.FinMap.{get}
use Rattle.std.specs.Arc.{arc_value}
use Rattle.std.proofs.lemmas.List.{map-set}
use Rattle.base.specs.Map.{Map, blocks}
use Rattle.model.specs.World.{Snap, SnapId}
use Rattle.base.specs.declared.refusal.Refusal.{Refusal}
use Rattle.base.specs.declared.refusal.Refusal.TheVariants.{NoDataset, NoSpace, NoMemory}
use Rattle.tree.proofs.Options.{not_some}
use Rattle.file_system.specs.Dead.{AllowsLive}
use Rattle.file_system.specs.Origins.{origin_group}
use Rattle.file_system.specs.Rows.{Row, entry_in, entry_of, live_of, snaps_at, with_system}
use Rattle.file_system.specs.Splices.{AreAbove}
use Rattle.datasets.specs.Clones.{below_at, origin_at}
use Rattle.datasets.specs.Places.{IsAt, IsGapFor}
use Rattle.datasets.proofs.Rows
use Rattle.datasets.proofs.Rows.{row_of, get_gap, is_there, live_is, row_live, row_alone, snaps_are}
use Rattle.datasets.proofs.Ties.{origin_is, below_is}
use Rattle.datasets.proofs.Labelled.{lent, not_lent, not_missing, stands_above, labelled_sorted, same_sorted, same_is}
use Rattle.datasets.proofs.file_systems.FileSystems.apply_live.Goals as goal

-- what holds in any case holds on success
on_ok : {T E P : Type 0} (r : Result T E) → P → OnOk r P
on_ok (Ok v) p = p
on_ok (Err e) p = tt

-- what follows from what holds on failure holds on failure
on_err : {T E P Q : Type 0} (r : Result T E) → (P → Q) → OnErr r P → OnErr r Q
on_err (Ok v) f p = tt
on_err (Err e) f p = f p

-- a tree doesn't tell of names
other_refusal : (r : Result (Unit {0}) Refusal) → IfErr r (λ e. (e ≡ NoSpace) ⊎ (e ≡ NoMemory)) → r ≡ Err NoDataset → ⊥
other_refusal r only is = neither (subst (λ (x : Result (Unit {0}) Refusal). IfErr x (λ e. (e ≡ NoSpace) ⊎ (e ≡ NoMemory))) is only)
  where
    neither : (NoDataset ≡ NoSpace) ⊎ (NoDataset ≡ NoMemory) → ⊥
    neither = ⊎_elim (λ e. cc) (λ e. cc)

pub returns-in_default-clause-no_dataset : goal.returns-in_default-clause-no_dataset
returns-in_default-clause-no_dataset c =
    let gap : IsGapFor (map entry_in c.self.inside.rows.items) c.args.name.now c.in_default.field-0 = rw (← c.deref.ensures.value, ← c.as_bytes.ensures.value) c.in_default.ensures.absent in
    (λ _. rw (← c.self.view_is) (get_gap _ c.self.invariant.sorted c.args.name.now c.in_default.field-0 gap), λ _. refl)

pub apply-requires-clause-allowed : goal.apply-requires-clause-allowed
apply-requires-clause-allowed c =
    let at : IsAt (map entry_in c.self.inside.rows.items) c.args.name.now c.in-Ok.place = rw (← c.deref.ensures.value, ← c.as_bytes.ensures.value) c.in-Ok.ensures.found in
    let is = row_of entry_in c.self.inside.rows.items c.in-Ok.place c.index_mut.result.now c.index_mut.ensures.value in
    let live = ap (λ m. live_of m c.args.name.now) (sym c.self.view_is) ∙ live_is _ c.self.invariant.sorted c.args.name.now c.in-Ok.place at (entry_in c.index_mut.result.now) is in
    let snaps = ap (λ m. snaps_at m c.args.name.now) (sym c.self.view_is) ∙ snaps_are _ c.self.invariant.sorted c.args.name.now c.in-Ok.place at (entry_in c.index_mut.result.now) is in
    let below = ap (λ m. below_at m c.args.name.now) (sym c.self.view_is) ∙ below_is c.self.inside.rows.items c.self.invariant.sorted c.self.invariant.tied c.args.name.now c.in-Ok.place at c.index_mut.result.now c.index_mut.ensures.value in
    let origin = ap (λ m. origin_at m c.args.name.now) (sym c.self.view_is) ∙ origin_is c.self.inside.rows.items c.self.invariant.sorted c.self.invariant.tied c.args.name.now c.in-Ok.place at c.index_mut.result.now c.index_mut.ensures.value in
    let row = arc_value c.index_mut.result.now in
    subst (λ (r : Row). AllowsLive (blocks r.below) (origin_group r.system.origin) r.system.live r.system.snaps c.args.updates.now c.args.group.0 c.args.synced.0 c.args.allocator.now) (sym c.in_ok-file_system.ensures.value)
    (subst (λ (m : Map). AllowsLive (blocks row.below) (origin_group row.system.origin) m row.system.snaps c.args.updates.now c.args.group.0 c.args.synced.0 c.args.allocator.now) live
    (subst (λ (t : List Snap). AllowsLive (blocks row.below) (origin_group row.system.origin) (live_of c.args.self.now c.args.name.now) t c.args.updates.now c.args.group.0 c.args.synced.0 c.args.allocator.now) snaps
    (subst (λ (o : Option SnapId). AllowsLive (blocks row.below) (origin_group o) (live_of c.args.self.now c.args.name.now) (snaps_at c.args.self.now c.args.name.now) c.args.updates.now c.args.group.0 c.args.synced.0 c.args.allocator.now) origin
    (subst (λ (m : Map). AllowsLive (blocks m) (origin_group (origin_at c.args.self.now c.args.name.now)) (live_of c.args.self.now c.args.name.now) (snaps_at c.args.self.now c.args.name.now) c.args.updates.now c.args.group.0 c.args.synced.0 c.args.allocator.now) below c.requires.allowed))))

pub apply-requires-clause-above : goal.apply-requires-clause-above
apply-requires-clause-above c =
    let at : IsAt (map entry_in c.self.inside.rows.items) c.args.name.now c.in-Ok.place = rw (← c.deref.ensures.value, ← c.as_bytes.ensures.value) c.in-Ok.ensures.found in
    subst (λ (r : Row). AreAbove r.below r.system) (sym c.in_ok-file_system.ensures.value)
    (stands_above c.self.inside c.self.invariant c.args.self.now c.self.view_is c.args.name.now c.in-Ok.place at c.index_mut.result.now c.index_mut.ensures.value c.requires.above)

-- where memory was refused the rows are the same
pub invariant_of-self : goal.invariant_of-self
invariant_of-self c =
    let at : IsAt (map entry_in c.self.inside.rows.items) c.args.name.now c.in-Ok.place = rw (← c.deref.ensures.value, ← c.as_bytes.ensures.value) c.in-Ok.ensures.found in
    same_sorted c.self.inside c.self.invariant c.args.self.now c.self.view_is c.args.name.now c.in-Ok.place at c.index_mut.result.now c.index_mut.ensures.value
    c.own.follows.lender-at-none (not_lent c.own.result _ c.in_err-file_system.was c.own.follows.holds-at-none) _ refl refl refl

pub returns-in_err-file_system-clause-err : goal.returns-in_err-file_system-clause-err
returns-in_err-file_system-clause-err c =
    let at : IsAt (map entry_in c.self.inside.rows.items) c.args.name.now c.in-Ok.place = rw (← c.deref.ensures.value, ← c.as_bytes.ensures.value) c.in-Ok.ensures.found in
    Rows.on_err c.from_residual.result
    (same_is c.self.inside c.self.invariant c.args.self.now c.self.view_is c.args.name.now c.in-Ok.place at c.index_mut.result.now c.index_mut.ensures.value
    c.own.follows.lender-at-none (not_lent c.own.result _ c.in_err-file_system.was c.own.follows.holds-at-none))

pub returns-in_err-file_system-clause-no_dataset : goal.returns-in_err-file_system-clause-no_dataset
returns-in_err-file_system-clause-no_dataset c =
    let at : IsAt (map entry_in c.self.inside.rows.items) c.args.name.now c.in-Ok.place = rw (← c.deref.ensures.value, ← c.as_bytes.ensures.value) c.in-Ok.ensures.found in
    let is = row_of entry_in c.self.inside.rows.items c.in-Ok.place c.index_mut.result.now c.index_mut.ensures.value in
    let there = is_there _ c.self.invariant.sorted c.args.name.now c.in-Ok.place at (entry_in c.index_mut.result.now) is in (
      λ e. absurd (not_missing c.from_residual.result _ c.from_residual.ensures.1 c.in_err-file_system.ensures.only e),
      λ none. absurd (not_some (get c.args.self.now c.args.name.now) none (rw (← c.self.view_is) there)),
    )

-- the row has another live map
pub invariant_of-self-2 : goal.invariant_of-self-2
invariant_of-self-2 c =
    let at : IsAt (map entry_in c.self.inside.rows.items) c.args.name.now c.in-Ok.place = rw (← c.deref.ensures.value, ← c.as_bytes.ensures.value) c.in-Ok.ensures.found in
    labelled_sorted c.self.inside c.self.invariant c.args.self.now c.self.view_is c.args.name.now c.in-Ok.place at c.index_mut.result.now c.index_mut.ensures.value
    (λ f. record f { live = c.apply.new.self.system.live }) (record { origin = refl; count = refl; found = λ id. refl }) (c.own.follows.lender c.apply.new.self)
    (lent c.own.result _ c.in_ok-file_system.was (c.own.follows.holds c.apply.new.self) ∙ c.apply.ensures.others ∙ ap (λ (r : Row). with_system r (record r.system { live = c.apply.new.self.system.live })) c.in_ok-file_system.ensures.value) _ refl refl refl

pub returns-clause-ok : goal.returns-clause-ok
returns-clause-ok c =
    let at : IsAt (map entry_in c.self.inside.rows.items) c.args.name.now c.in-Ok.place = rw (← c.deref.ensures.value, ← c.as_bytes.ensures.value) c.in-Ok.ensures.found in
    let is = row_of entry_in c.self.inside.rows.items c.in-Ok.place c.index_mut.result.now c.index_mut.ensures.value in
    let kept = ap (λ (r : Row). r.system.live) (lent c.own.result _ c.in_ok-file_system.was (c.own.follows.holds c.apply.new.self)) in
    let alone = ap entry_of (lent c.own.result _ c.in_ok-file_system.was (c.own.follows.holds c.apply.new.self) ∙ c.apply.ensures.others ∙ ap (λ (r : Row). with_system r (record r.system { live = c.apply.new.self.system.live })) c.in_ok-file_system.ensures.value ∙ ap (λ (m : Map). with_system (arc_value c.index_mut.result.now) (record (arc_value c.index_mut.result.now).system { live = m })) (sym kept)) in
    let before = live_is _ c.self.invariant.sorted c.args.name.now c.in-Ok.place at (entry_in c.index_mut.result.now) is in
    let snaps = snaps_are _ c.self.invariant.sorted c.args.name.now c.in-Ok.place at (entry_in c.index_mut.result.now) is in
    let origin = origin_is c.self.inside.rows.items c.self.invariant.sorted c.self.invariant.tied c.args.name.now c.in-Ok.place at c.index_mut.result.now c.index_mut.ensures.value in
    let after = row_live _ c.self.invariant.sorted c.args.name.now c.in-Ok.place at (entry_in c.index_mut.result.now) is (entry_in (c.own.follows.lender c.apply.new.self)) alone in
    rw (← c.self.view_is, map-set, before, snaps, origin, after, kept, ← c.in_ok-file_system.ensures.value) c.apply.ensures.ok

pub returns-clause-others : goal.returns-clause-others
returns-clause-others c =
    let at : IsAt (map entry_in c.self.inside.rows.items) c.args.name.now c.in-Ok.place = rw (← c.deref.ensures.value, ← c.as_bytes.ensures.value) c.in-Ok.ensures.found in
    let is = row_of entry_in c.self.inside.rows.items c.in-Ok.place c.index_mut.result.now c.index_mut.ensures.value in
    let kept = ap (λ (r : Row). r.system.live) (lent c.own.result _ c.in_ok-file_system.was (c.own.follows.holds c.apply.new.self)) in
    let alone = ap entry_of (lent c.own.result _ c.in_ok-file_system.was (c.own.follows.holds c.apply.new.self) ∙ c.apply.ensures.others ∙ ap (λ (r : Row). with_system r (record r.system { live = c.apply.new.self.system.live })) c.in_ok-file_system.ensures.value ∙ ap (λ (m : Map). with_system (arc_value c.index_mut.result.now) (record (arc_value c.index_mut.result.now).system { live = m })) (sym kept)) in
    on_ok c.apply.result
    (rw (← c.self.view_is, map-set) (row_alone _ c.self.invariant.sorted c.args.name.now c.in-Ok.place at (entry_in c.index_mut.result.now) is (entry_in (c.own.follows.lender c.apply.new.self)) alone))

pub returns-clause-err : goal.returns-clause-err
returns-clause-err c =
    let at : IsAt (map entry_in c.self.inside.rows.items) c.args.name.now c.in-Ok.place = rw (← c.deref.ensures.value, ← c.as_bytes.ensures.value) c.in-Ok.ensures.found in
    on_err c.apply.result (λ same. same_is c.self.inside c.self.invariant c.args.self.now c.self.view_is c.args.name.now c.in-Ok.place at c.index_mut.result.now c.index_mut.ensures.value
    (c.own.follows.lender c.apply.new.self) (lent c.own.result _ c.in_ok-file_system.was (c.own.follows.holds c.apply.new.self) ∙ same ∙ c.in_ok-file_system.ensures.value)) c.apply.ensures.err

pub returns-clause-room : goal.returns-clause-room
returns-clause-room c =
    let at : IsAt (map entry_in c.self.inside.rows.items) c.args.name.now c.in-Ok.place = rw (← c.deref.ensures.value, ← c.as_bytes.ensures.value) c.in-Ok.ensures.found in
    let is = row_of entry_in c.self.inside.rows.items c.in-Ok.place c.index_mut.result.now c.index_mut.ensures.value in
    let before = live_is _ c.self.invariant.sorted c.args.name.now c.in-Ok.place at (entry_in c.index_mut.result.now) is in
    let snaps = snaps_are _ c.self.invariant.sorted c.args.name.now c.in-Ok.place at (entry_in c.index_mut.result.now) is in
    let origin = origin_is c.self.inside.rows.items c.self.invariant.sorted c.self.invariant.tied c.args.name.now c.in-Ok.place at c.index_mut.result.now c.index_mut.ensures.value in
    rw (← c.self.view_is, before, snaps, origin, ← c.in_ok-file_system.ensures.value) c.apply.ensures.room

pub returns-clause-no_dataset : goal.returns-clause-no_dataset
returns-clause-no_dataset c =
    let at : IsAt (map entry_in c.self.inside.rows.items) c.args.name.now c.in-Ok.place = rw (← c.deref.ensures.value, ← c.as_bytes.ensures.value) c.in-Ok.ensures.found in
    let is = row_of entry_in c.self.inside.rows.items c.in-Ok.place c.index_mut.result.now c.index_mut.ensures.value in
    let there = is_there _ c.self.invariant.sorted c.args.name.now c.in-Ok.place at (entry_in c.index_mut.result.now) is in
    (λ e. absurd (other_refusal c.apply.result c.apply.ensures.only e), λ none. absurd (not_some (get c.args.self.now c.args.name.now) none (rw (← c.self.view_is) there)))

pub returns-clause-no_space : goal.returns-clause-no_space
returns-clause-no_space c =
    let at : IsAt (map entry_in c.self.inside.rows.items) c.args.name.now c.in-Ok.place = rw (← c.deref.ensures.value, ← c.as_bytes.ensures.value) c.in-Ok.ensures.found in
    let is = row_of entry_in c.self.inside.rows.items c.in-Ok.place c.index_mut.result.now c.index_mut.ensures.value in
    let before = live_is _ c.self.invariant.sorted c.args.name.now c.in-Ok.place at (entry_in c.index_mut.result.now) is in
    let snaps = snaps_are _ c.self.invariant.sorted c.args.name.now c.in-Ok.place at (entry_in c.index_mut.result.now) is in
    let origin = origin_is c.self.inside.rows.items c.self.invariant.sorted c.self.invariant.tied c.args.name.now c.in-Ok.place at c.index_mut.result.now c.index_mut.ensures.value in
    rw (← c.self.view_is, before, snaps, origin, ← c.in_ok-file_system.ensures.value) c.apply.ensures.no_space

pub returns-clause-metered : goal.returns-clause-metered
returns-clause-metered c =
    let at : IsAt (map entry_in c.self.inside.rows.items) c.args.name.now c.in-Ok.place = rw (← c.deref.ensures.value, ← c.as_bytes.ensures.value) c.in-Ok.ensures.found in
    let is = row_of entry_in c.self.inside.rows.items c.in-Ok.place c.index_mut.result.now c.index_mut.ensures.value in
    let before = live_is _ c.self.invariant.sorted c.args.name.now c.in-Ok.place at (entry_in c.index_mut.result.now) is in
    rw (← c.self.view_is, before, ← c.in_ok-file_system.ensures.value) c.apply.ensures.metered
