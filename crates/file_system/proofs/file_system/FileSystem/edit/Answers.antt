use Rattle.std.proofs.Common.{◌≡◌, Some, map, set, slice_get, ap, sym, subst, ◌∙◌, arith}
use Rattle.std.specs.Prelude.{OnErr}
use Rattle.std.specs.Arc.{arc_value}
use Rattle.std.specs.FinSet.{difference}
use Rattle.std.specs.List.{find}
use Rattle.std.specs.Option.{option_map}
use Rattle.base.specs.Names.{same_name}
use Rattle.std.specs.Result.{is_ok}
use Rattle.base.specs.Map.{blocks}
use Rattle.base.specs.Surveys.{dead_block}
use Rattle.model.specs.World.{Snap}
use Rattle.snapshots.specs.declared.kept.Kept.{Kept}
use Rattle.snapshots.specs.Index.{AreNamesOnce}
use Rattle.world.specs.Deadlists.{Lists}
use Rattle.world.specs.Worlds.{AreRising}
use Rattle.file_system.specs.Counts.{IsCounted}
use Rattle.file_system.specs.Dead.{snaps_in, newest_blocks, AreAccounted}
use Rattle.file_system.specs.Deferred.{edit_of, edited_at, IsEdited}
use Rattle.file_system.specs.Origins.{origin_id, origin_group, map_below, blocks_below, group_below}
use Rattle.file_system.specs.Rows.{Row, system_of, with_system}
use Rattle.file_system.proofs.Counted.{same_counted}
use Rattle.file_system.proofs.Deferred.{same_name_of, free_name_of, none_kept, same_map_of, edited_snaps, edited_accounted, edited_newest, edited_maps}
use Rattle.file_system.proofs.Stacks.{above_names, rising_from}
use Rattle.file_system.proofs.file_system.FileSystem.edit.Goals as goal

some_is : {A : Type 0} {x y : A} → Some x ≡ Some y → x ≡ y
some_is e = cc

-- each name is one snapshot's, and it keeps its own
pub put_at-requires-clause-once : goal.put_at-requires-clause-once
put_at-requires-clause-once c = subst AreNamesOnce (sym c.in_ok-own.ensures.value)
    (above_names c.args.self.now.below c.args.self.now.system (arc_value c.self.inside.snapshots) c.requires.above (ap (λ (r : Row). r.system.snaps) c.self.view_is))

-- a name that stays
pub put_at-requires-clause-same : goal.put_at-requires-clause-same
put_at-requires-clause-same c same =
    let ks = c.in_ok-own.field-0.now in
    let kept : c.list-kept.result.now ≡ ks = c.list-kept.ensures ∙ c.deref.ensures ∙ sym c.in_ok-own.ensures.value in
    let is : IsEdited (edit_of c.args.edit) ks c.place_of-place.result c.in_ok-next.next = subst (λ l. IsEdited (edit_of c.args.edit) l c.place_of-place.result c.in_ok-next.next) kept c.in_ok-next.ensures.ok in
    ap (option_map (λ (k : Kept). k.snapshot.name)) is.there ∙ ap Some (sym (ap (λ (t : Snap). t.name) is.snapshot ∙ same_name_of c.args.edit is.now.snapshot (sym c.is_rename-renames.ensures ∙ same)))

-- or one that is nobody's
pub put_at-requires-clause-free : goal.put_at-requires-clause-free
put_at-requires-clause-free c new =
    let ks = c.in_ok-own.field-0.now in
    let kept : c.list-kept.result.now ≡ ks = c.list-kept.ensures ∙ c.deref.ensures ∙ sym c.in_ok-own.ensures.value in
    let is : IsEdited (edit_of c.args.edit) ks c.place_of-place.result c.in_ok-next.next = subst (λ l. IsEdited (edit_of c.args.edit) l c.place_of-place.result c.in_ok-next.next) kept c.in_ok-next.ensures.ok in
    let snaps : snaps_in ks ≡ c.args.self.now.system.snaps = ap snaps_in c.in_ok-own.ensures.value ∙ ap (λ (r : Row). r.system.snaps) c.self.view_is in
    ap (λ (t : Snap). find (λ (k : Kept). same_name k.snapshot.name t.name) ks) is.snapshot
    ∙ none_kept ks (edit_of c.args.edit is.now.snapshot).name (ap (find (λ (t : Snap). same_name t.name (edit_of c.args.edit is.now.snapshot).name)) snaps ∙ free_name_of c.args.edit c.args.self.now.system.snaps is.now.snapshot c.requires.free (sym c.is_rename-renames.ensures ∙ new))

-- where memory was refused all is as it was
pub invariant_of-self : goal.invariant_of-self
invariant_of-self c =
    let ks = arc_value c.self.inside.snapshots in
    let same : ks ≡ arc_value c.own.follows.lender-at-none = sym (subst (λ r. OnErr r (arc_value c.own.follows.lender-at-none ≡ ks)) c.in_err-own.was c.own.follows.holds-at-none) in
    let bs = blocks_below (option_map arc_value c.self.inside.origin) in
    record {
      accounted = subst (AreAccounted bs) same c.self.invariant.accounted;
      dead = subst (λ l. Lists (map dead_block (arc_value c.self.inside.dead).entries) (difference (newest_blocks bs (snaps_in l)) (blocks c.self.inside.live))) same c.self.invariant.dead;
      plain = c.self.invariant.plain;
      counted = subst (λ l. IsCounted (map_below (option_map arc_value c.self.inside.origin)) (snaps_in l) c.self.inside.live c.self.inside.counts) same c.self.invariant.counted;
    }

-- its dead list is the same
pub invariant_of-self-2 : goal.invariant_of-self-2
invariant_of-self-2 c =
    let ks = arc_value c.self.inside.snapshots in
    let kept : c.list-kept.result.now ≡ ks = c.list-kept.ensures ∙ c.deref.ensures in
    let live = c.self.inside.live in
    let bs = blocks_below (option_map arc_value c.self.inside.origin) in
    let i = c.place_of-place.result in
    let is : IsEdited (edit_of c.args.edit) ks i c.in_ok-next.next = subst (λ l. IsEdited (edit_of c.args.edit) l i c.in_ok-next.next) kept c.in_ok-next.ensures.ok in
    let changed : arc_value (c.own.follows.lender c.put_at.new.list) ≡ set ks i c.in_ok-next.next = c.own.follows.holds c.put_at.new.list (ap is_ok c.in_ok-own.was) ∙ c.in_ok-put_at.ensures.ok ∙ ap (λ l. set l i c.in_ok-next.next) c.in_ok-own.ensures.value in
    record {
      accounted = subst (AreAccounted bs) (sym changed) (edited_accounted (edit_of c.args.edit) (same_map_of c.args.edit) bs ks i c.in_ok-next.next is c.self.invariant.accounted);
      dead = subst (λ s. Lists (map dead_block (arc_value c.self.inside.dead).entries) (difference s (blocks live)))
          (sym (ap (λ l. newest_blocks bs (snaps_in l)) changed ∙ edited_newest (edit_of c.args.edit) (same_map_of c.args.edit) bs ks i c.in_ok-next.next is)) c.self.invariant.dead;
      plain = c.self.invariant.plain;
      counted = subst (λ l. IsCounted (map_below (option_map arc_value c.self.inside.origin)) (snaps_in l) live c.self.inside.counts) (sym changed)
          (same_counted (map_below (option_map arc_value c.self.inside.origin)) (snaps_in ks) (snaps_in (set ks i c.in_ok-next.next)) live c.self.inside.counts
          (edited_maps (edit_of c.args.edit) (same_map_of c.args.edit) ks i c.in_ok-next.next is) c.self.invariant.counted);
    }

pub returns-clause-ok : goal.returns-clause-ok
returns-clause-ok c =
    let ks = arc_value c.self.inside.snapshots in
    let kept : c.list-kept.result.now ≡ ks = c.list-kept.ensures ∙ c.deref.ensures in
    let live = c.self.inside.live in
    let g = c.args.group.0 in
    let i = c.place_of-place.result in
    let base = group_below (option_map arc_value c.self.inside.origin) in
    let rising : AreRising base (snaps_in ks) = subst (λ (r : Row). AreRising (origin_group r.system.origin) r.system.snaps) (sym c.self.view_is) c.requires.above.rising in
    let at : option_map (λ (k : Kept). k.snapshot.group) (slice_get ks i) ≡ Some g = ap (λ l. option_map (λ (k : Kept). k.snapshot.group) (slice_get l i)) (sym kept) ∙ c.place_of-place.ensures.is in
    let is : IsEdited (edit_of c.args.edit) ks i c.in_ok-next.next = subst (λ l. IsEdited (edit_of c.args.edit) l i c.in_ok-next.next) kept c.in_ok-next.ensures.ok in
    let group : is.now.snapshot.group ≡ g = some_is (sym (ap (option_map (λ (k : Kept). k.snapshot.group)) is.there) ∙ at) in
    let changed : arc_value (c.own.follows.lender c.put_at.new.list) ≡ set ks i c.in_ok-next.next = c.own.follows.holds c.put_at.new.list (ap is_ok c.in_ok-own.was) ∙ c.in_ok-put_at.ensures.ok ∙ ap (λ l. set l i c.in_ok-next.next) c.in_ok-own.ensures.value in
    ap (λ l. record { name = c.self.inside.name.value; system = system_of live l (origin_id (option_map arc_value c.self.inside.origin)) c.self.inside.limits (arc_value c.self.inside.bookmarks); below = map_below (option_map arc_value c.self.inside.origin) }) (ap snaps_in changed ∙ edited_snaps (edit_of c.args.edit) base g i ks c.in_ok-next.next is rising group)
    ∙ ap (λ (r : Row). with_system r (edited_at (edit_of c.args.edit) r.system g)) c.self.view_is

-- the snapshots of a clone rise above 0 too
pub place_of-place-requires-clause-rising : goal.place_of-place-requires-clause-rising
place_of-place-requires-clause-rising c =
    let kept : c.list-kept.result.now ≡ arc_value c.self.inside.snapshots = c.list-kept.ensures ∙ c.deref.ensures in
    let base = group_below (option_map arc_value c.self.inside.origin) in
    let rising : AreRising base (snaps_in (arc_value c.self.inside.snapshots)) =
    subst (λ (r : Row). AreRising (origin_group r.system.origin) r.system.snaps) (sym c.self.view_is) c.requires.above.rising in
    subst (λ l. AreRising 0 (snaps_in l)) (sym kept) (rising_from 0 base (snaps_in (arc_value c.self.inside.snapshots)) (omega arith) rising)
