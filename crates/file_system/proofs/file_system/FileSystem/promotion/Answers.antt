use Rattle.std.proofs.Common.{◌≡◌, ◌++◌, suc, Some, take, drop, slice_get, sym, ap, subst, ◌∙◌, add-one, is_some, true}
use Rattle.std.specs.Prelude.{◌==◌}
use Rattle.std.specs.List.{find}
use Rattle.std.specs.Arc.{arc_value}
use Rattle.std.specs.Option.{option_map}
use Rattle.base.specs.Map.{blocks}
use Rattle.model.specs.Ids.{snap_id}
use Rattle.model.specs.World.{Snap}
use Rattle.snapshots.specs.declared.kept.Kept.{Kept}
use Rattle.snapshots.specs.Index.{AreNamesOnce}
use Rattle.world.specs.Worlds.{AreRising}
use Rattle.file_system.specs.Dead.{snaps_in, newest_blocks, AreAccounted}
use Rattle.file_system.specs.Counts.{AreLined}
use Rattle.file_system.specs.Origins.{origin_group, origin_id, map_below}
use Rattle.file_system.specs.Rows.{Row}
use Rattle.file_system.proofs.Promotions.{owner_rising, owner_once, origin_there, joined_once, joined_accounted, joined_newest, joined_snaps, rest_accounted, rest_newest, rest_snaps, joined_line, rest_line}
use Rattle.file_system.proofs.file_system.FileSystem.promotion.Goals as goal

-- ---- the origin among the snapshots of its owner

pub place_of-place-requires-clause-rising : goal.place_of-place-requires-clause-rising
place_of-place-requires-clause-rising c =
    let kept : c.list-kept.result.now ≡ arc_value c.owner.inside.snapshots = c.list-kept.ensures ∙ c.deref.ensures in
    let ks_are = ap (λ (r : Row). r.system.snaps) c.owner.view_is in
    subst (λ l. AreRising 0 (snaps_in l)) (sym kept) (owner_rising c.args.self.now c.args.owner.now (snap_id c.args.origin) c.requires (arc_value c.owner.inside.snapshots) ks_are)

pub place_of-place-requires-clause-there : goal.place_of-place-requires-clause-there
place_of-place-requires-clause-there c =
    let kept : c.list-kept.result.now ≡ arc_value c.owner.inside.snapshots = c.list-kept.ensures ∙ c.deref.ensures in
    let ks_are = ap (λ (r : Row). r.system.snaps) c.owner.view_is in
    subst (λ l. is_some (find (λ (t : Snap). t.group == c.args.origin.group.0) (snaps_in l)) ≡ true) (sym kept)
    (origin_there c.args.self.now c.args.owner.now (snap_id c.args.origin) c.requires (arc_value c.owner.inside.snapshots) ks_are)

pub parted-requires-clause-once : goal.parted-requires-clause-once
parted-requires-clause-once c =
    let ks_are = ap (λ (r : Row). r.system.snaps) c.owner.view_is in
    (owner_once c.args.self.now c.args.owner.now (snap_id c.args.origin) c.requires (arc_value c.owner.inside.snapshots) ks_are)

-- ---- the snapshots of both

pub appended-requires : goal.appended-requires
appended-requires c =
    let ks = arc_value c.owner.inside.snapshots in
    let cs = arc_value c.self.inside.snapshots in
    let i = c.place_of-place.result in
    let ks_are = ap (λ (r : Row). r.system.snaps) c.owner.view_is in
    let cs_are = ap (λ (r : Row). r.system.snaps) c.self.view_is in
    let kept : c.list-kept.result.now ≡ ks = c.list-kept.ensures ∙ c.deref.ensures in
    let at : option_map (λ (k : Kept). k.snapshot.group) (slice_get ks i) ≡ Some c.args.origin.group.0 = ap (λ l. option_map (λ (k : Kept). k.snapshot.group) (slice_get l i)) (sym kept) ∙ c.place_of-place.ensures.is in
    let first : (arc_value c.in_ok-older.older) ≡ take (suc i) ks = c.in_ok-older.ensures.first ∙ ap (λ n. take n ks) (add-one i) in
    let both : (arc_value c.in_ok-older.older) ++ c.deref-2.result.now ≡ take (suc i) ks ++ cs = λ j. first j ++ c.deref-2.ensures j in
    record { once = subst AreNamesOnce (sym both) (joined_once c.args.self.now c.args.owner.now (snap_id c.args.origin) c.requires ks ks_are cs cs_are i at) }

pub line-requires-clause-accounted : goal.line-requires-clause-accounted
line-requires-clause-accounted c =
    let ks = arc_value c.owner.inside.snapshots in
    let cs = arc_value c.self.inside.snapshots in
    let i = c.place_of-place.result in
    let ks_are = ap (λ (r : Row). r.system.snaps) c.owner.view_is in
    let cs_are = ap (λ (r : Row). r.system.snaps) c.self.view_is in
    let kept : c.list-kept.result.now ≡ ks = c.list-kept.ensures ∙ c.deref.ensures in
    let at : option_map (λ (k : Kept). k.snapshot.group) (slice_get ks i) ≡ Some c.args.origin.group.0 = ap (λ l. option_map (λ (k : Kept). k.snapshot.group) (slice_get l i)) (sym kept) ∙ c.place_of-place.ensures.is in
    let first : (arc_value c.in_ok-older.older) ≡ take (suc i) ks = c.in_ok-older.ensures.first ∙ ap (λ n. take n ks) (add-one i) in
    let all : (arc_value c.in_ok-all.all) ≡ take (suc i) ks ++ cs = c.in_ok-all.ensures.ok ∙ (λ j. first j ++ c.deref-2.ensures j) in
    let owned : AreAccounted (blocks c.args.owner.now.below) ks = subst (λ (r : Row). AreAccounted (blocks r.below) ks) c.owner.view_is c.owner.invariant.accounted in
    let own : AreAccounted (blocks c.args.self.now.below) cs = subst (λ (r : Row). AreAccounted (blocks r.below) cs) c.self.view_is c.self.invariant.accounted in
    let done : AreAccounted (blocks c.args.owner.now.below) (take (suc i) ks ++ cs) =
    joined_accounted c.args.self.now c.args.owner.now (snap_id c.args.origin) c.requires ks ks_are cs cs_are i at owned own in
    subst (λ (r : Row). AreAccounted (blocks r.below) (arc_value c.in_ok-all.all)) (sym c.owner.view_is) (subst (AreAccounted (blocks c.args.owner.now.below)) (sym all) done)

pub line-requires-clause-newest : goal.line-requires-clause-newest
line-requires-clause-newest c =
    let ks = arc_value c.owner.inside.snapshots in
    let cs = arc_value c.self.inside.snapshots in
    let i = c.place_of-place.result in
    let ks_are = ap (λ (r : Row). r.system.snaps) c.owner.view_is in
    let cs_are = ap (λ (r : Row). r.system.snaps) c.self.view_is in
    let kept : c.list-kept.result.now ≡ ks = c.list-kept.ensures ∙ c.deref.ensures in
    let at : option_map (λ (k : Kept). k.snapshot.group) (slice_get ks i) ≡ Some c.args.origin.group.0 = ap (λ l. option_map (λ (k : Kept). k.snapshot.group) (slice_get l i)) (sym kept) ∙ c.place_of-place.ensures.is in
    let first : (arc_value c.in_ok-older.older) ≡ take (suc i) ks = c.in_ok-older.ensures.first ∙ ap (λ n. take n ks) (add-one i) in
    let all : (arc_value c.in_ok-all.all) ≡ take (suc i) ks ++ cs = c.in_ok-all.ensures.ok ∙ (λ j. first j ++ c.deref-2.ensures j) in
    ap (λ (r : Row). newest_blocks (blocks r.below) (snaps_in (arc_value c.in_ok-all.all))) c.owner.view_is
    ∙ ap (λ l. newest_blocks (blocks c.args.owner.now.below) (snaps_in l)) all
    ∙ joined_newest c.args.self.now c.args.owner.now (snap_id c.args.origin) c.requires ks ks_are cs cs_are i at

pub line-requires-2-clause-accounted : goal.line-requires-2-clause-accounted
line-requires-2-clause-accounted c =
    let ks = arc_value c.owner.inside.snapshots in
    let cs = arc_value c.self.inside.snapshots in
    let i = c.place_of-place.result in
    let ks_are = ap (λ (r : Row). r.system.snaps) c.owner.view_is in
    let cs_are = ap (λ (r : Row). r.system.snaps) c.self.view_is in
    let kept : c.list-kept.result.now ≡ ks = c.list-kept.ensures ∙ c.deref.ensures in
    let at : option_map (λ (k : Kept). k.snapshot.group) (slice_get ks i) ≡ Some c.args.origin.group.0 = ap (λ l. option_map (λ (k : Kept). k.snapshot.group) (slice_get l i)) (sym kept) ∙ c.place_of-place.ensures.is in
    let rest : (arc_value c.in_ok-older.newer) ≡ drop (suc i) ks = c.in_ok-older.ensures.rest ∙ ap (λ n. drop n ks) (add-one i) in
    let owned : AreAccounted (blocks c.args.owner.now.below) ks = subst (λ (r : Row). AreAccounted (blocks r.below) ks) c.owner.view_is c.owner.invariant.accounted in
    let done : AreAccounted (blocks c.args.self.now.below) (drop (suc i) ks) =
    rest_accounted c.args.self.now c.args.owner.now (snap_id c.args.origin) c.requires ks ks_are cs cs_are i at owned in
    subst (λ (r : Row). AreAccounted (blocks r.below) (arc_value c.in_ok-older.newer)) (sym c.self.view_is) (subst (AreAccounted (blocks c.args.self.now.below)) (sym rest) done)

pub line-requires-2-clause-newest : goal.line-requires-2-clause-newest
line-requires-2-clause-newest c =
    let ks = arc_value c.owner.inside.snapshots in
    let cs = arc_value c.self.inside.snapshots in
    let i = c.place_of-place.result in
    let ks_are = ap (λ (r : Row). r.system.snaps) c.owner.view_is in
    let cs_are = ap (λ (r : Row). r.system.snaps) c.self.view_is in
    let kept : c.list-kept.result.now ≡ ks = c.list-kept.ensures ∙ c.deref.ensures in
    let at : option_map (λ (k : Kept). k.snapshot.group) (slice_get ks i) ≡ Some c.args.origin.group.0 = ap (λ l. option_map (λ (k : Kept). k.snapshot.group) (slice_get l i)) (sym kept) ∙ c.place_of-place.ensures.is in
    let rest : (arc_value c.in_ok-older.newer) ≡ drop (suc i) ks = c.in_ok-older.ensures.rest ∙ ap (λ n. drop n ks) (add-one i) in
    ap (λ (r : Row). newest_blocks (blocks r.below) (snaps_in (arc_value c.in_ok-older.newer))) c.self.view_is
    ∙ ap (λ l. newest_blocks (blocks c.args.self.now.below) (snaps_in l)) rest
    ∙ rest_newest c.args.self.now c.args.owner.now (snap_id c.args.origin) c.requires ks ks_are cs cs_are i at

-- ---- their lines

pub line-requires-clause-line : goal.line-requires-clause-line
line-requires-clause-line c =
    let ks = arc_value c.owner.inside.snapshots in
    let cs = arc_value c.self.inside.snapshots in
    let i = c.place_of-place.result in
    let ks_are = ap (λ (r : Row). r.system.snaps) c.owner.view_is in
    let cs_are = ap (λ (r : Row). r.system.snaps) c.self.view_is in
    let kept : c.list-kept.result.now ≡ ks = c.list-kept.ensures ∙ c.deref.ensures in
    let at : option_map (λ (k : Kept). k.snapshot.group) (slice_get ks i) ≡ Some c.args.origin.group.0 = ap (λ l. option_map (λ (k : Kept). k.snapshot.group) (slice_get l i)) (sym kept) ∙ c.place_of-place.ensures.is in
    let first : (arc_value c.in_ok-older.older) ≡ take (suc i) ks = c.in_ok-older.ensures.first ∙ ap (λ n. take n ks) (add-one i) in
    let all : (arc_value c.in_ok-all.all) ≡ take (suc i) ks ++ cs = c.in_ok-all.ensures.ok ∙ (λ j. first j ++ c.deref-2.ensures j) in
    subst (λ (r : Row). AreLined r.below (origin_group r.system.origin) (snaps_in (arc_value c.in_ok-all.all)) c.args.self.now.system.live) (sym c.owner.view_is)
    (subst (λ l. AreLined c.args.owner.now.below (origin_group c.args.owner.now.system.origin) (snaps_in l) c.args.self.now.system.live) (sym all)
    (joined_line c.args.self.now c.args.owner.now (snap_id c.args.origin) c.requires ks ks_are cs cs_are i at))

pub line-requires-2-clause-line : goal.line-requires-2-clause-line
line-requires-2-clause-line c =
    let ks = arc_value c.owner.inside.snapshots in
    let cs = arc_value c.self.inside.snapshots in
    let i = c.place_of-place.result in
    let ks_are = ap (λ (r : Row). r.system.snaps) c.owner.view_is in
    let cs_are = ap (λ (r : Row). r.system.snaps) c.self.view_is in
    let kept : c.list-kept.result.now ≡ ks = c.list-kept.ensures ∙ c.deref.ensures in
    let at : option_map (λ (k : Kept). k.snapshot.group) (slice_get ks i) ≡ Some c.args.origin.group.0 = ap (λ l. option_map (λ (k : Kept). k.snapshot.group) (slice_get l i)) (sym kept) ∙ c.place_of-place.ensures.is in
    let rest : (arc_value c.in_ok-older.newer) ≡ drop (suc i) ks = c.in_ok-older.ensures.rest ∙ ap (λ n. drop n ks) (add-one i) in
    subst (λ (r : Row). AreLined r.below (origin_group r.system.origin) (snaps_in (arc_value c.in_ok-older.newer)) c.args.owner.now.system.live) (sym c.self.view_is)
    (subst (λ l. AreLined c.args.self.now.below (origin_group c.args.self.now.system.origin) (snaps_in l) c.args.owner.now.system.live) (sym rest)
    (rest_line c.args.self.now c.args.owner.now (snap_id c.args.origin) c.requires ks ks_are cs cs_are i at))

-- ---- both afterwards

pub returns-clause-promoted : goal.returns-clause-promoted
returns-clause-promoted c =
    let ks = arc_value c.owner.inside.snapshots in
    let cs = arc_value c.self.inside.snapshots in
    let i = c.place_of-place.result in
    let ks_are = ap (λ (r : Row). r.system.snaps) c.owner.view_is in
    let cs_are = ap (λ (r : Row). r.system.snaps) c.self.view_is in
    let kept : c.list-kept.result.now ≡ ks = c.list-kept.ensures ∙ c.deref.ensures in
    let at : option_map (λ (k : Kept). k.snapshot.group) (slice_get ks i) ≡ Some c.args.origin.group.0 = ap (λ l. option_map (λ (k : Kept). k.snapshot.group) (slice_get l i)) (sym kept) ∙ c.place_of-place.ensures.is in
    let first : (arc_value c.in_ok-older.older) ≡ take (suc i) ks = c.in_ok-older.ensures.first ∙ ap (λ n. take n ks) (add-one i) in
    let all : (arc_value c.in_ok-all.all) ≡ take (suc i) ks ++ cs = c.in_ok-all.ensures.ok ∙ (λ j. first j ++ c.deref-2.ensures j) in
    let line_is = c.in_ok-clone.ensures.origin in
    let snaps = ap snaps_in (c.in_ok-clone.ensures.snapshots ∙ all) ∙ joined_snaps c.args.self.now c.args.owner.now (snap_id c.args.origin) c.requires ks ks_are cs cs_are i at in
    let origin = ap origin_id line_is ∙ ap (λ (r : Row). r.system.origin) c.owner.view_is in
    let below = ap map_below line_is ∙ ap (λ (r : Row). r.below) c.owner.view_is in
    λ j. record { name = c.args.self.now.name; system = record c.args.self.now.system { snaps = snaps j; origin = origin j }; below = below j }

pub returns-clause-demoted : goal.returns-clause-demoted
returns-clause-demoted c =
    let ks = arc_value c.owner.inside.snapshots in
    let cs = arc_value c.self.inside.snapshots in
    let i = c.place_of-place.result in
    let ks_are = ap (λ (r : Row). r.system.snaps) c.owner.view_is in
    let cs_are = ap (λ (r : Row). r.system.snaps) c.self.view_is in
    let kept : c.list-kept.result.now ≡ ks = c.list-kept.ensures ∙ c.deref.ensures in
    let at : option_map (λ (k : Kept). k.snapshot.group) (slice_get ks i) ≡ Some c.args.origin.group.0 = ap (λ l. option_map (λ (k : Kept). k.snapshot.group) (slice_get l i)) (sym kept) ∙ c.place_of-place.ensures.is in
    let rest : (arc_value c.in_ok-older.newer) ≡ drop (suc i) ks = c.in_ok-older.ensures.rest ∙ ap (λ n. drop n ks) (add-one i) in
    let line_is = c.in_ok-rest.ensures.origin in
    let snaps = ap snaps_in (c.in_ok-rest.ensures.snapshots ∙ rest) ∙ rest_snaps c.args.self.now c.args.owner.now (snap_id c.args.origin) c.requires ks ks_are cs cs_are i at in
    let origin = ap origin_id line_is ∙ ap (λ (r : Row). r.system.origin) c.self.view_is ∙ c.requires.is in
    let below = ap map_below line_is ∙ ap (λ (r : Row). r.below) c.self.view_is in
    λ j. record { name = c.args.owner.now.name; system = record c.args.owner.now.system { snaps = snaps j; origin = origin j }; below = below j }
