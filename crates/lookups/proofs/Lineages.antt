-- The walk down a lineage, a file system at a time.
use Rattle.std.proofs.Common.{◌≡◌, ℕ, ◌+◌, ◌<◌, ◌≤◌, ◌^◌, ◌||◌, true, false, List, [], ◌∷◌, ◌++◌, Option, Some, None, map, refl, sym, ap, subst, ◌∙◌, true≢false, inl, inr, ⊎_elim, append_assoc, append-nil, arith}
use Rattle.std.specs.Prelude.{Bool, ◌↔◌, IsTrue, min, nat_lt, IfNone, ◌-◌}
use Rattle.std.specs.List.{list_any, sum_by}
use Rattle.std.specs.Option.{option_map, option_map_or}
use Rattle.std.specs.FinMap.{get}
use Rattle.std.specs.FinSet.{len}
use Rattle.std.proofs.lemmas.Bool.{lt-ltb, le-ltb, ltb-true, ltb-false, false_from_ne_true}
use Rattle.base.specs.Surveys.{IsIn}
use Rattle.base.specs.Names.{same_name}
use Rattle.model.specs.World.{World, FileSystem, Snap, SnapId, Dataset, Snapped, id_of, same_id, snap_at, newest_or_origin, older_of}
use Rattle.world.specs.Blocks.{upto}
use Rattle.world.specs.Dead.{IsThere, group_of, next_in}
use Rattle.world.specs.Sums.{dead_by}
use Rattle.world.specs.Tables.{Datasets, world_of}
use Rattle.world.specs.Worlds.{AreRising}
use Rattle.world.proofs.lineage.Bridge.{in_middle, rising_above, rising_below, rising_after, one_snap, snap_is_at}
use Rattle.world.proofs.lists.Finding.{same_id_is, name_itself, one_name, in_left, in_either}
use Rattle.world.proofs.lists.Maps.{same_value, no_value}
use Rattle.world.proofs.changes.Promotions.{split_at}
use Rattle.datasets.specs.Gone.{Gone, dead_between, lists_reach}
use Rattle.datasets.specs.Origins.{origin_group}
use Rattle.datasets.specs.Rows.{Row}
use Rattle.datasets.specs.Clones.{row_in}
use Rattle.datasets.specs.Table.{IsTable, AreSnapshotsClosed}
use Rattle.datasets.proofs.Removed.{are_above}
use Rattle.limits.specs.Space.{IsPath, on_path, with_next}
use Rattle.limits.proofs.Older.{previous_there, not_older_low}
use Rattle.limits.proofs.Next.{newest_last, next_there, next_previous}
use Rattle.limits.proofs.Walks.{path_join, on_path_join, on_path_range, path_in, older_in}
use Rattle.lookups.specs.Places.{dataset_at, IsPlace, IsHome}
use Rattle.lookups.specs.Since.{is_before, dead_reach, IsDeadSince, HasReached}
use Rattle.lookups.proofs.Between.{IsStretch, first_group, stretch_until, gone_by, gone_reach}

pub if_none : {A P : Type 0} (x : Option A) → P → IfNone x P
if_none None p = p
if_none (Some a) p = tt

-- a test that says whether two names are equal tells them apart by their bytes
pub named_is : {p q r : List ℕ} (b : Bool) → IsTrue b ↔ (p ≡ q) → q ≡ r → b ≡ same_name p r
named_is {p} {q} {r} true h e = sym (ap (same_name p) (sym e ∙ sym (h.0 refl)) ∙ name_itself p)
named_is {p} {q} {r} false h e = sym (false_from_ne_true (same_name p r) (λ t. true≢false (sym (h.1 (one_name p r t ∙ sym e)))))

-- none of some snapshots is the one in question
none_is : (id : SnapId) (us : List Snap) → ((x : Snap) → IsIn us x → same_id id (id_of x) ≡ false) → list_any (same_id id) (map id_of us) ≡ false
none_is id [] none = refl
none_is id (u ∷ us) none = λ i. none u (inl refl) i || none_is id us (λ x k. none x (inr k)) i

-- ---- where a walk stands

-- the greatest u64
abbrev pub top : ℕ
top = 2 ^ 64 - 1

-- A walk down from a dataset in search of a snapshot stands at the one that comes next after the older snapshots of this file system: what is
-- older than that is what is left to search; the dead lists of those that were passed have so many entries, and what was reached is no more
-- than their sums add
pub record IsAt (t : Datasets) (from : Dataset) (id : SnapId) (r : Row) (until : Option ℕ) (gone reached : ℕ) : Type 0 where
  pub row : r ≡ row_in t.file_systems (r.name, r.system)
  pub at : get t.file_systems r.name ≡ Some r.system
  pub older : List Snap
  pub newer : List Snap
  pub snaps_are : r.system.snaps ≡ older ++ newer
  pub until_is : until ≡ first_group newer
  pub same : list_any (same_id id) (older_of (world_of t) from) ≡ list_any (same_id id) (older_of (world_of t) (next_in r.name newer))
  pub sum : ℕ
  pub gone_is : gone ≡ min top sum
  pub passed : ℕ
  pub few : reached ≤ passed
  pub joins :
      (ids : List SnapId) → IsPath (world_of t) id ids (next_in r.name newer)
      → (all : List SnapId) × IsPath (world_of t) id all from × (dead_by (world_of t) id.group (on_path all from) ≡ dead_by (world_of t) id.group (on_path ids (next_in r.name newer)) + sum)
      × (dead_reach (world_of t) (on_path all from) ≡ dead_reach (world_of t) (on_path ids (next_in r.name newer)) + passed)

-- what is told of a dataset whose lineage has the snapshot
pub record IsFound (t : Datasets) (from : Dataset) (id : SnapId) (total all : ℕ) : Type 0 where
  pub gone : IsDeadSince t from id total
  pub reached : HasReached t from id all

-- what the sums over two paths add, one after the other
on_path_reach : (w : World) (ids : List SnapId) (j : SnapId) (js : List SnapId) (d : Dataset)
    → dead_reach w (on_path (ids ++ j ∷ js) d) ≡ dead_reach w (on_path ids (Snapped j)) + dead_reach w (on_path js d)
on_path_reach w [] j js d = omega arith
on_path_reach w (i ∷ is) j js d = let rest = on_path_reach w is j js d in omega (arith, rest)

-- it begins at the dataset itself
pub begins : (t : Datasets) (r : Row) (u : Option Snap) (id : SnapId) (none : ℕ) → none ≤ 0 → IsPlace t r u → IsAt t (dataset_at r u) id r (option_map (λ (s : Snap). s.group) u) 0 none
begins t r None id none least place = record {
  row = place.row;
  at = place.at;
  older = r.system.snaps;
  newer = [];
  snaps_are = sym (append-nil r.system.snaps);
  until_is = refl;
  same = refl;
  sum = 0;
  gone_is = refl;
  passed = 0;
  few = omega (arith, least);
  joins = λ ids p. (ids, p, omega arith, omega arith);
}
begins t r (Some u) id none least place =
    let parts = split_at r.system.snaps u place.snap in
    record {
      row = place.row;
      at = place.at;
      older = parts.0;
      newer = u ∷ parts.1;
      snaps_are = parts.2;
      until_is = refl;
      same = refl;
      sum = 0;
      gone_is = refl;
      passed = 0;
      few = omega (arith, least);
      joins = λ ids p. (ids, p, omega arith, omega arith);
    }

module _ (t : Datasets) (sound : IsTable t) (from : Dataset) (id : SnapId) (owner : List ℕ) (home : IsHome t owner id) (r : Row) (until : Option ℕ) (gone reached : ℕ) (now : IsAt t from id r until gone reached) where
  there : IsThere (world_of t) (next_in r.name now.newer)
  there = next_there (world_of t) sound.systems r.name r.system now.older now.newer now.at now.snaps_are

  ups : AreRising (origin_group r.system.origin) r.system.snaps
  ups = (are_above t sound r.name r.system now.at).rising

  -- where the walk has come, and what the stretch before it counts
  found_at : (mid : List Snap) (o : SnapId) (rest : ℕ) → o ≡ id → (past : List Snap) → r.system.snaps ≡ past ++ (mid ++ now.newer) → newest_or_origin r.system past ≡ Some o
      → rest ≡ min top (dead_by (world_of t) id.group (with_next r.name mid now.newer)) → (total : ℕ) → total ≡ min (gone + rest) top
      → (all : ℕ) → all ≤ reached + dead_reach (world_of t) (with_next r.name mid now.newer) → IsFound t from id total all
  found_at mid o rest is past snaps_are newest rest_is total total_is all few =
      let p = subst (λ i. IsPath (world_of t) i (map id_of mid) (next_in r.name now.newer)) is (path_in (world_of t) sound.systems r.name r.system now.at past mid now.newer snaps_are o newest) in
      let j = now.joins (map id_of mid) p in
      let e = j.2 in
      let many = j.3 in
      let s = ap (dead_by (world_of t) id.group) (on_path_range r.name mid now.newer) in
      let n = ap (dead_reach (world_of t)) (on_path_range r.name mid now.newer) in
      let g = now.gone_is in
      let was = now.few in
      record {
        gone = record { ids = j.0; path = j.1; counted = omega (arith, e, s, g, rest_is, total_is) };
        reached = record { ids = j.0; path = j.1; few = omega (arith, few, was, many, n) };
      }

  -- ---- the snapshot is of another file system

  module _ (other : same_name r.name owner ≡ false) where
    none_here : (x : Snap) → IsIn r.system.snaps x → same_id id (id_of x) ≡ false
    none_here x i = false_from_ne_true _ (λ e.
        let one = one_snap t.file_systems t.group sound.systems.lines r.name owner r.system home.system x home.snap now.at home.at i home.there (sym (same_id_is id (id_of x) e) ∙ sym home.is) in
        true≢false (sym (ap (same_name r.name) (sym one.0) ∙ name_itself r.name) ∙ other))

    before_origin : list_any (same_id id) (older_of (world_of t) from) ≡ option_map_or (λ o. same_id id o || list_any (same_id id) (older_of (world_of t) (Snapped o))) r.system.origin false
    before_origin =
        now.same ∙ older_in (world_of t) sound.systems r.name r.system now.at id now.older now.newer now.snaps_are
        ∙ ap (λ b. b || option_map_or (λ o. same_id id o || list_any (same_id id) (older_of (world_of t) (Snapped o))) r.system.origin false)
        (none_is id now.older (λ x i. none_here x (subst (λ l. IsIn l x) (sym now.snaps_are) (in_left now.older now.newer x i))))

    -- there is no origin, so that it isn't older
    pub ends_here : r.system.origin ≡ None → is_before t from id ≡ false
    ends_here e = before_origin ∙ ap (λ x. option_map_or (λ o. same_id id o || list_any (same_id id) (older_of (world_of t) (Snapped o))) x false) e

    whole : IsStretch None until [] now.older now.newer
    whole = stretch_until (origin_group r.system.origin) None until [] now.older now.newer (subst (AreRising (origin_group r.system.origin)) now.snaps_are ups) now.until_is
        (λ x i. absurd i) (λ x i. refl)

    module _ (o : SnapId) (origin : r.system.origin ≡ Some o) (rest : ℕ)
        (rest_is : rest ≡ min top (sum_by (λ (g : Gone). len (upto id.group g.blocks)) (dead_between None until r))) where
      rest_counts : rest ≡ min top (dead_by (world_of t) id.group (with_next r.name now.older now.newer))
      rest_counts =
          rest_is ∙ ap (min top) (ap (λ x. sum_by (λ (g : Gone). len (upto id.group g.blocks)) (dead_between None until x)) now.row
          ∙ gone_by t sound r.name r.system now.at id.group None until [] now.older now.newer now.snaps_are whole)

      at_origin : list_any (same_id id) (older_of (world_of t) from) ≡ (same_id id o || list_any (same_id id) (older_of (world_of t) (Snapped o)))
      at_origin = before_origin ∙ ap (λ x. option_map_or (λ o. same_id id o || list_any (same_id id) (older_of (world_of t) (Snapped o))) x false) origin

      origin_path : IsPath (world_of t) o (map id_of now.older) (next_in r.name now.newer)
      origin_path = path_in (world_of t) sound.systems r.name r.system now.at [] now.older now.newer now.snaps_are o origin

      pub origin_there : IsThere (world_of t) (Snapped o)
      origin_there =
          previous_there (world_of t) sound.systems (next_in r.name r.system.snaps) o (next_there (world_of t) sound.systems r.name r.system [] r.system.snaps now.at refl)
          (next_previous (world_of t) sound.systems r.name r.system [] r.system.snaps now.at refl ∙ origin)

      pub origin_found : snap_at (world_of t) o ≡ None → ⊥
      origin_found e = at origin_there
        where
          at : IsThere (world_of t) (Snapped o) → ⊥
          at (name, f, u, f_at, i, is) = no_value (name, u) (sym e ∙ snap_is_at (world_of t) t.group sound.systems.lines name f u o f_at i is)

      -- what the sums over the dead lists here add
      passed_reach : lists_reach (dead_between None until r) ≡ dead_reach (world_of t) (with_next r.name now.older now.newer)
      passed_reach = ap (λ x. lists_reach (dead_between None until x)) now.row ∙ gone_reach t sound r.name r.system now.at None until [] now.older now.newer now.snaps_are whole

      -- the origin is it
      pub found_below : o ≡ id → (total : ℕ) → total ≡ min (gone + rest) top → (all : ℕ) → all ≤ reached + lists_reach (dead_between None until r) → IsFound t from id total all
      found_below is total total_is all few =
          found_at now.older o rest is [] now.snaps_are origin rest_counts total total_is all (let n = passed_reach in omega (arith, few, n))

      -- the origin is another one, and no newer
      pub passed_by : (o ≡ id → ⊥) → o.group ≤ id.group → is_before t from id ≡ false
      passed_by differ low =
          at_origin
          ∙ (λ i. other_id i || not_older_low (world_of t) sound.systems id (Snapped o) origin_there low i)
        where
          other_id : same_id id o ≡ false
          other_id = false_from_ne_true _ (λ e. differ (sym (same_id_is id o e)))

      -- the walk goes on from the origin, which is newer
      pub goes_on : id.group < o.group → (next : Row) (u : Snap) → IsPlace t next (Some u) → id_of u ≡ o → (total : ℕ) → total ≡ min (gone + rest) top
          → (all : ℕ) → all ≤ reached + lists_reach (dead_between None until r) → IsAt t from id next (Some o.group) total all
      goes_on high next u place is total total_is all few =
          let parts = split_at next.system.snaps u place.snap in
          let g = now.gone_is in
          let c = rest_counts in
          record {
            row = place.row;
            at = place.at;
            older = parts.0;
            newer = u ∷ parts.1;
            snaps_are = parts.2;
            until_is = ap (λ (i : SnapId). Some i.group) (sym is);
            same = at_origin ∙ ap (λ b. b || list_any (same_id id) (older_of (world_of t) (Snapped o))) other_id ∙ ap (λ i. list_any (same_id id) (older_of (world_of t) (Snapped i))) (sym is);
            sum = dead_by (world_of t) id.group (with_next r.name now.older now.newer) + now.sum;
            gone_is = omega (arith, g, c, total_is);
            passed = dead_reach (world_of t) (with_next r.name now.older now.newer) + now.passed;
            few = let n = passed_reach in let was = now.few in omega (arith, few, n, was);
            joins = λ ids p.
                let q = subst (λ i. IsPath (world_of t) id ids (Snapped i)) is p in
                let j = now.joins (ids ++ o ∷ map id_of now.older) (path_join (world_of t) id ids o (map id_of now.older) (next_in r.name now.newer) q origin_path) in
                let e = j.2 in
                let many = j.3 in
                let a = on_path_join (world_of t) id.group ids o (map id_of now.older) (next_in r.name now.newer) in
                let d = ap (dead_by (world_of t) id.group) (on_path_range r.name now.older now.newer) in
                let h = ap (λ i. dead_by (world_of t) id.group (on_path ids (Snapped i))) is in
                let l = on_path_reach (world_of t) ids o (map id_of now.older) (next_in r.name now.newer) in
                let m = ap (dead_reach (world_of t)) (on_path_range r.name now.older now.newer) in
                let k = ap (λ i. dead_reach (world_of t) (on_path ids (Snapped i))) is in
                (j.0, j.1, omega (arith, e, a, d, h), omega (arith, many, l, m, k));
          }
        where
          other_id : same_id id o ≡ false
          other_id = false_from_ne_true _ (λ e. let h = ap (λ (i : SnapId). i.group) (same_id_is id o e) in absurd (omega (arith, h, high)))

    -- groups fall
    pub falls : AreSnapshotsClosed t → (o : SnapId) → r.system.origin ≡ Some o → IsThere (world_of t) (Snapped o) → o.group < option_map_or (λ (g : ℕ). g) until t.group
    falls closed o origin (name, f, u, f_at, u_in, is) = subst (λ x. o.group < option_map_or (λ (g : ℕ). g) x t.group) (sym now.until_is) (by_newer now.newer now.snaps_are)
      where
        by_newer : (ns : List Snap) → r.system.snaps ≡ now.older ++ ns → o.group < option_map_or (λ (g : ℕ). g) (first_group ns) t.group
        by_newer [] e = let l = closed name f u f_at u_in in let h = ap (λ (i : SnapId). i.group) is in omega (arith, l, h)
        by_newer (y ∷ ys) e =
            let l = rising_above (origin_group r.system.origin) r.system.snaps y ups (subst (λ l. IsIn l y) (sym e) (in_middle now.older y ys)) in
            let h = ap (λ x. option_map_or (λ (i : SnapId). i.group) x 0) origin in
            omega (arith, l, h)

  -- ---- the snapshot is of this one

  module _ (home_is : same_name r.name owner ≡ true) where
    system_is : home.system ≡ r.system
    system_is = same_value home.system r.system (sym home.at ∙ ap (get t.file_systems) (sym (one_name r.name owner home_is)) ∙ now.at)

    snap_in : IsIn r.system.snaps home.snap
    snap_in = subst (λ (f : FileSystem). IsIn f.snaps home.snap) system_is home.there

    snap_group : home.snap.group ≡ id.group
    snap_group = ap (λ (i : SnapId). i.group) home.is

    -- and isn't older
    pub too_new : option_map_or (λ (g : ℕ). nat_lt id.group g) until true ≡ false → is_before t from id ≡ false
    too_new e = now.same ∙ by_newer now.newer refl (ap (λ x. option_map_or (λ (g : ℕ). nat_lt id.group g) x true) (sym now.until_is) ∙ e)
      where
        by_newer : (ns : List Snap) → now.newer ≡ ns → option_map_or (λ (g : ℕ). nat_lt id.group g) (first_group ns) true ≡ false
            → list_any (same_id id) (older_of (world_of t) (next_in r.name now.newer)) ≡ false
        by_newer [] is h = absurd (true≢false h)
        by_newer (y ∷ ys) is h =
            let l = ltb-false id.group y.group h in
            not_older_low (world_of t) sound.systems id (next_in r.name now.newer) there
            (subst (λ ns. group_of (world_of t) (next_in r.name ns) ≤ id.group) (sym is) l)

    -- or is
    module _ (later : option_map_or (λ (g : ℕ). nat_lt id.group g) until true ≡ true) where
      snap_older : IsIn now.older home.snap
      snap_older = ⊎_elim (λ i. i) (λ i. absurd (not_newer now.newer refl (ap (λ x. option_map_or (λ (g : ℕ). nat_lt id.group g) x true) (sym now.until_is) ∙ later) i))
          (in_either now.older now.newer home.snap (subst (λ l. IsIn l home.snap) now.snaps_are snap_in))
        where
          not_newer : (ns : List Snap) → now.newer ≡ ns → option_map_or (λ (g : ℕ). nat_lt id.group g) (first_group ns) true ≡ true → IsIn now.newer home.snap → ⊥
          not_newer [] is h i = subst (λ l. IsIn l home.snap) is i
          not_newer (y ∷ ys) is h i =
              let l = ltb-true id.group y.group h in
              let e = snap_group in
              ⊎_elim
              (λ (k : home.snap ≡ y). let g = ap (λ (x : Snap). x.group) k in omega (arith, l, e, g))
              (λ k.
              let up : AreRising (origin_group r.system.origin) (now.older ++ y ∷ ys) = subst (AreRising (origin_group r.system.origin)) (now.snaps_are ∙ ap (λ l. now.older ++ l) is) ups in
              let g = rising_above y.group ys home.snap (rising_after (origin_group r.system.origin) now.older y ys up) k in
              omega (arith, l, e, g))
              (subst (λ l. IsIn l home.snap) is i)

      parts : (xs : List Snap) × (ys : List Snap) × (now.older ≡ xs ++ home.snap ∷ ys)
      parts = split_at now.older home.snap snap_older

      abbrev past : List Snap
      past = parts.0 ++ home.snap ∷ []

      parted : r.system.snaps ≡ past ++ (parts.1 ++ now.newer)
      parted = now.snaps_are ∙ ap (λ l. l ++ now.newer) (parts.2 ∙ sym (append_assoc parts.0 (home.snap ∷ []) parts.1)) ∙ append_assoc past parts.1 now.newer

      up_past : AreRising (origin_group r.system.origin) (past ++ (parts.1 ++ now.newer))
      up_past = subst (AreRising (origin_group r.system.origin)) parted ups

      up_snap : AreRising (origin_group r.system.origin) (parts.0 ++ home.snap ∷ (parts.1 ++ now.newer))
      up_snap = subst (AreRising (origin_group r.system.origin)) (append_assoc parts.0 (home.snap ∷ []) (parts.1 ++ now.newer)) up_past

      cut_stretch : IsStretch (Some id.group) until past parts.1 now.newer
      cut_stretch = stretch_until (origin_group r.system.origin) (Some id.group) until past parts.1 now.newer up_past now.until_is
          (λ x i.
          let e = snap_group in
          le-ltb id.group x.group (⊎_elim
          (λ k. let l = rising_below (origin_group r.system.origin) parts.0 home.snap (parts.1 ++ now.newer) up_snap x k in omega (arith, l, e))
          (λ k. ⊎_elim (λ (j : x ≡ home.snap). let g = ap (λ (y : Snap). y.group) j in omega (arith, g, e)) (λ j. absurd j) k)
          (in_either parts.0 (home.snap ∷ []) x i)))
          (λ x i.
          let e = snap_group in
          let l = rising_above home.snap.group (parts.1 ++ now.newer) x (rising_after (origin_group r.system.origin) parts.0 home.snap (parts.1 ++ now.newer) up_snap) i in
          lt-ltb id.group x.group (omega (arith, l, e)))

      pub found_here : (rest : ℕ) → rest ≡ min top (sum_by (λ (g : Gone). len (upto id.group g.blocks)) (dead_between (Some id.group) until r))
          → (total : ℕ) → total ≡ min (gone + rest) top → (all : ℕ) → all ≤ reached + lists_reach (dead_between (Some id.group) until r) → IsFound t from id total all
      found_here rest rest_is total total_is all few =
          found_at parts.1 (id_of home.snap) rest home.is past parted (newest_last r.system parts.0 home.snap)
          (rest_is ∙ ap (min top) (ap (λ x. sum_by (λ (g : Gone). len (upto id.group g.blocks)) (dead_between (Some id.group) until x)) now.row
          ∙ gone_by t sound r.name r.system now.at id.group (Some id.group) until past parts.1 now.newer parted cut_stretch))
          total total_is all
          (let n = ap (λ x. lists_reach (dead_between (Some id.group) until x)) now.row ∙ gone_reach t sound r.name r.system now.at (Some id.group) until past parts.1 now.newer parted cut_stretch in omega (arith, few, n))
