-- A snapshot goes from a table.
use Rattle.std.proofs.Common.{◌≡◌, ◌<◌, ◌++◌, ◌∷◌, [], ℕ, List, Bool, true, false, cond, Option, Some, None, Result, Ok, Err, refl, sym, ap, subst, ◌∙◌, inl, inr, ⊎_elim, map, arith, true≢false}
use Rattle.std.specs.Prelude.{◌==◌, IfOk, IfSome, OnOk, OnErr, IsSome, is_some, not}
use Rattle.std.specs.List.{find, filter}
use Rattle.std.specs.Option.{option_map_or, option_and_then}
use Rattle.std.specs.FinMap as finmap
use Rattle.std.specs.FinMap.{get, insert}
use Rattle.std.specs.FinSet.{difference}
use Rattle.std.proofs.lemmas.Bool.{eqb-true, eq-eqb, cases_lt}
use Rattle.base.specs.declared.refusal.Refusal.{Refusal}
use Rattle.base.specs.Map.{Map, Block, BlockSet, blocks}
use Rattle.base.specs.Surveys.{IsIn, dead_block}
use Rattle.deadlist.specs.declared.deadlist.Deadlist.{Deadlist}
use Rattle.model.specs.World.{FileSystem, Snap, SnapId, Live, Snapped, id_of, same_id, newest_or_origin, previous_of, map_of}
use Rattle.datasets.specs.Clones.{below_in, below_at}
use Rattle.datasets.specs.Holders.{snap_in_system}
use Rattle.file_system.specs.Dead.{newest_blocks}
use Rattle.file_system.specs.Origins.{origin_group}
use Rattle.file_system.specs.Rows.{live_of, snaps_at}
use Rattle.file_system.specs.Splices.{oldest_blocks, lost_from, without_group, without_snap_of, AreAbove}
use Rattle.file_system.specs.Writes.{newest_group}
use Rattle.world.specs.Sets.{Has}
use Rattle.world.specs.Blocks.{block_order as o, after}
use Rattle.world.specs.Deadlists.{Lists}
use Rattle.world.specs.Shapes.{Name}
use Rattle.world.specs.Worlds.{FileSystems, AreRising}
use Rattle.world.specs.Dead.{below_of, dead_of, IsThere, HasNoCloneIn, next_in}
use Rattle.world.specs.Tables.{Datasets, world_of, without_snap, lost_between}
use Rattle.world.proofs.lists.SetCounts.{same_members, in_difference, from_difference}
use Rattle.world.proofs.lineage.Lineage.{in_after, from_after}
use Rattle.world.proofs.lists.Finding.{from_find, in_left, filter_all, filter_join, same_id_is}
use Rattle.world.proofs.changes.Promotions.{split_at, append_assoc}
use Rattle.world.proofs.removals.WithoutSnaps.{dropped}
use Rattle.world.proofs.lineage.Bridge.{start, starts, start_is, in_middle, rising, rising_once, rising_above, rising_below, rising_after, map_of_live, map_of_kept, previous_of_live, previous_of_kept}
use Rattle.world.proofs.removals.Removals.{dropped_from, drop_systems, drop_loses}
use Rattle.datasets.specs.Table.{IsTable}
use Rattle.datasets.proofs.Kept.{numbers_from}
use Rattle.datasets.proofs.Above.{below_is, base_at, closed, kept, live_above, snap_above}

-- ---- one snapshot among others

is_other : (a b : ℕ) → (a ≡ b → ⊥) → (a == b) ≡ false
is_other a b ne = by_test (a == b) refl
  where
    by_test : (c : Bool) → (a == b) ≡ c → (a == b) ≡ false
    by_test true e = absurd (ne (eqb-true a b e))
    by_test false e = e

-- groups rise from 0 too
pub from_zero : (low : ℕ) (ts : List Snap) → AreRising low ts → AreRising 0 ts
from_zero low [] r = tt
from_zero low (t ∷ ts) r = (let l = r.0 in omega arith, r.1)

module _ (low : ℕ) (older : List Snap) (u : Snap) (newer : List Snap) (up : AreRising low (older ++ u ∷ newer)) where
  pub older_differ : (v : Snap) → IsIn older v → (v.group == u.group) ≡ false
  older_differ v h = is_other v.group u.group (λ e. let l = rising_below low older u newer up v h in absurd (omega arith))

  pub newer_differ : (v : Snap) → IsIn newer v → (v.group == u.group) ≡ false
  newer_differ v h = is_other v.group u.group (λ e. let l = rising_above u.group newer v (rising_after low older u newer up) h in absurd (omega arith))

  others_stay : filter (λ (v : Snap). not (v.group == u.group)) (older ++ u ∷ newer) ≡ older ++ newer
  others_stay =
      filter_join (λ (v : Snap). not (v.group == u.group)) older (u ∷ newer)
      ∙ (λ i. filter_all (λ (v : Snap). not (v.group == u.group)) older (λ v h. ap not (older_differ v h)) i ++ rest i)
    where
      rest : filter (λ (v : Snap). not (v.group == u.group)) (u ∷ newer) ≡ newer
      rest =
          ap (λ b. cond (not b) (u ∷ filter (λ (v : Snap). not (v.group == u.group)) newer) (filter (λ (v : Snap). not (v.group == u.group)) newer)) (eq-eqb u.group u.group refl)
          ∙ filter_all (λ (v : Snap). not (v.group == u.group)) newer (λ v h. ap not (newer_differ v h))

-- what is lost, where the snapshot stands between these
lost_is : (bs : BlockSet) (live : Map) (older : List Snap) (u : Snap) (newer : List Snap) → ((v : Snap) → IsIn older v → (v.group == u.group) ≡ false)
    → lost_from bs (older ++ u ∷ newer) live u.group ≡ difference (difference (blocks u.map) (newest_blocks bs older)) (oldest_blocks live newer)
lost_is bs live [] u newer differ =
    ap (λ b. cond b (difference (difference (blocks u.map) bs) (oldest_blocks live newer)) (lost_from (blocks u.map) newer live u.group)) (eq-eqb u.group u.group refl)
lost_is bs live (v ∷ vs) u newer differ =
    ap (λ b. cond b (difference (difference (blocks v.map) bs) (oldest_blocks live (vs ++ u ∷ newer))) (lost_from (blocks v.map) (vs ++ u ∷ newer) live u.group)) (differ v (inl refl))
    ∙ lost_is (blocks v.map) live vs u newer (λ w h. differ w (inr h))

newest_joined : (bs : BlockSet) (older : List Snap) (u : Snap) → newest_blocks bs (older ++ u ∷ []) ≡ blocks u.map
newest_joined bs [] u = refl
newest_joined bs (v ∷ vs) u = newest_joined (blocks v.map) vs u

-- it is found by its group
found_there : (older : List Snap) (u : Snap) (newer : List Snap) → IsSome (find (λ (v : Snap). v.group == u.group) (older ++ u ∷ newer))
found_there [] u newer = ap (λ b. is_some (cond b (Some u) (find (λ (v : Snap). v.group == u.group) newer))) (eq-eqb u.group u.group refl)
found_there (v ∷ vs) u newer = at (v.group == u.group) (found_there vs u newer)
  where
    at : (b : Bool) → IsSome (find (λ (w : Snap). w.group == u.group) (vs ++ u ∷ newer)) → IsSome (cond b (Some v) (find (λ (w : Snap). w.group == u.group) (vs ++ u ∷ newer)))
    at true h = refl
    at false h = h

-- ---- in a table

module _ (t : Datasets) (sound : IsTable t) (name : Name) (f : FileSystem) (at : get t.file_systems name ≡ Some f) where
  pub rising_at : AreRising 0 f.snaps
  rising_at = from_zero (start t.file_systems t.group sound.systems.lines name f at).base f.snaps (rising t.file_systems t.group sound.systems.lines name f at)

  -- and above the group of the origin
  rising_above_origin : AreRising (origin_group f.origin) f.snaps
  rising_above_origin = subst (λ n. AreRising n f.snaps)
      (start_is (world_of t) t.group sound.systems.lines f.origin (start t.file_systems t.group sound.systems.lines name f at) (starts t.file_systems t.group sound.systems.lines name f at)).1
      (rising t.file_systems t.group sound.systems.lines name f at)

  pub are_above : AreAbove (below_in t.file_systems f.origin) f
  are_above = record {
    rising = rising_above_origin;
    names = (sound.systems.tidy name f at).names;
    each = snap_above t sound name f at;
    live = live_above t sound name f at;
  }

  -- the blocks of what stands below its snapshots, and its group
  abbrev bs : BlockSet
  bs = blocks (below_in t.file_systems f.origin)

  abbrev base : ℕ
  base = origin_group f.origin

  module _ (older : List Snap) (u : Snap) (newer : List Snap) (is : f.snaps ≡ older ++ u ∷ newer) (no_clone : HasNoCloneIn t.file_systems (id_of u)) where
    spliced : IsTable (record t { file_systems = insert t.file_systems name (record f { snaps = older ++ newer }) })
    spliced = record {
      systems = drop_systems t.file_systems t.group sound.systems name f at older u newer is no_clone;
      numbers = numbers_from t (record t { file_systems = insert t.file_systems name (record f { snaps = older ++ newer }) }) sound.systems
          (dropped_from t.file_systems t.group sound.systems name f at older u newer is no_clone) sound.numbers;
    }

    in_snaps : (v : Snap) → IsIn (older ++ u ∷ newer) v → IsIn f.snaps v
    in_snaps v h = subst (λ l. IsIn l v) (sym is) h

    -- the snapshot itself, and those before it
    here : IsThere (world_of t) (Snapped (id_of u))
    here = (name, f, u, at, in_snaps u (in_middle older u newer), refl)

    before : (v : Snap) → IsIn older v → IsIn f.snaps v
    before v h = in_snaps v (in_left older (u ∷ newer) v h)

    previous : previous_of (world_of t) (Snapped (id_of u)) ≡ newest_or_origin f older
    previous = previous_of_kept (world_of t) t.group sound.systems.lines name f older u newer at is

    -- what comes after it has of the snapshot's blocks what it has
    next_dead : dead_of (world_of t) (next_in name newer) ≡ difference (blocks u.map) (oldest_blocks f.live newer)
    unfolding dead_of
    next_dead = by_newer newer is
      where
        after_it : List Snap
        after_it = older ++ u ∷ []

        upto : (ns : List Snap) → f.snaps ≡ older ++ u ∷ ns → (v : Snap) → IsIn (older ++ u ∷ []) v → IsIn f.snaps v
        upto ns e v h = subst (λ l. IsIn l v) (sym (e ∙ sym (append_assoc older (u ∷ []) ns))) (in_left (older ++ u ∷ []) ns v h)

        by_newer : (ns : List Snap) → f.snaps ≡ older ++ u ∷ ns
            → difference (below_of (world_of t) (next_in name ns)) (blocks (map_of (world_of t) (next_in name ns))) ≡ difference (blocks u.map) (oldest_blocks f.live ns)
        by_newer [] e = λ i. difference
            ((below_is t sound name f at (Live name) (f, at) (older ++ u ∷ []) (upto [] e) (previous_of_live (world_of t) t.group sound.systems.lines name f at ∙ ap (newest_or_origin f) e)
            ∙ newest_joined bs older u) i)
            (blocks (map_of_live (world_of t) name f at i))
        by_newer (n ∷ ns) e =
            let split : f.snaps ≡ (older ++ u ∷ []) ++ n ∷ ns = e ∙ sym (append_assoc older (u ∷ []) (n ∷ ns)) in
            let there : IsIn f.snaps n = subst (λ l. IsIn l n) (sym split) (in_middle (older ++ u ∷ []) n ns) in
            λ i. difference
            ((below_is t sound name f at (Snapped (id_of n)) (name, f, n, at, there, refl) (older ++ u ∷ []) (upto (n ∷ ns) e)
            (previous_of_kept (world_of t) t.group sound.systems.lines name f (older ++ u ∷ []) n ns at split) ∙ newest_joined bs older u) i)
            (blocks (map_of_kept (world_of t) t.group sound.systems.lines name f n (id_of n) at there refl i))

    -- its blocks that were born after what stands before it are those that this hasn't
    born_after : after (newest_group base older) (difference (blocks u.map) (oldest_blocks f.live newer)) ≡ difference (difference (blocks u.map) (newest_blocks bs older)) (oldest_blocks f.live newer)
    born_after = same_members o _ _
        (λ b h.
        let x = from_after (newest_group base older) (difference (blocks u.map) (oldest_blocks f.live newer)) b h in
        let y = from_difference o (blocks u.map) (oldest_blocks f.live newer) b x.0 in
        in_difference o (difference (blocks u.map) (newest_blocks bs older)) (oldest_blocks f.live newer) b
        (in_difference o (blocks u.map) (newest_blocks bs older) b y.0 (λ k. let l = closed t sound name f at (Snapped (id_of u)) here older before previous b k in let m = x.1 in omega arith)) y.1)
        (λ b h.
        let x = from_difference o (difference (blocks u.map) (newest_blocks bs older)) (oldest_blocks f.live newer) b h in
        let y = from_difference o (blocks u.map) (newest_blocks bs older) b x.0 in
        in_after (newest_group base older) (difference (blocks u.map) (oldest_blocks f.live newer)) b (in_difference o (blocks u.map) (oldest_blocks f.live newer) b y.0 x.1)
        (late b y.0 y.1))
      where
        own : map_of (world_of t) (Snapped (id_of u)) ≡ u.map
        own = map_of_kept (world_of t) t.group sound.systems.lines name f u (id_of u) at (in_snaps u (in_middle older u newer)) refl

        late : (b : Block) → Has (blocks u.map) b → ¬ (Has (newest_blocks bs older) b) → newest_group base older < b.birth
        late b h out = ⊎_elim
            (λ l. l)
            (λ l. absurd (out (kept t sound name f at (Snapped (id_of u)) here older before previous b (subst (λ m. Has (blocks m) b) (sym own) h) l)))
            (cases_lt (newest_group base older) b.birth)

    spliced_loses : lost_between t (record t { file_systems = insert t.file_systems name (record f { snaps = older ++ newer }) }) ≡ lost_from (blocks (below_in t.file_systems f.origin)) (older ++ u ∷ newer) f.live u.group
    spliced_loses =
        drop_loses (world_of t) sound.systems name f at older u newer is no_clone
        ∙ (λ i. after (base_at t sound name f at (Snapped (id_of u)) here older before previous i) (next_dead i))
        ∙ born_after
        ∙ sym (lost_is bs f.live older u newer (older_differ 0 older u newer (subst (AreRising 0) is rising_at)))

-- it has one of this identity, as was asked
pub is_there : (t u : Datasets) (name : Name) (id : SnapId) (found : Bool) → t ≡ u → found ≡ is_some (snap_in_system u name id) → found ≡ true → is_some (snap_in_system t name id) ≡ true
is_there t u name id found same asked is = ap (λ (x : Datasets). is_some (snap_in_system x name id)) same ∙ sym asked ∙ is

-- the snapshot of this identity, which this file system has
module _ (t : Datasets) (sound : IsTable t) (name : Name) (id : SnapId) (told : is_some (snap_in_system t name id) ≡ true) where
  -- it, and its file system
  pub record IsOf : Type 0 where
    pub system : FileSystem
    pub at : get t.file_systems name ≡ Some system
    pub it : Snap
    pub id_is : id_of it ≡ id
    pub older : List Snap
    pub newer : List Snap
    pub snaps_are : system.snaps ≡ older ++ it ∷ newer

  abbrev has_it : Option FileSystem → Option Snap
  has_it x = find (λ (v : Snap). same_id (id_of v) id) (option_map_or (λ (f : FileSystem). f.snaps) x [])

  pub of : IsOf
  of = by_system (get t.file_systems name) refl
    where
      by_snap : (f : FileSystem) → get t.file_systems name ≡ Some f → (y : Option Snap) → has_it (Some f) ≡ y → is_some y ≡ true → IsOf
      by_snap f e None k h = absurd (true≢false (sym h))
      by_snap f e (Some u) k h =
          let there = from_find (λ (v : Snap). same_id (id_of v) id) f.snaps u k in
          let parts = split_at f.snaps u there.0 in
          record { system = f; at = e; it = u; id_is = same_id_is (id_of u) id there.1; older = parts.0; newer = parts.1; snaps_are = parts.2 }

      by_system : (x : Option FileSystem) → get t.file_systems name ≡ x → IsOf
      by_system None e = absurd (true≢false (sym told ∙ ap (λ x. is_some (has_it x)) e))
      by_system (Some f) e = by_snap f e (has_it (Some f)) refl (sym (ap (λ x. is_some (has_it x)) e) ∙ told)

  group_is : of.it.group ≡ id.group
  group_is = ap (λ (i : SnapId). i.group) of.id_is

  up : AreRising 0 (of.older ++ of.it ∷ of.newer)
  up = subst (AreRising 0) of.snaps_are (rising_at t sound name of.system of.at)

  -- it is the one of its group
  pub told_there : IsSome (find (λ (v : Snap). v.group == id.group) (snaps_at t.file_systems name))
  told_there =
      subst (λ (x : Option FileSystem). IsSome (find (λ (v : Snap). v.group == id.group) (option_map_or (λ (f : FileSystem). f.snaps) x []))) (sym of.at)
      (subst (λ l. IsSome (find (λ (v : Snap). v.group == id.group) l)) (sym of.snaps_are)
      (subst (λ n. IsSome (find (λ (v : Snap). v.group == n) (of.older ++ of.it ∷ of.newer))) group_is (found_there of.older of.it of.newer)))

  -- the snapshots of its group are it
  pub told_once : (u : Snap) → IsIn (snaps_at t.file_systems name) u → u.group ≡ id.group → u ≡ of.it
  told_once u h e = rising_once 0 of.system.snaps u of.it (rising_at t sound name of.system of.at)
      (subst (λ (x : Option FileSystem). IsIn (option_map_or (λ (f : FileSystem). f.snaps) x []) u) of.at h)
      (subst (λ l. IsIn l of.it) (sym of.snaps_are) (in_middle of.older of.it of.newer)) (e ∙ sym group_is)

  -- of which no file system is a clone
  module _ (no_clone : HasNoCloneIn t.file_systems id) where
    none : HasNoCloneIn t.file_systems (id_of of.it)
    none = subst (HasNoCloneIn t.file_systems) (sym of.id_is) no_clone

    pub told_unused : (u : Snap) → IsIn (snaps_at t.file_systems name) u → u.group ≡ id.group → HasNoCloneIn t.file_systems (id_of u)
    told_unused u h e = subst (λ (x : Snap). HasNoCloneIn t.file_systems (id_of x)) (sym (told_once u h e)) none

    after_is : without_snap_of t.file_systems name id.group ≡ insert t.file_systems name (record of.system { snaps = of.older ++ of.newer })
    after_is =
        ap (λ x. option_map_or (λ (f : FileSystem). insert t.file_systems name (without_group f id.group)) x t.file_systems) of.at
        ∙ ap (λ l. insert t.file_systems name (record of.system { snaps = l }))
        (ap (λ n. filter (λ (v : Snap). not (v.group == n)) of.system.snaps) (sym group_is)
        ∙ ap (filter (λ (v : Snap). not (v.group == of.it.group))) of.snaps_are
        ∙ others_stay 0 of.older of.it of.newer up)

    gone_table : IsTable (record t { file_systems = without_snap_of t.file_systems name id.group })
    gone_table = subst (λ ss. IsTable (record t { file_systems = ss })) (sym after_is) (spliced t sound name of.system of.at of.older of.it of.newer of.snaps_are none)

    gone_is : record t { file_systems = without_snap_of t.file_systems name id.group } ≡ without_snap t id
    gone_is = ap (λ ss. record t { file_systems = ss }) (after_is
        ∙ sym (dropped (world_of t) t.group sound.systems (id_of of.it) none
        name of.system of.at of.older of.it of.newer of.snaps_are refl))
        ∙ ap (without_snap t) of.id_is

    gone_loses : lost_from (blocks (below_at t.file_systems name)) (snaps_at t.file_systems name) (live_of t.file_systems name) id.group ≡ lost_between t (record t { file_systems = without_snap_of t.file_systems name id.group })
    gone_loses =
        ap (λ x. lost_from (blocks (below_in t.file_systems (option_and_then (λ (f : FileSystem). f.origin) x))) (option_map_or (λ (f : FileSystem). f.snaps) x []) (option_map_or (λ (f : FileSystem). f.live) x finmap.empty) id.group) of.at
        ∙ ap (λ l. lost_from (blocks (below_in t.file_systems of.system.origin)) l of.system.live id.group) of.snaps_are
        ∙ ap (lost_from (blocks (below_in t.file_systems of.system.origin)) (of.older ++ of.it ∷ of.newer) of.system.live) (sym group_is)
        ∙ sym (spliced_loses t sound name of.system of.at of.older of.it of.newer of.snaps_are none)
        ∙ ap (λ ss. lost_between t (record t { file_systems = ss })) (sym after_is)

    -- what the file systems answer
    module _ (r : Result Deadlist Refusal) (new : FileSystems) (ok : OnOk r (new ≡ without_snap_of t.file_systems name id.group)) where
      pub removed_table : OnErr r (new ≡ t.file_systems) → IsTable (record t { file_systems = new })
      removed_table err = by_result r ok err
        where
          by_result : (x : Result Deadlist Refusal) → OnOk x (new ≡ without_snap_of t.file_systems name id.group) → OnErr x (new ≡ t.file_systems) → IsTable (record t { file_systems = new })
          by_result (Ok d) is e = subst (λ ss. IsTable (record t { file_systems = ss })) (sym is) gone_table
          by_result (Err w) is e = subst (λ ss. IsTable (record t { file_systems = ss })) (sym e) sound

      pub removed_is : OnOk r (record t { file_systems = new } ≡ without_snap t id)
      removed_is = by_result r ok
        where
          by_result : (x : Result Deadlist Refusal) → OnOk x (new ≡ without_snap_of t.file_systems name id.group) → OnOk x (record t { file_systems = new } ≡ without_snap t id)
          by_result (Ok d) is = ap (λ ss. record t { file_systems = ss }) is ∙ gone_is
          by_result (Err w) is = tt

      pub removed_loses : IfOk r (λ d. Lists (map dead_block d.entries) (lost_from (blocks (below_at t.file_systems name)) (snaps_at t.file_systems name) (live_of t.file_systems name) id.group))
          → IfOk r (λ d. Lists (map dead_block d.entries) (lost_between t (record t { file_systems = new })))
      removed_loses = by_result r ok
        where
          by_result : (x : Result Deadlist Refusal) → OnOk x (new ≡ without_snap_of t.file_systems name id.group)
              → IfOk x (λ d. Lists (map dead_block d.entries) (lost_from (blocks (below_at t.file_systems name)) (snaps_at t.file_systems name) (live_of t.file_systems name) id.group))
              → IfOk x (λ d. Lists (map dead_block d.entries) (lost_between t (record t { file_systems = new })))
          by_result (Ok d) is h = subst (Lists (map dead_block d.entries)) (gone_loses ∙ ap (λ ss. lost_between t (record t { file_systems = ss })) (sym is)) h
          by_result (Err w) is h = tt

-- each stands above those before it
pub all_above : (t : Datasets) → IsTable t → (name : Name) → IfSome (get t.file_systems name) (AreAbove (below_at t.file_systems name))
all_above t sound name = by_system (get t.file_systems name) refl
  where
    by_system : (x : Option FileSystem) → get t.file_systems name ≡ x → IfSome x (AreAbove (below_in t.file_systems (option_and_then (λ (f : FileSystem). f.origin) x)))
    by_system None e = tt
    by_system (Some f) e = are_above t sound name f e
