-- A file system goes back to one of its snapshots: what is newer goes, and then the live map.
use Rattle.std.proofs.Common.{◌≡◌, ℕ, ◌<◌, ◌≤◌, Bool, true, false, cond, not, List, [], ◌∷◌, ◌++◌, Option, Some, None, refl, sym, ap, subst, ◌∙◌, true≢false, ◌⊎◌, inl, inr, ⊎_elim, map, length, arith}
use Rattle.std.specs.Prelude.{nat_le, nat_lt, is_some, ◌&&◌, ◌||◌}
use Rattle.base.specs.declared.refusal.Refusal.{Refusal}
use Rattle.base.specs.declared.refusal.Refusal.TheVariants.{NoDataset, NotNewest, Busy, HasClones}
use Rattle.std.specs.List.{find, filter, last_or, list_any}
use Rattle.std.proofs.lemmas.Bool.{cases_lt, lt-ltb, ltb-true, le-ltb, le-leb, leb-true}
use Rattle.std.specs.Option.{option_map, option_map_or, option_and_then}
use Rattle.std.specs.FinMap as finmap
use Rattle.std.specs.FinMap.{get, insert, same_map}
use Rattle.base.specs.declared.name.member.Member.{Member}
use Rattle.base.specs.declared.name.target.Target.TheVariants.{Snapshot as OfSnapshot}
use Rattle.base.specs.Names.{same_name}
use Rattle.base.specs.Surveys.{IsIn}
use Rattle.snapshots.specs.Marks.{Marks, has_newer, without_newer}
use Rattle.base.specs.Map.{Map}
use Rattle.model.specs.World.{World, FileSystem, Snap, SnapId, id_of}
use Rattle.model.specs.Edits.{without_snaps, with_file_system}
use Rattle.model.specs.State.{Views}
use Rattle.model.specs.requests.Rollback.{snaps_upto, snaps_after, back_at, after_rollback, placed, newer_snaps}
use Rattle.datasets.specs.Losses.{newest_map}
use Rattle.datasets.specs.Origins.{origin_group}
use Rattle.datasets.specs.Writes.{newest_group}
use Rattle.datasets.specs.Rows.{Entry, live_of, snaps_at, with_live}
use Rattle.world.specs.Shapes.{Name, name_order}
use Rattle.world.specs.Worlds.{AreRising, AreFileSystems}
use Rattle.world.specs.Outcomes.{is_one_of}
use Rattle.world.specs.Tables.{Datasets, world_of}
use Rattle.world.proofs.lists.Maps.{key_cases, same_value, no_value}
use Rattle.world.proofs.lists.Listed.{in_map, map_in, length-mapped}
use Rattle.world.proofs.lists.Finding.{from_find, filter_front, filter_all, in_filter, from_filter, in_right}
use Rattle.world.proofs.changes.Promotions.{split_at, upto_is}
use Rattle.world.proofs.lineage.Put.{put_here, put_other}
use Rattle.world.proofs.lineage.Bridge.{start, rising, rising_above, one_snap, snap_is_at, in_middle}
use Rattle.world.proofs.removals.WithoutSnaps.{get-without, any_in, any_from}
use Rattle.removals.specs.Edits.{with_snaps_upto}
use Rattle.removals.specs.Needs.{has_clone, is_held_after, has_clone_and_is_later}
use Rattle.removals.specs.Requests.{rolled, rollback_refusal, refusal_at, with_marks}
use Rattle.removals.proofs.Clones.{outside_is}
use Rattle.removals.proofs.Identified.{without_ids}
use Rattle.removals.proofs.Marked.{marks_put}
use Rattle.removals.proofs.Needed.{is_held_at, later_held}
use Rattle.removals.proofs.Seen.{any_later}
use Rattle.removals.proofs.Yielded.{later_ids}
use Rattle.world.proofs.removals.Rollbacks.{insert_twice}

-- the last snapshots of one file system go
module _ (t : Datasets) (good : AreFileSystems t.file_systems t.group) (r : Entry) (at : get t.file_systems r.0 ≡ Some r.1) (older newer : List Snap) (is : r.1.snaps ≡ older ++ newer) where
  abbrev ids : List SnapId
  ids = map (λ (u : Snap). id_of u) newer

  up : AreRising (start t.file_systems t.group good.lines r.0 r.1 at).base (older ++ newer)
  up = subst (AreRising (start t.file_systems t.group good.lines r.0 r.1 at).base) is (rising t.file_systems t.group good.lines r.0 r.1 at)

  apart : (base : ℕ) (xs ys : List Snap) → AreRising base (xs ++ ys) → (u v : Snap) → IsIn xs u → IsIn ys v → u.group < v.group
  apart base [] ys r u v h k = absurd h
  apart base (x ∷ xs) ys r u v h k = ⊎_elim
      (λ (e : u ≡ x). let l = rising_above x.group (xs ++ ys) v r.1 (in_right xs ys v k) in let m = ap (λ (y : Snap). y.group) e in omega arith)
      (λ i. apart x.group xs ys r.1 u v i k)
      h

  not_any : (u : Snap) → (is_one_of ids u ≡ true → ⊥) → not (is_one_of ids u) ≡ true
  not_any u out = by_test (is_one_of ids u) refl
    where
      by_test : (b : Bool) → is_one_of ids u ≡ b → not (is_one_of ids u) ≡ true
      by_test true e = absurd (out e)
      by_test false e = ap not e

  front : filter (λ u. not (is_one_of ids u)) r.1.snaps ≡ older
  front = ap (filter (λ u. not (is_one_of ids u))) is ∙ filter_front (λ u. not (is_one_of ids u)) older newer
      (λ u h. not_any u (λ e.
      let v = in_map (λ (u : Snap). id_of u) newer (id_of u) (any_from ids (id_of u) e) in
      let l = apart _ older newer up u v.0 h v.1 in
      let m = ap (λ (i : SnapId). i.group) v.2 in
      absurd (omega arith)))
      (λ u h e. true≢false (sym e ∙ ap not (any_in ids (id_of u) (id_of u) (map_in (λ (u : Snap). id_of u) newer u h) refl)))

  elsewhere : (q : Name) (x : FileSystem) → ¬ (q ≡ r.0) → get t.file_systems q ≡ Some x → filter (λ u. not (is_one_of ids u)) x.snaps ≡ x.snaps
  elsewhere q x ne e = filter_all (λ u. not (is_one_of ids u)) x.snaps (λ u h. not_any u (λ k.
      let v = in_map (λ (u : Snap). id_of u) newer (id_of u) (any_from ids (id_of u) k) in
      ne (one_snap t.file_systems t.group good.lines q r.0 x r.1 u v.0 e at h (subst (λ l. IsIn l v.0) (sym is) (in_right older newer v.0 v.1)) v.2).0))

  shorter : (without_snaps (world_of t) (is_one_of ids)).file_systems ≡ insert t.file_systems r.0 (record r.1 { snaps = older })
  shorter = same_map name_order.total name_order.exact _ _ (λ n. get-without (world_of t) (is_one_of ids) n ∙ ⊎_elim
      (λ (same : n ≡ r.0).
      ap (option_map (λ (s : FileSystem). record s { snaps = filter (λ t. not (is_one_of ids t)) s.snaps })) (ap (get t.file_systems) same ∙ at)
      ∙ ap (λ l. Some (record r.1 { snaps = l })) front
      ∙ sym (put_here t.file_systems r.0 (record r.1 { snaps = older })) ∙ ap (get (insert t.file_systems r.0 (record r.1 { snaps = older }))) (sym same))
      (λ (ne : ¬ (n ≡ r.0)). by_old n ne (get t.file_systems n) refl ∙ sym (put_other t.file_systems r.0 (record r.1 { snaps = older }) n ne))
      (key_cases name_order n r.0))
    where
      by_old : (n : Name) → ¬ (n ≡ r.0) → (y : Option FileSystem) → get t.file_systems n ≡ y
          → option_map (λ (s : FileSystem). record s { snaps = filter (λ t. not (is_one_of ids t)) s.snaps }) (get t.file_systems n) ≡ get t.file_systems n
      by_old n ne None e = ap (option_map (λ (s : FileSystem). record s { snaps = filter (λ t. not (is_one_of ids t)) s.snaps })) e ∙ sym e
      by_old n ne (Some x) e = ap (option_map (λ (s : FileSystem). record s { snaps = filter (λ t. not (is_one_of ids t)) s.snaps })) e ∙ ap (λ l. Some (record x { snaps = l })) (elsewhere n x ne e) ∙ sym e

  last_go : without_ids t (map {A = Snap} id_of newer) ≡ record t { file_systems = insert t.file_systems r.0 (record r.1 { snaps = older }) }
  last_go = ap (λ ss. record t { file_systems = ss }) shorter

-- the snapshots up to a group, and then the others
pub all_later : (g base : ℕ) (ts : List Snap) → g ≤ base → AreRising base ts → (filter (λ (u : Snap). nat_le u.group g) ts ≡ []) × (filter (λ (u : Snap). nat_lt g u.group) ts ≡ ts)
all_later g base ts le up = (
  filter_front (λ (u : Snap). nat_le u.group g) [] ts (λ u i. absurd i) (λ u i e. let l = leb-true u.group g e in let m = rising_above base ts u up i in absurd (omega (arith, l, m, le))),
  filter_all (λ (u : Snap). nat_lt g u.group) ts (λ u i. let m = rising_above base ts u up i in lt-ltb g u.group (omega (arith, m, le))),
)

two_parts : (g base : ℕ) (ts : List Snap) → AreRising base ts → ts ≡ filter (λ (u : Snap). nat_le u.group g) ts ++ filter (λ (u : Snap). nat_lt g u.group) ts
two_parts g base [] up = refl
two_parts g base (t ∷ ts) up = ⊎_elim
    (λ l. let parts = all_later g g (t ∷ ts) (omega arith) (l, up.1) in sym (λ i. parts.0 i ++ parts.1 i))
    (λ l.
    let upto : nat_le t.group g ≡ true = le-leb t.group g l in
    let later : nat_lt g t.group ≡ false = le-ltb g t.group l in
    ap (λ us. t ∷ us) (two_parts g t.group ts up.1)
    ∙ sym (λ i. cond (upto i) (t ∷ filter (λ (u : Snap). nat_le u.group g) ts) (filter (λ (u : Snap). nat_le u.group g) ts)
    ++ cond (later i) (t ∷ filter (λ (u : Snap). nat_lt g u.group) ts) (filter (λ (u : Snap). nat_lt g u.group) ts)))
    (cases_lt g t.group)

-- a file system that is there has its snapshots up to a group
module _ (t : Datasets) (r : Entry) (at : get t.file_systems r.0 ≡ Some r.1) (g : ℕ) where
  pub upto_at : with_snaps_upto t r.0 g ≡ record t { file_systems = insert t.file_systems r.0 (record r.1 { snaps = snaps_upto r.1 g }) }
  upto_at = ap (λ x. record t { file_systems = (option_map_or (λ (f : FileSystem). record w { file_systems = insert w.file_systems r.0 (record f { snaps = snaps_upto f g }) }) x w).file_systems }) at
    where
      w : World
      w = world_of t

  pub later_gone : AreFileSystems t.file_systems t.group → without_ids t (later_ids g r.1.snaps) ≡ with_snaps_upto t r.0 g
  later_gone good =
      last_go t good r at (snaps_upto r.1 g) (filter (λ (u : Snap). nat_lt g u.group) r.1.snaps) (two_parts g (start t.file_systems t.group good.lines r.0 r.1 at).base r.1.snaps (rising t.file_systems t.group good.lines r.0 r.1 at))
      ∙ sym upto_at

newest_is : (m : Map) (older : List Snap) (u : Snap) → newest_map m (older ++ u ∷ []) ≡ u.map
newest_is m [] u = refl
newest_is m (v ∷ vs) u = newest_is v.map vs u

some_there : (older : List Snap) (u : Snap) → length (older ++ u ∷ []) ≡ 0 → ⊥
some_there [] u e = absurd (omega arith)
some_there (v ∷ vs) u e = absurd (omega arith)

-- a file system goes back to a snapshot that stands between these
module _ (t : Datasets) (good : AreFileSystems t.file_systems t.group) (r : Entry) (at : get t.file_systems r.0 ≡ Some r.1) (older : List Snap) (s : Snap) (newer : List Snap) (is : r.1.snaps ≡ older ++ s ∷ newer) where
  rises : AreRising (start t.file_systems t.group good.lines r.0 r.1 at).base (older ++ s ∷ newer)
  rises = subst (AreRising (start t.file_systems t.group good.lines r.0 r.1 at).base) is (rising t.file_systems t.group good.lines r.0 r.1 at)

  kept_is : snaps_upto r.1 s.group ≡ older ++ s ∷ []
  kept_is = ap (filter (λ (u : Snap). nat_le u.group s.group)) is ∙ upto_is _ older s newer rises

  newer_gone : with_snaps_upto t r.0 s.group ≡ record t { file_systems = insert t.file_systems r.0 (record r.1 { snaps = older ++ s ∷ [] }) }
  newer_gone = upto_at t r at s.group ∙ ap (λ l. record t { file_systems = insert t.file_systems r.0 (record r.1 { snaps = l }) }) kept_is

  abbrev back : FileSystem
  back = record r.1 { live = s.map; snaps = older ++ s ∷ [] }

  -- the bookmarks up to the snapshot's group stay
  abbrev up_to : Marks → Marks
  up_to marks = without_newer marks s.group

  back_is : back_at r.1 s ≡ record r.1 { live = s.map; snaps = older ++ s ∷ []; bookmarks = without_newer r.1.bookmarks s.group }
  back_is = ap (λ l. record r.1 { live = s.map; snaps = l; bookmarks = without_newer r.1.bookmarks s.group }) kept_is

  there : IsIn r.1.snaps s
  there = subst (λ l. IsIn l s) (sym is) (in_middle older s newer)

  pub rolled_at : (component : List ℕ) → find (λ (v : Snap). same_name v.name component) r.1.snaps ≡ Some s
      → rolled t (OfSnapshot (record { file_system = r.0; component = component })) ≡ record t { file_systems = insert t.file_systems r.0 (back_at r.1 s) }
  rolled_at component found = ap (λ ss. record t { file_systems = ss })
      (ap (λ x. (option_map_or (λ (p : FileSystem × Snap). after_rollback w (id_of p.1)) (option_and_then (λ f. option_map (λ (u : Snap). (f, u)) (option_and_then (λ (g : FileSystem). find (λ (v : Snap). same_name v.name component) g.snaps) x)) x) w).file_systems) at
      ∙ ap (λ y. (option_map_or (λ (p : FileSystem × Snap). after_rollback w (id_of p.1)) (option_map (λ (u : Snap). (r.1, u)) y) w).file_systems) found
      ∙ ap (λ x. (option_map_or (λ (p : Name × Snap). with_file_system w p.0 (λ f. back_at f p.1)) x w).file_systems) (snap_is_at w t.group good.lines r.0 r.1 s (id_of s) at there refl)
      ∙ ap (λ x. (option_map_or (λ (f : FileSystem). record w { file_systems = insert w.file_systems r.0 (back_at f s) }) x w).file_systems) at)
    where
      w : World
      w = world_of t

  module _ (u : Datasets) (to : u ≡ with_snaps_upto t r.0 s.group) where
    shorter_there : get u.file_systems r.0 ≡ Some (record r.1 { snaps = older ++ s ∷ [] })
    shorter_there = ap (λ (x : Datasets). get x.file_systems r.0) (to ∙ newer_gone) ∙ put_here t.file_systems r.0 (record r.1 { snaps = older ++ s ∷ [] })

    pub has_snaps : length (snaps_at u.file_systems r.0) ≡ 0 → ⊥
    has_snaps e = some_there older s (sym (ap (λ (x : Option FileSystem). length (option_map_or (λ (f : FileSystem). f.snaps) x [])) shorter_there) ∙ e)

    -- the live map is the snapshot's
    live_is : record u { file_systems = with_live u.file_systems r.0 (newest_map (live_of u.file_systems r.0) (snaps_at u.file_systems r.0)) } ≡ record t { file_systems = insert t.file_systems r.0 back }
    live_is =
        (λ i. record u { file_systems = option_map_or (λ (f : FileSystem). insert u.file_systems r.0 (record f { live = newest_map (option_map_or (λ (g : FileSystem). g.live) (shorter_there i) finmap.empty) (option_map_or (λ (g : FileSystem). g.snaps) (shorter_there i) []) })) (shorter_there i) u.file_systems })
        ∙ ap (λ m. record u { file_systems = insert u.file_systems r.0 (record r.1 { live = m; snaps = older ++ s ∷ [] }) }) (newest_is r.1.live older s)
        ∙ ap (λ (x : Datasets). record x { file_systems = insert x.file_systems r.0 (record r.1 { live = s.map; snaps = older ++ s ∷ [] }) }) (to ∙ newer_gone)
        ∙ ap (λ ss. record t { file_systems = ss }) (insert_twice t.file_systems r.0 (record r.1 { snaps = older ++ s ∷ [] }) (record r.1 { live = s.map; snaps = older ++ s ∷ [] }))

    pub rolled_is : (component : List ℕ) → find (λ (v : Snap). same_name v.name component) r.1.snaps ≡ Some s
        → (v : Datasets) → v ≡ record u { file_systems = with_live u.file_systems r.0 (newest_map (live_of u.file_systems r.0) (snaps_at u.file_systems r.0)) }
        → with_marks v r.0 up_to ≡ rolled t (OfSnapshot (record { file_system = r.0; component = component }))
    rolled_is component found v is =
        ap (λ (x : Datasets). with_marks x r.0 up_to) (is ∙ live_is)
        ∙ marks_put (record t { file_systems = insert t.file_systems r.0 back }) r.0 up_to back (put_here t.file_systems r.0 back)
        ∙ ap (λ ss. record t { file_systems = ss }) (insert_twice t.file_systems r.0 back (record r.1 { live = s.map; snaps = older ++ s ∷ []; bookmarks = without_newer r.1.bookmarks s.group }))
        ∙ ap (λ f. record t { file_systems = insert t.file_systems r.0 f }) (sym back_is)
        ∙ sym (rolled_at component found)

-- ---- whether a snapshot is the newest

newest_high : (base : ℕ) (ts : List Snap) (t : Snap) → AreRising t.group ts
    → (t.group ≤ option_map_or (λ (u : Snap). u.group) (last_or (Some t) ts) base) × ((u : Snap) → IsIn ts u → u.group ≤ option_map_or (λ (u : Snap). u.group) (last_or (Some t) ts) base)
newest_high base [] t r = (omega arith, λ u i. absurd i)
newest_high base (x ∷ xs) t r =
    let k = newest_high base xs x r.1 in
    let a = k.0 in
    let l = r.0 in
    (omega arith, λ u i. ⊎_elim (λ (e : u ≡ x). let m = ap (λ (y : Snap). y.group) e in omega arith) (λ j. k.1 u j) i)

newest_there : (ts : List Snap) (t : Snap) → (u : Snap) × ((u ≡ t) ⊎ IsIn ts u) × (last_or (Some t) ts ≡ Some u)
newest_there [] t = (t, inl refl, refl)
newest_there (x ∷ xs) t = let k = newest_there xs x in (k.0, inr k.1, k.2)

pub is_newer : (g base low : ℕ) (ts : List Snap) (s : Snap) → IsIn ts s → AreRising low ts → nat_lt g (newest_group base ts) ≡ nat_lt 0 (length (filter (λ (u : Snap). nat_lt g u.group) ts))
is_newer g base low [] s i up = absurd i
is_newer g base low (t ∷ ts) s i up = by_list (filter (λ (u : Snap). nat_lt g u.group) (t ∷ ts)) refl
  where
    by_group : (b : Bool) → nat_lt g (newest_group base (t ∷ ts)) ≡ b → filter (λ (u : Snap). nat_lt g u.group) (t ∷ ts) ≡ [] → nat_lt g (newest_group base (t ∷ ts)) ≡ false
    by_group false k e = k
    by_group true k e =
        let n = newest_there ts t in
        let high : nat_lt g n.0.group ≡ true = sym (ap (λ (x : Option Snap). nat_lt g (option_map_or (λ (u : Snap). u.group) x base)) n.2) ∙ k in
        absurd (subst (λ l. IsIn l n.0) e (in_filter (λ (u : Snap). nat_lt g u.group) (t ∷ ts) n.0 n.1 high))

    by_list : (l : List Snap) → filter (λ (u : Snap). nat_lt g u.group) (t ∷ ts) ≡ l → nat_lt g (newest_group base (t ∷ ts)) ≡ nat_lt 0 (length (filter (λ (u : Snap). nat_lt g u.group) (t ∷ ts)))
    by_list [] e = by_group (nat_lt g (newest_group base (t ∷ ts))) refl e ∙ sym (ap (λ (l : List Snap). nat_lt 0 (length l)) e)
    by_list (x ∷ xs) e =
        let k = from_filter (λ (u : Snap). nat_lt g u.group) (t ∷ ts) x (subst (λ l. IsIn l x) (sym e) (inl refl)) in
        let m = ltb-true g x.group k.1 in
        let h = newest_high base ts t up.1 in
        let a = h.0 in
        let above : x.group ≤ newest_group base (t ∷ ts) = ⊎_elim (λ (i : x ≡ t). let c = ap (λ (y : Snap). y.group) i in omega arith) (λ i. h.1 x i) k.0 in
        lt-ltb g (newest_group base (t ∷ ts)) (omega arith) ∙ sym (lt-ltb 0 (length (x ∷ xs)) (omega arith)) ∙ sym (ap (λ (l : List Snap). nat_lt 0 (length l)) e)

-- ---- what a rollback finds

pub back_of : (t : Datasets) → AreFileSystems t.file_systems t.group → (r : Entry) → get t.file_systems r.0 ≡ Some r.1 → (component : List ℕ) (g : ℕ)
    → option_map (λ (u : Snap). u.group) (find (λ (v : Snap). same_name v.name component) r.1.snaps) ≡ Some g
    → (u : Datasets) → u ≡ with_snaps_upto t r.0 g
    → (length (snaps_at u.file_systems r.0) ≡ 0 → ⊥)
    × ((v : Datasets) → v ≡ record u { file_systems = with_live u.file_systems r.0 (newest_map (live_of u.file_systems r.0) (snaps_at u.file_systems r.0)) }
    → with_marks v r.0 (λ marks. without_newer marks g) ≡ rolled t (OfSnapshot (record { file_system = r.0; component = component })))
back_of t good r at component g told u to = by_snap (find (λ (v : Snap). same_name v.name component) r.1.snaps) refl told
  where
    by_snap : (x : Option Snap) → find (λ (v : Snap). same_name v.name component) r.1.snaps ≡ x → option_map (λ (u : Snap). u.group) x ≡ Some g
        → (length (snaps_at u.file_systems r.0) ≡ 0 → ⊥)
        × ((v : Datasets) → v ≡ record u { file_systems = with_live u.file_systems r.0 (newest_map (live_of u.file_systems r.0) (snaps_at u.file_systems r.0)) }
        → with_marks v r.0 (λ marks. without_newer marks g) ≡ rolled t (OfSnapshot (record { file_system = r.0; component = component })))
    by_snap None e k = absurd (no_value g k)
    by_snap (Some s) e k =
        let there = (from_find (λ (v : Snap). same_name v.name component) r.1.snaps s e).0 in
        let parts = split_at r.1.snaps s there in
        let same : g ≡ s.group = sym (same_value s.group g k) in
        let to' : u ≡ with_snaps_upto t r.0 s.group = to ∙ ap (with_snaps_upto t r.0) same in (
          has_snaps t good r at parts.0 s parts.1 parts.2 u to',
          λ v is. ap (λ n. with_marks v r.0 (λ marks. without_newer marks n)) same ∙ rolled_is t good r at parts.0 s parts.1 parts.2 u to' component e v is,
        )

-- ---- why it is refused

-- the snapshots newer than the one that was found
abbrev newer_of : Option (FileSystem × Snap) → List SnapId
newer_of p = option_map_or (λ (q : FileSystem × Snap). map {A = Snap} id_of (snaps_after q.0 q.1.group)) p []

abbrev refusal_where : Datasets → Views → Bool → Option (FileSystem × Snap) → Option Refusal
refusal_where t views later p =
    cond (not (is_some p)) (Some NoDataset)
    (cond (not later && (nat_lt 0 (length (newer_of p)) || option_map_or (λ (q : FileSystem × Snap). has_newer q.0.bookmarks q.1.group) p false)) (Some NotNewest)
    (cond (list_any (is_held_at t views) (newer_of p)) (Some Busy) (cond (list_any (has_clone t) (newer_of p)) (Some HasClones) None)))

-- what was found is the file system's
pub told_placed : (t : Datasets) (m : Member) (f : FileSystem) (s : Snap) → placed (world_of t) (OfSnapshot m) ≡ Some (f, s)
    → (get t.file_systems m.file_system ≡ Some f) × (find (λ (v : Snap). same_name v.name m.component) f.snaps ≡ Some s)
told_placed t m f s told = by_system (get t.file_systems m.file_system) refl told
  where
    found : FileSystem → Option Snap
    found g = find (λ (v : Snap). same_name v.name m.component) g.snaps

    by_system : (x : Option FileSystem) → get t.file_systems m.file_system ≡ x
        → option_and_then (λ (g : FileSystem). option_map {U = FileSystem × Snap} (λ (u : Snap). (g, u)) (option_and_then found x)) x ≡ Some (f, s)
        → (get t.file_systems m.file_system ≡ Some f) × (found f ≡ Some s)
    by_system None at e = absurd (no_value _ e)
    by_system (Some g) at e = by_snap (found g) refl e
      where
        by_snap : (y : Option Snap) → found g ≡ y → option_map {U = FileSystem × Snap} (λ (u : Snap). (g, u)) y ≡ Some (f, s) → (get t.file_systems m.file_system ≡ Some f) × (found f ≡ Some s)
        by_snap None k e = absurd (no_value _ e)
        by_snap (Some u) k e =
            let same : ◌≡◌ {A = FileSystem × Snap} (g, u) (f, s) = same_value _ _ e in
            let system : g ≡ f = ap (λ (x : FileSystem × Snap). x.0) same in
            (at ∙ ap Some system, ap found (sym system) ∙ k ∙ ap (λ (x : FileSystem × Snap). Some x.1) same)

module _ (t : Datasets) (views : Views) (m : Member) (later : Bool) where
  abbrev found_row : Option (FileSystem × Snap)
  found_row = placed (world_of t) (OfSnapshot m)

  refusal_is : rollback_refusal t views (OfSnapshot m) later ≡ refusal_where t views later (placed (world_of t) (OfSnapshot m))
  refusal_is = ap
      (λ b. cond (not (is_some found_row)) (Some NoDataset)
      (cond (not later && (nat_lt 0 (length (newer_of found_row)) || option_map_or (λ (q : FileSystem × Snap). has_newer q.0.bookmarks q.1.group) found_row false)) (Some NotNewest)
      (cond (list_any (is_held_at t views) (newer_of found_row)) (Some Busy) (cond b (Some HasClones) None))))
      (outside_is t (newer_snaps (world_of t) (OfSnapshot m)))

  pub refused_at : AreFileSystems t.file_systems t.group → (name : Name) (f : FileSystem) → get t.file_systems name ≡ Some f → (s : Snap) → IsIn f.snaps s → placed (world_of t) (OfSnapshot m) ≡ Some (f, s)
      → rollback_refusal t views (OfSnapshot m) later ≡ refusal_at t f s.group views later
  refused_at good name f at s i found =
      refusal_is ∙ ap (refusal_where t views later) found
      ∙ (λ j. cond (not later && (count j || has_newer f.bookmarks s.group)) (Some NotNewest)
      (cond (later_held t good views name f at s.group j) (Some Busy) (cond (any_later (has_clone t) s.group f.snaps j) (Some HasClones) None)))
    where
      count : nat_lt 0 (length (map {A = Snap} id_of (snaps_after f s.group))) ≡ nat_lt s.group (newest_group (origin_group f.origin) f.snaps)
      count = ap (nat_lt 0) (length-mapped id_of (snaps_after f s.group))
          ∙ sym (is_newer s.group (origin_group f.origin) _ f.snaps s i (rising t.file_systems t.group good.lines name f at))

-- where nothing refuses it, no newer snapshot has a clone
pub none_cloned : (t : Datasets) (f : FileSystem) (group : ℕ) (views : Views) (later : Bool) → refusal_at t f group views later ≡ None → list_any (has_clone_and_is_later t group) f.snaps ≡ false
none_cloned t f group views later e =
    by_tests (not later && (nat_lt group (newest_group (origin_group f.origin) f.snaps) || has_newer f.bookmarks group)) (list_any (is_held_after views group) f.snaps) (list_any (has_clone_and_is_later t group) f.snaps) e
  where
    by_tests : (newer held cloned : Bool) → cond {A = Option Refusal} newer (Some NotNewest) (cond held (Some Busy) (cond cloned (Some HasClones) None)) ≡ None → cloned ≡ false
    by_tests true held cloned e = absurd (no_value NotNewest (sym e))
    by_tests false true cloned e = absurd (no_value Busy (sym e))
    by_tests false false true e = absurd (no_value HasClones (sym e))
    by_tests false false false e = refl
