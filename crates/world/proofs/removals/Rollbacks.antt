-- A file system goes back to a snapshot.
use Rattle.std.proofs.Common.{◌≡◌, ℕ, ◌<◌, ◌≤◌, Bool, true, false, cond, not, List, [], ◌∷◌, ◌++◌, Option, Some, None, refl, sym, ap, subst, ◌∙◌, true≢false, ◌⊎◌, inl, inr, ⊎_elim, map, arith}
use Rattle.std.specs.Prelude.{nat_le, IsSome, is_some}
use Rattle.std.proofs.lemmas.Bool.{le-leb}
use Rattle.std.specs.List.{filter}
use Rattle.std.specs.Option.{option_map, option_map_or}
use Rattle.std.specs.FinMap.{FinMap, get, insert, entries, from_entries, get-from_entries, same_map}
use Rattle.std.specs.FinSet.{difference}
use Rattle.base.specs.Names.{name_cmp}
use Rattle.base.specs.Map.{Block, BlockSet, blocks}
use Rattle.base.specs.Surveys.{IsIn}
use Rattle.model.specs.World.{World, FileSystem, Snap, SnapId, Bookmark, Dataset, Live, id_of, snap_at, union_of}
use Rattle.model.specs.Edits.{without_snaps, with_losses, with_file_system}
use Rattle.world.specs.Sets.{Has}
use Rattle.world.specs.Blocks.{block_order as o, after}
use Rattle.world.specs.Lineage.{Row}
use Rattle.world.specs.Shapes.{Name, name_order, Before, before_next, before_live, Writes, lineages, IsGood}
use Rattle.world.specs.Usage.{IsEntry}
use Rattle.world.specs.Worlds.{FileSystems, snap_shape, shape_of, shapes, AreRising, AreFileSystems, IsWorld, ArePaired, AreMapsFrom}
use Rattle.world.specs.Outcomes.{back_at, after_rollback, snaps_upto, is_one_of}
use Rattle.world.specs.Dead.{HasNoCloneIn, base_of}
use Rattle.world.proofs.lists.SetCounts.{same_members, in_difference, from_difference}
use Rattle.world.proofs.lists.Maps.{same_value, key_cases, entry_from_find, at_entry}
use Rattle.world.proofs.lineage.Lineage.{from_after, below_born}
use Rattle.world.proofs.lineage.Changes.{write_keeps}
use Rattle.world.proofs.lineage.Bridge.{shape_at, start, starts, rising, rising_above, rising_after, from_snap_at, snap_is_at, one_snap, live_row, live_there, union_is}
use Rattle.world.proofs.lists.Finding.{filter_front, filter_all, in_filter, from_filter, in_right}
use Rattle.world.proofs.lists.Listed.{in_map, map_in}
use Rattle.world.proofs.changes.Promotions.{split_at, upto_is, append_assoc}
use Rattle.world.proofs.lineage.Put.{put_here, put_other, put_shape, put_shapes, put_tidy, put_hierarchy, put_maps}
use Rattle.world.proofs.removals.WithoutSnaps.{many_go, get-without, any_in, any_from}
use Rattle.world.proofs.lineage.Dead.{row_base}
use Rattle.world.proofs.changes.Kept.{world_losses, pair_losses}

-- ---- the newest snapshots of one file system go

module _ (w : World) (g : ℕ) (good : AreFileSystems w.file_systems g) (name : Name) (s : FileSystem) (at : get w.file_systems name ≡ Some s)
    (older newer : List Snap) (is : s.snaps ≡ older ++ newer) (none : (u : Snap) → IsIn newer u → HasNoCloneIn w.file_systems (id_of u)) where
  abbrev ids : List SnapId
  ids = map (λ (u : Snap). id_of u) newer

  abbrev lines : IsGood (shapes w.file_systems) g
  lines = good.lines

  up : AreRising (start w.file_systems g lines name s at).base (older ++ newer)
  up = subst (AreRising (start w.file_systems g lines name s at).base) is (rising w.file_systems g lines name s at)

  -- the older ones aren't among the newer
  apart : (base : ℕ) (xs ys : List Snap) → AreRising base (xs ++ ys) → (u v : Snap) → IsIn xs u → IsIn ys v → u.group < v.group
  apart base [] ys r u v h k = absurd h
  apart base (x ∷ xs) ys r u v h k = ⊎_elim
      (λ (e : u ≡ x). let l = rising_above x.group (xs ++ ys) v r.1 (in_right xs ys v k) in let m = ap (λ (y : Snap). y.group) e in omega arith)
      (λ i. apart x.group xs ys r.1 u v i k)
      h

  not_any : (u : Snap) → (is_one_of ids u ≡ true → ⊥) → not (is_one_of ids u) ≡ true
  not_any u out = by_test (is_one_of ids u) refl
    where
      by_test : (b : Bool) → is_one_of ids u ≡ b → not (is_one_of ids u) ≡ true
      by_test true e = absurd (out e)
      by_test false e = ap not e

  front : filter (λ u. not (is_one_of ids u)) s.snaps ≡ older
  front = ap (filter (λ u. not (is_one_of ids u))) is ∙ filter_front (λ u. not (is_one_of ids u)) older newer
      (λ u h. not_any u (λ e.
      let v = in_map (λ (u : Snap). id_of u) newer (id_of u) (any_from ids (id_of u) e) in
      let l = apart _ older newer up u v.0 h v.1 in
      let m = ap (λ (i : SnapId). i.group) v.2 in
      absurd (omega arith)))
      (λ u h e. true≢false (sym e ∙ ap not (any_in ids (id_of u) (id_of u) (map_in (λ (u : Snap). id_of u) newer u h) refl)))

  elsewhere : (q : Name) (x : FileSystem) → ¬ (q ≡ name) → get w.file_systems q ≡ Some x → filter (λ u. not (is_one_of ids u)) x.snaps ≡ x.snaps
  elsewhere q x ne e = filter_all (λ u. not (is_one_of ids u)) x.snaps (λ u h. not_any u (λ k.
      let v = in_map (λ (u : Snap). id_of u) newer (id_of u) (any_from ids (id_of u) k) in
      ne (one_snap w.file_systems g lines q name x s u v.0 e at h (subst (λ l. IsIn l v.0) (sym is) (in_right older newer v.0 v.1)) v.2).0))

  shorter_is : (without_snaps w (is_one_of ids)).file_systems ≡ insert w.file_systems name (record s { snaps = older })
  shorter_is = same_map name_order.total name_order.exact _ _ (λ n. get-without w (is_one_of ids) n ∙ ⊎_elim
      (λ (same : n ≡ name).
      ap (option_map (λ (s : FileSystem). record s { snaps = filter (λ t. not (is_one_of ids t)) s.snaps })) (ap (get w.file_systems) same ∙ at)
      ∙ ap (λ l. Some (record s { snaps = l })) front
      ∙ sym (put_here w.file_systems name (record s { snaps = older })) ∙ ap (get (insert w.file_systems name (record s { snaps = older }))) (sym same))
      (λ (ne : ¬ (n ≡ name)). by_old n ne (get w.file_systems n) refl ∙ sym (put_other w.file_systems name (record s { snaps = older }) n ne))
      (key_cases name_order n name))
    where
      by_old : (n : Name) → ¬ (n ≡ name) → (y : Option FileSystem) → get w.file_systems n ≡ y
          → option_map (λ (s : FileSystem). record s { snaps = filter (λ t. not (is_one_of ids t)) s.snaps }) (get w.file_systems n) ≡ get w.file_systems n
      by_old n ne None e = ap (option_map (λ (s : FileSystem). record s { snaps = filter (λ t. not (is_one_of ids t)) s.snaps })) e ∙ sym e
      by_old n ne (Some x) e = ap (option_map (λ (s : FileSystem). record s { snaps = filter (λ t. not (is_one_of ids t)) s.snaps })) e ∙ ap (λ l. Some (record x { snaps = l })) (elsewhere n x ne e) ∙ sym e

  pub newer_go : AreFileSystems (insert w.file_systems name (record s { snaps = older })) g
  newer_go = subst (λ f. AreFileSystems f g) shorter_is
      (many_go g ids w good (λ i h. let v = in_map (λ (u : Snap). id_of u) newer i h in λ q x e k. none v.0 v.1 q x e (k ∙ ap Some v.2)))

-- ---- a live map goes back to the newest snapshot's

module _ (ss : FileSystems) (g : ℕ) (good : AreFileSystems ss g) (name : Name) (s : FileSystem) (at : get ss name ≡ Some s) (older : List Snap) (t : Snap) (is : s.snaps ≡ older ++ t ∷ [])
    (marks : FinMap name_cmp Bookmark) (fewer : (k : List ℕ) (b : Bookmark) → get marks k ≡ Some b → get s.bookmarks k ≡ Some b) where
  abbrev back : FileSystem
  back = record s { live = t.map; bookmarks = marks }

  abbrev q : Before
  q = start ss g good.lines name s at

  before_last : (r : Before) (xs : List Snap) → before_live r (map snap_shape (xs ++ t ∷ [])) ≡ before_next (snap_shape t)
  before_last r [] = refl
  before_last r (x ∷ xs) = before_last (before_next (snap_shape x)) xs

  qL_is : before_live q (map snap_shape s.snaps) ≡ before_next (snap_shape t)
  qL_is = ap (λ l. before_live q (map snap_shape l)) is ∙ before_last q older

  each : (b : Block) → Has (blocks t.map) b → Has (blocks s.live) b ⊎ Has (before_live q (map snap_shape s.snaps)).below b
      ⊎ ((b.birth ≡ g) × ((d : Dataset) (n : Row Dataset) → lineages (shapes ss) g d n → ¬ (Has n.blocks b)))
  each b h = inr (inl (subst (λ (x : Before). Has x.below b) (sym qL_is) h))

  abbrev writes : Writes (shapes ss) (shapes (insert ss name (record s { live = t.map; bookmarks = marks }))) name (blocks t.map)
  writes = record {
    system = shape_of s;
    at = shape_at ss name s at;
    here = put_shape ss name (record s { live = t.map; bookmarks = marks });
    others = λ other ne. put_shapes ss name (record s { live = t.map; bookmarks = marks }) other ne;
  }

  pub back_systems : AreFileSystems (insert ss name (record s { live = t.map; bookmarks = marks })) g
  back_systems = record {
    lines = (write_keeps (shapes ss) (shapes (insert ss name back)) g name (blocks t.map) q good.lines writes (starts ss g good.lines name s at) each).0;
    hierarchy = put_hierarchy ss name s back at good.hierarchy;
    tidy = put_tidy ss name back g good.tidy (let k = good.tidy name s at in record { names = k.names; bookmarks = λ a b e. k.bookmarks a b (fewer a b e) });
  }

  module _ (f : BlockSet) (k : ℕ) where
    abbrev old_world : World
    old_world = record { file_systems = ss; freeing = f; group = k }

    abbrev new_world : World
    new_world = record { file_systems = insert ss name (record s { live = t.map; bookmarks = marks }); freeing = f; group = k }

    base_is : (before_live q (map snap_shape s.snaps)).base ≡ base_of old_world (Live name)
    base_is = row_base old_world g good.lines (Live name) (live_row ss g good.lines name s at) (live_there ss g good.lines name s at)

    -- what is lost are the blocks that were written since the snapshot
    pub back_loses : difference (union_of (record { file_systems = ss; freeing = f; group = k })) (union_of (record { file_systems = insert ss name (record s { live = t.map; bookmarks = marks }); freeing = f; group = k }))
        ≡ after (base_of (record { file_systems = ss; freeing = f; group = k }) (Live name)) (blocks s.live)
    back_loses =
        sym ((write_keeps (shapes ss) (shapes (insert ss name back)) g name (blocks t.map) q good.lines writes (starts ss g good.lines name s at) each).1
        (union_of old_world) (union_of new_world) (union_is old_world g good.lines) (union_is new_world g back_systems.lines))
        ∙ ap (λ x. difference (after x (blocks s.live)) (blocks t.map)) base_is
        ∙ same_members o _ _
        (λ b h. (from_difference o (after (base_of old_world (Live name)) (blocks s.live)) (blocks t.map) b h).0)
        (λ b h. in_difference o (after (base_of old_world (Live name)) (blocks s.live)) (blocks t.map) b h (λ i.
        let l = (from_after (base_of old_world (Live name)) (blocks s.live) b h).1 in
        let e = base_is in
        let m = below_born (lineages (shapes ss) g) good.lines.facts (Live name) (live_row ss g good.lines name s at) b (live_there ss g good.lines name s at) (subst (λ (x : Before). Has x.below b) (sym qL_is) i) in
        absurd (omega arith)))

-- ---- the request

kept_entries : {X : Type 0} (p : List ℕ × X → Bool) (es : List (List ℕ × X)) (k : List ℕ) (v : X) → IsEntry (filter p es) k v → IsEntry es k v
kept_entries p [] k v h = absurd h
kept_entries p (e ∷ es) k v h = by_test (p e) (kept_entries p es k v) h
  where
    by_test : (b : Bool) → (IsEntry (filter p es) k v → IsEntry es k v) → IsEntry (cond b (e ∷ filter p es) (filter p es)) k v → IsEntry (e ∷ es) k v
    by_test true ih h = ⊎_elim inl (λ i. inr (ih i)) h
    by_test false ih h = inr (ih h)

fewer_marks : (m : FinMap name_cmp Bookmark) (p : List ℕ × Bookmark → Bool) (k : List ℕ) (b : Bookmark) → get (from_entries {R = name_cmp} (filter p (entries m))) k ≡ Some b → get m k ≡ Some b
fewer_marks m p k b h =
    at_entry name_order m k b (kept_entries p (entries m) k b (entry_from_find name_order (filter p (entries m)) k b (sym (get-from_entries name_order.total (filter p (entries m)) k) ∙ h)))

pub insert_twice : (ss : FileSystems) (name : Name) (a b : FileSystem) → insert (insert ss name a) name b ≡ insert ss name b
insert_twice ss name a b = same_map name_order.total name_order.exact _ _ (λ q. ⊎_elim
    (λ (same : q ≡ name). ap (get (insert (insert ss name a) name b)) same ∙ put_here (insert ss name a) name b ∙ sym (put_here ss name b) ∙ ap (get (insert ss name b)) (sym same))
    (λ (ne : ¬ (q ≡ name)). put_other (insert ss name a) name b q ne ∙ put_other ss name a q ne ∙ sym (put_other ss name b q ne))
    (key_cases name_order q name))

module _ (size : ℕ) (w : World) (good : IsWorld size w) (id : SnapId) (p : Name × Snap) (found : snap_at w id ≡ Some p)
    (none : (s : FileSystem) (u : Snap) → get w.file_systems p.0 ≡ Some s → IsIn s.snaps u → p.1.group < u.group → HasNoCloneIn w.file_systems (id_of u)) where
  t : Snap
  t = p.1

  s : FileSystem
  s = (from_snap_at w id p found).0

  at : get w.file_systems p.0 ≡ Some s
  unfolding s
  at = (from_snap_at w id p found).1

  in_s : IsIn s.snaps p.1
  unfolding s
  in_s = (from_snap_at w id p found).2

  older : List Snap
  older = (split_at s.snaps p.1 in_s).0

  newer : List Snap
  newer = (split_at s.snaps p.1 in_s).1

  is : s.snaps ≡ (older ++ p.1 ∷ []) ++ newer
  unfolding older newer
  is = (split_at s.snaps p.1 in_s).2 ∙ sym (append_assoc (split_at s.snaps p.1 in_s).0 (p.1 ∷ []) (split_at s.snaps p.1 in_s).1)

  climb : AreRising (start w.file_systems w.group good.systems.lines p.0 s at).base (older ++ p.1 ∷ newer)
  climb = subst (AreRising (start w.file_systems w.group good.systems.lines p.0 s at).base) (is ∙ append_assoc older (p.1 ∷ []) newer) (rising w.file_systems w.group good.systems.lines p.0 s at)

  upto : snaps_upto s p.1.group ≡ older ++ p.1 ∷ []
  upto = ap (filter (λ (u : Snap). nat_le u.group p.1.group)) (is ∙ append_assoc older (p.1 ∷ []) newer) ∙ upto_is _ older p.1 newer climb

  abbrev mid : FileSystem
  mid = record s { snaps = older ++ p.1 ∷ [] }

  mid_good : AreFileSystems (insert w.file_systems p.0 (record s { snaps = older ++ p.1 ∷ [] })) w.group
  mid_good = newer_go w w.group good.systems p.0 s at (older ++ p.1 ∷ []) newer is
      (λ u h. none s u at (subst (λ l. IsIn l u) (sym is) (in_right (older ++ p.1 ∷ []) newer u h)) (rising_above p.1.group newer u (rising_after _ older p.1 newer climb) h))

  rolled_is : (after_rollback w id).file_systems ≡ insert w.file_systems p.0 (back_at s p.1)
  rolled_is =
      ap (λ x. (option_map_or (λ (p : Name × Snap). with_file_system w p.0 (λ s. back_at s p.1)) x w).file_systems) found
      ∙ ap (λ x. (option_map_or (λ (s : FileSystem). record w { file_systems = insert w.file_systems p.0 (back_at s p.1) }) x w).file_systems) at

  abbrev marks : FinMap name_cmp Bookmark
  marks = from_entries (filter (λ m. nat_le m.1.group p.1.group) (entries s.bookmarks))

  pub rollback_systems : AreFileSystems (after_rollback w id).file_systems w.group
  rollback_systems = subst (λ f. AreFileSystems f w.group)
      (insert_twice w.file_systems p.0 mid (record mid { live = p.1.map; bookmarks = marks })
      ∙ (λ i. insert w.file_systems p.0 (record s { live = p.1.map; snaps = sym upto i; bookmarks = marks })) ∙ sym rolled_is)
      (back_systems (insert w.file_systems p.0 mid) w.group mid_good p.0 mid (put_here w.file_systems p.0 mid) older p.1 refl marks
      (λ k b. fewer_marks s.bookmarks (λ m. nat_le m.1.group p.1.group) k b))

  pub rollback_from : AreMapsFrom w.file_systems (after_rollback w id).file_systems
  rollback_from = subst (AreMapsFrom w.file_systems) (sym rolled_is) (put_maps w.file_systems p.0 (back_at s p.1) (λ m h. inr (
    p.0,
    s,
    at,
    ⊎_elim
        (λ (e : m ≡ p.1.map). inr (subst (λ y. IsIn (map (λ (t : Snap). t.map) s.snaps) y) (sym e) (map_in (λ (t : Snap). t.map) s.snaps p.1 in_s)))
        (λ k. let u = in_map (λ (t : Snap). t.map) (snaps_upto s p.1.group) m k in
        inr (subst (λ y. IsIn (map (λ (t : Snap). t.map) s.snaps) y) (sym u.2) (map_in (λ (t : Snap). t.map) s.snaps u.0 (from_filter (λ (u : Snap). nat_le u.group p.1.group) s.snaps u.0 u.1).0)))
        h,
  )))

  rolled_fields : ((after_rollback w id).freeing ≡ w.freeing) × ((after_rollback w id).group ≡ w.group)
  rolled_fields = (
    ap (λ x. (option_map_or (λ (p : Name × Snap). with_file_system w p.0 (λ s. back_at s p.1)) x w).freeing) found
        ∙ ap (λ x. (option_map_or (λ (s : FileSystem). record w { file_systems = insert w.file_systems p.0 (back_at s p.1) }) x w).freeing) at,
    ap (λ x. (option_map_or (λ (p : Name × Snap). with_file_system w p.0 (λ s. back_at s p.1)) x w).group) found
        ∙ ap (λ x. (option_map_or (λ (s : FileSystem). record w { file_systems = insert w.file_systems p.0 (back_at s p.1) }) x w).group) at,
  )

  systems' : AreFileSystems (after_rollback w id).file_systems (after_rollback w id).group
  systems' = subst (AreFileSystems (after_rollback w id).file_systems) (sym rolled_fields.1) rollback_systems

  pub rollback_world : IsWorld size (with_losses w (after_rollback w id))
  rollback_world = world_losses size w (after_rollback w id) good rollback_from systems' rolled_fields.0

  pub rollback_pairs : (last : World) → ArePaired size w last → ArePaired size (with_losses w (after_rollback w id)) last
  rollback_pairs last = pair_losses size w (after_rollback w id) good rollback_from systems' rolled_fields.0 last (let e = rolled_fields.1 in omega arith)

  -- a snapshot that isn't newer than this one of the file system is there afterwards
  pub rollback_seen : (i : SnapId) → ((q : Name) (u : Snap) → snap_at w i ≡ Some (q, u) → q ≡ p.0 → u.group ≤ p.1.group) → IsSome (snap_at w i) → IsSome (snap_at (with_losses w (after_rollback w id)) i)
  rollback_seen i old some = by_snap (snap_at w i) refl
    where
      after_good : AreFileSystems (with_losses w (after_rollback w id)).file_systems w.group
      after_good = rollback_systems

      by_snap : (x : Option (Name × Snap)) → snap_at w i ≡ x → IsSome (snap_at (with_losses w (after_rollback w id)) i)
      by_snap None e = absurd (true≢false (sym some ∙ ap is_some e))
      by_snap (Some o) e =
          let k = from_snap_at w i o e in
          ⊎_elim
          (λ (same : o.0 ≡ p.0).
          let in_mine : IsIn s.snaps o.1 = subst (λ (x : FileSystem). IsIn x.snaps o.1) (same_value k.0 s (sym k.1 ∙ ap (get w.file_systems) same ∙ at)) k.2 in
          ap is_some (snap_is_at (with_losses w (after_rollback w id)) w.group after_good.lines p.0 (back_at s p.1) o.1 i
          (ap (λ f. get f p.0) rolled_is ∙ put_here w.file_systems p.0 (back_at s p.1))
          (in_filter (λ (u : Snap). nat_le u.group p.1.group) s.snaps o.1 in_mine (le-leb o.1.group p.1.group (old o.0 o.1 e same))) k.3))
          (λ (other : ¬ (o.0 ≡ p.0)).
          ap is_some (snap_is_at (with_losses w (after_rollback w id)) w.group after_good.lines o.0 k.0 o.1 i
          (ap (λ f. get f o.0) rolled_is ∙ put_other w.file_systems p.0 (back_at s p.1) o.0 other ∙ k.1) k.2 k.3))
          (key_cases name_order o.0 p.0)
