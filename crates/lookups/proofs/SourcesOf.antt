-- The list of a snapshot's sources.
use Rattle.std.proofs.Common.{◌≡◌, ℕ, ◌+◌, ◌<◌, ◌≤◌, true, false, cond, List, [], ◌∷◌, ◌++◌, Option, None, Some, map, take, length, get_or, refl, sym, ap, subst, ◌∙◌, inl, inr, ⊎_elim, append_assoc, arith}
use Rattle.std.specs.Prelude.{reverse, nat_lt}
use Rattle.std.proofs.lemmas.Bool.{lt-ltb, le-ltb, ltb-true}
use Rattle.std.proofs.lemmas.List.{map-append, reverse-append, take_more}
use Rattle.std.proofs.lemmas.List.Elements.{filter_map-append}
use Rattle.std.specs.List.{cons_option, filter, filter_map}
use Rattle.std.specs.Option.{option_map}
use Rattle.std.specs.Arc.{arc_value}
use Rattle.std.specs.declared.alloc.Global.{Global}
use Rattle.std.specs.declared.sync.Arc.{Arc}
use Rattle.std.specs.FinMap.{get, entries, from_entries, get-from_entries}
use Rattle.base.specs.Surveys.{IsIn}
use Rattle.snapshots.specs.declared.bookmarks.mark.Mark.{Mark}
use Rattle.snapshots.specs.Marks.{Entry, Marks, entry_in, name_in, keyed, marks_in_order, alone}
use Rattle.model.specs.Properties.{bookmark_cmp, bookmarks_in_order}
use Rattle.model.specs.World.{FileSystem, Snap, SnapId, Bookmark, Snapped, id_of, snap_at, older_of}
use Rattle.model.specs.declared.source.Source.{Source}
use Rattle.model.specs.requests.Send.{snapshot_source, bookmark_source, bookmark_sources}
use Rattle.world.specs.Dead.{IsThere, next_in}
use Rattle.world.specs.Shapes.{Name, name_order}
use Rattle.world.specs.Tables.{Datasets, world_of}
use Rattle.world.specs.Usage.{IsEntry}
use Rattle.world.specs.Worlds.{AreRising}
use Rattle.world.proofs.lineage.Bridge.{rising_above, rising_below, rising_after, snap_is_at}
use Rattle.world.proofs.lists.Finding.{filter_front, filter_join, append_none, in_left, in_either}
use Rattle.world.proofs.lists.Listed.{in_map, map_in}
use Rattle.world.proofs.lists.Maps.{no_value, entry_from_find, at_entry}
use Rattle.world.proofs.changes.Promotions.{split_at}
use Rattle.datasets.specs.Origins.{origin_group}
use Rattle.datasets.specs.Rows.{Row}
use Rattle.datasets.specs.Table.{IsTable}
use Rattle.datasets.proofs.Removed.{are_above}
use Rattle.limits.proofs.Next.{newest_last, next_there, next_previous}
use Rattle.limits.proofs.Older.{older_none, older_first, origin_there}
use Rattle.lookups.specs.Places.{IsPlace}
use Rattle.lookups.specs.Sources.{snapshot_in, bookmark_in, older_sources, lineage_sources}
use Rattle.laws.proofs.Sent.{entry_in as in_entries}
use Rattle.lookups.proofs.Starts.{group_order}

-- ---- lists

in_reverse : {A : Type 0} (xs : List A) (a : A) → IsIn (reverse xs) a → IsIn xs a
in_reverse [] a i = i
in_reverse (x ∷ xs) a i = ⊎_elim (λ k. inr (in_reverse xs a k)) (λ k. ⊎_elim inl (λ n. absurd n) k) (in_either (reverse xs) (x ∷ []) a (subst (λ l. IsIn l a) (reverse-append (x ∷ []) xs) i))

pub map_reverse : {A B : Type 0} (f : A → B) (xs : List A) → reverse (map f xs) ≡ map f (reverse xs)
map_reverse f [] = refl
map_reverse f (x ∷ xs) =
    reverse-append (f x ∷ []) (map f xs) ∙ ap (λ l. l ++ f x ∷ []) (map_reverse f xs) ∙ sym (map-append f (reverse xs) (x ∷ [])) ∙ ap (map f) (sym (reverse-append (x ∷ []) xs))

-- each of them gives one
given_all : {A B C : Type 0} (g : B → Option C) (f : A → B) (h : A → C) (xs : List A) → ((x : A) → IsIn xs x → g (f x) ≡ Some (h x)) → filter_map g (map f xs) ≡ map h xs
given_all g f h [] each = refl
given_all g f h (x ∷ xs) each = λ i. cons_option (each x (inl refl) i) (given_all g f h xs (λ y k. each y (inr k)) i)

-- one more, where it is older or isn't
module _ (name : Name) (group : ℕ) (us : List Snap) (u : Snap) where
  pub kept_one : nat_lt u.group group ≡ true → map (snapshot_in name) (filter (λ (x : Snap). nat_lt x.group group) (us ++ u ∷ [])) ≡ map (snapshot_in name) (filter (λ (x : Snap). nat_lt x.group group) us) ++ snapshot_in name u ∷ []
  kept_one e =
      ap (map (snapshot_in name)) (filter_join (λ (x : Snap). nat_lt x.group group) us (u ∷ []) ∙ ap (λ b. filter (λ (x : Snap). nat_lt x.group group) us ++ cond b (u ∷ []) []) e)
      ∙ map-append (snapshot_in name) (filter (λ (x : Snap). nat_lt x.group group) us) (u ∷ [])

  pub kept_none : nat_lt u.group group ≡ false → map (snapshot_in name) (filter (λ (x : Snap). nat_lt x.group group) (us ++ u ∷ [])) ≡ map (snapshot_in name) (filter (λ (x : Snap). nat_lt x.group group) us)
  kept_none e =
      ap (map (snapshot_in name)) (filter_join (λ (x : Snap). nat_lt x.group group) us (u ∷ []) ∙ ap (λ b. filter (λ (x : Snap). nat_lt x.group group) us ++ cond b (u ∷ []) []) e
      ∙ append_none (filter (λ (x : Snap). nat_lt x.group group) us))

-- ---- the lineage

module _ (t : Datasets) (sound : IsTable t) where
  -- what is older than what comes next after a stretch of a file system's snapshots: these, and what is older than the first of them
  lined : (name : Name) (f : FileSystem) → get t.file_systems name ≡ Some f → (older range newer : List Snap) → f.snaps ≡ older ++ (range ++ newer)
      → older_of (world_of t) (next_in name newer) ≡ map id_of (reverse range) ++ older_of (world_of t) (next_in name (range ++ newer))
  lined name f at older [] newer is = refl
  lined name f at older (u ∷ range) newer is =
      let split : f.snaps ≡ (older ++ u ∷ []) ++ (range ++ newer) = is ∙ sym (append_assoc older (u ∷ []) (range ++ newer)) in
      lined name f at (older ++ u ∷ []) range newer split
      ∙ ap (λ l. map id_of (reverse range) ++ l)
      (older_first (world_of t) sound.systems (next_in name (range ++ newer)) (id_of u) (next_there (world_of t) sound.systems name f (older ++ u ∷ []) (range ++ newer) at split)
      (next_previous (world_of t) sound.systems name f (older ++ u ∷ []) (range ++ newer) at split ∙ newest_last f older u))
      ∙ sym (append_assoc (map id_of (reverse range)) (id_of u ∷ []) (older_of (world_of t) (Snapped (id_of u))))
      ∙ ap (λ l. l ++ older_of (world_of t) (Snapped (id_of u))) (sym (map-append id_of (reverse range) (u ∷ [])) ∙ ap (map id_of) (sym (reverse-append (u ∷ []) range)))

  module _ (r : Row) (u : Snap) (place : IsPlace t r (Some u)) where
    ups : AreRising (origin_group r.system.origin) r.system.snaps
    ups = (are_above t sound r.name r.system place.at).rising

    parts : (older : List Snap) × (newer : List Snap) × (r.system.snaps ≡ older ++ u ∷ newer)
    parts = split_at r.system.snaps u place.snap

    abbrev older : List Snap
    older = parts.0

    -- those of lower groups stand before it
    front : filter (λ (x : Snap). nat_lt x.group u.group) r.system.snaps ≡ older
    front =
        let up : AreRising (origin_group r.system.origin) (older ++ u ∷ parts.1) = subst (AreRising (origin_group r.system.origin)) parts.2 ups in
        ap (filter (λ (x : Snap). nat_lt x.group u.group)) parts.2
        ∙ filter_front (λ (x : Snap). nat_lt x.group u.group) older (u ∷ parts.1)
        (λ x i. lt-ltb x.group u.group (rising_below (origin_group r.system.origin) older u parts.1 up x i))
        (λ x i e.
        let l = ltb-true x.group u.group e in
        ⊎_elim
        (λ (is : x ≡ u). let g = ap (λ (y : Snap). y.group) is in omega (arith, l, g))
        (λ k. let h = rising_above u.group parts.1 x (rising_after (origin_group r.system.origin) older u parts.1 up) k in omega (arith, l, h))
        i)

    given : filter_map (snapshot_source (world_of t)) (map id_of (reverse older)) ≡ map (snapshot_in r.name) (reverse older)
    given = given_all (snapshot_source (world_of t)) id_of (snapshot_in r.name) (reverse older) (λ x i.
        ap (option_map {T = Name × Snap} {U = Source} (λ p. snapshot_in p.0 (record p.1 { guid = x.guid; group = x.group })))
        (snap_is_at (world_of t) t.group sound.systems.lines r.name r.system x (id_of x) place.at
        (subst (λ l. IsIn l x) (sym parts.2) (in_left older (u ∷ parts.1) x (in_reverse older x i))) refl))

    -- its own file system's, and what is older than those
    below : lineage_sources t (id_of u) ≡ older_sources r.name u.group r.system.snaps ++ filter_map (snapshot_source (world_of t)) (older_of (world_of t) (next_in r.name r.system.snaps))
    below =
        ap (filter_map (snapshot_source (world_of t))) (lined r.name r.system place.at [] older (u ∷ parts.1) parts.2)
        ∙ filter_map-append (snapshot_source (world_of t)) (map id_of (reverse older)) (older_of (world_of t) (next_in r.name (older ++ u ∷ parts.1)))
        ∙ (λ i. given i ++ filter_map (snapshot_source (world_of t)) (older_of (world_of t) (next_in r.name (sym parts.2 i))))
        ∙ ap (λ l. map (snapshot_in r.name) (reverse l) ++ filter_map (snapshot_source (world_of t)) (older_of (world_of t) (next_in r.name r.system.snaps))) (sym front)

    -- there is no origin
    pub at_top : r.system.origin ≡ None → (before now after : List Source) → now ≡ before ++ lineage_sources t (id_of u) → after ≡ before ++ older_sources r.name u.group r.system.snaps → after ≡ now
    at_top none before now after is more =
        more
        ∙ ap (λ l. before ++ l) (sym (below
        ∙ ap (λ l. older_sources r.name u.group r.system.snaps ++ filter_map (snapshot_source (world_of t)) l)
        (older_none (world_of t) (next_in r.name r.system.snaps) (next_previous (world_of t) sound.systems r.name r.system [] r.system.snaps place.at refl ∙ none))
        ∙ append_none (older_sources r.name u.group r.system.snaps)))
        ∙ sym is

    module _ (o : SnapId) (origin : r.system.origin ≡ Some o) where
      origin_is : IsThere (world_of t) (Snapped o)
      origin_is = origin_there (world_of t) sound.systems r.name r.system place.at o origin

      pub origin_found : snap_at (world_of t) o ≡ None → ⊥
      origin_found e = at origin_is
        where
          at : IsThere (world_of t) (Snapped o) → ⊥
          at (name, f, v, f_at, i, is) = no_value (name, v) (sym e ∙ snap_is_at (world_of t) t.group sound.systems.lines name f v o f_at i is)

      -- groups fall
      pub falls : (v : Snap) → id_of v ≡ o → v.group < u.group
      falls v is =
          let l = rising_above (origin_group r.system.origin) r.system.snaps u ups place.snap in
          let g = ap origin_group origin in
          let e : v.group ≡ o.group = ap (λ (x : SnapId). x.group) is in
          omega (arith, l, g, e)

      -- the walk goes on at the origin
      pub goes_down : (next : Row) (v : Snap) → IsPlace t next (Some v) → id_of v ≡ o → lineage_sources t (id_of u) ≡ (older_sources r.name u.group r.system.snaps ++ snapshot_in next.name v ∷ []) ++ lineage_sources t (id_of v)
      goes_down next v there is =
          below
          ∙ ap (λ l. older_sources r.name u.group r.system.snaps ++ filter_map (snapshot_source (world_of t)) l)
          (older_first (world_of t) sound.systems (next_in r.name r.system.snaps) (id_of v) (next_there (world_of t) sound.systems r.name r.system [] r.system.snaps place.at refl)
          (next_previous (world_of t) sound.systems r.name r.system [] r.system.snaps place.at refl ∙ origin ∙ ap Some (sym is)))
          ∙ ap (λ x. older_sources r.name u.group r.system.snaps ++ cons_option (option_map {T = Name × Snap} {U = Source} (λ p. snapshot_in p.0 (record p.1 { guid = v.guid; group = v.group })) x) (lineage_sources t (id_of v)))
          (snap_is_at (world_of t) t.group sound.systems.lines next.name next.system v (id_of v) there.at there.snap refl)
          ∙ sym (append_assoc (older_sources r.name u.group r.system.snaps) (snapshot_in next.name v ∷ []) (lineage_sources t (id_of v)))

-- ---- the bookmarks

-- the older ones of some
module _ (name : Name) (group : ℕ) where
  abbrev pub below_of : List (Arc Mark Global) → List Source
  below_of marks = filter (λ (b : Source). nat_lt b.group.0 group) (map (λ a. bookmark_in name (entry_in a)) marks)

  -- one more
  module _ (marks : List (Arc Mark Global)) (i : ℕ) (a : Arc Mark Global) (before now : List Source) (lt : i < length marks) (is : a ≡ get_or marks i a) (so_far : now ≡ before ++ below_of (take i marks)) (m : Mark)
      (m_is : m ≡ arc_value a) where
    more : before ++ below_of (take (i + 1) marks) ≡ now ++ cond (nat_lt m.snapshot.group.0 group) (bookmark_in name (entry_in a) ∷ []) []
    more =
        ap (λ l. before ++ l) (ap below_of (take_more marks i a lt ∙ ap (λ x. take i marks ++ x ∷ []) (sym is))
        ∙ ap (filter (λ (b : Source). nat_lt b.group.0 group)) (map-append {B = Source} (λ a. bookmark_in name (entry_in a)) (take i marks) (a ∷ []))
        ∙ filter_join (λ (b : Source). nat_lt b.group.0 group) (map (λ a. bookmark_in name (entry_in a)) (take i marks)) (bookmark_in name (entry_in a) ∷ []))
        ∙ sym (append_assoc before (below_of (take i marks)) (cond (nat_lt (entry_in a).1.group group) (bookmark_in name (entry_in a) ∷ []) []))
        ∙ (λ j. sym so_far j ++ cond (nat_lt ((sym m_is j).snapshot.group.0) group) (bookmark_in name (entry_in a) ∷ []) [])

    -- it is older
    pub mark_one : m.snapshot.group.0 < group → (source : Source) (after : List Source) → source ≡ bookmark_in name (entry_in a) → after ≡ now ++ source ∷ [] → after ≡ before ++ below_of (take (i + 1) marks)
    mark_one l source after source_is after_is =
        after_is ∙ ap (λ x. now ++ x ∷ []) source_is
        ∙ sym (more ∙ ap (λ b. now ++ cond b (bookmark_in name (entry_in a) ∷ []) []) (lt-ltb m.snapshot.group.0 group l))

    -- or isn't
    pub mark_none : group ≤ m.snapshot.group.0 → (after : List Source) → after ≡ now → after ≡ before ++ below_of (take (i + 1) marks)
    mark_none l after after_is =
        after_is ∙ sym (more ∙ ap (λ b. now ++ cond b (bookmark_in name (entry_in a) ∷ []) []) (le-ltb m.snapshot.group.0 group l) ∙ append_none now)

-- each in their order is one of them
marked : (m : Marks) (e : Entry) → IsIn (marks_in_order m) e → get m e.0 ≡ Some e.1
marked m e i =
    let rows = map keyed (entries m) in
    let p = in_map (λ (x : (ℕ × Name) × Entry). x.1) (entries (from_entries {R = bookmark_cmp} rows)) e i in
    let q = at_entry group_order (from_entries {R = bookmark_cmp} rows) p.0.0 p.0.1 (entry (entries (from_entries {R = bookmark_cmp} rows)) p.0 p.1) in
    let k = in_map keyed (entries m) (p.0.0, p.0.1) (in_entries rows p.0.0 p.0.1 (entry_from_find group_order rows p.0.0 p.0.1 (sym (get-from_entries group_order.total rows p.0.0) ∙ q))) in
    let is : e ≡ k.0 = p.2 ∙ ap (λ (x : (ℕ × Name) × Entry). x.1) k.2 in
    at_entry name_order m e.0 e.1 (entry (entries m) e (subst (IsIn (entries m)) (sym is) k.1))
  where
    entry : {K X : Type 0} (es : List (K × X)) (x : K × X) → IsIn es x → IsEntry es x.0 x.1
    entry [] x h = absurd h
    entry (y ∷ ys) x h = ⊎_elim (λ (k : x ≡ y). inl (ap (λ z. z.0) k, ap (λ z. z.1) k)) (λ k. inr (entry ys x k)) h

-- those of a file system, one after another
pub marks_are : (name : Name) (f : FileSystem) (group : ℕ) (m : Marks) (marks : List (Arc Mark Global)) → m ≡ f.bookmarks → map entry_in marks ≡ marks_in_order m → map name_in marks ≡ bookmarks_in_order (alone m)
    → filter (λ (b : Source). nat_lt b.group.0 group) (map (λ a. bookmark_in name (entry_in a)) marks) ≡ bookmark_sources name f group
marks_are name f group m marks is all names =
    ap (filter (λ (b : Source). nat_lt b.group.0 group)) (sym (
    ap (filter_map (bookmark_source name f)) (sym (names ∙ ap (λ (x : Marks). bookmarks_in_order (alone x)) is))
    ∙ given_all (bookmark_source name f) name_in (λ a. bookmark_in name (entry_in a)) marks (λ a i.
    ap (option_map {T = Bookmark} {U = Source} (λ b. bookmark_in name (name_in a, b)))
    (ap (λ (x : Marks). get x (name_in a)) (sym is) ∙ marked m (entry_in a) (subst (λ l. IsIn l (entry_in a)) all (map_in entry_in marks a i))))))
