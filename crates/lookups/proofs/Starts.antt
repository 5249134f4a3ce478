-- The source that a send names.
use Rattle.std.proofs.Common.{◌≡◌, ℕ, ◌<◌, ◌≤◌, true, false, List, [], ◌∷◌, ◌++◌, Option, Some, None, map, refl, sym, ap, subst, ◌∙◌, ◌⊎◌, inl, inr, ⊎_elim, true≢false, arith}
use Rattle.std.specs.Prelude.{nat_lt}
use Rattle.std.proofs.lemmas.Bool.{lt-ltb, ltb-true}
use Rattle.std.specs.List.{filter_map, find}
use Rattle.std.specs.Option.{option_map, option_map_or, option_and_then}
use Rattle.std.specs.FinMap.{get, entries}
use Rattle.base.specs.Surveys.{IsIn}
use Rattle.snapshots.proofs.Orders.{by_group}
use Rattle.base.specs.Names.{same_name}
use Rattle.base.specs.declared.name.member.Member.{Member}
use Rattle.base.specs.declared.name.target.Target.{Target}
use Rattle.base.specs.declared.name.target.Target.TheVariants.{FileSystem as OfFileSystem, Snapshot as OfSnapshot, Bookmark as OfBookmark}
use Rattle.model.specs.Properties.{bookmark_cmp, bookmarks_in_order}
use Rattle.model.specs.World.{FileSystem, Snap, SnapId, Bookmark, Snapped, id_of, snap_at, snap_named, older_of, file_system_at}
use Rattle.model.specs.declared.source.Source.{Source}
use Rattle.model.specs.declared.source.SourceName.TheVariants.{Snapshot as ASnapshot, Bookmark as ABookmark}
use Rattle.model.specs.requests.Send.{Start, source_at, snapshot_source, bookmark_source, bookmark_sources, sources_of, same_member, is_called, start_of}
use Rattle.world.specs.Sets.{IsExactOrder}
use Rattle.world.specs.Shapes.{Name, name_order}
use Rattle.world.specs.Tables.{Datasets, world_of}
use Rattle.world.proofs.lineage.Bridge.{from_snap_at, snap_is_at}
use Rattle.world.proofs.lists.Finding.{from_find, find_only, find_none, found_none, in_filter, from_filter, in_left, in_right, in_either, name_itself, one_name}
use Rattle.world.proofs.lists.Listed.{map_in}
use Rattle.world.proofs.lists.Maps.{same_value, no_value, entry_of}
use Rattle.world.proofs.removals.WithoutSnaps.{any_in, any_from}
use Rattle.datasets.specs.Rows.{Row}
use Rattle.datasets.specs.Table.{IsTable}
use Rattle.lookups.specs.Places.{IsPlace}
use Rattle.lookups.specs.Since.{is_before}
use Rattle.lookups.proofs.Places.{IsSnapshot}
use Rattle.lookups.proofs.SourceLists.{in_given, from_given, key_of}
use Rattle.laws.proofs.SourceNames.{same_parts}
use Rattle.laws.proofs.Sent.{entry_in as in_entries}

-- ---- the same name

same_itself : (m : Member) → same_member m m ≡ true
same_itself m = rw (name_itself m.file_system, name_itself m.component) refl

-- ---- the bookmarks of a file system in their order

pub group_order : IsExactOrder bookmark_cmp
group_order = record { total = by_group.total; exact = by_group.exact }

in_order : (f : FileSystem) (component : Name) (b : Bookmark) → get f.bookmarks component ≡ Some b → IsIn (bookmarks_in_order f) component
in_order f component b at =
    let rows = map (λ (e : Name × Bookmark). ((e.1.group, e.0), e.0)) (entries f.bookmarks) in
    map_in (λ (k : ℕ × Name). k.1) _ (b.group, component)
    (key_of group_order rows (b.group, component) component
    (map_in {B = (ℕ × Name) × Name} (λ (e : Name × Bookmark). ((e.1.group, e.0), e.0)) (entries f.bookmarks) (component, b)
    (in_entries (entries f.bookmarks) component b (entry_of name_order f.bookmarks component b at))))

-- ---- what a snapshot's sources are

-- a source is an older snapshot, or a bookmark of its file system
module _ (t : Datasets) (sound : IsTable t) (r : Row) (u : Snap) (place : IsPlace t r (Some u)) where
  abbrev older : List SnapId
  older = older_of (world_of t) (Snapped (id_of u))

  pub parted : sources_of (world_of t) (id_of u) ≡ filter_map (snapshot_source (world_of t)) older ++ bookmark_sources r.name r.system u.group
  unfolding sources_of
  parted =
      ap (λ x. filter_map (snapshot_source (world_of t)) older ++ option_map_or (λ (p : Name × Snap). option_map_or (λ (f : FileSystem). bookmark_sources p.0 f u.group) (file_system_at (world_of t) p.0) []) x [])
      (snap_is_at (world_of t) t.group sound.systems.lines r.name r.system u (id_of u) place.at place.snap refl)
      ∙ ap (λ x. filter_map (snapshot_source (world_of t)) older ++ option_map_or (λ (f : FileSystem). bookmark_sources r.name f u.group) x []) place.at

  -- the snapshot of a source, by its identity
  module _ (s : Source) (id : SnapId) (e : snapshot_source (world_of t) id ≡ Some s) where
    its : (n : Name) × (v : Snap) × (snap_at (world_of t) id ≡ Some (n, v)) × (s ≡ source_at (ASnapshot (record { file_system = n; component = v.name })) id.guid id.group)
    its = at (snap_at (world_of t) id) refl e
      where
        at : (x : Option (Name × Snap)) → snap_at (world_of t) id ≡ x
            → option_map {T = Name × Snap} {U = Source} (λ p. source_at (ASnapshot (record { file_system = p.0; component = p.1.name })) id.guid id.group) x ≡ Some s
            → (n : Name) × (v : Snap) × (snap_at (world_of t) id ≡ Some (n, v)) × (s ≡ source_at (ASnapshot (record { file_system = n; component = v.name })) id.guid id.group)
        at None k h = absurd (no_value s h)
        at (Some p) k h = (p.0, p.1, k, sym (same_value _ s h))

  -- the bookmark of a source
  marked : (s : Source) (component : Name) → bookmark_source r.name r.system component ≡ Some s
      → (b : Bookmark) × (get r.system.bookmarks component ≡ Some b) × (s ≡ source_at (ABookmark (record { file_system = r.name; component = component })) b.guid b.group)
  marked s component e = at (get r.system.bookmarks component) refl e
    where
      at : (x : Option Bookmark) → get r.system.bookmarks component ≡ x
          → option_map {T = Bookmark} {U = Source} (λ b. source_at (ABookmark (record { file_system = r.name; component = component })) b.guid b.group) x ≡ Some s
          → (b : Bookmark) × (get r.system.bookmarks component ≡ Some b) × (s ≡ source_at (ABookmark (record { file_system = r.name; component = component })) b.guid b.group)
      at None k h = absurd (no_value s h)
      at (Some b) k h = (b, k, sym (same_value _ s h))

  pub from_sources : (s : Source) → IsIn (sources_of (world_of t) (id_of u)) s
      → ((id : SnapId) × IsIn older id × (snapshot_source (world_of t) id ≡ Some s))
      ⊎ ((component : Name) × (bookmark_source r.name r.system component ≡ Some s) × (nat_lt s.group.0 u.group ≡ true))
  from_sources s i = ⊎_elim
      (λ k. inl (from_given (snapshot_source (world_of t)) older s k))
      (λ k.
      let p = from_filter (λ (b : Source). nat_lt b.group.0 u.group) (filter_map (bookmark_source r.name r.system) (bookmarks_in_order r.system)) s k in
      let q = from_given (bookmark_source r.name r.system) (bookmarks_in_order r.system) s p.0 in
      inr (q.0, q.2, p.1))
      (in_either (filter_map (snapshot_source (world_of t)) older) (bookmark_sources r.name r.system u.group) s (subst (λ l. IsIn l s) parted i))

  -- ---- by the name of a file system

  pub no_file_system : (name : Name) → find (λ (s : Source). is_called s.name (OfFileSystem name)) (sources_of (world_of t) (id_of u)) ≡ None
  no_file_system name = find_none (λ (s : Source). is_called s.name (OfFileSystem name)) (sources_of (world_of t) (id_of u)) (λ s i e.
      ⊎_elim
      (λ (id, k, given). let p = its s id given in true≢false (sym e ∙ ap (λ (x : Source). is_called x.name (OfFileSystem name)) p.3))
      (λ (component, given, l). let p = marked s component given in true≢false (sym e ∙ ap (λ (x : Source). is_called x.name (OfFileSystem name)) p.2))
      (from_sources s i))

  -- ---- by the name of a snapshot

  module _ (m : Member) where
    -- a source of that name is an older snapshot
    of_snapshot : (s : Source) → IsIn (sources_of (world_of t) (id_of u)) s → is_called s.name (OfSnapshot m) ≡ true
        → (id : SnapId) × IsIn older id × (f : FileSystem) × (v : Snap) × (get t.file_systems m.file_system ≡ Some f) × IsIn f.snaps v × (v.name ≡ m.component) × (id_of v ≡ id)
        × (s ≡ source_at (ASnapshot (record { file_system = m.file_system; component = m.component })) id.guid id.group)
    of_snapshot s i e = ⊎_elim
        (λ (id, k, given).
        let p = its s id given in
        let same = same_parts (record { file_system = p.0; component = p.1.name }) m (sym (ap (λ (x : Source). is_called x.name (OfSnapshot m)) p.3) ∙ e) in
        let x = from_snap_at (world_of t) id (p.0, p.1) p.2 in (
          id,
          k,
          x.0,
          p.1,
          ap (get t.file_systems) (sym same.0) ∙ x.1,
          x.2,
          same.1,
          x.3,
          p.3 ∙ (λ j. source_at (ASnapshot (record { file_system = same.0 j; component = same.1 j })) id.guid id.group),
        ))
        (λ (component, given, l). let p = marked s component given in absurd (true≢false (sym e ∙ ap (λ (x : Source). is_called x.name (OfSnapshot m)) p.2)))
        (from_sources s i)

    -- there is no such snapshot
    pub no_snapshot : snap_named (world_of t) m ≡ None → find (λ (s : Source). is_called s.name (OfSnapshot m)) (sources_of (world_of t) (id_of u)) ≡ None
    no_snapshot none = find_none (λ (s : Source). is_called s.name (OfSnapshot m)) (sources_of (world_of t) (id_of u)) (λ s i e.
        let (id, k, f, v, f_at, there, named, is, s_is) = of_snapshot s i e in
        found_none (λ (x : Snap). same_name x.name m.component) f.snaps (sym (ap (option_and_then {T = FileSystem} {U = Snap} (λ f. find (λ (x : Snap). same_name x.name m.component) f.snaps)) f_at) ∙ none) v there
        (ap (λ n. same_name n m.component) named ∙ name_itself m.component))

    module _ (o : Row) (v : Snap) (found : IsSnapshot t m o v) where
      abbrev source : Source
      source = source_at (ASnapshot m) v.guid v.group

      v_named : v.name ≡ m.component
      v_named =
          one_name v.name m.component
          (from_find (λ (x : Snap). same_name x.name m.component) o.system.snaps v
          (sym (ap (option_and_then {T = FileSystem} {U = Snap} (λ f. find (λ (x : Snap). same_name x.name m.component) f.snaps)) found.at) ∙ found.named)).1

      -- a source of that name is this one
      it_is : (s : Source) → IsIn (sources_of (world_of t) (id_of u)) s → is_called s.name (OfSnapshot m) ≡ true → IsIn older (id_of v) × (s ≡ source)
      it_is s i e =
          let (id, k, f, x, f_at, there, named, is, s_is) = of_snapshot s i e in
          let f_is : f ≡ o.system = same_value f o.system (sym f_at ∙ found.at) in
          let one : x ≡ v = (sound.systems.tidy m.file_system o.system found.at).names x v (subst (λ (g : FileSystem). IsIn g.snaps x) f_is there) found.there (named ∙ sym v_named) in
          let id_is : id ≡ id_of v = sym is ∙ ap id_of one in (
            subst (IsIn older) id_is k,
            s_is ∙ ap (λ (j : SnapId). source_at (ASnapshot m) j.guid j.group) id_is,
          )

      pub older_source : is_before t (Snapped (id_of u)) (id_of v) ≡ true → find (λ (s : Source). is_called s.name (OfSnapshot m)) (sources_of (world_of t) (id_of u)) ≡ Some source
      older_source before =
          find_only (λ (s : Source). is_called s.name (OfSnapshot m)) (sources_of (world_of t) (id_of u)) source
          (subst (λ l. IsIn l source) (sym parted) (in_left (filter_map (snapshot_source (world_of t)) older) (bookmark_sources r.name r.system u.group) source
          (in_given (snapshot_source (world_of t)) older (id_of v) source (any_from older (id_of v) before)
          (ap (option_map {T = Name × Snap} {U = Source} (λ p. source_at (ASnapshot (record { file_system = p.0; component = p.1.name })) v.guid v.group))
          (snap_is_at (world_of t) t.group sound.systems.lines m.file_system o.system v (id_of v) found.at found.there refl)
          ∙ ap (λ n. Some (source_at (ASnapshot (record { file_system = m.file_system; component = n })) v.guid v.group)) v_named))))
          (same_itself m)
          (λ s i e. (it_is s i e).1)

      pub not_older : is_before t (Snapped (id_of u)) (id_of v) ≡ false → find (λ (s : Source). is_called s.name (OfSnapshot m)) (sources_of (world_of t) (id_of u)) ≡ None
      not_older after = find_none (λ (s : Source). is_called s.name (OfSnapshot m)) (sources_of (world_of t) (id_of u)) (λ s i e.
          true≢false (sym (any_in older (id_of v) (id_of v) (it_is s i e).0 refl) ∙ after))

  -- ---- by the name of a bookmark

  module _ (m : Member) where
    of_bookmark : (s : Source) → IsIn (sources_of (world_of t) (id_of u)) s → is_called s.name (OfBookmark m) ≡ true
        → (r.name ≡ m.file_system) × (b : Bookmark) × (get r.system.bookmarks m.component ≡ Some b) × (b.group < u.group) × (s ≡ source_at (ABookmark m) b.guid b.group)
    of_bookmark s i e = ⊎_elim
        (λ (id, k, given). let p = its s id given in absurd (true≢false (sym e ∙ ap (λ (x : Source). is_called x.name (OfBookmark m)) p.3)))
        (λ (component, given, l).
        let p = marked s component given in
        let same = same_parts (record { file_system = r.name; component = component }) m (sym (ap (λ (x : Source). is_called x.name (OfBookmark m)) p.2) ∙ e) in (
          same.0,
          p.0,
          ap (get r.system.bookmarks) (sym same.1) ∙ p.1,
          ltb-true p.0.group u.group (ap (λ (x : Source). nat_lt x.group.0 u.group) (sym p.2) ∙ l),
          p.2 ∙ (λ j. source_at (ABookmark (record { file_system = same.0 j; component = same.1 j })) p.0.guid p.0.group),
        ))
        (from_sources s i)

    -- it is another file system's
    pub of_another : same_name r.name m.file_system ≡ false → find (λ (s : Source). is_called s.name (OfBookmark m)) (sources_of (world_of t) (id_of u)) ≡ None
    of_another other = find_none (λ (s : Source). is_called s.name (OfBookmark m)) (sources_of (world_of t) (id_of u)) (λ s i e.
        true≢false (sym (ap (same_name r.name) (sym (of_bookmark s i e).0) ∙ name_itself r.name) ∙ other))

    -- there is no such bookmark
    pub no_bookmark : get r.system.bookmarks m.component ≡ None → find (λ (s : Source). is_called s.name (OfBookmark m)) (sources_of (world_of t) (id_of u)) ≡ None
    no_bookmark none = find_none (λ (s : Source). is_called s.name (OfBookmark m)) (sources_of (world_of t) (id_of u)) (λ s i e.
        let p = of_bookmark s i e in no_value p.1 (sym none ∙ p.2))

    module _ (b : Bookmark) (at : get r.system.bookmarks m.component ≡ Some b) where
      -- it isn't older
      pub too_new : u.group ≤ b.group → find (λ (s : Source). is_called s.name (OfBookmark m)) (sources_of (world_of t) (id_of u)) ≡ None
      too_new high = find_none (λ (s : Source). is_called s.name (OfBookmark m)) (sources_of (world_of t) (id_of u)) (λ s i e.
          let p = of_bookmark s i e in
          let l = p.3 in
          let g : p.1.group ≡ b.group = ap (λ (x : Bookmark). x.group) (same_value p.1 b (sym p.2 ∙ at)) in
          omega (arith, l, g, high))

      pub mark_source : same_name r.name m.file_system ≡ true → b.group < u.group
          → find (λ (s : Source). is_called s.name (OfBookmark m)) (sources_of (world_of t) (id_of u)) ≡ Some (source_at (ABookmark m) b.guid b.group)
      mark_source own low =
          let source : Source = source_at (ABookmark m) b.guid b.group in
          find_only (λ (s : Source). is_called s.name (OfBookmark m)) (sources_of (world_of t) (id_of u)) source
          (subst (λ l. IsIn l source) (sym parted) (in_right (filter_map (snapshot_source (world_of t)) older) (bookmark_sources r.name r.system u.group) source
          (in_filter (λ (s : Source). nat_lt s.group.0 u.group) (filter_map (bookmark_source r.name r.system) (bookmarks_in_order r.system)) source
          (in_given (bookmark_source r.name r.system) (bookmarks_in_order r.system) m.component source (in_order r.system m.component b at)
          (ap (option_map {T = Bookmark} {U = Source} (λ b. source_at (ABookmark (record { file_system = r.name; component = m.component })) b.guid b.group)) at
          ∙ ap (λ n. Some (source_at (ABookmark (record { file_system = n; component = m.component })) b.guid b.group)) (one_name r.name m.file_system own)))
          (lt-ltb b.group u.group low))))
          (same_itself m)
          (λ s i e.
          let p = of_bookmark s i e in
          p.4 ∙ ap (λ (x : Bookmark). source_at (ABookmark m) x.guid x.group) (same_value p.1 b (sym p.2 ∙ at)))

  -- where a send starts that names this source
  pub started : (name : Target) (x : Option Source) → find (λ (s : Source). is_called s.name name) (sources_of (world_of t) (id_of u)) ≡ x
      → start_of (sources_of (world_of t) (id_of u)) (Some name) ≡ option_map {T = Source} {U = Start} (λ s. record { guid = s.guid.0; group = s.group.0 }) x
  unfolding start_of
  started name x e = ap (option_map {T = Source} {U = Start} (λ s. record { guid = s.guid.0; group = s.group.0 })) e

-- a full send
pub whole : (sources : List Source) → start_of sources None ≡ Some (record { guid = 0; group = 0 })
unfolding start_of
whole sources = refl
