-- What a snapshot's sources are, by their names.
use Rattle.std.proofs.Common.{◌≡◌, ◌<◌, ℕ, zero, suc, true, List, [], ◌++◌, Option, Some, None, refl, sym, ap, subst, ◌∙◌, ◌⊎◌, inl, inr, ⊎_elim, true≢false}
use Rattle.std.specs.Prelude.{nat_lt}
use Rattle.std.specs.List.{filter_map, find}
use Rattle.std.specs.Option.{option_map, option_map_or, option_and_then}
use Rattle.std.specs.FinMap.{get}
use Rattle.std.proofs.lemmas.Bool.{and_parts, ltb-true}
use Rattle.base.specs.Surveys.{IsIn}
use Rattle.base.specs.Names.{same_name}
use Rattle.base.specs.declared.name.member.Member.{Member}
use Rattle.base.specs.declared.name.target.Target.{Target}
use Rattle.base.specs.declared.name.target.Target.TheVariants.{FileSystem as OfFileSystem, Snapshot as OfSnapshot, Bookmark as OfBookmark}
use Rattle.model.specs.Properties.{bookmarks_in_order}
use Rattle.model.specs.World.{World, FileSystem, Snap, SnapId, Bookmark, Dataset, Snapped, id_of, snap_at, previous_of, chain, older_of, file_system_at, bookmark_named}
use Rattle.model.specs.declared.source.Source.{Source}
use Rattle.model.specs.declared.source.SourceName.TheVariants.{Snapshot as ASnapshot, Bookmark as ABookmark}
use Rattle.model.specs.requests.Send.{Start, source_at, snapshot_source, bookmark_source, bookmark_sources, sources_of, same_member, is_called, start_of}
use Rattle.world.specs.RunLaws.{HasSnap}
use Rattle.world.specs.Shapes.{Name}
use Rattle.world.proofs.lineage.Bridge.{from_snap_at}
use Rattle.world.proofs.lists.Finding.{from_find, from_filter, in_either, one_name}
use Rattle.world.proofs.lists.Maps.{same_value, no_value}
use Rattle.laws.specs.Lineages.{IsBefore, IsOrdered}
use Rattle.laws.proofs.Lineages.{found}
use Rattle.laws.proofs.Lists.{from_filter_map}

-- ---- what stands before

chain_before : (w : World) (most : ℕ) (x : Option SnapId) (id : SnapId) → IsIn (chain w most x) id
    → (p : SnapId) × (x ≡ Some p) × (k : ℕ) × IsBefore w k (Snapped p) (Snapped id)
chain_before w zero x id i = absurd i
chain_before w (suc most) None id i = absurd i
chain_before w (suc most) (Some p) id i = ⊎_elim
    (λ e. (p, refl, zero, ap Snapped (sym e)))
    (λ r. let k = chain_before w most (previous_of w (Snapped p)) id r in (p, refl, suc k.2, (k.0, k.1, k.3)))
    i

pub older_before : (w : World) (d : Dataset) (id : SnapId) → IsIn (older_of w d) id → (k : ℕ) × IsBefore w (suc k) d (Snapped id)
unfolding older_of
older_before w d id i = let c = chain_before w w.group (previous_of w d) id i in (c.2, (c.0, c.1, c.3))

-- ---- a source by its name

pub same_parts : (a b : Member) → same_member a b ≡ true → (a.file_system ≡ b.file_system) × (a.component ≡ b.component)
same_parts a b e =
    let p = and_parts (same_name a.file_system b.file_system) (same_name a.component b.component) e in
    (one_name a.file_system b.file_system p.0, one_name a.component b.component p.1)

-- the snapshot of a source, by its identity
module _ (w : World) (s : Source) (id : SnapId) (e : snapshot_source w id ≡ Some s) where
  pub its : (n : Name) × (v : Snap) × (snap_at w id ≡ Some (n, v)) × (s ≡ source_at (ASnapshot (record { file_system = n; component = v.name })) id.guid id.group)
  its = at (snap_at w id) refl e
    where
      at : (x : Option (Name × Snap)) → snap_at w id ≡ x
          → option_map {T = Name × Snap} {U = Source} (λ p. source_at (ASnapshot (record { file_system = p.0; component = p.1.name })) id.guid id.group) x ≡ Some s
          → (n : Name) × (v : Snap) × (snap_at w id ≡ Some (n, v)) × (s ≡ source_at (ASnapshot (record { file_system = n; component = v.name })) id.guid id.group)
      at None k h = absurd (no_value s h)
      at (Some p) k h = (p.0, p.1, k, sym (same_value _ s h))

-- the bookmark of a source
module _ (name : Name) (f : FileSystem) (s : Source) (component : Name) (e : bookmark_source name f component ≡ Some s) where
  pub marked : (b : Bookmark) × (get f.bookmarks component ≡ Some b) × (s ≡ source_at (ABookmark (record { file_system = name; component = component })) b.guid b.group)
  marked = at (get f.bookmarks component) refl e
    where
      at : (x : Option Bookmark) → get f.bookmarks component ≡ x
          → option_map {T = Bookmark} {U = Source} (λ b. source_at (ABookmark (record { file_system = name; component = component })) b.guid b.group) x ≡ Some s
          → (b : Bookmark) × (get f.bookmarks component ≡ Some b) × (s ≡ source_at (ABookmark (record { file_system = name; component = component })) b.guid b.group)
      at None k h = absurd (no_value s h)
      at (Some b) k h = (b, k, sym (same_value _ s h))

-- ---- the sources of a snapshot that is there

module _ (w : World) (order : IsOrdered w) (name : Name) (f : FileSystem) (t : Snap) (f_at : get w.file_systems name ≡ Some f) (there : IsIn f.snaps t) where
  abbrev older : List SnapId
  older = older_of w (Snapped (id_of t))

  parted : sources_of w (id_of t) ≡ filter_map (snapshot_source w) older ++ bookmark_sources name f t.group
  unfolding sources_of
  parted =
      ap (λ x. filter_map (snapshot_source w) older ++ option_map_or (λ (p : Name × Snap). option_map_or (λ (g : FileSystem). bookmark_sources p.0 g t.group) (file_system_at w p.0) []) x [])
      (found w order name f t (id_of t) f_at there refl)
      ∙ ap (λ x. filter_map (snapshot_source w) older ++ option_map_or (λ (g : FileSystem). bookmark_sources name g t.group) x []) f_at

  -- a source is an older snapshot, or a bookmark of the file system
  from_sources : (s : Source) → IsIn (sources_of w (id_of t)) s
      → ((id : SnapId) × IsIn older id × (snapshot_source w id ≡ Some s))
      ⊎ ((component : Name) × (bookmark_source name f component ≡ Some s) × (nat_lt s.group.0 t.group ≡ true))
  from_sources s i = ⊎_elim
      (λ k. inl (from_filter_map (snapshot_source w) older s k))
      (λ k.
      let p = from_filter (λ (b : Source). nat_lt b.group.0 t.group) (filter_map (bookmark_source name f) (bookmarks_in_order f)) s k in
      let q = from_filter_map (bookmark_source name f) (bookmarks_in_order f) s p.0 in
      inr (q.0, q.2, p.1))
      (in_either (filter_map (snapshot_source w) older) (bookmark_sources name f t.group) s (subst (λ l. IsIn l s) parted i))

  -- the source of a start that is named
  pub source_named : (target : Target) (start : Start) → start_of (sources_of w (id_of t)) (Some target) ≡ Some start
      → (s : Source) × IsIn (sources_of w (id_of t)) s × (is_called s.name target ≡ true) × (start ≡ record { guid = s.guid.0; group = s.group.0 })
  unfolding start_of
  source_named target start e = at (find (λ (s : Source). is_called s.name target) (sources_of w (id_of t))) refl e
    where
      at : (x : Option Source) → find (λ (s : Source). is_called s.name target) (sources_of w (id_of t)) ≡ x
          → option_map {T = Source} {U = Start} (λ s. record { guid = s.guid.0; group = s.group.0 }) x ≡ Some start
          → (s : Source) × IsIn (sources_of w (id_of t)) s × (is_called s.name target ≡ true) × (start ≡ record { guid = s.guid.0; group = s.group.0 })
      at None k h = absurd (no_value start h)
      at (Some s) k h =
          let p = from_find (λ (s : Source). is_called s.name target) (sources_of w (id_of t)) s k in
          let begun : Start = record { guid = s.guid.0; group = s.group.0 } in
          (s, p.0, p.1, sym (same_value begun start h))

  -- none has the name of a file system
  pub no_file_system : (s : Source) → IsIn (sources_of w (id_of t)) s → (n : Name) → is_called s.name (OfFileSystem n) ≡ true → ⊥
  no_file_system s i n e = ⊎_elim
      (λ k. let p = its w s k.0 k.2 in true≢false (sym e ∙ ap (λ (x : Source). is_called x.name (OfFileSystem n)) p.3))
      (λ k. let p = marked name f s k.0 k.1 in true≢false (sym e ∙ ap (λ (x : Source). is_called x.name (OfFileSystem n)) p.2))
      (from_sources s i)

  -- one that has the name of a snapshot is a snapshot before this one
  pub of_snapshot : (s : Source) → IsIn (sources_of w (id_of t)) s → (m : Member) → is_called s.name (OfSnapshot m) ≡ true
      → (v : Snap) × HasSnap w m.file_system v × (v.name ≡ m.component) × (s.guid.0 ≡ v.guid) × (s.group.0 ≡ v.group)
      × (k : ℕ) × IsBefore w (suc k) (Snapped (id_of t)) (Snapped (id_of v))
  of_snapshot s i m e = ⊎_elim
      (λ (id, older_is, given).
      let p = its w s id given in
      let same = same_parts (record { file_system = p.0; component = p.1.name }) m (sym (ap (λ (x : Source). is_called x.name (OfSnapshot m)) p.3) ∙ e) in
      let x = from_snap_at w id (p.0, p.1) p.2 in
      let before = older_before w (Snapped (id_of t)) id older_is in (
        p.1,
        (x.0, ap (get w.file_systems) (sym same.0) ∙ x.1, x.2),
        same.1,
        ap (λ (y : Source). y.guid.0) p.3 ∙ ap (λ (y : SnapId). y.guid) (sym x.3),
        ap (λ (y : Source). y.group.0) p.3 ∙ ap (λ (y : SnapId). y.group) (sym x.3),
        before.0,
        subst (λ y. IsBefore w (suc before.0) (Snapped (id_of t)) (Snapped y)) (sym x.3) before.1,
      ))
      (λ k. let p = marked name f s k.0 k.1 in absurd (true≢false (sym e ∙ ap (λ (x : Source). is_called x.name (OfSnapshot m)) p.2)))
      (from_sources s i)

  -- one that has the name of a bookmark is the file system's, of a lower group
  pub of_bookmark : (s : Source) → IsIn (sources_of w (id_of t)) s → (m : Member) → is_called s.name (OfBookmark m) ≡ true
      → (b : Bookmark) × (bookmark_named w m ≡ Some b) × (s.guid.0 ≡ b.guid) × (s.group.0 ≡ b.group) × (m.file_system ≡ name) × (b.group < t.group)
  of_bookmark s i m e = ⊎_elim
      (λ k. let p = its w s k.0 k.2 in absurd (true≢false (sym e ∙ ap (λ (x : Source). is_called x.name (OfBookmark m)) p.3)))
      (λ (component, given, lower).
      let p = marked name f s component given in
      let same = same_parts (record { file_system = name; component = component }) m (sym (ap (λ (x : Source). is_called x.name (OfBookmark m)) p.2) ∙ e) in (
        p.0,
        named m p.0 (ap (get w.file_systems) (sym same.0) ∙ f_at) (ap (get f.bookmarks) (sym same.1) ∙ p.1),
        ap (λ (y : Source). y.guid.0) p.2,
        ap (λ (y : Source). y.group.0) p.2,
        sym same.0,
        ltb-true p.0.group t.group (ap (λ (x : Source). nat_lt x.group.0 t.group) (sym p.2) ∙ lower),
      ))
      (from_sources s i)
    where
      named : (m : Member) (b : Bookmark) → get w.file_systems m.file_system ≡ Some f → get f.bookmarks m.component ≡ Some b → bookmark_named w m ≡ Some b
      named m b a c = ap (option_and_then {T = FileSystem} {U = Bookmark} (λ g. get g.bookmarks m.component)) a ∙ c
