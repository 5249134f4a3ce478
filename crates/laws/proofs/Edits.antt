-- What each edit of a world makes of its file systems: they go on, or are new and have no snapshots but of the open group.
use Rattle.std.proofs.Common.{◌≡◌, ℕ, ◌+◌, ◌≤◌, Bool, true, false, cond, not, ◌||◌, List, [], ◌∷◌, ◌++◌, Option, Some, None, refl, sym, ap, subst, ◌∙◌, ◌⊎◌, inl, inr, ⊎_elim, map, arith}
use Rattle.std.specs.Prelude.{nat_le, if◌then◌else◌}
use Rattle.std.specs.List.{filter, list_any}
use Rattle.std.specs.Option.{option_map, option_map_or}
use Rattle.std.specs.FinMap.{FinMap, get, insert, entries, from_entries, get-empty, get-from_entries}
use Rattle.std.proofs.lemmas.Bool.{leb-true}
use Rattle.base.specs.declared.number.Key.{Key}
use Rattle.base.specs.Key.{key_cmp}
use Rattle.base.specs.Map.{Cell}
use Rattle.base.specs.Rewrite.{Changes, rewrite, is_touched}
use Rattle.base.specs.Surveys.{IsIn}
use Rattle.base.specs.Names.{name_cmp, same_name}
use Rattle.base.specs.declared.name.member.Member.{Member}
use Rattle.model.specs.World.{World, FileSystem, Snap, SnapId, Bookmark, Snapped, id_of, same_id, map_of, empty_file_system}
use Rattle.model.specs.requests.Create.{with_new_file_system}
use Rattle.model.specs.Edits.{with_file_system, with_file_systems, with_tags, without_snaps}
use Rattle.model.specs.requests.Destroy.{with_deferred, without_file_systems}
use Rattle.model.specs.requests.Receive.{back_to_newest, vacated}
use Rattle.model.specs.requests.Rollback.{back_at}
use Rattle.model.specs.requests.Snapshot.{snap_of_live, with_snapshot, with_snapshots}
use Rattle.world.specs.Dead.{IsThere}
use Rattle.world.specs.Numbering.{ChangesKeys}
use Rattle.world.specs.Shapes.{Name, name_order}
use Rattle.world.specs.Usage.{IsEntry}
use Rattle.world.proofs.removals.Families.{from_retained}
use Rattle.world.proofs.lists.Finding.{from_filter, in_either}
use Rattle.world.proofs.lists.Listed.{in_map}
use Rattle.world.proofs.lists.Maps.{same_value, no_value, entry_from_find, at_entry}
use Rattle.world.proofs.lineage.Put.{put_cases}
use Rattle.world.proofs.maps.Rewrites.{rewrite_is_change}
use Rattle.world.proofs.removals.Sweep.{get-with_file_systems}
use Rattle.laws.proofs.Keys.{IsSameBelow}
use Rattle.laws.proofs.Walking.{IsNewest, WentOn, ComesFrom, IsLater}
use Rattle.model.specs.requests.RenameSnapshot.{with_snaps_renamed}
use Rattle.world.proofs.changes.SnapNames.{renames, renames_kept}

-- ---- one file system

-- its snapshots and live map stay
pub went_same : (g : ℕ) (f later : FileSystem) → later.origin ≡ f.origin → later.snaps ≡ f.snaps → later.live ≡ f.live → WentOn g f later
went_same g f later origin snaps live = record {
  origin = origin;
  snaps = λ u h. inl (u, subst (λ l. IsIn l u) snaps h, refl, refl);
  live = λ key c h. inl (λ q l. ap (λ m. get m q) (sym live));
}

-- a newest snapshot is so still where each snapshot's group was one's before
newest_stays : (g : ℕ) (v : Snap) (f later : FileSystem) → later.bookmarks ≡ f.bookmarks
    → ((u : Snap) → IsIn later.snaps u → (t : Snap) × IsIn f.snaps t × (u.group ≡ t.group)) → IsNewest g v f → IsNewest g v later
newest_stays g v f later same from newest = record {
  marks = λ at b h. newest.marks at b (ap (λ m. get m at) (sym same) ∙ h);
  snaps = λ u h.
      let t = from u h in
      let e = t.2 in
      ⊎_elim (λ (l : t.0.group ≤ v.group). inl (omega arith)) (λ (l : t.0.group ≡ g). inr (omega arith)) (newest.snaps t.0 t.1);
}

-- some snapshots go
pub went_fewer : (g : ℕ) (f later : FileSystem) (stays : Snap → Bool) → WentOn g f later
    → WentOn g f (record later { snaps = filter stays later.snaps })
went_fewer g f later stays went = record {
  origin = went.origin;
  snaps = λ u h. went.snaps u (from_filter stays later.snaps u h).0;
  live = λ key c h. ⊎_elim inl (λ k. inr (⊎_elim inl (λ (v, i, newest, same). inr (
    v,
    i,
    newest_stays g v later (record later { snaps = filter stays later.snaps }) refl (λ u h. (u, (from_filter stays later.snaps u h).0, refl)) newest,
    same,
  )) k)) (went.live key c h);
}

-- its snapshots keep their identities and maps
pub went_mapped : (g : ℕ) (f later : FileSystem) (change : Snap → Snap)
    → ((t : Snap) → (id_of (change t) ≡ id_of t) × ((change t).map ≡ t.map)) → WentOn g f later
    → WentOn g f (record later { snaps = map {A = Snap} change later.snaps })
went_mapped g f later change same went = record {
  origin = went.origin;
  snaps = λ u h.
      let i = in_map change later.snaps u h in
      let ids : id_of u ≡ id_of i.0 = ap id_of i.2 ∙ (same i.0).0 in
      let maps : u.map ≡ i.0.map = ap (λ (x : Snap). x.map) i.2 ∙ (same i.0).1 in
      ⊎_elim
      (λ (v, k, e, m). inl (v, k, ids ∙ e, maps ∙ m))
      (λ k. inr (ap (λ (x : SnapId). x.group) ids ∙ k.0, maps ∙ k.1))
      (went.snaps i.0 i.1);
  live = λ key c h. ⊎_elim inl (λ k. inr (⊎_elim inl (λ (v, i, newest, same_below). inr (
    v,
    i,
    newest_stays g v later (record later { snaps = map {A = Snap} change later.snaps }) refl
        (λ u h. let t = in_map change later.snaps u h in (t.0, t.1, ap (λ (x : Snap). x.group) t.2 ∙ ap (λ (x : SnapId). x.group) (same t.0).0)) newest,
    same_below,
  )) k)) (went.live key c h);
}

-- its live map is rewritten
pub went_written : (g : ℕ) (f : FileSystem) (ch : Changes) (number : Key → ℕ) → WentOn g f (record f { live = rewrite f.live ch g number })
went_written g f ch number = record {
  origin = refl;
  snaps = λ u h. inl (u, h, refl, refl);
  live = λ key c h. by_touch key c h (is_touched f.live ch key) refl;
}
  where
    changes : ChangesKeys f.live (rewrite f.live ch g number) (is_touched f.live ch) g number
    changes = rewrite_is_change f.live ch g number

    by_touch : (key : Key) (c : Cell) → get (rewrite f.live ch g number) key ≡ Some c → (t : Bool) → is_touched f.live ch key ≡ t
        → IsSameBelow key f.live (rewrite f.live ch g number) ⊎ (c.birth ≡ g)
        ⊎ ((v : Snap) × IsIn f.snaps v × IsNewest g v (record f { live = rewrite f.live ch g number }) × IsSameBelow key v.map (rewrite f.live ch g number))
    by_touch key c h true t = inr (inl (changes.made key c t h).1)
    by_touch key c h false t = inl (λ q l. sym (changes.kept q (changes.below key q t l)))

-- an entry that a filter leaves was there, and passes
entry_passes : {X : Type 0} (p : List ℕ × X → Bool) (es : List (List ℕ × X)) (k : List ℕ) (v : X) → IsEntry (filter p es) k v
    → IsEntry es k v × (p (k, v) ≡ true)
entry_passes p [] k v h = absurd h
entry_passes {X} p (e ∷ es) k v h = by_test (p e) refl (entry_passes p es k v) h
  where
    by_test : (b : Bool) → p e ≡ b → (IsEntry (filter p es) k v → IsEntry es k v × (p (k, v) ≡ true)) → IsEntry (cond b (e ∷ filter p es) (filter p es)) k v
        → IsEntry (e ∷ es) k v × (p (k, v) ≡ true)
    by_test true t ih h = ⊎_elim (λ (i : (k ≡ e.0) × (v ≡ e.1)). (inl i, (λ j. p (i.0 j, i.1 j)) ∙ t)) (λ i. let r = ih i in (inr r.0, r.1)) h
    by_test false t ih h = let r = ih h in (inr r.0, r.1)

-- the bookmarks that stay where a live map goes back: those that were there and are of no later group
pub marks_left : (m : FinMap name_cmp Bookmark) (group : ℕ) (k : List ℕ) (b : Bookmark)
    → get (from_entries {R = name_cmp} (filter (λ e. nat_le e.1.group group) (entries m))) k ≡ Some b → (get m k ≡ Some b) × (b.group ≤ group)
marks_left m group k b h =
    let r = entry_passes (λ (e : List ℕ × Bookmark). nat_le e.1.group group) (entries m) k b
    (entry_from_find name_order (filter (λ (e : List ℕ × Bookmark). nat_le e.1.group group) (entries m)) k b
    (sym (get-from_entries name_order.total (filter (λ (e : List ℕ × Bookmark). nat_le e.1.group group) (entries m)) k) ∙ h)) in
    (at_entry name_order m k b r.0, leb-true b.group group r.1)

-- its live map goes back to its newest snapshot's
pub went_to_newest : (g : ℕ) (f : FileSystem) (t : Snap) → IsIn f.snaps t → ((u : Snap) → IsIn f.snaps u → u.group ≤ t.group)
    → WentOn g f (back_to_newest t f)
went_to_newest g f t i high = record {
  origin = refl;
  snaps = λ u h. inl (u, h, refl, refl);
  live = λ key c h. inr (inr (t, i, record { marks = λ at b h. (marks_left f.bookmarks t.group at b h).1; snaps = λ u h. inl (high u h) }, λ q l. refl));
}

-- or to an older one's, and newer snapshots go
pub went_back : (g : ℕ) (f : FileSystem) (t : Snap) → IsIn f.snaps t → WentOn g f (back_at f t)
went_back g f t i = record {
  origin = refl;
  snaps = λ u h. inl (u, (from_filter (λ (u : Snap). nat_le u.group t.group) f.snaps u h).0, refl, refl);
  live = λ key c h. inr (inr (
    t,
    i,
    record {
      marks = λ at b h. (marks_left f.bookmarks t.group at b h).1;
      snaps = λ u h. inl (leb-true u.group t.group (from_filter (λ (u : Snap). nat_le u.group t.group) f.snaps u h).1);
    },
    λ q l. refl,
  ));
}

-- it is emptied, and is no clone
pub went_emptied : (g : ℕ) (f : FileSystem) → f.origin ≡ None → WentOn g f (vacated f)
went_emptied g f bare = record { origin = sym bare; snaps = λ u h. absurd h; live = λ key c h. absurd (no_value c (sym (get-empty key_cmp key) ∙ h)) }

-- ---- worlds

-- a change of one file system leaves the open group
pub same_group : (v : World) (name : Name) (change : FileSystem → FileSystem) → (with_file_system v name change).group ≡ v.group
same_group v name change = by_system (get v.file_systems name)
  where
    by_system : (x : Option FileSystem) → (option_map_or (λ s. record v { file_systems = insert v.file_systems name (change s) }) x v).group ≡ v.group
    by_system None = refl
    by_system (Some s) = refl

module _ (w : World) where
  pub same_later : IsLater w w
  same_later a f at = inl (f, at, went_same w.group f f refl refl refl)

  -- one file system put into a later world
  pub put_later : (v : World) (name : Name) (x : FileSystem) → IsLater w v → ComesFrom w name x
      → IsLater w (record v { file_systems = insert v.file_systems name x })
  put_later v name x later comes a f at = ⊎_elim
      (λ k. subst (ComesFrom w a) (sym k.1) (subst (λ n. ComesFrom w n x) (sym k.0) comes))
      (λ k. later a f k.1)
      (put_cases v.file_systems name x a f at)

  -- or changed there
  pub with_later : (v : World) (name : Name) (change : FileSystem → FileSystem) → IsLater w v
      → ((s : FileSystem) → get v.file_systems name ≡ Some s → ComesFrom w name (change s))
      → IsLater w (with_file_system v name change)
  with_later v name change later comes = by_system (get v.file_systems name) refl
    where
      by_system : (x : Option FileSystem) → get v.file_systems name ≡ x
          → IsLater w (option_map_or (λ s. record v { file_systems = insert v.file_systems name (change s) }) x v)
      by_system None e = later
      by_system (Some s) e = put_later v name (change s) later (comes s e)

  pub one_later : (name : Name) (change : FileSystem → FileSystem)
      → ((f : FileSystem) → get w.file_systems name ≡ Some f → WentOn w.group f (change f))
      → IsLater w (with_file_system w name change)
  one_later name change each = with_later w name change same_later (λ s at. inl (s, at, each s at))

  -- every file system of a later world changed
  pub all_later : (v : World) (change : List ℕ → FileSystem → FileSystem) → IsLater w v
      → ((a : Name) (f later : FileSystem) → WentOn w.group f later → WentOn w.group f (change a later))
      → ((a : Name) (f : FileSystem) → ((change a f).origin ≡ f.origin) × ((change a f).live ≡ f.live))
      → ((a : Name) (f : FileSystem) (u : Snap) → IsIn (change a f).snaps u → (t : Snap) × IsIn f.snaps t × (u.group ≡ t.group) × (u.map ≡ t.map))
      → IsLater w (with_file_systems v change)
  all_later v change later went same from a f at = by_old (get v.file_systems a) refl (sym (get-with_file_systems v change a) ∙ at)
    where
      by_old : (x : Option FileSystem) → get v.file_systems a ≡ x → option_map (change a) x ≡ Some f → ComesFrom w a f
      by_old None e k = absurd (no_value f k)
      by_old (Some y) e k = subst (ComesFrom w a) (same_value (change a y) f k)
          (⊎_elim
          (λ (o, i, h). inl (o, i, went a o y h))
          (λ (none, made). inr (
            none,
            record {
              snaps = λ u i.
                  let t = from a y u i in
                  let k = made.snaps t.0 t.1 in
                  (t.2 ∙ k.0, t.3 ∙ k.1 ∙ sym (same a y).1);
              live = λ id is.
                  let k = made.live id (sym (same a y).0 ∙ is) in
                  let live = (same a y).1 in
                  (k.0, λ key c h. ⊎_elim (λ below. inl (λ q l. below q l ∙ ap (λ m. get m q) (sym live))) inr (k.1 key c (ap (λ m. get m key) (sym live) ∙ h)));
              young = λ none key c h. made.young (sym (same a y).0 ∙ none) key c (ap (λ m. get m key) (sym (same a y).1) ∙ h);
            },
          ))
          (later a y e))

  -- some of its snapshots gone
  pub without_later : (v : World) (goes : Snap → Bool) → IsLater w v → IsLater w (without_snaps v goes)
  without_later v goes later = all_later v (λ _ s. record s { snaps = filter (λ t. not (goes t)) s.snaps }) later
      (λ a f s went. went_fewer w.group f s (λ t. not (goes t)) went)
      (λ a f. (refl, refl))
      (λ a f u h. (u, (from_filter (λ (t : Snap). not (goes t)) f.snaps u h).0, refl, refl))

  -- some of its snapshots changed, but not in identity and map
  mapped_later : (v : World) (change : List ℕ → Snap → Snap) → ((a : Name) (t : Snap) → (id_of (change a t) ≡ id_of t) × ((change a t).map ≡ t.map)) → IsLater w v
      → IsLater w (with_file_systems v (λ a f. record f { snaps = map {A = Snap} (change a) f.snaps }))
  mapped_later v change same later = all_later v (λ a f. record f { snaps = map {A = Snap} (change a) f.snaps }) later
      (λ a f s went. went_mapped w.group f s (change a) (same a) went)
      (λ a f. (refl, refl))
      (λ a f u h.
      let i = in_map (change a) f.snaps u h in
      (i.0, i.1, ap (λ (x : Snap). x.group) i.2 ∙ ap (λ (x : SnapId). x.group) (same a i.0).0, ap (λ (x : Snap). x.map) i.2 ∙ (same a i.0).1))

  pub deferred_later : (v : World) (some : Snap → Bool) → IsLater w v → IsLater w (with_deferred v some)
  deferred_later v some = mapped_later v (λ _ t. record t { deferred = t.deferred || some t }) (λ a t. (refl, refl))

  pub tagged_later : (id : SnapId) (tags : List (List ℕ)) → IsLater w (with_tags w id tags)
  tagged_later id tags = mapped_later w (λ _ t. if same_id (id_of t) id then record t { tags = tags } else t) (λ a t. by_test t (same_id (id_of t) id)) same_later
    where
      by_test : (t : Snap) (b : Bool)
          → (id_of (if b then record t { tags = tags } else t) ≡ id_of t) × ((if b then record t { tags = tags } else t).map ≡ t.map)
      by_test t true = (refl, refl)
      by_test t false = (refl, refl)

  pub named_later : (m : Member) (to : List ℕ) (recursive : Bool) → IsLater w (with_snaps_renamed w m to recursive)
  named_later m to recursive = mapped_later w (renames m to recursive) (renames_kept m to recursive) same_later

  -- one file system more
  pub added_later : (name : Name) (f : FileSystem) → f.snaps ≡ [] → ((id : SnapId) → f.origin ≡ Some id → IsThere w (Snapped id) × (f.live ≡ map_of w (Snapped id)))
      → (f.origin ≡ None → (key : Key) (c : Cell) → get f.live key ≡ Some c → c.birth ≡ w.group) → get w.file_systems name ≡ None → IsLater w (record w { file_systems = insert w.file_systems name f })
  added_later name f bare live young absent =
      put_later w name f same_later (inr (
        absent,
        record {
          snaps = λ u i. absurd (subst (λ l. IsIn l u) bare i);
          live = λ id e. let k = live id e in (k.0, λ key c h. inl (λ q l. ap (λ m. get m q) (sym k.1)));
          young = young;
        },
      ))

  -- an empty one
  pub empty_later : (name : Name) → get w.file_systems name ≡ None → IsLater w (with_new_file_system w name)
  empty_later name = added_later name empty_file_system refl (λ id e. absurd (no_value id e)) (λ none key c h. absurd (no_value c (sym (get-empty key_cmp key) ∙ h)))

  -- some file systems gone
  pub left_later : (names : List (List ℕ)) → IsLater w (without_file_systems w names)
  left_later names a f at =
      inl (f, (from_retained w.file_systems (λ n. not (list_any (same_name n) names)) a f at).1, went_same w.group f f refl refl refl)

  -- ---- snapshots taken

  -- one, of a live map of a later world
  pub snapped_later : (v : World) (m : Member) (guid : ℕ) → v.group ≡ w.group → IsLater w v → IsLater w (with_snapshot v m guid)
  snapped_later v m guid open_is later = with_later v m.file_system (λ s. record s { snaps = s.snaps ++ snap_of_live v s m.component guid ∷ [] }) later
      (λ s at. ⊎_elim
      (λ (e, is, went). inl (
        e,
        is,
        record {
          origin = went.origin;
          snaps = λ u h. ⊎_elim (λ i. went.snaps u i) (λ k. inr k) (from_one s u h);
          live = λ key c h. ⊎_elim inl (λ k. inr (⊎_elim inl (λ (x, i, newest, same). inr (x, i, newest_on s x newest, same)) k)) (went.live key c h);
        },
      ))
      (λ (none, made). inr (none, record { snaps = λ u h. ⊎_elim (λ i. made.snaps u i) (λ k. k) (from_one s u h); live = made.live; young = made.young }))
      (later m.file_system s at))
    where
      from_one : (s : FileSystem) (u : Snap) → IsIn (s.snaps ++ snap_of_live v s m.component guid ∷ []) u → IsIn s.snaps u ⊎ ((u.group ≡ w.group) × (u.map ≡ s.live))
      from_one s u h = ⊎_elim
          inl
          (⊎_elim
          (λ (e : u ≡ snap_of_live v s m.component guid). inr (ap (λ (x : Snap). x.group) e ∙ open_is, ap (λ (x : Snap). x.map) e))
          (λ e. absurd e))
          (in_either s.snaps (snap_of_live v s m.component guid ∷ []) u h)

      newest_on : (s : FileSystem) (x : Snap) → IsNewest w.group x s → IsNewest w.group x (record s { snaps = s.snaps ++ snap_of_live v s m.component guid ∷ [] })
      newest_on s x newest = record { marks = newest.marks; snaps = λ u h. ⊎_elim (λ i. newest.snaps u i) (λ k. inr k.0) (from_one s u h) }

  -- any number
  pub taken_later : (guid : ℕ) (ms : List Member) (v : World) → v.group ≡ w.group → IsLater w v → IsLater w (with_snapshots v guid ms)
  taken_later guid [] v open_is later = later
  taken_later guid (m ∷ ms) v open_is later =
      taken_later (guid + 1) ms (with_snapshot v m guid)
      (same_group v m.file_system (λ s. record s { snaps = s.snaps ++ snap_of_live v s m.component guid ∷ [] }) ∙ open_is)
      (snapped_later v m guid open_is later)
