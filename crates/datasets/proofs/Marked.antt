-- A snapshot of a table that is marked: its destroy is deferred, or it has other tags.
use Rattle.std.proofs.Common.{◌≡◌, ◌⊎◌, ◌++◌, true≢false, ℕ, Bool, true, false, cond, ◌||◌, List, [], ◌∷◌, map, Option, Some, None, refl, sym, ap, subst, ◌∙◌, inl, inr, ⊎_elim}
use Rattle.std.specs.Prelude.{◌==◌, Result, Ok, Err, is_some, OnOk, OnErr}
use Rattle.std.specs.Option.{option_map, option_map_or}
use Rattle.std.specs.FinMap.{get, insert, same_map}
use Rattle.std.specs.List.{find}
use Rattle.std.proofs.lemmas.Bool.{eq-eqb, eqb-true}
use Rattle.base.specs.Names.{same_name}
use Rattle.base.specs.Map.{Map, blocks}
use Rattle.base.specs.Surveys.{IsIn}
use Rattle.base.specs.declared.refusal.Refusal.{Refusal}
use Rattle.model.specs.World.{FileSystem, Snap, SnapId, id_of, same_id, maps_of}
use Rattle.model.specs.Edits.{with_file_systems}
use Rattle.file_system.specs.Deferred.{edited_if, edited_at, edited_of, with_deferred, with_tags, with_snap_name}
use Rattle.world.specs.Shapes.{Name, name_order}
use Rattle.world.specs.Worlds.{FileSystems, AreRising, IsTidy, snap_shape, shape_of}
use Rattle.world.specs.Tables.{Datasets, world_of}
use Rattle.world.proofs.lineage.Bridge.{one_snap, in_middle, rising_once}
use Rattle.world.proofs.lists.Finding.{is_same_id, same_id_is, in_either, found_none, name_itself}
use Rattle.world.proofs.changes.Promotions.{split_at}
use Rattle.world.proofs.lists.Listed.{in_map}
use Rattle.world.proofs.lists.Maps.{key_cases}
use Rattle.world.proofs.lineage.Put.{put_here, put_other}
use Rattle.world.proofs.removals.Sweep.{get-with_file_systems}
use Rattle.world.proofs.changes.Views.{label_systems, label_from, same_shapes_mapped, same_maps_mapped}
use Rattle.datasets.specs.Holders.{snap_in_system}
use Rattle.datasets.specs.Table.{IsTable}
use Rattle.file_system.specs.Rows.{snaps_at}
use Rattle.datasets.proofs.Kept.{numbers_from, added_table}
use Rattle.datasets.proofs.Removed.{IsOf, of, older_differ, newer_differ, rising_at}

-- ---- marks

-- A change of a snapshot keeps its identity and map; and by the identity of one it changes that one and no other (profile)
pub record IsMark (change : Snap → Snap) (by_id : SnapId → Snap → Snap) : Type 0 where
  pub ids : (v : Snap) → id_of (change v) ≡ id_of v
  pub maps : (v : Snap) → (change v).map ≡ v.map
  pub here : (id : SnapId) (v : Snap) → same_id (id_of v) id ≡ true → by_id id v ≡ change v
  pub elsewhere : (id : SnapId) (v : Snap) → same_id (id_of v) id ≡ false → by_id id v ≡ v

or_false : (b : Bool) → (b || false) ≡ b
or_false true = refl
or_false false = refl

or_true : (b : Bool) → (b || true) ≡ true
or_true true = refl
or_true false = refl

-- its destroy is deferred
pub deferral : IsMark with_deferred (λ id v. record v { deferred = v.deferred || same_id (id_of v) id })
deferral = record {
  ids = λ v. refl;
  maps = λ v. refl;
  here = λ id v e. ap (λ d. record v { deferred = d }) (ap (λ b. v.deferred || b) e ∙ or_true v.deferred);
  elsewhere = λ id v e. ap (λ d. record v { deferred = d }) (ap (λ b. v.deferred || b) e ∙ or_false v.deferred);
}

-- it has these tags
pub tagging : (tags : List (List ℕ)) → IsMark (with_tags tags) (λ id v. cond (same_id (id_of v) id) (record v { tags = tags }) v)
tagging tags = record {
  ids = λ v. refl;
  maps = λ v. refl;
  here = λ id v e. ap (λ b. cond b (record v { tags = tags }) v) e;
  elsewhere = λ id v e. ap (λ b. cond b (record v { tags = tags }) v) e;
}

map_same : {A : Type 0} (xs : List A) → map (λ x. x) xs ≡ xs
map_same [] = refl
map_same (x ∷ xs) = ap (λ l. x ∷ l) (map_same xs)

map_alike : {A B : Type 0} (f g : A → B) (xs : List A) → ((x : A) → IsIn xs x → f x ≡ g x) → map f xs ≡ map g xs
map_alike f g [] each = refl
map_alike f g (x ∷ xs) each = λ i. each x (inl refl) i ∷ map_alike f g xs (λ y k. each y (inr k)) i

not_same_id : (a b : SnapId) → (a ≡ b → ⊥) → same_id a b ≡ false
not_same_id a b ne = by_test (same_id a b) refl
  where
    by_test : (c : Bool) → same_id a b ≡ c → same_id a b ≡ false
    by_test true e = absurd (ne (same_id_is a b e))
    by_test false e = e

-- ---- names

-- the snapshots of a file system have names of their own once that of this group is changed
abbrev pub AreApart : (Snap → Snap) → FileSystem → ℕ → Type 0
AreApart change f g = (v w : Snap) → IsIn f.snaps v → IsIn f.snaps w → (edited_if change g v).name ≡ (edited_if change g w).name → v ≡ w

-- so it is where names stay
pub names_stay : (change : Snap → Snap) → ((v : Snap) → (change v).name ≡ v.name) → (t : Datasets) → IsTable t → (name : Name) (g : ℕ) (f : FileSystem) → get t.file_systems name ≡ Some f → AreApart change f g
names_stay change same t sound name g f at v w h k e = (sound.systems.tidy name f at).names v w h k (sym (stays v) ∙ e ∙ stays w)
  where
    stays : (x : Snap) → (edited_if change g x).name ≡ x.name
    stays x = by_test (x.group == g)
      where
        by_test : (b : Bool) → (cond b (change x) x).name ≡ x.name
        by_test true = same x
        by_test false = refl

-- and where the new one is nobody's
pub names_new : (to : List ℕ) (t : Datasets) → IsTable t → (name : Name) (g : ℕ) → find (λ (x : Snap). same_name x.name to) (snaps_at t.file_systems name) ≡ None
    → (f : FileSystem) → get t.file_systems name ≡ Some f → AreApart (with_snap_name to) f g
names_new to t sound name g free f at v w h k e = by_tests (v.group == g) refl (w.group == g) refl e
  where
    nobody : (x : Snap) → IsIn f.snaps x → to ≡ x.name → ⊥
    nobody x i is = found_none (λ (y : Snap). same_name y.name to) f.snaps (ap (λ o. find (λ (y : Snap). same_name y.name to) (option_map_or (λ (y : FileSystem). y.snaps) o [])) (sym at) ∙ free) x i
        (ap (λ n. same_name n to) (sym is) ∙ name_itself to)

    by_tests : (b : Bool) → (v.group == g) ≡ b → (c : Bool) → (w.group == g) ≡ c → (cond b (record v { name = to }) v).name ≡ (cond c (record w { name = to }) w).name → v ≡ w
    by_tests true p true q is = rising_once 0 f.snaps v w (rising_at t sound name f at) h k (eqb-true v.group g p ∙ sym (eqb-true w.group g q))
    by_tests true p false q is = absurd (nobody w k is)
    by_tests false p true q is = absurd (nobody v h (sym is))
    by_tests false p false q is = (sound.systems.tidy name f at).names v w h k is

-- it has this name
pub naming : (to : List ℕ) → IsMark (with_snap_name to) (λ id v. cond (same_id (id_of v) id) (record v { name = to }) v)
naming to = record {
  ids = λ v. refl;
  maps = λ v. refl;
  here = λ id v e. ap (λ b. cond b (record v { name = to }) v) e;
  elsewhere = λ id v e. ap (λ b. cond b (record v { name = to }) v) e;
}

-- ---- in a table

module _ {change : Snap → Snap} {by_id : SnapId → Snap → Snap} (mark : IsMark change by_id) where
  -- the table, where it is of this identity
  abbrev marked_by : Datasets → SnapId → Datasets
  marked_by t id = record t { file_systems = (with_file_systems (world_of t) (λ n x. record x { snaps = map {A = Snap} (by_id id) x.snaps })).file_systems }

  module _ (g : ℕ) (v : Snap) where
    same_shape : snap_shape (edited_if change g v) ≡ snap_shape v
    same_shape = by_test (v.group == g)
      where
        by_test : (b : Bool) → snap_shape (cond b (change v) v) ≡ snap_shape v
        by_test true = λ i. record { id = mark.ids v i; blocks = blocks (mark.maps v i) }
        by_test false = refl

    same_map_of : (edited_if change g v).map ≡ v.map
    same_map_of = by_test (v.group == g)
      where
        by_test : (b : Bool) → (cond b (change v) v).map ≡ v.map
        by_test true = mark.maps v
        by_test false = refl

  module _ (t : Datasets) (sound : IsTable t) (name : Name) (f : FileSystem) (at : get t.file_systems name ≡ Some f) (u : Snap) (there : IsIn f.snaps u) where
    abbrev marked : FileSystem
    marked = edited_at change f u.group

    shape : shape_of marked ≡ shape_of f
    shape = ap (λ l. record { live = blocks f.live; snapshots = l; origin = f.origin }) (same_shapes_mapped (edited_if change u.group) (same_shape u.group) f.snaps)

    maps : (m : Map) → IsIn (maps_of marked) m → IsIn (maps_of f) m
    maps m h = subst (λ l. IsIn (f.live ∷ l) m) (same_maps_mapped (edited_if change u.group) (same_map_of u.group) f.snaps) h

    tidy : AreApart change f u.group → IsTidy t.group marked
    tidy apart = record {
      names = λ a b h k same.
          let v = in_map (edited_if change u.group) f.snaps a h in
          let w = in_map (edited_if change u.group) f.snaps b k in
          let one = apart v.0 w.0 v.1 w.1 (ap (λ (x : Snap). x.name) (sym v.2) ∙ same ∙ ap (λ (x : Snap). x.name) w.2) in
          v.2 ∙ ap (edited_if change u.group) one ∙ sym w.2;
      bookmarks = (sound.systems.tidy name f at).bookmarks;
    }

    pub marked_table : AreApart change f u.group → IsTable (record t { file_systems = insert t.file_systems name marked })
    marked_table apart = record {
      systems = label_systems t.file_systems t.group sound.systems name f marked at shape maps (tidy apart);
      numbers = numbers_from t (record t { file_systems = insert t.file_systems name marked }) sound.systems
          (label_from t.file_systems t.group sound.systems name f marked at shape maps (tidy apart)) sound.numbers;
    }

    -- the snapshot of its group is the one of its identity
    one_group : (v : Snap) → IsIn f.snaps v → (v.group == u.group) ≡ true → v ≡ u
    one_group v h same =
        let parts = split_at f.snaps u there in
        by_place parts.0 parts.1 parts.2 (in_either parts.0 (u ∷ parts.1) v (subst (λ l. IsIn l v) parts.2 h))
      where
        up : (older newer : List Snap) → f.snaps ≡ older ++ u ∷ newer → AreRising 0 (older ++ u ∷ newer)
        up older newer is = subst (AreRising 0) is (rising_at t sound name f at)

        by_place : (older newer : List Snap) → f.snaps ≡ older ++ u ∷ newer → IsIn older v ⊎ IsIn (u ∷ newer) v → v ≡ u
        by_place older newer is (inl k) = absurd (true≢false (sym same ∙ older_differ 0 older u newer (up older newer is) v k))
        by_place older newer is (inr (inl e)) = e
        by_place older newer is (inr (inr k)) = absurd (true≢false (sym same ∙ newer_differ 0 older u newer (up older newer is) v k))

    alike : (v : Snap) → IsIn f.snaps v → by_id (id_of u) v ≡ edited_if change u.group v
    alike v h = by_test (v.group == u.group) refl
      where
        by_test : (b : Bool) → (v.group == u.group) ≡ b → by_id (id_of u) v ≡ cond b (change v) v
        by_test true e = mark.here (id_of u) v (is_same_id (id_of v) (id_of u) (ap id_of (one_group v h e)))
        by_test false e =
            mark.elsewhere (id_of u) v (not_same_id (id_of v) (id_of u) (λ i. true≢false (sym (eq-eqb v.group u.group (ap (λ (x : SnapId). x.group) i)) ∙ e)))

    -- the others have no such snapshot
    others : (q : Name) (x : FileSystem) → ¬ (q ≡ name) → get t.file_systems q ≡ Some x → map {A = Snap} (by_id (id_of u)) x.snaps ≡ x.snaps
    others q x ne e = map_alike {A = Snap} (by_id (id_of u)) (λ v. v) x.snaps
        (λ v h. mark.elsewhere (id_of u) v (not_same_id (id_of v) (id_of u) (λ i. ne (one_snap t.file_systems t.group sound.systems.lines q name x f v u e at h there i).0)))
        ∙ map_same x.snaps

    pub marked_is : record t { file_systems = insert t.file_systems name marked } ≡ marked_by t (id_of u)
    marked_is = ap (λ ss. record t { file_systems = ss }) (sym (same_map name_order.total name_order.exact _ _ (λ n.
        get-with_file_systems (world_of t) each n ∙ ⊎_elim
        (λ (same : n ≡ name).
        ap (option_map (each n)) (ap (get t.file_systems) same ∙ at)
        ∙ ap (λ l. Some (record f { snaps = l })) (map_alike {A = Snap} (by_id (id_of u)) (edited_if change u.group) f.snaps alike)
        ∙ sym (put_here t.file_systems name marked) ∙ ap (get (insert t.file_systems name marked)) (sym same))
        (λ (ne : ¬ (n ≡ name)). by_old n ne (get t.file_systems n) refl ∙ sym (put_other t.file_systems name marked n ne))
        (key_cases name_order n name))))
      where
        each : Name → FileSystem → FileSystem
        each n x = record x { snaps = map {A = Snap} (by_id (id_of u)) x.snaps }

        by_old : (n : Name) → ¬ (n ≡ name) → (y : Option FileSystem) → get t.file_systems n ≡ y → option_map (each n) (get t.file_systems n) ≡ get t.file_systems n
        by_old n ne None e = ap (option_map (each n)) e ∙ sym e
        by_old n ne (Some x) e = ap (option_map (each n)) e ∙ ap (λ l. Some (record x { snaps = l })) (others n x ne e) ∙ sym e

  -- ---- the snapshot of this identity, which this file system has

  module _ (t : Datasets) (sound : IsTable t) (name : Name) (id : SnapId) (told : is_some (snap_in_system t name id) ≡ true) where
    abbrev o : IsOf t sound name id told
    o = of t sound name id told

    there : IsIn o.system.snaps o.it
    there = subst (λ l. IsIn l o.it) (sym o.snaps_are) (in_middle o.older o.it o.newer)

    after_is : edited_of change t.file_systems name id.group ≡ insert t.file_systems name (edited_at change o.system o.it.group)
    after_is =
        ap (λ x. option_map_or (λ (f : FileSystem). insert t.file_systems name (edited_at change f id.group)) x t.file_systems) o.at
        ∙ ap (λ n. insert t.file_systems name (edited_at change o.system n)) (sym (ap (λ (i : SnapId). i.group) o.id_is))

    after_table : AreApart change o.system o.it.group → IsTable (record t { file_systems = edited_of change t.file_systems name id.group })
    after_table apart = subst (λ ss. IsTable (record t { file_systems = ss })) (sym after_is) (marked_table t sound name o.system o.at o.it there apart)

    -- what the file systems answer
    module _ {A : Type 0} (r : Result A Refusal) (new : FileSystems) (ok : OnOk r (new ≡ edited_of change t.file_systems name id.group)) where
      pub table_marked : ((g : ℕ) (f : FileSystem) → get t.file_systems name ≡ Some f → AreApart change f g) → OnErr r (new ≡ t.file_systems) → IsTable (record t { file_systems = new })
      table_marked apart err = added_table t sound r new (edited_of change t.file_systems name id.group) (after_table (apart o.it.group o.system o.at)) ok err

      pub is_marked : OnOk r (record t { file_systems = new } ≡ marked_by t id)
      is_marked = by_result r ok
        where
          by_result : (x : Result A Refusal) → OnOk x (new ≡ edited_of change t.file_systems name id.group) → OnOk x (record t { file_systems = new } ≡ marked_by t id)
          by_result (Ok d) is = ap (λ ss. record t { file_systems = ss }) (is ∙ after_is) ∙ marked_is t sound name o.system o.at o.it there ∙ ap (marked_by t) o.id_is
          by_result (Err w) is = tt
