-- A row in place of another, from which it differs in what labels its file system: the tags and marks of its snapshots, its limits, and its
-- bookmarks.
use Rattle.std.proofs.Common.{◌≡◌, ℕ, Bool, true, false, cond, List, [], ◌∷◌, length, get_or, set, map, Option, Some, is_some, refl, sym, ap, subst, ◌∙◌, true≢false}
use Rattle.std.proofs.lemmas.List.{map-set, length-map}
use Rattle.std.proofs.Math.Seq.{map-set_same}
use Rattle.std.specs.Prelude.{IsTrue, IsSome, IfSome, Result, Ok, Err, IsOk, OnOk, OnErr, is_ok, ◌==◌}
use Rattle.std.specs.Arc.{arc_value}
use Rattle.std.specs.Result.{IsErrAnd}
use Rattle.std.specs.declared.sync.Arc.{Arc}
use Rattle.std.specs.declared.alloc.Global.{Global}
use Rattle.std.specs.List.{find}
use Rattle.std.specs.Option.{option_map, option_map_or}
use Rattle.std.specs.FinMap.{get, insert, contains_key, is_sorted, from_sorted}
use Rattle.base.specs.Names.{name_cmp}
use Rattle.base.specs.Map.{Map}
use Rattle.base.specs.declared.refusal.Refusal.{Refusal}
use Rattle.base.specs.declared.refusal.Refusal.TheVariants.{NoDataset, NoMemory}
use Rattle.model.specs.World.{FileSystem, Snap, SnapId, id_of, same_id}
use Rattle.file_system.specs.Rows.{FileSystems, Entry, Row, entry_in, entry_of, snaps_at, snap_count, with_system}
use Rattle.file_system.specs.Deferred.{edited_if, edited_at}
use Rattle.file_system.specs.Splices.{AreAbove}
use Rattle.datasets.specs.declared.file_systems.FileSystems.TheInside.{Inside}
use Rattle.datasets.specs.Clones.{map_found, origin_at, below_at, AreTied}
use Rattle.datasets.specs.CloneNames.{IsListed}
use Rattle.datasets.specs.Places.{IsAt, IsGapFor}
use Rattle.datasets.specs.Sorted.{IsSorted}
use Rattle.datasets.proofs.Rows.{row_of, get_gap, placed_sorted, made_is, rule_here, snaps_are}
use Rattle.datasets.proofs.Counts.{set_counted_same}
use Rattle.datasets.proofs.Ties.{after_first, row_place, row_within, tied_set, below_is}
use Rattle.datasets.proofs.Listing.{listed_set}

-- ---- what was lent, and what wasn't

pub lent : {X E P : Type 0} (r : Result X E) (v : X) → r ≡ Ok v → (IsOk r → P) → P
lent r v is h = h (ap is_ok is)

pub not_lent : {X E P : Type 0} (r : Result X E) (e : E) → r ≡ Err e → OnErr r P → P
not_lent {P = P} r e is h = subst (λ x. OnErr x P) is h

-- who had no memory doesn't tell of names
pub not_missing : {X : Type 0} (r : Result X Refusal) (e : Refusal) → IsErrAnd r (λ y. y ≡ e) → e ≡ NoMemory → r ≡ Err NoDataset → ⊥
not_missing (Ok v) e is only h = absurd is
not_missing (Err y) e is only h = cc

-- ---- other labels

-- the same origin, as many snapshots, and of each identity the same map
pub record IsLabelled (f g : FileSystem) : Type 0 where
  pub origin : g.origin ≡ f.origin
  pub count : length g.snaps ≡ length f.snaps
  pub found : (id : SnapId) → map_found g.snaps id ≡ map_found f.snaps id

-- the snapshot of a group changed, but neither its identity nor its map
module _ (change : Snap → Snap) (ids : (t : Snap) → id_of (change t) ≡ id_of t) (maps : (t : Snap) → (change t).map ≡ t.map) (g : ℕ) where
  same_id_of : (t : Snap) → id_of (edited_if change g t) ≡ id_of t
  same_id_of t = by_test (t.group == g)
    where
      by_test : (b : Bool) → id_of (cond b (change t) t) ≡ id_of t
      by_test true = ids t
      by_test false = refl

  same_map_of : (t : Snap) → (edited_if change g t).map ≡ t.map
  same_map_of t = by_test (t.group == g)
    where
      by_test : (b : Bool) → (cond b (change t) t).map ≡ t.map
      by_test true = maps t
      by_test false = refl

  found_edited : (ts : List Snap) (id : SnapId) → map_found (map (edited_if change g) ts) id ≡ map_found ts id
  found_edited [] id = refl
  found_edited (t ∷ ts) id =
      ap (λ (x : SnapId). option_map (λ (u : Snap). u.map) (cond (same_id x id) (Some (edited_if change g t)) (find (λ (u : Snap). same_id (id_of u) id) (map (edited_if change g) ts)))) (same_id_of t)
      ∙ after_first (same_id (id_of t) id) (edited_if change g t) t (map (edited_if change g) ts) ts id (same_map_of t) (found_edited ts id)

  pub is_edited : (f : FileSystem) → IsLabelled f (edited_at change f g)
  is_edited f = record { origin = refl; count = length-map f.snaps (edited_if change g); found = found_edited f.snaps }

same_labels : (f : FileSystem) → IsLabelled f f
same_labels f = record { origin = refl; count = refl; found = λ id. refl }

-- ---- in a list, whose contracts see the map m

module _ (t : Inside) (sound : IsSorted t) (m : FileSystems) (view : from_sorted {R = name_cmp} (map entry_in t.rows.items) ≡ m) (q : List ℕ) (i : ℕ) where
  abbrev rows : List Entry
  rows = map entry_in t.rows.items

  -- nor is one with such a snapshot
  pub no_snap_in_gap : IsGapFor rows q i → (g : ℕ) → IsSome (find (λ (u : Snap). u.group == g) (snaps_at m q)) → ⊥
  no_snap_in_gap gap g there =
      true≢false (sym there ∙ ap (λ (x : Option FileSystem). is_some (find (λ (u : Snap). u.group == g) (option_map_or (λ (f : FileSystem). f.snaps) x [])))
      (ap (λ (x : FileSystems). get x q) (sym view) ∙ get_gap rows sound.sorted q i gap))

  -- the row at its place
  module _ (at : IsAt rows q i) (a : Arc Row Global) (is : a ≡ get_or t.rows.items i a) where
    here : entry_in a ≡ get_or rows i (entry_in a)
    here = row_of entry_in t.rows.items i a is

    pub snaps_here : snaps_at m q ≡ (arc_value a).system.snaps
    snaps_here = ap (λ (x : FileSystems). snaps_at x q) (sym view) ∙ snaps_are rows sound.sorted q i at (entry_in a) here

    pub snap_there : (g : ℕ) → IsSome (find (λ (u : Snap). u.group == g) (snaps_at m q)) → IsSome (find (λ (u : Snap). u.group == g) (arc_value a).system.snaps)
    snap_there g h = subst (λ (l : List Snap). IsSome (find (λ (u : Snap). u.group == g) l)) snaps_here h

    pub stands_above : IfSome (get m q) (AreAbove (below_at m q)) → AreAbove (arc_value a).below (arc_value a).system
    stands_above h =
        rule_here rows sound.sorted q i at (entry_in a) here (AreAbove (arc_value a).below)
        (subst (λ (b : Map). IfSome (get (from_sorted {R = name_cmp} rows) q) (AreAbove b)) (below_is t.rows.items sound.sorted sound.tied q i at a is)
        (subst (λ (x : FileSystems). IfSome (get x q) (AreAbove (below_at x q))) (sym view) h))

    -- another one with other labels there
    module _ (change : FileSystem → FileSystem) (like : IsLabelled (arc_value a).system (change (arc_value a).system))
        (b : Arc Row Global) (done : arc_value b ≡ with_system (arc_value a) (change (arc_value a).system)) where
      after_is : entry_in b ≡ ((entry_in a).0, change (entry_in a).1)
      after_is = ap entry_of done

      in_order : IsTrue (is_sorted name_cmp (set rows i (entry_in b)))
      in_order = placed_sorted rows sound.sorted q i at (entry_in a) here (change (entry_in a).1) (entry_in b) after_is

      counts : t.snapshot_count ≡ snap_count (from_sorted {R = name_cmp} (set rows i (entry_in b)))
      counts = set_counted_same rows i (entry_in b) (entry_in a) t.snapshot_count sound.sorted in_order at.within here
          (ap (λ (r : Entry). length r.1.snaps) after_is ∙ like.count) sound.counted

      ties : AreTied (set (map arc_value t.rows.items) i (arc_value b))
      ties = tied_set (map arc_value t.rows.items) i (arc_value b) (arc_value a) sound.tied (row_within t.rows.items sound.sorted sound.tied q i at a is)
          (row_place t.rows.items sound.sorted sound.tied q i at a is) (ap (λ (r : Row). r.system.origin) done ∙ like.origin) (ap (λ (r : Row). r.below) done)
          (λ x id h o found. ap (λ (r : Row). map_found r.system.snaps id) done ∙ like.found id)

      lists : IsListed (from_sorted {R = name_cmp} (set rows i (entry_in b))) t.clones
      lists = listed_set rows sound.sorted q i at (entry_in a) here (entry_in b) t.clones (ap (λ (r : Row). r.name) done) (ap (λ (r : Row). r.system.origin) done ∙ like.origin) sound.listed

      -- the list keeps what it kept
      pub labelled_sorted : (u : Inside) → u.rows.items ≡ set t.rows.items i b → u.snapshot_count ≡ t.snapshot_count → u.clones ≡ t.clones → IsSorted u
      labelled_sorted u items count clones = record {
        sorted = subst (λ es. IsTrue (is_sorted name_cmp es)) (sym entries_are) in_order;
        counted = count ∙ counts ∙ ap (λ es. snap_count (from_sorted {R = name_cmp} es)) (sym entries_are);
        tied = subst AreTied (sym (ap (map arc_value) items ∙ map-set arc_value t.rows.items i b)) ties;
        listed = λ id p. ap (λ s. contains_key s (id, p)) clones ∙ lists id p ∙ ap (λ es. option_map_or (same_id id) (origin_at (from_sorted {R = name_cmp} es) p) false) (sym entries_are);
      }
        where
          entries_are : map entry_in u.rows.items ≡ set rows i (entry_in b)
          entries_are = ap (map entry_in) items ∙ map-set entry_in t.rows.items i b

      -- and its map has the changed file system
      pub labelled_is : from_sorted {R = name_cmp} (map entry_in (set t.rows.items i b)) ≡ option_map_or (λ f. insert m q (change f)) (get m q) m
      labelled_is =
          ap (from_sorted {R = name_cmp}) (map-set entry_in t.rows.items i b)
          ∙ made_is rows sound.sorted q i at (entry_in a) here change (entry_in b) after_is
          ∙ ap (λ (x : FileSystems). option_map_or (λ f. insert x q (change f)) (get x q) x) view

    -- the same again there, where memory was refused
    module _ (b : Arc Row Global) (same : arc_value b ≡ arc_value a) where
      pub same_sorted : (u : Inside) → u.rows.items ≡ set t.rows.items i b → u.snapshot_count ≡ t.snapshot_count → u.clones ≡ t.clones → IsSorted u
      same_sorted = labelled_sorted (λ f. f) (same_labels (arc_value a).system) b same

      pub same_is : from_sorted {R = name_cmp} (map entry_in (set t.rows.items i b)) ≡ m
      same_is = ap (from_sorted {R = name_cmp}) (map-set_same entry_in t.rows.items i b a (ap entry_of same ∙ ap entry_in is)) ∙ view

    -- one with other labels, or where that was refused the same: the row's file system was y, and has become x
    module _ (change : FileSystem → FileSystem) (like : IsLabelled (arc_value a).system (change (arc_value a).system))
        (b : Arc Row Global) (x y : Row) (now : arc_value b ≡ x) (was : y ≡ arc_value a) where
      done : x ≡ with_system y (change y.system) → arc_value b ≡ with_system (arc_value a) (change (arc_value a).system)
      done e = now ∙ e ∙ ap (λ (r : Row). with_system r (change r.system)) was

      pub tried_sorted : {X E : Type 0} (r : Result X E) → OnOk r (x ≡ with_system y (change y.system)) → OnErr r (x ≡ y)
          → (u : Inside) → u.rows.items ≡ set t.rows.items i b → u.snapshot_count ≡ t.snapshot_count → u.clones ≡ t.clones → IsSorted u
      tried_sorted (Ok v) ok err = labelled_sorted change like b (done ok)
      tried_sorted (Err e) ok err = same_sorted b (now ∙ err ∙ was)

      pub tried_is : {X E : Type 0} (r : Result X E) → OnOk r (x ≡ with_system y (change y.system))
          → OnOk r (from_sorted {R = name_cmp} (map entry_in (set t.rows.items i b)) ≡ option_map_or (λ f. insert m q (change f)) (get m q) m)
      tried_is (Ok v) ok = labelled_is change like b (done ok)
      tried_is (Err e) ok = tt

      pub tried_same : {X E : Type 0} (r : Result X E) → OnErr r (x ≡ y) → OnErr r (from_sorted {R = name_cmp} (map entry_in (set t.rows.items i b)) ≡ m)
      tried_same (Ok v) err = tt
      tried_same (Err e) err = same_is b (now ∙ err ∙ was)
