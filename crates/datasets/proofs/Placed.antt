-- Where a snapshot stands among file systems, by its identity.
use Rattle.std.proofs.Common.{◌≡◌, ◌<◌, ◌+◌, ℕ, zero, suc, Bool, true, false, cond, List, [], ◌∷◌, ◌++◌, map, length, drop, get_or, Option, Some, None, refl, sym, ap, subst, ◌∙◌, inl, inr, add-one}
use Rattle.std.proofs.Math.Seq.{drop-cons}
use Rattle.std.proofs.lemmas.List.{drop-map}
use Rattle.std.specs.FinMap.{get, entries}
use Rattle.base.specs.Surveys.{IsIn}
use Rattle.world.specs.Worlds.{FileSystems, AreFileSystems, AreRising}
use Rattle.world.specs.Shapes.{name_order}
use Rattle.world.proofs.lists.Maps.{at_entry}
use Rattle.world.proofs.lineage.Bridge.{from_entries, start, rising}
use Rattle.datasets.proofs.Removed.{from_zero}
use Rattle.std.specs.List.{find, flat_map}
use Rattle.std.specs.Option.{option_map}
use Rattle.datasets.specs.Clones.{row_in}
use Rattle.file_system.specs.Rows.{Entry, Row}
use Rattle.model.specs.World.{Snap, SnapId, id_of, same_id, snap_at}
use Rattle.world.specs.Tables.{Datasets, world_of}
use Rattle.world.proofs.lists.Listed.{in_map}
use Rattle.world.specs.Shapes.{Name}

find_in : (n : Name) (id : SnapId) (ts : List Snap)
    → find (λ (p : Name × Snap). same_id (id_of p.1) id) (map {A = Snap} {B = Name × Snap} (λ t. (n, t)) ts) ≡ option_map {T = Snap} {U = Name × Snap} (λ t. (n, t)) (find (λ (t : Snap). same_id (id_of t) id) ts)
find_in n id [] = refl
find_in n id (t ∷ ts) = by_test (same_id (id_of t) id) (find_in n id ts)
  where
    by_test : (b : Bool) → find (λ (p : Name × Snap). same_id (id_of p.1) id) (map {A = Snap} {B = Name × Snap} (λ t. (n, t)) ts) ≡ option_map {T = Snap} {U = Name × Snap} (λ t. (n, t)) (find (λ (t : Snap). same_id (id_of t) id) ts)
        → cond b (Some (n, t)) (find (λ (p : Name × Snap). same_id (id_of p.1) id) (map {A = Snap} {B = Name × Snap} (λ t. (n, t)) ts))
        ≡ option_map {T = Snap} {U = Name × Snap} (λ t. (n, t)) (cond b (Some t) (find (λ (t : Snap). same_id (id_of t) id) ts))
    by_test true ih = refl
    by_test false ih = ih

module _ {A : Type 0} (p : A → Bool) where
  in_rest : (xs ys : List A) → find p xs ≡ None → find p (xs ++ ys) ≡ find p ys
  in_rest [] ys e = refl
  in_rest (x ∷ xs) ys e = by_test (p x) e (in_rest xs ys)
    where
      by_test : (b : Bool) → cond b (Some x) (find p xs) ≡ None → (find p xs ≡ None → find p (xs ++ ys) ≡ find p ys) → cond b (Some x) (find p (xs ++ ys)) ≡ find p ys
      by_test true k ih = absurd cc
      by_test false k ih = ih k

  in_first : (xs ys : List A) (a : A) → find p xs ≡ Some a → find p (xs ++ ys) ≡ Some a
  in_first [] ys a e = absurd cc
  in_first (x ∷ xs) ys a e = by_test (p x) e (in_first xs ys a)
    where
      by_test : (b : Bool) → cond b (Some x) (find p xs) ≡ Some a → (find p xs ≡ Some a → find p (xs ++ ys) ≡ Some a) → cond b (Some x) (find p (xs ++ ys)) ≡ Some a
      by_test true k ih = k
      by_test false k ih = ih k

-- those of a file system, with its name
abbrev snaps_at : Row → List (Name × Snap)
snaps_at r = map {A = Snap} {B = Name × Snap} (λ t. (r.name, t)) r.system.snaps

abbrev has_id : SnapId → Name × Snap → Bool
has_id id p = same_id (id_of p.1) id

-- the snapshot of an identity among those of these file systems, with the name of its own
abbrev pub placed_in : SnapId → List Row → Option (Name × Snap)
placed_in id rows = find (λ (p : Name × Snap). same_id (id_of p.1) id) (flat_map (λ (e : Row). map {A = Snap} {B = Name × Snap} (λ t. (e.name, t)) e.system.snaps) rows)

-- it is of the first of them, or of the others
pub in_others : (id : SnapId) (r : Row) (rows : List Row) → find (λ (t : Snap). same_id (id_of t) id) r.system.snaps ≡ None → placed_in id (r ∷ rows) ≡ placed_in id rows
in_others id r rows e = in_rest (has_id id) (snaps_at r) (flat_map snaps_at rows) (find_in r.name id r.system.snaps ∙ ap (option_map {T = Snap} {U = Name × Snap} (λ t. (r.name, t))) e)

pub in_own : (id : SnapId) (r : Row) (rows : List Row) (t : Snap) → find (λ (t : Snap). same_id (id_of t) id) r.system.snaps ≡ Some t → placed_in id (r ∷ rows) ≡ Some (r.name, t)
in_own id r rows t e = in_first (has_id id) (snaps_at r) (flat_map snaps_at rows) (r.name, t) (find_in r.name id r.system.snaps ∙ ap (option_map {T = Snap} {U = Name × Snap} (λ t. (r.name, t))) e)

-- all file systems have those of the world
placed_rows : (id : SnapId) (m : FileSystems) (es : List Entry) → placed_in id (map (row_in m) es) ≡ find (has_id id) (flat_map (λ e. map {A = Snap} {B = Name × Snap} (λ t. (e.0, t)) e.1.snaps) es)
placed_rows id m es = ap (find (has_id id)) (same_snaps es)
  where
    same_snaps : (xs : List Entry) → flat_map snaps_at (map (row_in m) xs) ≡ flat_map (λ e. map {A = Snap} {B = Name × Snap} (λ t. (e.0, t)) e.1.snaps) xs
    same_snaps [] = refl
    same_snaps (x ∷ xs) = ap (λ l. map {A = Snap} {B = Name × Snap} (λ t. (x.0, t)) x.1.snaps ++ l) (same_snaps xs)

pub placed_all : (t : Datasets) (id : SnapId) (rows : List Row) → rows ≡ map (row_in t.file_systems) (entries t.file_systems) → placed_in id rows ≡ snap_at (world_of t) id
placed_all t id rows is = ap (placed_in id) is ∙ placed_rows id t.file_systems (entries t.file_systems)

-- ---- a row at a place

dropped_in : {A : Type 0} (i : ℕ) (xs : List A) (x : A) (rest : List A) → drop i xs ≡ x ∷ rest → IsIn xs x
dropped_in {A = A} i xs x rest e = in_drop i xs x (subst (λ l. IsIn l x) (sym e) (inl refl))
  where
    in_drop : (i : ℕ) (xs : List A) (x : A) → IsIn (drop i xs) x → IsIn xs x
    in_drop zero xs x h = h
    in_drop (suc i) [] x h = absurd h
    in_drop (suc i) (y ∷ ys) x h = inr (in_drop i ys x h)

module _ {A : Type 0} (value : A → Row) (xs : List A) (i : ℕ) (lt : i < length xs) (x : A) (at : x ≡ get_or xs i x) (r : Row) (is : r ≡ value x) where
  -- it is the first of those from there on
  pub first_of_left : drop i (map value xs) ≡ r ∷ drop (i + 1) (map value xs)
  first_of_left =
      drop-map value i xs
      ∙ ap (map value) (drop-cons xs i x lt ∙ (λ j. sym at j ∷ drop (sym (add-one i) j) xs))
      ∙ (λ j. sym is j ∷ sym (drop-map value (i + 1) xs) j)

  module _ (ss : FileSystems) (g : ℕ) (good : AreFileSystems ss g) (all : map value xs ≡ map (row_in ss) (entries ss)) where
    pub row_there : get ss r.name ≡ Some r.system
    row_there =
        let e = in_map (row_in ss) (entries ss) r (subst (λ l. IsIn l r) all (dropped_in i (map value xs) r (drop (i + 1) (map value xs)) first_of_left)) in
        ap (λ (x : Row). get ss x.name) e.2 ∙ at_entry name_order ss e.0.0 e.0.1 (from_entries (entries ss) e.0 e.1) ∙ ap (λ (x : Row). Some x.system) (sym e.2)

    pub row_here : r ≡ row_in ss (r.name, r.system)
    row_here =
        let e = in_map (row_in ss) (entries ss) r (subst (λ l. IsIn l r) all (dropped_in i (map value xs) r (drop (i + 1) (map value xs)) first_of_left)) in
        e.2 ∙ ap (λ (x : Row). row_in ss (x.name, x.system)) (sym e.2)

    -- and its snapshots stand in order of their groups
    pub row_rising : AreRising 0 r.system.snaps
    row_rising = from_zero (start ss g good.lines r.name r.system row_there).base r.system.snaps (rising ss g good.lines r.name r.system row_there)
