-- Two rows among others after a promote of the one.
use Rattle.std.proofs.Common.{option_and_then, ◌≡◌, ◌≢◌, ◌<◌, ◌+◌, ℕ, zero, suc, Bool, true, false, cond, List, [], ◌∷◌, ◌++◌, length, get_or, set, slice_get, map, Option, None, Some, is_some, refl, sym, ap, subst, ◌∙◌, inl, inr, ⊎_elim, arith, length-append, true≢false}
use Rattle.std.proofs.lemmas.List.{get_or-set_other, length-map, length-set}
use Rattle.std.proofs.lemmas.Bool.{cases_lt}
use Rattle.std.proofs.lemmas.Bool.Decides.{nat_tests}
use Rattle.std.specs.Prelude.{IsTrue, MatchOption, filter, nat_le, nat_lt}
use Rattle.std.specs.Arc.{arc_value}
use Rattle.std.specs.declared.sync.Arc.{Arc}
use Rattle.std.specs.declared.alloc.Global.{Global}
use Rattle.std.specs.List.{find}
use Rattle.std.specs.Option.{option_and_then, option_map}
use Rattle.std.specs.FinMap.{get, is_sorted, from_sorted}
use Rattle.std.specs.FinMap as finmap
use Rattle.base.specs.Names.{name_cmp}
use Rattle.base.specs.Map.{Map}
use Rattle.base.specs.Surveys.{IsIn}
use Rattle.model.specs.World.{FileSystem, Snap, SnapId, id_of, same_id}
use Rattle.world.specs.Outcomes.{Promotion, snaps_upto, snaps_after}
use Rattle.world.proofs.lists.Finding.{from_find, find_only, in_filter, from_filter, in_left, in_right, in_either, in_flat, from_flat, same_id_is, is_same_id}
use Rattle.world.specs.Usage.{IsEntry}
use Rattle.world.specs.Shapes.{name_order}
use Rattle.world.proofs.lists.Maps.{same_value, entry_of as entry_from}
use Rattle.datasets.specs.CloneNames.{CloneSet, promoted_set, IsListed}
use Rattle.datasets.proofs.Listing.{listed_promoted}
use Rattle.datasets.specs.Clones.{map_found, below_in, IsTied, AreTied}
use Rattle.file_system.specs.Origins.{origin_group}
use Rattle.datasets.specs.Places.{IsAt}
use Rattle.file_system.specs.Promotions.{promotion_between, promoted_row, demoted_row, CanPromote}
use Rattle.datasets.specs.Promoted.{promoted_in, CanPromoteIn, IsPromotion}
use Rattle.file_system.specs.Rows.{Entry, Row, entry_in, entry_of, FileSystems, snap_count}
use Rattle.file_system.specs.Splices.{AreAbove}
use Rattle.datasets.proofs.Counts.{set_counted, set_counted_fewer}
use Rattle.file_system.proofs.Promotions.{in_above}
use Rattle.datasets.proofs.Rows.{row_of, its_name, got, entries_are, placed_is, placed_sorted}
use Rattle.datasets.proofs.Ties.{row_snaps, row_got, row_below, in_place, in_set, stays_or, comes_in, is_found}

-- ---- lists

-- an entry at a place is there under its name
at_place : (es : List Entry) (j : ℕ) (e : Entry) → j < length es → e ≡ get_or es j e → IsAt es e.0 j
at_place es j e lt is = record { within = lt; named = λ d. by es j lt is d }
  where
    by : (es : List Entry) (j : ℕ) → j < length es → e ≡ get_or es j e → (d : Entry) → (get_or es j d).0 ≡ e.0
    by [] j lt is d = absurd (omega arith)
    by (x ∷ es) zero lt is d = ap (λ (y : Entry). y.0) (sym is)
    by (x ∷ es) (suc j) lt is d = by es j (omega arith) is d

-- those up to a group and those after it are all
parts_long : (g : ℕ) (ts : List Snap) → length (filter (λ (t : Snap). nat_lt g t.group) ts) + length (filter (λ (t : Snap). nat_le t.group g) ts) ≡ length ts
parts_long g [] = refl
parts_long g (t ∷ ts) = ⊎_elim
    (λ l.
    let after : nat_lt g t.group ≡ true = grind (arith, nat_tests) in
    let upto : nat_le t.group g ≡ false = grind (arith, nat_tests) in
    by true false after upto (omega arith) (parts_long g ts))
    (λ l.
    let after : nat_lt g t.group ≡ false = grind (arith, nat_tests) in
    let upto : nat_le t.group g ≡ true = grind (arith, nat_tests) in
    by false true after upto (omega arith) (parts_long g ts))
    (cases_lt g t.group)
  where
    by : (a b : Bool) → nat_lt g t.group ≡ a → nat_le t.group g ≡ b → cond a 1 0 + cond b 1 0 ≡ 1
        → length (filter (λ (t : Snap). nat_lt g t.group) ts) + length (filter (λ (t : Snap). nat_le t.group g) ts) ≡ length ts
        → length (cond (nat_lt g t.group) (t ∷ filter (λ (t : Snap). nat_lt g t.group) ts) (filter (λ (t : Snap). nat_lt g t.group) ts))
        + length (cond (nat_le t.group g) (t ∷ filter (λ (t : Snap). nat_le t.group g) ts) (filter (λ (t : Snap). nat_le t.group g) ts)) ≡ length (t ∷ ts)
    by true true e f one rest = absurd (omega arith)
    by true false e f one rest = rw (e, f) (omega arith)
    by false true e f one rest = rw (e, f) (omega arith)
    by false false e f one rest = absurd (omega arith)

-- what is found of an identity stands among the snapshots
from_found : (ts : List Snap) (id : SnapId) (m : Map) → map_found ts id ≡ Some m → (t : Snap) × IsIn ts t × (id_of t ≡ id) × (t.map ≡ m)
from_found ts id m e = by (find (λ (t : Snap). same_id (id_of t) id) ts) refl e
  where
    by : (o : Option Snap) → find (λ (t : Snap). same_id (id_of t) id) ts ≡ o → option_map (λ (t : Snap). t.map) o ≡ Some m → (t : Snap) × IsIn ts t × (id_of t ≡ id) × (t.map ≡ m)
    by None f e = absurd (no_value e)
      where
        no_value : None ≡ Some m → ⊥
        no_value e = cc
    by (Some t) f e = let r = from_find (λ (x : Snap). same_id (id_of x) id) ts t f in (t, r.0, same_id_is (id_of t) id r.1, same_value t.map m e)

-- a tie among these holds among those too
tied_keep : (ts us : List Snap) (o : Option SnapId) (below : Map) → ((id : SnapId) (m : Map) → map_found ts id ≡ Some m → map_found us id ≡ Some m)
    → MatchOption o (below ≡ finmap.empty) (λ id. map_found ts id ≡ Some below) → MatchOption o (below ≡ finmap.empty) (λ id. map_found us id ≡ Some below)
tied_keep ts us None below keep tie = tie
tied_keep ts us (Some id) below keep tie = keep id below tie

-- what stands at a place stands there alone
one_there : {A : Type 0} (xs : List A) (i : ℕ) (x y : A) → x ≡ get_or xs i x → y ≡ get_or xs i y → i < length xs → x ≡ y
one_there [] i x y e f lt = absurd (omega arith)
one_there (z ∷ xs) zero x y e f lt = e ∙ sym f
one_there (z ∷ xs) (suc i) x y e f lt = one_there xs i x y e f (omega arith)

got_at : {A : Type 0} (xs : List A) (i : ℕ) (x : A) → x ≡ get_or xs i x → i < length xs → slice_get xs i ≡ Some x
got_at [] i x e lt = absurd (omega arith)
got_at (z ∷ xs) zero x e lt = ap Some (sym e)
got_at (z ∷ xs) (suc i) x e lt = got_at xs i x e (omega arith)

-- the snapshot of an identity that a row has
pub snap_there : (items : List (Arc Row Global)) (j : ℕ) (b : Arc Row Global) (id : SnapId) → j < length items → b ≡ get_or items j b
    → ((r : Row) → slice_get (map arc_value items) j ≡ Some r → is_some (find (λ (t : Snap). same_id (id_of t) id) r.system.snaps) ≡ true)
    → (t : Snap) × IsIn (arc_value b).system.snaps t × (id_of t ≡ id)
snap_there items j b id lt is says =
    let within : j < length (map arc_value items) = omega (arith, length-map items arc_value) in
    by (find (λ (t : Snap). same_id (id_of t) id) (arc_value b).system.snaps) refl (says (arc_value b) (got_at (map arc_value items) j (arc_value b) (row_of arc_value items j b is) within))
  where
    by : (o : Option Snap) → find (λ (t : Snap). same_id (id_of t) id) (arc_value b).system.snaps ≡ o → is_some o ≡ true → (t : Snap) × IsIn (arc_value b).system.snaps t × (id_of t ≡ id)
    by None f h = absurd (true≢false (sym h))
    by (Some t) f h = let r = from_find (λ (x : Snap). same_id (id_of x) id) (arc_value b).system.snaps t f in (t, r.0, same_id_is (id_of t) id r.1)

miss : (p : Snap → Bool) (x : Snap) (ts : List Snap) → cond (p x) (Some x) (find p ts) ≡ None → (p x ≡ false) × (find p ts ≡ None)
miss p x ts e = by (p x) e
  where
    by : (b : Bool) → cond b (Some x) (find p ts) ≡ None → (b ≡ false) × (find p ts ≡ None)
    by true e = absurd (is_none e)
      where
        is_none : Some x ≡ None → ⊥
        is_none e = cc
    by false e = (refl, e)

-- a file system that is there has a row
got_row : (items : List (Arc Row Global)) (sorted : IsTrue (is_sorted name_cmp (map entry_in items))) (q : List ℕ) (f : FileSystem) → get (from_sorted {R = name_cmp} (map entry_in items)) q ≡ Some f
    → (r : Row) × IsIn (map arc_value items) r × (r.system ≡ f)
got_row items sorted q f e = among items (subst (λ es. IsEntry es q f) (entries_are (map entry_in items) sorted) (entry_from name_order (from_sorted {R = name_cmp} (map entry_in items)) q f e))
  where
    among : (items : List (Arc Row Global)) → IsEntry (map entry_in items) q f → (r : Row) × IsIn (map arc_value items) r × (r.system ≡ f)
    among [] h = absurd h
    among (x ∷ xs) h = ⊎_elim (λ e. (arc_value x, inl refl, sym e.1)) (λ k. let rest = among xs k in (rest.0, inr rest.1, rest.2)) h

-- ---- the rows

module _ (items : List (Arc Row Global)) (sorted : IsTrue (is_sorted name_cmp (map entry_in items))) (tied : AreTied (map arc_value items)) (q : List ℕ) (i : ℕ) (at : IsAt (map entry_in items) q i)
    (a : Arc Row Global) (a_is : a ≡ get_or items i a) (j : ℕ) (within : j < length items) (b : Arc Row Global) (b_is : b ≡ get_or items j b) (id : SnapId)
    (origin_is : (arc_value a).system.origin ≡ Some id) (t : Snap) (t_in : IsIn (arc_value b).system.snaps t) (t_is : id_of t ≡ id)
    (can : CanPromoteIn (from_sorted {R = name_cmp} (map entry_in items)) q) where
  abbrev m : FileSystems
  m = from_sorted {R = name_cmp} (map entry_in items)

  abbrev rows : List Row
  rows = map arc_value items

  abbrev clone : Row
  clone = arc_value a

  abbrev owner : Row
  owner = arc_value b

  i_within : i < length rows
  i_within = let within = at.within in omega (arith, length-map items entry_in, length-map items arc_value)

  j_within : j < length rows
  j_within = omega (arith, length-map items arc_value)

  clone_at : clone ≡ get_or rows i clone
  clone_at = row_of arc_value items i a a_is

  owner_at : owner ≡ get_or rows j owner
  owner_at = row_of arc_value items j b b_is

  clone_in : IsIn rows clone
  clone_in = in_place rows i clone i_within clone_at

  owner_in : IsIn rows owner
  owner_in = in_place rows j owner j_within owner_at

  clone_name : clone.name ≡ q
  clone_name = its_name (map entry_in items) sorted q i at (entry_in a) (row_of entry_in items i a a_is)

  clone_got : get m q ≡ Some clone.system
  clone_got = got (map entry_in items) sorted q i at (entry_in a) (row_of entry_in items i a a_is)

  owner_got : get m owner.name ≡ Some owner.system
  owner_got = row_got items sorted owner owner_in

  -- a promote of the clone is between these
  pub between_is : (p : Promotion) → IsPromotion m q p → p ≡ promotion_between clone owner id
  between_is p is =
      let first = same_value p.clone clone.system (sym is.here ∙ clone_got) in
      let origin = same_value p.origin id (sym is.is ∙ ap (λ (f : FileSystem). f.origin) first ∙ origin_is) in
      let one = can.once p.owner owner.name p.system owner.system is.snapshot t is.there owner_got is.among t_in (is.named ∙ origin ∙ sym t_is) in
      let system = same_value p.system owner.system (sym is.there ∙ ap (get m) one.0 ∙ owner_got) in
      λ k. record { clone = first k; origin = origin k; owner = one.0 k; system = system k }

  same : can.between ≡ promotion_between clone owner id
  same = between_is can.between can.is

  own : AreAbove clone.below clone.system
  own = subst (λ (b : Map). AreAbove b clone.system) (row_below items sorted tied clone clone_in) (subst (λ (p : Promotion). AreAbove (below_in m p.clone.origin) p.clone) same can.own)

  others : AreAbove owner.below owner.system
  others = subst (λ (b : Map). AreAbove b owner.system) (row_below items sorted tied owner owner_in) (subst (λ (p : Promotion). AreAbove (below_in m p.system.origin) p.system) same can.others)

  -- an identity is one snapshot's
  one_snap : (u v : Snap) → IsIn (row_snaps rows) u → IsIn (row_snaps rows) v → id_of u ≡ id_of v → u ≡ v
  one_snap u v h k e =
      let x = from_flat (λ (r : Row). r.system.snaps) rows u h in
      let y = from_flat (λ (r : Row). r.system.snaps) rows v k in
      (can.once x.0.name y.0.name x.0.system y.0.system u v (row_got items sorted x.0 x.1) (row_got items sorted y.0 y.1) x.2 y.2 e).1

  t_among : IsIn (row_snaps rows) t
  t_among = in_flat (λ (r : Row). r.system.snaps) rows owner t owner_in t_in

  clone_found : map_found (row_snaps rows) id ≡ Some clone.below
  clone_found = is_found (row_snaps rows) clone.system.origin clone.below id origin_is (tied clone clone_in)

  t_map : clone.below ≡ t.map
  t_map =
      let f = from_found (row_snaps rows) id clone.below clone_found in
      sym f.3 ∙ ap (λ (x : Snap). x.map) (one_snap f.0 t f.1 t_among (f.2 ∙ sym t_is))

  pub can_promote : CanPromote clone owner id
  can_promote = record {
    origin = t;
    there = t_in;
    named = t_is;
    is = origin_is;
    map = t_map;
    own = own;
    others = others;
    names = subst (λ (p : Promotion). (t u : Snap) → IsIn (snaps_upto p.system p.origin.group) t → IsIn p.clone.snaps u → t.name ≡ u.name → ⊥) same can.names;
  }

  -- they are two
  t_low : t.group ≡ id.group
  t_low = ap (λ (x : SnapId). x.group) t_is

  names_differ : clone.name ≡ owner.name → ⊥
  names_differ e =
      let system = same_value clone.system owner.system (sym clone_got ∙ ap (get m) (sym clone_name ∙ e) ∙ owner_got) in
      let inside : IsIn clone.system.snaps t = subst (λ (f : FileSystem). IsIn f.snaps t) (sym system) t_in in
      let above = in_above (origin_group clone.system.origin) clone.system.snaps t own.rising inside in
      let group = ap origin_group origin_is in
      absurd (omega (arith, above, group, t_low))

  pub apart : i ≢ j
  apart e = names_differ (ap (λ (r : Row). r.name) (one_there rows i clone owner clone_at (owner_at ∙ ap (λ n. get_or rows n owner) (sym e)) i_within))

  -- ---- afterwards

  abbrev new_clone : Row
  new_clone = promoted_row clone owner id

  abbrev new_owner : Row
  new_owner = demoted_row clone owner id

  abbrev half : List Row
  half = set rows j new_owner

  abbrev after : List Row
  after = set half i new_clone

  half_within : i < length half
  half_within = let long = length-set rows j new_owner in let l = i_within in omega arith

  half_at : clone ≡ get_or half i clone
  half_at = clone_at ∙ sym (get_or-set_other rows j i new_owner clone apart)

  clone_stays : IsIn after new_clone
  clone_stays = comes_in half i new_clone half_within

  owner_stays : IsIn after new_owner
  owner_stays = ⊎_elim (λ e. absurd (names_differ (ap (λ (r : Row). r.name) (sym e)))) (λ h. h) (stays_or half i new_clone clone new_owner half_within half_at (comes_in rows j new_owner j_within))

  -- the same snapshots are there
  to_after : (u : Snap) → IsIn (row_snaps rows) u → IsIn (row_snaps after) u
  to_after u h =
      let x = from_flat (λ (r : Row). r.system.snaps) rows u h in
      ⊎_elim
      (λ e.
      let inside : IsIn owner.system.snaps u = subst (λ (r : Row). IsIn r.system.snaps u) e x.2 in
      ⊎_elim
      (λ l.
      let later : nat_lt id.group u.group ≡ true = grind (arith, nat_tests) in
      in_flat (λ (r : Row). r.system.snaps) after new_owner u owner_stays (in_filter (λ (v : Snap). nat_lt id.group v.group) owner.system.snaps u inside later))
      (λ l.
      let early : nat_le u.group id.group ≡ true = grind (arith, nat_tests) in
      in_flat (λ (r : Row). r.system.snaps) after new_clone u clone_stays
      (in_left (snaps_upto owner.system id.group) clone.system.snaps u (in_filter (λ (v : Snap). nat_le v.group id.group) owner.system.snaps u inside early)))
      (cases_lt id.group u.group))
      (λ k. ⊎_elim
      (λ e.
      let inside : IsIn clone.system.snaps u = subst (λ (r : Row). IsIn r.system.snaps u) e x.2 in
      in_flat (λ (r : Row). r.system.snaps) after new_clone u clone_stays (in_right (snaps_upto owner.system id.group) clone.system.snaps u inside))
      (λ n. in_flat (λ (r : Row). r.system.snaps) after x.0 u n x.2)
      (stays_or half i new_clone clone x.0 half_within half_at k))
      (stays_or rows j new_owner owner x.0 j_within owner_at x.1)

  from_after : (u : Snap) → IsIn (row_snaps after) u → IsIn (row_snaps rows) u
  from_after u h =
      let x = from_flat (λ (r : Row). r.system.snaps) after u h in
      ⊎_elim
      (λ e.
      let inside : IsIn (snaps_upto owner.system id.group ++ clone.system.snaps) u = subst (λ (r : Row). IsIn r.system.snaps u) e x.2 in
      ⊎_elim
      (λ k. in_flat (λ (r : Row). r.system.snaps) rows owner u owner_in (from_filter (λ (v : Snap). nat_le v.group id.group) owner.system.snaps u k).0)
      (λ k. in_flat (λ (r : Row). r.system.snaps) rows clone u clone_in k)
      (in_either (snaps_upto owner.system id.group) clone.system.snaps u inside))
      (λ k. ⊎_elim
      (λ e.
      let inside : IsIn (snaps_after owner.system id.group) u = subst (λ (r : Row). IsIn r.system.snaps u) e x.2 in
      in_flat (λ (r : Row). r.system.snaps) rows owner u owner_in (from_filter (λ (v : Snap). nat_lt id.group v.group) owner.system.snaps u inside).0)
      (λ n. in_flat (λ (r : Row). r.system.snaps) rows x.0 u n x.2)
      (in_set rows j new_owner x.0 k))
      (in_set half i new_clone x.0 x.1)

  keeps : (k : SnapId) (w : Map) → map_found (row_snaps rows) k ≡ Some w → map_found (row_snaps after) k ≡ Some w
  keeps k w e =
      let f = from_found (row_snaps rows) k w e in
      ap (option_map (λ (x : Snap). x.map))
      (find_only (λ (x : Snap). same_id (id_of x) k) (row_snaps after) f.0 (to_after f.0 f.1) (is_same_id (id_of f.0) k f.2)
      (λ y h s. one_snap y f.0 (from_after y h) f.1 (same_id_is (id_of y) k s ∙ sym f.2)))
      ∙ ap Some f.3

  pub after_tied : AreTied after
  after_tied x h = ⊎_elim
      (λ e. subst (IsTied (row_snaps after)) (sym e) (tied_keep (row_snaps rows) (row_snaps after) owner.system.origin owner.below keeps (tied owner owner_in)))
      (λ k. ⊎_elim
      (λ e. subst (IsTied (row_snaps after)) (sym e) (keeps id clone.below clone_found))
      (λ n. tied_keep (row_snaps rows) (row_snaps after) x.system.origin x.below keeps (tied x n))
      (in_set rows j new_owner x k))
      (in_set half i new_clone x h)

  -- ---- by name

  abbrev es : List Entry
  es = map entry_in items

  es_within : j < length es
  es_within = omega (arith, length-map items entry_in)

  entry_at : IsAt es owner.name j
  entry_at = at_place es j (entry_in b) es_within (row_of entry_in items j b b_is)

  abbrev es_half : List Entry
  es_half = set es j (entry_of new_owner)

  pub half_sorted : IsTrue (is_sorted name_cmp es_half)
  half_sorted = placed_sorted es sorted owner.name j entry_at (entry_in b) (row_of entry_in items j b b_is) new_owner.system (entry_of new_owner) refl

  half_entry : entry_in a ≡ get_or es_half i (entry_in a)
  half_entry = row_of entry_in items i a a_is ∙ sym (get_or-set_other es j i (entry_of new_owner) (entry_in a) apart)

  half_long : i < length es_half
  half_long = let long = length-set es j (entry_of new_owner) in let within = at.within in omega arith

  half_named : IsAt es_half q i
  half_named = subst (λ n. IsAt es_half n i) clone_name (at_place es_half i (entry_in a) half_long half_entry)

  pub after_sorted : IsTrue (is_sorted name_cmp (set es_half i (entry_of new_clone)))
  after_sorted = placed_sorted es_half half_sorted q i half_named (entry_in a) half_entry new_clone.system (entry_of new_clone) refl

  after_at : from_sorted {R = name_cmp} (set es_half i (entry_of new_clone)) ≡ promoted_in m q (promotion_between clone owner id)
  after_at =
      placed_is es_half half_sorted q i half_named (entry_in a) half_entry new_clone.system (entry_of new_clone) refl
      ∙ ap (λ x. finmap.insert x q new_clone.system) (placed_is es sorted owner.name j entry_at (entry_in b) (row_of entry_in items j b b_is) new_owner.system (entry_of new_owner) refl)

  pub after_is : (p : Promotion) → IsPromotion m q p → from_sorted {R = name_cmp} (set es_half i (entry_of new_clone)) ≡ promoted_in m q p
  after_is p is = after_at ∙ ap (promoted_in m q) (sym (between_is p is))

  pub after_counted : (count : ℕ) → count ≡ snap_count m → count ≡ snap_count (from_sorted {R = name_cmp} (set es_half i (entry_of new_clone)))
  after_counted count counts =
      let moved = length (snaps_upto owner.system id.group) in
      let less = set_counted_fewer es j (entry_of new_owner) (entry_in b) moved count sorted half_sorted es_within (row_of entry_in items j b b_is) (parts_long id.group owner.system.snaps) counts in
      let longer : length (snaps_upto owner.system id.group ++ clone.system.snaps) ≡ length clone.system.snaps + moved =
      let sum = length-append (snaps_upto owner.system id.group) clone.system.snaps in omega arith in
      let more = set_counted es_half i (entry_of new_clone) (entry_in a) moved (snap_count (from_sorted {R = name_cmp} es_half)) half_sorted after_sorted half_long half_entry longer refl in
      sym less ∙ more

  -- the clones are listed
  pub after_listed : (s : CloneSet) → IsListed m s → IsListed (from_sorted {R = name_cmp} (set es_half i (entry_of new_clone))) (promoted_set s q owner.name id owner.system.origin)
  after_listed s listed =
      subst (λ x. IsListed x (promoted_set s q owner.name id owner.system.origin)) (sym after_at)
      (listed_promoted m s q owner.name id owner.system.origin new_owner.system new_clone.system listed (λ e. names_differ (clone_name ∙ e))
      (ap (λ x. option_and_then (λ (f : FileSystem). f.origin) x) clone_got ∙ origin_is) (ap (λ x. option_and_then (λ (f : FileSystem). f.origin) x) owner_got) refl refl)

-- the origin of a clone that can be promoted is somewhere
pub nowhere : (items : List (Arc Row Global)) (sorted : IsTrue (is_sorted name_cmp (map entry_in items))) (q : List ℕ) (i : ℕ) (at : IsAt (map entry_in items) q i) (a : Arc Row Global) (a_is : a ≡ get_or items i a)
    (id : SnapId) → (arc_value a).system.origin ≡ Some id → CanPromoteIn (from_sorted {R = name_cmp} (map entry_in items)) q
    → ((r : Row) → IsIn (map arc_value items) r → find (λ (t : Snap). same_id (id_of t) id) r.system.snaps ≡ None) → ⊥
nowhere items sorted q i at a a_is id origin can none =
    let here = got (map entry_in items) sorted q i at (entry_in a) (row_of entry_in items i a a_is) in
    let first = same_value can.between.clone (arc_value a).system (sym can.is.here ∙ here) in
    let same = same_value can.between.origin id (sym can.is.is ∙ ap (λ (f : FileSystem). f.origin) first ∙ origin) in
    let row = got_row items sorted can.between.owner can.between.system can.is.there in
    let missing : find (λ (t : Snap). same_id (id_of t) id) can.between.system.snaps ≡ None = subst (λ (f : FileSystem). find (λ (t : Snap). same_id (id_of t) id) f.snaps ≡ None) row.2 (none row.0 row.1) in
    there (can.between.system.snaps) can.is.snapshot can.is.among (is_same_id (id_of can.is.snapshot) id (can.is.named ∙ same)) missing
  where
    there : (ts : List Snap) (t : Snap) → IsIn ts t → same_id (id_of t) id ≡ true → find (λ (x : Snap). same_id (id_of x) id) ts ≡ None → ⊥
    there [] t h e missing = absurd h
    there (x ∷ ts) t h e missing =
        let both = miss (λ (y : Snap). same_id (id_of y) id) x ts missing in
        ⊎_elim (λ k. true≢false (sym e ∙ ap (λ (y : Snap). same_id (id_of y) id) k ∙ both.0)) (λ k. there ts t k e both.1) h
