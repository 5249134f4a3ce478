-- The rows of a world's lineages, in the words of the definitions.
use Rattle.std.proofs.Common.{◌≡◌, ℕ, ◌<◌, ◌≤◌, List, [], ◌∷◌, ◌++◌, Option, Some, None, refl, sym, ap, subst, ◌∙◌, inl, inr, ⊎_elim, map, arith}
use Rattle.std.specs.Option.{option_map, option_map_or, option_or, option_and_then}
use Rattle.std.specs.List.{filter, flat_map, last_or}
use Rattle.std.specs.Prelude.{nat_lt}
use Rattle.std.proofs.lemmas.Bool.{lt-ltb, ltb-true}
use Rattle.std.specs.FinMap.{get, entries, get-empty}
use Rattle.std.specs.FinMap as finmap
use Rattle.std.specs.FinSet as set
use Rattle.base.specs.Key.{key_cmp}
use Rattle.base.specs.Map.{Map, Block, BlockSet, blocks}
use Rattle.base.specs.Surveys.{IsIn}
use Rattle.model.specs.World.{World, FileSystem, Snap, SnapId, Dataset, Live, Snapped, id_of, same_id, snaps_of, snap_at, map_of, maps_of, blocks_of_all, union_of, previous_of, snaps_before, newest_or_origin, map_of_snap}
use Rattle.world.specs.Sets.{Has}
use Rattle.world.specs.Blocks.{block_order as o}
use Rattle.world.specs.Lineage.{Row, IsSound, IsUnion}
use Rattle.world.specs.Shapes.{Name, name_order, Shape, SnapShape, Before, before_next, before_live, row, IsAmong, Starts, IsSnapRow, IsTail, IsRow, lineages, IsGood}
use Rattle.world.specs.Usage.{IsEntry}
use Rattle.world.specs.Worlds.{FileSystems, snap_shape, shape_of, shapes, AreRising}
use Rattle.world.proofs.lists.Maps.{same_value, no_value, entry_of, at_entry}
use Rattle.world.proofs.lists.SetCounts.{in_union_left, in_union_right, from_union, no-empty, same_members}
use Rattle.world.proofs.lineage.Replace.{row_of, tail_live, live_in}
use Rattle.world.proofs.lists.Finding.{from_find, find_only, filter_front, append_none, in_left, in_flat, from_flat, same_id_is, is_same_id}
use Rattle.world.proofs.maps.Cells.{from_blocks}
use Rattle.world.proofs.lists.Listed.{in_map, map_in}

-- ---- shapes

pub shape_at : (ss : FileSystems) (name : Name) (s : FileSystem) → get ss name ≡ Some s → shapes ss name ≡ Some (shape_of s)
shape_at ss name s e = ap (option_map shape_of) e

pub shape_none : (ss : FileSystems) (name : Name) → get ss name ≡ None → shapes ss name ≡ None
shape_none ss name e = ap (option_map shape_of) e

pub from_shape : (ss : FileSystems) (name : Name) (f : Shape) → shapes ss name ≡ Some f → (s : FileSystem) × (get ss name ≡ Some s) × (f ≡ shape_of s)
from_shape ss name f h = at (get ss name) refl h
  where
    at : (x : Option FileSystem) → get ss name ≡ x → option_map shape_of x ≡ Some f → (s : FileSystem) × (get ss name ≡ Some s) × (f ≡ shape_of s)
    at None e k = absurd (no_value f k)
    at (Some s) e k = (s, e, sym (same_value (shape_of s) f k))

pub among : (ts : List Snap) (t : Snap) → IsIn ts t → IsAmong (map snap_shape ts) (snap_shape t)
among [] t h = absurd h
among (x ∷ xs) t h = ⊎_elim (λ e. inl (ap snap_shape e)) (λ k. inr (among xs t k)) h

pub from_among : (ts : List Snap) (x : SnapShape) → IsAmong (map snap_shape ts) x → (t : Snap) × IsIn ts t × (x ≡ snap_shape t)
from_among [] x h = absurd h
from_among (t ∷ ts) x h = ⊎_elim (λ e. (t, inl refl, e)) (λ k. let r = from_among ts x k in (r.0, inr r.1, r.2)) h

pub shapes-append : (xs ys : List Snap) → map snap_shape (xs ++ ys) ≡ map snap_shape xs ++ map snap_shape ys
shapes-append [] ys = refl
shapes-append (x ∷ xs) ys = ap (λ l. snap_shape x ∷ l) (shapes-append xs ys)

-- ---- a list with an element in its middle

pub in_middle : (xs : List Snap) (t : Snap) (ys : List Snap) → IsIn (xs ++ t ∷ ys) t
in_middle [] t ys = inl refl
in_middle (x ∷ xs) t ys = inr (in_middle xs t ys)

-- ---- groups rise along a file system's snapshots

rising_from : (g : ℕ) (name : Name) (live : BlockSet) (q : Before) (ts : List Snap)
    → ((d : Dataset) (n : Row Dataset) → IsTail g name live q (map snap_shape ts) d n → IsSound Dataset n) → AreRising q.base ts
rising_from g name live q [] sound = tt
rising_from g name live q (t ∷ ts) sound = (
  (sound (Snapped (id_of t)) (row t.group q (blocks t.map)) (inl (refl, refl))).falls,
  rising_from g name live (before_next (snap_shape t)) ts (λ d n r. sound d n (inr r)),
)

pub rising_up : (g h : ℕ) (ts : List Snap) → h ≤ g → AreRising g ts → AreRising h ts
rising_up g h [] l r = tt
rising_up g h (t ∷ ts) l r = (let a = r.0 in omega arith, r.1)

pub rising_above : (g : ℕ) (ts : List Snap) (t : Snap) → AreRising g ts → IsIn ts t → g < t.group
rising_above g [] t r h = absurd h
rising_above g (x ∷ xs) t r h = ⊎_elim
    (λ (e : t ≡ x). let k : t.group ≡ x.group = ap (λ (y : Snap). y.group) e in let l = r.0 in omega arith)
    (λ k. let a = rising_above x.group xs t r.1 k in let l = r.0 in omega arith)
    h

-- one snapshot to a group
pub rising_once : (g : ℕ) (ts : List Snap) (t u : Snap) → AreRising g ts → IsIn ts t → IsIn ts u → t.group ≡ u.group → t ≡ u
rising_once g [] t u r h k e = absurd h
rising_once g (x ∷ xs) t u r h k e = ⊎_elim
    (λ (a : t ≡ x). ⊎_elim
    (λ (b : u ≡ x). a ∙ sym b)
    (λ b. let l = rising_above x.group xs u r.1 b in let i : t.group ≡ x.group = ap (λ (y : Snap). y.group) a in absurd (omega arith)) k)
    (λ a. ⊎_elim
    (λ (b : u ≡ x). let l = rising_above x.group xs t r.1 a in let i : u.group ≡ x.group = ap (λ (y : Snap). y.group) b in absurd (omega arith))
    (λ b. rising_once x.group xs t u r.1 a b e) k)
    h

pub rising_below : (g : ℕ) (xs : List Snap) (t : Snap) (ys : List Snap) → AreRising g (xs ++ t ∷ ys) → (u : Snap) → IsIn xs u → u.group < t.group
rising_below g [] t ys r u h = absurd h
rising_below g (x ∷ xs) t ys r u h = ⊎_elim
    (λ (e : u ≡ x). let k : u.group ≡ x.group = ap (λ (y : Snap). y.group) e in let a = rising_above x.group (xs ++ t ∷ ys) t r.1 (in_middle xs t ys) in omega arith)
    (λ k. rising_below x.group xs t ys r.1 u k)
    h

pub rising_after : (g : ℕ) (xs : List Snap) (t : Snap) (ys : List Snap) → AreRising g (xs ++ t ∷ ys) → AreRising t.group ys
rising_after g [] t ys r = r.1
rising_after g (x ∷ xs) t ys r = rising_after x.group xs t ys r.1

module _ (ss : FileSystems) (g : ℕ) (good : IsGood (shapes ss) g) where
  module _ (name : Name) (s : FileSystem) (at : get ss name ≡ Some s) where
    -- what stands before a file system
    pub start : Before
    start = (good.closed name (shape_of s) (shape_at ss name s at)).0

    pub starts : Starts (shapes ss) s.origin start
    unfolding start
    starts = (good.closed name (shape_of s) (shape_at ss name s at)).1

    pub own_row : (d : Dataset) (n : Row Dataset) → IsRow g name (shape_of s) start d n → lineages (shapes ss) g d n
    own_row d n r = (name, shape_of s, start, shape_at ss name s at, starts, r)

    pub rising : AreRising start.base s.snaps
    rising = rising_from g name (blocks s.live) start s.snaps (λ d n r. good.facts.sound d n (own_row d n r))

    -- the row of the live map
    abbrev pub live_row : Row Dataset
    live_row = row g (before_live start (map snap_shape s.snaps)) (blocks s.live)

    pub live_there : lineages (shapes ss) g (Live name) live_row
    live_there = own_row (Live name) live_row (live_in g name (blocks s.live) start (map snap_shape s.snaps))

    pub live_high : (before_live start (map snap_shape s.snaps)).base < g
    live_high = (good.facts.sound (Live name) live_row live_there).falls

  -- an identity is one snapshot's, in one file system
  pub one_snap : (name other : Name) (s e : FileSystem) (t u : Snap) → get ss name ≡ Some s → get ss other ≡ Some e → IsIn s.snaps t → IsIn e.snaps u
      → id_of t ≡ id_of u → (name ≡ other) × (t ≡ u)
  one_snap name other s e t u at at' h k ids =
      let names : name ≡ other = good.placed name other (shape_of s) (shape_of e) (snap_shape t) (snap_shape u) (shape_at ss name s at) (shape_at ss other e at') (among s.snaps t h) (among e.snaps u k) ids in
      let one : s ≡ e = same_value s e (sym at ∙ ap (get ss) names ∙ at') in
      (names, rising_once (start name s at).base s.snaps t u (rising name s at) h (subst (λ (x : FileSystem). IsIn x.snaps u) (sym one) k) (ap (λ (x : SnapId). x.group) ids))

pub in_entries : (es : List (Name × FileSystem)) (name : Name) (s : FileSystem) → IsEntry es name s → IsIn es (name, s)
in_entries [] name s h = absurd h
in_entries (e ∷ es) name s h = ⊎_elim (λ k. inl (λ i. (k.0 i, k.1 i))) (λ k. inr (in_entries es name s k)) h

pub from_entries : (es : List (Name × FileSystem)) (e : Name × FileSystem) → IsIn es e → IsEntry es e.0 e.1
from_entries [] e h = absurd h
from_entries (x ∷ xs) e h = ⊎_elim (λ (k : e ≡ x). inl (ap (λ y. y.0) k, ap (λ y. y.1) k)) (λ k. inr (from_entries xs e k)) h

-- a snapshot's row, with the snapshots that are older
pub snap_row_is : (q : Before) (ts : List Snap) (d : Dataset) (n : Row Dataset) → IsSnapRow q (map snap_shape ts) d n
    → (older : List Snap) × (t : Snap) × (newer : List Snap) × (ts ≡ older ++ t ∷ newer) × (d ≡ Snapped (id_of t)) × (n ≡ row t.group (before_live q (map snap_shape older)) (blocks t.map))
snap_row_is q [] d n k = absurd k
snap_row_is q (t ∷ ts) d n k = ⊎_elim
    (λ i. ([], t, ts, refl, i.0, i.1))
    (λ i. let r = snap_row_is (before_next (snap_shape t)) ts d n i in (t ∷ r.0, r.1, r.2, ap (λ l. t ∷ l) r.3, r.4, r.5))
    k

pub no_block : (b : Block) → ¬ (Has (blocks finmap.empty) b)
no_block b h = let i = from_blocks finmap.empty b h in no_value i.1 (sym (get-empty key_cmp i.0) ∙ i.2)

pub blocks_none : blocks finmap.empty ≡ set.empty
blocks_none = same_members o _ _ (λ b h. absurd (no_block b h)) (λ b h. absurd (no-empty o b h))

in_all : (ms : List Map) (m : Map) (b : Block) → IsIn ms m → Has (blocks m) b → Has (blocks_of_all ms) b
in_all [] m b h k = absurd h
in_all (x ∷ xs) m b h k = ⊎_elim
    (λ e. in_union_left o (blocks x) (blocks_of_all xs) b (subst (λ y. Has (blocks y) b) e k))
    (λ r. in_union_right o (blocks x) (blocks_of_all xs) b (in_all xs m b r k))
    h

from_all : (ms : List Map) (b : Block) → Has (blocks_of_all ms) b → (m : Map) × IsIn ms m × Has (blocks m) b
from_all [] b h = absurd (no-empty o b h)
from_all (x ∷ xs) b h = ⊎_elim
    (λ k. (x, inl refl, k))
    (λ k. let r = from_all xs b k in (r.0, inr r.1, r.2))
    (from_union o (blocks x) (blocks_of_all xs) b h)

-- ---- snapshots by their identities

module _ (w : World) where
  abbrev ss : FileSystems
  ss = w.file_systems

  pub in_snaps : (name : Name) (s : FileSystem) (t : Snap) → get ss name ≡ Some s → IsIn s.snaps t → IsIn (snaps_of w) (name, t)
  in_snaps name s t at h =
      in_flat (λ e. map {B = Name × Snap} (λ u. (e.0, u)) e.1.snaps) (entries ss) (name, s) (name, t) (in_entries (entries ss) name s (entry_of name_order ss name s at))
      (map_in {B = Name × Snap} (λ u. (name, u)) s.snaps t h)

  pub from_snaps : (p : Name × Snap) → IsIn (snaps_of w) p → (s : FileSystem) × (get ss p.0 ≡ Some s) × IsIn s.snaps p.1
  from_snaps p h =
      let r = from_flat (λ e. map {B = Name × Snap} (λ u. (e.0, u)) e.1.snaps) (entries ss) p h in
      let k = in_map {B = Name × Snap} (λ u. (r.0.0, u)) r.0.1.snaps p r.2 in
      (r.0.1, ap (get ss) (ap (λ (x : Name × Snap). x.0) k.2) ∙ at_entry name_order ss r.0.0 r.0.1 (from_entries (entries ss) r.0 r.1), subst (λ x. IsIn r.0.1.snaps x) (sym (ap (λ (x : Name × Snap). x.1) k.2)) k.1)

  pub from_snap_at : (id : SnapId) (p : Name × Snap) → snap_at w id ≡ Some p → (s : FileSystem) × (get ss p.0 ≡ Some s) × IsIn s.snaps p.1 × (id_of p.1 ≡ id)
  from_snap_at id p h =
      let r = from_find (λ (x : Name × Snap). same_id (id_of x.1) id) (snaps_of w) p h in
      let k = from_snaps p r.0 in
      (k.0, k.1, k.2, same_id_is (id_of p.1) id r.1)

  -- the union, as facts
  pub in_union_of : (name : Name) (s : FileSystem) (m : Map) (b : Block) → get ss name ≡ Some s → IsIn (maps_of s) m → Has (blocks m) b → Has (union_of w) b
  unfolding union_of
  in_union_of name s m b at h k =
      in_all (flat_map maps_of (map (λ e. e.1) (entries ss))) m b
      (in_flat maps_of (map (λ e. e.1) (entries ss)) s m (map_in (λ (e : Name × FileSystem). e.1) (entries ss) (name, s) (in_entries (entries ss) name s (entry_of name_order ss name s at))) h) k

  pub from_union_of : (b : Block) → Has (union_of w) b → (name : Name) × (s : FileSystem) × (m : Map) × (get ss name ≡ Some s) × IsIn (maps_of s) m × Has (blocks m) b
  unfolding union_of
  from_union_of b h =
      let r = from_all (flat_map maps_of (map (λ e. e.1) (entries ss))) b h in
      let k = from_flat maps_of (map (λ e. e.1) (entries ss)) r.0 r.1 in
      let e = in_map (λ (e : Name × FileSystem). e.1) (entries ss) k.0 k.1 in
      (e.0.0, e.0.1, r.0, at_entry name_order ss e.0.0 e.0.1 (from_entries (entries ss) e.0 e.1), subst (λ (x : FileSystem). IsIn (maps_of x) r.0) e.2 k.2, r.2)

  pub map_of_live : (name : Name) (s : FileSystem) → get ss name ≡ Some s → map_of w (Live name) ≡ s.live
  unfolding map_of
  map_of_live name s e = rw e refl

  pub map_of_gone : (name : Name) → get ss name ≡ None → map_of w (Live name) ≡ finmap.empty
  unfolding map_of
  map_of_gone name e = rw e refl

  pub map_of_absent : (id : SnapId) → snap_at w id ≡ None → map_of w (Snapped id) ≡ finmap.empty
  unfolding map_of
  map_of_absent id e = ap (λ x. option_map_or (λ (p : Name × Snap). p.1.map) x finmap.empty) e

  pub map_of_found : (id : SnapId) (p : Name × Snap) → snap_at w id ≡ Some p → map_of w (Snapped id) ≡ p.1.map
  unfolding map_of
  map_of_found id p e = ap (λ x. option_map_or (λ (p : Name × Snap). p.1.map) x finmap.empty) e

  module _ (g : ℕ) (good : IsGood (shapes ss) g) where
    pub snap_is_at : (name : Name) (s : FileSystem) (t : Snap) (id : SnapId) → get ss name ≡ Some s → IsIn s.snaps t → id_of t ≡ id → snap_at w id ≡ Some (name, t)
    snap_is_at name s t id at h is = find_only (λ (x : Name × Snap). same_id (id_of x.1) id) (snaps_of w) (name, t) (in_snaps name s t at h) (is_same_id (id_of t) id is)
        (λ p i e.
        let k = from_snaps p i in
        let same = one_snap ss g good p.0 name k.0 s p.1 t k.1 at k.2 h (same_id_is (id_of p.1) id e ∙ sym is) in
        λ j. (same.0 j, same.1 j))

    pub map_of_kept : (name : Name) (s : FileSystem) (t : Snap) (id : SnapId) → get ss name ≡ Some s → IsIn s.snaps t → id_of t ≡ id → map_of w (Snapped id) ≡ t.map
    unfolding map_of
    map_of_kept name s t id at h is = ap (λ x. option_map_or (λ (p : Name × Snap). p.1.map) x finmap.empty) (snap_is_at name s t id at h is)

    -- a row has the blocks of its dataset's map
    pub row_blocks : (d : Dataset) (n : Row Dataset) → lineages (shapes ss) g d n → n.blocks ≡ blocks (map_of w d)
    row_blocks d n (name, f, q, is, st, r) =
        let x = from_shape ss name f is in
        let s = x.0 in
        let r' = subst (λ y. IsRow g name y q d n) x.2 r in
        ⊎_elim
        (λ k.
        let i = snap_row_is q s.snaps d n k in
        ap (λ (y : Row Dataset). y.blocks) i.5 ∙ ap (λ m. blocks m)
        (sym (map_of_kept name s i.1 (id_of i.1) x.1 (subst (λ l. IsIn l i.1) (sym i.3) (in_middle i.0 i.1 i.2)) refl) ∙ ap (map_of w) (sym i.4)))
        (λ k. ap (λ (y : Row Dataset). y.blocks) k.1 ∙ ap (λ m. blocks m) (sym (map_of_live name s x.1) ∙ ap (map_of w) (sym k.0)))
        (tail_live g name (blocks s.live) q (map snap_shape s.snaps) d n r')

    -- the row of a snapshot
    pub kept_there : (name : Name) (s : FileSystem) (t : Snap) → get ss name ≡ Some s → IsIn s.snaps t → (n : Row Dataset) × lineages (shapes ss) g (Snapped (id_of t)) n × (n.blocks ≡ blocks t.map)
    kept_there name s t at h =
        let r = row_of g name (blocks s.live) (start ss g good name s at) (map snap_shape s.snaps) (snap_shape t) (among s.snaps t h) in
        (r.0, own_row ss g good name s at (Snapped (id_of t)) r.0 r.1, r.2)

    -- a dataset that has a block is there
    pub has_row : (d : Dataset) (b : Block) → Has (blocks (map_of w d)) b → (n : Row Dataset) × lineages (shapes ss) g d n × Has n.blocks b
    has_row (Live name) b h = at (get ss name) refl
      where
        at : (x : Option FileSystem) → get ss name ≡ x → (n : Row Dataset) × lineages (shapes ss) g (Live name) n × Has n.blocks b
        at None e = absurd (no_block b (subst (λ m. Has (blocks m) b) (map_of_gone name e) h))
        at (Some s) e = (live_row ss g good name s e, live_there ss g good name s e, subst (λ m. Has (blocks m) b) (map_of_live name s e) h)
    has_row (Snapped id) b h = at (snap_at w id) refl
      where
        at : (x : Option (Name × Snap)) → snap_at w id ≡ x → (n : Row Dataset) × lineages (shapes ss) g (Snapped id) n × Has n.blocks b
        at None e = absurd (no_block b (subst (λ m. Has (blocks m) b) (map_of_absent id e) h))
        at (Some p) e =
            let k = from_snap_at id p e in
            let r = kept_there p.0 k.0 p.1 k.1 k.2 in
            (r.0, subst (λ i. lineages (shapes ss) g (Snapped i) r.0) k.3 r.1, subst (λ x. Has x b) (sym r.2) (subst (λ m. Has (blocks m) b) (map_of_kept p.0 k.0 p.1 id k.1 k.2 k.3) h))

    -- ---- what stands before

    pub previous_of_live : (name : Name) (s : FileSystem) → get ss name ≡ Some s → previous_of w (Live name) ≡ newest_or_origin s s.snaps
    unfolding previous_of
    previous_of_live name s e = ap (option_and_then (λ (s : FileSystem). newest_or_origin s s.snaps)) e

    pub previous_of_kept : (name : Name) (s : FileSystem) (older : List Snap) (t : Snap) (newer : List Snap) → get ss name ≡ Some s → s.snaps ≡ older ++ t ∷ newer
        → previous_of w (Snapped (id_of t)) ≡ newest_or_origin s older
    unfolding previous_of
    previous_of_kept name s older t newer at is =
        let h : IsIn s.snaps t = subst (λ l. IsIn l t) (sym is) (in_middle older t newer) in
        let up : AreRising (start ss g good name s at).base (older ++ t ∷ newer) = subst (AreRising (start ss g good name s at).base) is (rising ss g good name s at) in
        ap (option_and_then (λ (p : Name × Snap). option_and_then (λ (s : FileSystem). newest_or_origin s (snaps_before s t.group)) (get ss p.0))) (snap_is_at name s t (id_of t) at h refl)
        ∙ ap (option_and_then (λ (s : FileSystem). newest_or_origin s (snaps_before s t.group))) at
        ∙ ap (newest_or_origin s) (ap (filter (λ (u : Snap). nat_lt u.group t.group)) is
        ∙ filter_front (λ (u : Snap). nat_lt u.group t.group) older (t ∷ newer)
        (λ u i. lt-ltb u.group t.group (rising_below _ older t newer up u i))
        (λ u i e. let l = ltb-true u.group t.group e in ⊎_elim
        (λ (k : u ≡ t). let z : u.group ≡ t.group = ap (λ (y : Snap). y.group) k in absurd (omega arith))
        (λ k. let z = rising_above t.group newer u (rising_after _ older t newer up) k in absurd (omega arith)) i))

    -- what the definitions name as the one before is what the row says
    before_tail : (q : Before) (older ts : List Snap) (s : FileSystem) (name : Name) → get ss name ≡ Some s → s.snaps ≡ older ++ ts → Starts (shapes ss) s.origin q
        → Starts (shapes ss) (newest_or_origin s older) (before_live q (map snap_shape older))
    before_tail q older ts s name at is st = newest older q s.origin st (λ t h. subst (λ l. IsIn l t) (sym is) (in_left older ts t h))
      where
        newest : (us : List Snap) (r : Before) (x : Option SnapId) → Starts (shapes ss) x r → ((t : Snap) → IsIn us t → IsIn s.snaps t)
            → Starts (shapes ss) (option_or (option_map id_of (last_or None us)) x) (before_live r (map snap_shape us))
        newest [] r x h each = h
        newest (u ∷ us) r x h each = last us u (each u (inl refl)) (λ t i. each t (inr i))
          where
            last : (vs : List Snap) (v : Snap) → IsIn s.snaps v → ((t : Snap) → IsIn vs t → IsIn s.snaps t)
                → Starts (shapes ss) (option_or (option_map id_of (last_or (Some v) vs)) x) (before_live (before_next (snap_shape v)) (map snap_shape vs))
            last [] v i each = (snap_shape v, (name, shape_of s, shape_at ss name s at, among s.snaps v i, refl), refl)
            last (y ∷ ys) v i each = last ys y (each y (inl refl)) (λ t k. each t (inr k))

    pub prev_starts : (d : Dataset) (n : Row Dataset) → lineages (shapes ss) g d n → Starts (shapes ss) (previous_of w d) (record { prev = n.prev; base = n.base; below = n.below })
    prev_starts d n (name, f, q, is, st, r) =
        let x = from_shape ss name f is in
        let s = x.0 in
        let r' = subst (λ y. IsRow g name y q d n) x.2 r in
        let st' : Starts (shapes ss) s.origin q = subst (λ (y : Shape). Starts (shapes ss) y.origin q) x.2 st in
        ⊎_elim
        (λ k.
        let i = snap_row_is q s.snaps d n k in
        let t = i.1 in
        subst (λ y. Starts (shapes ss) (previous_of w y) (record { prev = n.prev; base = n.base; below = n.below })) (sym i.4)
        (subst (λ (y : Row Dataset). Starts (shapes ss) (previous_of w (Snapped (id_of t))) (record { prev = y.prev; base = y.base; below = y.below })) (sym i.5)
        (subst (λ y. Starts (shapes ss) y (before_live q (map snap_shape i.0))) (sym (previous_of_kept name s i.0 t i.2 x.1 i.3))
        (before_tail q i.0 (t ∷ i.2) s name x.1 i.3 st'))))
        (λ k.
        subst (λ y. Starts (shapes ss) (previous_of w y) (record { prev = n.prev; base = n.base; below = n.below })) (sym k.0)
        (subst (λ (y : Row Dataset). Starts (shapes ss) (previous_of w (Live name)) (record { prev = y.prev; base = y.base; below = y.below })) (sym k.1)
        (subst (λ y. Starts (shapes ss) y (before_live q (map snap_shape s.snaps))) (sym (previous_of_live name s x.1))
        (before_tail q s.snaps [] s name x.1 (sym (append_none s.snaps)) st'))))
        (tail_live g name (blocks s.live) q (map snap_shape s.snaps) d n r')

    -- what a start says of the map and group of the snapshot
    pub start_is : (x : Option SnapId) (q : Before) → Starts (shapes ss) x q
        → (q.prev ≡ option_map Snapped x) × (q.base ≡ option_map_or (λ (i : SnapId). i.group) x 0) × (q.below ≡ blocks (map_of_snap w x))
    start_is None q st = (ap (λ (y : Before). y.prev) st, ap (λ (y : Before). y.base) st, ap (λ (y : Before). y.below) st ∙ sym blocks_none)
    start_is (Some id) q st =
        let k = st.1 in
        let x = from_shape ss k.0 k.1 k.2 in
        let t = from_among x.0.snaps st.0 (subst (λ (y : Shape). IsAmong y.snapshots st.0) x.2 k.3) in
        let ids : id_of t.0 ≡ id = sym (ap (λ (y : SnapShape). y.id) t.2) ∙ k.4 in (
          ap (λ (y : Before). y.prev) st.2 ∙ ap (λ i. Some (Snapped i)) k.4,
          ap (λ (y : Before). y.base) st.2 ∙ ap (λ (i : SnapId). i.group) k.4,
          ap (λ (y : Before). y.below) st.2 ∙ ap (λ (y : SnapShape). y.blocks) t.2 ∙ ap (λ m. blocks m) (sym (map_of_kept k.0 x.0 t.0 id x.1 t.1 ids)),
        )

    -- a row says of the one before what the definitions say
    pub row_prev : (d : Dataset) (n : Row Dataset) → lineages (shapes ss) g d n
        → (n.prev ≡ option_map Snapped (previous_of w d)) × (n.base ≡ option_map_or (λ (i : SnapId). i.group) (previous_of w d) 0)
        × (n.below ≡ blocks (map_of_snap w (previous_of w d)))
    row_prev d n h = start_is (previous_of w d) _ (prev_starts d n h)

    -- ---- the union

    row_in_world : (d : Dataset) (n : Row Dataset) (b : Block) → lineages (shapes ss) g d n → Has n.blocks b → Has (union_of w) b
    row_in_world d n b (name, f, q, is, st, r) h =
        let x = from_shape ss name f is in
        let s = x.0 in
        let r' = subst (λ y. IsRow g name y q d n) x.2 r in
        ⊎_elim
        (λ k.
        let i = snap_row_is q s.snaps d n k in
        in_union_of name s i.1.map b x.1 (inr (map_in (λ (t : Snap). t.map) s.snaps i.1 (subst (λ l. IsIn l i.1) (sym i.3) (in_middle i.0 i.1 i.2)))) (subst (λ (y : Row Dataset). Has y.blocks b) i.5 h))
        (λ k. in_union_of name s s.live b x.1 (inl refl) (subst (λ (y : Row Dataset). Has y.blocks b) k.1 h))
        (tail_live g name (blocks s.live) q (map snap_shape s.snaps) d n r')

    -- a block that some dataset has is one of the union
    pub in_world : (d : Dataset) (b : Block) → Has (blocks (map_of w d)) b → Has (union_of w) b
    in_world d b h =
        let r = has_row d b h in
        row_in_world d r.0 b r.1 r.2

    pub from_world : (b : Block) → Has (union_of w) b → (d : Dataset) × Has (blocks (map_of w d)) b
    from_world b h =
        let r = from_union_of b h in
        ⊎_elim
        (λ (k : r.2 ≡ r.1.live). (Live r.0, subst (λ m. Has (blocks m) b) (k ∙ sym (map_of_live r.0 r.1 r.3)) r.5))
        (λ k.
        let t = in_map (λ (t : Snap). t.map) r.1.snaps r.2 k in
        (Snapped (id_of t.0), subst (λ m. Has (blocks m) b) (t.2 ∙ sym (map_of_kept r.0 r.1 t.0 (id_of t.0) r.3 t.1 refl)) r.5))
        r.4

    pub union_is : IsUnion Dataset (lineages (shapes ss) g) (union_of w)
    union_is = record {
      within = λ d n b h k. row_in_world d n b h k;
      reached = λ b h.
          let d = from_world b h in
          let r = has_row d.0 b d.1 in
          (d.0, r.0, r.1, r.2);
    }
