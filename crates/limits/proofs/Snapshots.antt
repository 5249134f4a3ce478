-- What all datasets but some snapshots have, and the space of a snapshot.
use Rattle.std.proofs.Common.{◌≡◌, Bool, true, false, not, List, [], ◌∷◌, Option, Some, None, map, refl, sym, ap, subst, ◌∙◌, true≢false, inl, inr, ⊎_elim, ◌⊎◌}
use Rattle.std.specs.List.{filter, flat_map}
use Rattle.std.specs.Option.{option_map}
use Rattle.std.specs.FinMap.{get, entries, values}
use Rattle.std.specs.FinSet.{len, difference, intersection}
use Rattle.std.proofs.lemmas.Bool.{false_from_ne_true}
use Rattle.base.specs.Map.{Map, Block, BlockSet, blocks}
use Rattle.base.specs.Surveys.{IsIn}
use Rattle.model.specs.World.{World, FileSystem, Snap, SnapId, Dataset, Live, Snapped, id_of, same_id, map_of, blocks_of_all, previous_of}
use Rattle.model.specs.Sums.{union_without, used_by_snap}
use Rattle.world.specs.Sets.{Has}
use Rattle.world.specs.Blocks.{block_order as o, after}
use Rattle.world.specs.Lineage.{Row, IsUnion, Outside}
use Rattle.world.specs.Space.{dead_in_all, IsOneOf}
use Rattle.world.specs.Shapes.{Name, name_order, Shape, SnapShape, IsAmong, lineages}
use Rattle.world.specs.Usage.{IsEntry}
use Rattle.world.specs.Worlds.{FileSystems, shapes, AreFileSystems}
use Rattle.world.specs.Dead.{IsThere, dead_of, base_of}
use Rattle.world.proofs.lists.SetCounts.{no-empty, in_union_left, in_union_right, from_union, in_intersection, from_intersection}
use Rattle.world.proofs.lists.Maps.{no_value, same_value, entry_of, at_entry}
use Rattle.world.proofs.lists.Listed.{in_map, map_in}
use Rattle.world.proofs.lists.Finding.{in_flat, from_flat, in_filter, from_filter, same_id_is, is_same_id}
use Rattle.world.proofs.lineage.Replace.{same_snap, live_or_snap, id_of_row}
use Rattle.world.proofs.space.Usage.{used_of_snapshot_in_world}
use Rattle.world.proofs.lineage.Bridge.{from_shape, from_among, row_blocks, kept_there, map_of_live, map_of_kept, from_entries, row_prev}
use Rattle.world.proofs.lineage.Dead.{there_row, row_base, row_dead}
use Rattle.limits.specs.Space.{AreNext, dead_in_each}

-- ---- the blocks of several maps

pub in_all : (ms : List Map) (m : Map) (b : Block) → IsIn ms m → Has (blocks m) b → Has (blocks_of_all ms) b
in_all [] m b h k = absurd h
in_all (x ∷ xs) m b h k = ⊎_elim
    (λ e. in_union_left o (blocks x) (blocks_of_all xs) b (subst (λ y. Has (blocks y) b) e k))
    (λ r. in_union_right o (blocks x) (blocks_of_all xs) b (in_all xs m b r k))
    h

pub from_all : (ms : List Map) (b : Block) → Has (blocks_of_all ms) b → (m : Map) × IsIn ms m × Has (blocks m) b
from_all [] b h = absurd (no-empty o b h)
from_all (x ∷ xs) b h = ⊎_elim
    (λ k. (x, inl refl, k))
    (λ k. let r = from_all xs b k in (r.0, inr r.1, r.2))
    (from_union o (blocks x) (blocks_of_all xs) b h)

-- ---- what the deadlists of all these datasets have

pub in_each : (w : World) (s : BlockSet) (ds : List Dataset) (b : Block) → Has s b → ((d : Dataset) → IsIn ds d → Has (dead_of w d) b) → Has (dead_in_each w s ds) b
in_each w s [] b h each = h
in_each w s (d ∷ ds) b h each = in_intersection o (dead_of w d) (dead_in_each w s ds) b (each d (inl refl)) (in_each w s ds b h (λ e i. each e (inr i)))

pub from_each : (w : World) (s : BlockSet) (ds : List Dataset) (b : Block) → Has (dead_in_each w s ds) b → Has s b × ((d : Dataset) → IsIn ds d → Has (dead_of w d) b)
from_each w s [] b h = (h, λ d i. absurd i)
from_each w s (d ∷ ds) b h =
    let k = from_intersection o (dead_of w d) (dead_in_each w s ds) b h in
    let r = from_each w s ds b k.1 in
    (r.0, λ e i. ⊎_elim (λ is. subst (λ x. Has (dead_of w x) b) (sym is) k.0) (λ j. r.1 e j) i)

-- ---- what stays of a file system where some snapshots go

abbrev stays : (SnapId → Bool) → Snap → Bool
stays goes t = not (goes (id_of t))

abbrev maps_left : (SnapId → Bool) → FileSystem → List Map
maps_left goes s = s.live ∷ map (λ t. t.map) (filter (stays goes) s.snaps)

-- the live map, or that of a snapshot that doesn't go
abbrev IsLeft : (SnapId → Bool) → FileSystem → Map → Type 0
IsLeft goes s m = (m ≡ s.live) ⊎ ((t : Snap) × IsIn s.snaps t × (goes (id_of t) ≡ false) × (m ≡ t.map))

left_in : (goes : SnapId → Bool) (s : FileSystem) (m : Map) → IsLeft goes s m → IsIn (maps_left goes s) m
left_in goes s m h = ⊎_elim
    inl
    (λ (t, i, stay, e). inr (subst (IsIn (map (λ (t : Snap). t.map) (filter (stays goes) s.snaps))) (sym e)
    (map_in (λ (t : Snap). t.map) (filter (stays goes) s.snaps) t (in_filter (stays goes) s.snaps t i (ap not stay)))))
    h

from_left : (goes : SnapId → Bool) (s : FileSystem) (m : Map) → IsIn (maps_left goes s) m → IsLeft goes s m
from_left goes s m h = ⊎_elim
    inl
    (λ i.
    let t = in_map (λ (t : Snap). t.map) (filter (stays goes) s.snaps) m i in
    let f = from_filter (stays goes) s.snaps t.0 t.1 in
    inr (t.0, f.0, was_false (goes (id_of t.0)) f.1, t.2))
    h
  where
    was_false : (b : Bool) → not b ≡ true → b ≡ false
    was_false true e = absurd (true≢false (sym e))
    was_false false e = refl

-- a dataset that goes
abbrev pub Goes : (SnapId → Bool) → Dataset → Type 0
Goes goes d = (id : SnapId) × (d ≡ Snapped id) × (goes id ≡ true)

module _ (w : World) (good : AreFileSystems w.file_systems w.group) where
  abbrev ss : FileSystems
  ss = w.file_systems

  in_without : (goes : SnapId → Bool) (name : Name) (s : FileSystem) (m : Map) (b : Block) → get ss name ≡ Some s → IsLeft goes s m → Has (blocks m) b
      → Has (union_without w goes) b
  in_without goes name s m b at h k =
      in_all (flat_map (maps_left goes) (values ss)) m b
      (in_flat (maps_left goes) (values ss) s m (value_in (entries ss) name s (entry_of name_order ss name s at)) (left_in goes s m h)) k
    where
      value_in : (es : List (Name × FileSystem)) (q : Name) (x : FileSystem) → IsEntry es q x → IsIn (map (λ e. e.1) es) x
      value_in [] q x i = absurd i
      value_in (e ∷ es) q x i = ⊎_elim (λ k. inl k.1) (λ r. inr (value_in es q x r)) i

  from_without : (goes : SnapId → Bool) (b : Block) → Has (union_without w goes) b
      → (name : Name) × (s : FileSystem) × (m : Map) × (get ss name ≡ Some s) × IsLeft goes s m × Has (blocks m) b
  from_without goes b h =
      let m = from_all (flat_map (maps_left goes) (values ss)) b h in
      let s = from_flat (maps_left goes) (values ss) m.0 m.1 in
      let e = in_map (λ (e : Name × FileSystem). e.1) (entries ss) s.0 s.1 in
      let x = from_entries (entries ss) e.0 e.1 in
      (e.0.0, s.0, m.0, at_entry name_order ss e.0.0 e.0.1 x ∙ ap Some (sym e.2), from_left goes s.0 m.0 s.2, m.2)

  -- what a row is of
  row_of_what : (d : Dataset) (n : Row Dataset) → lineages (shapes ss) w.group d n
      → (name : Name) × (s : FileSystem) × (get ss name ≡ Some s) × ((d ≡ Live name) ⊎ ((t : Snap) × IsIn s.snaps t × (d ≡ Snapped (id_of t))))
  row_of_what d n (name, f, q, is, st, r) =
      let x = from_shape ss name f is in (
        name,
        x.0,
        x.1,
        ⊎_elim inl (λ (y, a, e).
            let t = from_among x.0.snaps y (subst (λ (z : Shape). IsAmong z.snapshots y) x.2 a) in
            inr (t.0, t.1, e ∙ ap (λ (z : SnapShape). Snapped z.id) t.2)) (id_of_row w.group name f.live q f.snapshots d n r),
      )

  pub row_there : (d : Dataset) (n : Row Dataset) → lineages (shapes ss) w.group d n → IsThere w d
  row_there d n h =
      let k = row_of_what d n h in
      ⊎_elim
      (λ e. subst (IsThere w) (sym e) (k.1, k.2))
      (λ (t, i, e). subst (IsThere w) (sym e) (k.0, k.1, t, k.2, i, refl))
      k.3

  -- what the datasets have that don't go
  pub without_is : (goes : SnapId → Bool) → IsUnion Dataset (Outside Dataset (lineages (shapes ss) w.group) (Goes goes)) (union_without w goes)
  without_is goes = record {
    within = λ d n b h k.
        let e = row_of_what d n h.1 in
        let i = subst (λ x. Has x b) (row_blocks w w.group good.lines d n h.1) k in
        ⊎_elim
        (λ (l : d ≡ Live e.0). in_without goes e.0 e.1 e.1.live b e.2 (inl refl) (subst (λ m. Has (blocks m) b) (ap (map_of w) l ∙ map_of_live w e.0 e.1 e.2) i))
        (λ (t, a, l). in_without goes e.0 e.1 t.map b e.2 (inr (t, a, false_from_ne_true (goes (id_of t)) (λ y. h.0 (id_of t, l, y)), refl))
        (subst (λ m. Has (blocks m) b) (ap (map_of w) l ∙ map_of_kept w w.group good.lines e.0 e.1 t (id_of t) e.2 a refl) i))
        e.3;
    reached = λ b h.
        let k = from_without goes b h in
        ⊎_elim
        (λ (e : k.2 ≡ k.1.live).
        let r = there_row w w.group good.lines (Live k.0) (k.1, k.3) in
        (Live k.0, r.0, ((λ (i, l, y). live_or_snap k.0 i l), r.1), subst (λ x. Has x b) (sym (row_blocks w w.group good.lines (Live k.0) r.0 r.1 ∙ ap (λ m. blocks m) (map_of_live w k.0 k.1 k.3 ∙ sym e))) k.5))
        (λ (t, a, stay, e).
        let r = kept_there w w.group good.lines k.0 k.1 t k.3 a in
        (Snapped (id_of t), r.0, ((λ (i, l, y). true≢false (sym y ∙ ap goes (sym (same_snap (id_of t) i l)) ∙ stay)), r.1), subst (λ x. Has x b) (sym (r.2 ∙ ap (λ m. blocks m) (sym e))) k.5))
        k.4;
  }

  -- the same datasets go by another test
  pub outside_same : (In In' : Dataset → Type 0) (u : BlockSet) → ((d : Dataset) → In d → In' d) → ((d : Dataset) → In' d → In d)
      → IsUnion Dataset (Outside Dataset (lineages (shapes ss) w.group) In) u → IsUnion Dataset (Outside Dataset (lineages (shapes ss) w.group) In') u
  outside_same In In' u there back all = record {
    within = λ d n b h k. all.within d n b ((λ i. h.0 (there d i)), h.1) k;
    reached = λ b h. let r = all.reached b h in (r.0, r.1, ((λ i. r.2.0 (back r.0 i)), r.2.1), r.3);
  }

  -- ---- used of a snapshot

  next_rows : (id : SnapId) (ds : List Dataset) → ((d : Dataset) → IsIn ds d → IsThere w d × (previous_of w d ≡ Some id))
      → (xs : List (Row Dataset))
      × ((e : Dataset) (n : Row Dataset) → IsIn ds e → lineages (shapes ss) w.group e n → IsOneOf xs n)
      × ((x : Row Dataset) → IsOneOf xs x → (e : Dataset) × lineages (shapes ss) w.group e x × (x.prev ≡ Some (Snapped id)))
      × ((s : BlockSet) → dead_in_all s xs ≡ dead_in_each w s ds)
  next_rows id [] h = ([], (λ e n i l. i), (λ x i. absurd i), λ s. refl)
  next_rows id (d ∷ ds) h =
      let k = h d (inl refl) in
      let r = there_row w w.group good.lines d k.0 in
      let ih = next_rows id ds (λ e i. h e (inr i)) in (
        r.0 ∷ ih.0,
        (λ e n i l. ⊎_elim (λ is. inl (good.lines.facts.one d n r.0 (subst (λ y. lineages (shapes ss) w.group y n) is l) r.1)) (λ j. inr (ih.1 e n j l)) i),
        (λ x i. ⊎_elim
            (λ is. (d, subst (λ y. lineages (shapes ss) w.group d y) (sym is) r.1, ap (λ y. y.prev) is ∙ (row_prev w w.group good.lines d r.0 r.1).0 ∙ ap (option_map Snapped) k.1))
            (λ j. ih.2 x j) i),
        λ s i. intersection (row_dead w w.group good.lines d r.0 r.1 i) (ih.3 s i),
      )

  prev_back : (x : Option SnapId) (id : SnapId) → option_map Snapped x ≡ Some (Snapped id) → x ≡ Some id
  prev_back None id e = absurd (no_value (Snapped id) e)
  prev_back (Some i) id e = ap Some (same_snap i id (same_value (Snapped i) (Snapped id) e))

  module _ (id : SnapId) (there : IsThere w (Snapped id)) (ds : List Dataset) (next : AreNext w id ds) where
    abbrev k : (n : Row Dataset) × lineages (shapes ss) w.group (Snapped id) n
    k = there_row w w.group good.lines (Snapped id) there

    of_snapshot : (difference k.0.blocks (union_without w (same_id id)) ≡ after k.0.base (dead_in_all k.0.blocks (next_rows id ds next.right).0))
        × ((n : Row Dataset) → (next_rows id ds next.right).0 ≡ n ∷ [] → difference k.0.blocks (union_without w (same_id id)) ≡ after k.0.base n.dead)
    of_snapshot =
        let r = next_rows id ds next.right in
        used_of_snapshot_in_world (shapes ss) w.group (record { id = id; blocks = k.0.blocks }) k.0 r.0 (union_without w (same_id id)) good.lines k.1
        (λ e n l p. r.1 e n (next.complete e (row_there e n l) (prev_back (previous_of w e) id (sym (row_prev w w.group good.lines e n l).0 ∙ p))) l)
        r.2
        (outside_same (Goes (same_id id)) (λ d. d ≡ Snapped id) (union_without w (same_id id))
        (λ d (i, e, y). e ∙ ap Snapped (sym (same_id_is id i y)))
        (λ d e. (id, e, is_same_id id id refl))
        (without_is (same_id id)))

    -- used of a snapshot: those of its blocks that all the deadlists of the datasets next after it have, born after the group before it
    pub used_by_snap_is : used_by_snap w id ≡ len (after (base_of w (Snapped id)) (dead_in_each w (blocks (map_of w (Snapped id))) ds))
    unfolding used_by_snap
    used_by_snap_is =
        let b = row_blocks w w.group good.lines (Snapped id) k.0 k.1 in
        ap (λ x. len (difference x (union_without w (same_id id)))) (sym b)
        ∙ ap len of_snapshot.0
        ∙ (λ i. len (after (row_base w w.group good.lines (Snapped id) k.0 k.1 i) ((next_rows id ds next.right).3 (b i) i)))
