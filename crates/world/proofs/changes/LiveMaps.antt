-- A live map gives way to another: what it alone has, and which datasets' maps stay.
use Rattle.std.proofs.Common.{◌≡◌, ℕ, ◌<◌, Option, Some, None, refl, sym, ap, subst, ◌∙◌, ◌⊎◌, inl, inr, ⊎_elim, arith}
use Rattle.std.specs.Option.{option_map_or}
use Rattle.std.specs.FinMap.{get, insert}
use Rattle.std.specs.FinMap as finmap
use Rattle.base.specs.Map.{Map, Block, blocks}
use Rattle.base.specs.Surveys.{IsIn}
use Rattle.model.specs.World.{World, FileSystem, Snap, SnapId, Dataset, Live, Snapped, snap_at, map_of}
use Rattle.world.specs.Sets.{Has}
use Rattle.world.specs.Lineage.{Row}
use Rattle.world.specs.Shapes.{Name, name_order, lineages, IsGood}
use Rattle.world.specs.Worlds.{FileSystems, AreFileSystems, shapes}
use Rattle.world.specs.Dead.{base_of}
use Rattle.world.proofs.lists.Maps.{same_value, no_value, key_cases}
use Rattle.world.proofs.lineage.Steps.{own_of_leaf}
use Rattle.world.proofs.lineage.Replace.{dataset_cases, prev_is_snap}
use Rattle.world.proofs.lineage.Bridge.{live_row, live_there, map_of_live, map_of_kept, map_of_absent, map_of_found, from_snap_at, snap_is_at, has_row}
use Rattle.world.proofs.lineage.Put.{put_here, put_other, put_cases}
use Rattle.world.proofs.lineage.Dead.{row_base}

live_same : (w new : World) (name : Name) → get new.file_systems name ≡ get w.file_systems name → map_of new (Live name) ≡ map_of w (Live name)
unfolding map_of
live_same w new name e = ap (λ x. option_map_or (λ (s : FileSystem). s.live) x finmap.empty) e

-- where the same snapshots are there, each has its map
module _ (w new : World) (g h : ℕ) (good : IsGood (shapes w.file_systems) g) (good' : IsGood (shapes new.file_systems) h)
    (there : (q : Name) (e : FileSystem) (u : Snap) → get w.file_systems q ≡ Some e → IsIn e.snaps u → (r : Name) × (f : FileSystem) × (get new.file_systems r ≡ Some f) × IsIn f.snaps u)
    (back : (q : Name) (e : FileSystem) (u : Snap) → get new.file_systems q ≡ Some e → IsIn e.snaps u → (r : Name) × (f : FileSystem) × (get w.file_systems r ≡ Some f) × IsIn f.snaps u) where
  kept_same : (id : SnapId) → map_of new (Snapped id) ≡ map_of w (Snapped id)
  kept_same id = by_old (snap_at w id) refl
    where
      absent : snap_at w id ≡ None → (p : Name × Snap) → snap_at new id ≡ Some p → ⊥
      absent e p i =
          let k = from_snap_at new id p i in
          let r = back p.0 k.0 p.1 k.1 k.2 in
          no_value _ (sym e ∙ snap_is_at w g good r.0 r.1 p.1 id r.2 r.3 k.3)

      by_new : (x : Option (Name × Snap)) → snap_at w id ≡ None → snap_at new id ≡ x → map_of new (Snapped id) ≡ map_of w (Snapped id)
      by_new None e i = map_of_absent new id i ∙ sym (map_of_absent w id e)
      by_new (Some p) e i = absurd (absent e p i)

      by_old : (x : Option (Name × Snap)) → snap_at w id ≡ x → map_of new (Snapped id) ≡ map_of w (Snapped id)
      by_old None e = by_new (snap_at new id) e refl
      by_old (Some p) e =
          let k = from_snap_at w id p e in
          let r = there p.0 k.0 p.1 k.1 k.2 in
          map_of_kept new h good' r.0 r.1 p.1 id r.2 r.3 k.3 ∙ sym (map_of_found w id p e)

module _ (w : World) (good : AreFileSystems w.file_systems w.group) (name : Name) (s : FileSystem) (at : get w.file_systems name ≡ Some s) where
  abbrev ss : FileSystems
  ss = w.file_systems

  abbrev lines : IsGood (shapes w.file_systems) w.group
  lines = good.lines

  abbrev L : Row Dataset
  L = live_row ss w.group lines name s at

  in_L : lineages (shapes w.file_systems) w.group (Live name) (live_row ss w.group lines name s at)
  in_L = live_there ss w.group lines name s at

  -- a block of the live map that was born after what stands before it is in no other dataset
  pub row_alone : (d : Dataset) (n : Row Dataset) (b : Block) → lineages (shapes w.file_systems) w.group d n → Has n.blocks b → Has (blocks s.live) b → base_of w (Live name) < b.birth → d ≡ Live name
  row_alone d n b there h l born =
      let base = row_base w w.group lines (Live name) L in_L in
      ⊎_elim
      (λ (same : d ≡ Live name). same)
      (λ other. absurd (own_of_leaf dataset_cases (lineages (shapes ss) w.group) (lineages (shapes ss) w.group) lines.facts (Live name) L in_L (λ d n h. prev_is_snap (shapes ss) w.group d n name h)
      b l (omega arith) d n other there h))
      (dataset_cases d (Live name))

  pub live_alone : (d : Dataset) (b : Block) → Has (blocks (map_of w d)) b → Has (blocks s.live) b → base_of w (Live name) < b.birth → d ≡ Live name
  live_alone d b h = let n = has_row w w.group lines d b h in row_alone d n.0 b n.1 n.2

  -- another live map in its place
  module _ (m : Map) (after : IsGood (shapes (insert w.file_systems name (record s { live = m }))) w.group) where
    abbrev t : FileSystem
    t = record s { live = m }

    abbrev with_map : World
    with_map = record w { file_systems = insert w.file_systems name (record s { live = m }) }

    there : (p : Name) (e : FileSystem) (u : Snap) → get w.file_systems p ≡ Some e → IsIn e.snaps u → (r : Name) × (f : FileSystem) × (get (insert w.file_systems name (record s { live = m })) r ≡ Some f) × IsIn f.snaps u
    there p e u is i = ⊎_elim
        (λ (same : p ≡ name). (name, t, put_here ss name t, subst (λ (x : FileSystem). IsIn x.snaps u) (same_value e s (sym is ∙ ap (get ss) same ∙ at)) i))
        (λ (other : ¬ (p ≡ name)). (p, e, put_other ss name t p other ∙ is, i))
        (key_cases name_order p name)

    back : (p : Name) (e : FileSystem) (u : Snap) → get (insert w.file_systems name (record s { live = m })) p ≡ Some e → IsIn e.snaps u → (r : Name) × (f : FileSystem) × (get w.file_systems r ≡ Some f) × IsIn f.snaps u
    back p e u is i = ⊎_elim
        (λ k. (name, s, at, subst (λ (x : FileSystem). IsIn x.snaps u) k.1 i))
        (λ k. (p, e, k.1, i))
        (put_cases ss name t p e is)

    pub live_new : map_of (record w { file_systems = insert w.file_systems name (record s { live = m }) }) (Live name) ≡ m
    live_new = map_of_live with_map name t (put_here ss name t)

    -- each other dataset has its map
    pub live_rest : (d : Dataset) → ((¬ (d ≡ Live name)) × (map_of (record w { file_systems = insert w.file_systems name (record s { live = m }) }) d ≡ map_of w d)) ⊎ (d ≡ Live name)
    live_rest (Live p) = ⊎_elim
        (λ (same : p ≡ name). inr (ap Live same))
        (λ (other : ¬ (p ≡ name)). inl ((λ e. other (same_name p name e)), live_same w with_map p (put_other ss name t p other)))
        (key_cases name_order p name)
      where
        same_name : (a b : Name) → Live a ≡ Live b → a ≡ b
        same_name a b e = cc
    live_rest (Snapped id) = inl (apart id, kept_same w with_map w.group w.group lines after there back id)
      where
        apart : (id : SnapId) → Snapped id ≡ Live name → ⊥
        apart id e = cc
