-- A live map gives way to that of the newest snapshot, in a table.
use Rattle.std.proofs.Common.{◌≡◌, ◌<◌, ◌++◌, ◌∷◌, [], ℕ, List, Option, Some, None, Result, Ok, Err, refl, sym, ap, subst, ◌∙◌, inr, ⊎_elim, map, length, arith}
use Rattle.std.specs.Prelude.{IfOk, OnOk, OnErr}
use Rattle.std.specs.Option.{option_map_or, option_and_then}
use Rattle.std.specs.FinMap as finmap
use Rattle.std.specs.FinMap.{get, insert}
use Rattle.std.specs.FinSet as set
use Rattle.std.proofs.lemmas.Bool.{cases_lt}
use Rattle.base.specs.declared.refusal.Refusal.{Refusal}
use Rattle.base.specs.Map.{Map, blocks}
use Rattle.base.specs.Surveys.{IsIn}
use Rattle.model.specs.World.{FileSystem, Snap, Live}
use Rattle.file_system.specs.declared.lost.Lost.{Lost}
use Rattle.datasets.specs.Clones.{origin_at, below_at}
use Rattle.file_system.specs.Losses.{newest_map, IsLost}
use Rattle.file_system.specs.Origins.{origin_group}
use Rattle.file_system.specs.Rows.{live_of, snaps_at, with_live}
use Rattle.file_system.specs.Writes.{newest_group}
use Rattle.world.specs.Blocks.{after}
use Rattle.world.specs.Shapes.{Name}
use Rattle.world.specs.Worlds.{FileSystems}
use Rattle.world.specs.Tables.{Datasets, world_of, lost_between}
use Rattle.world.proofs.lineage.Bridge.{in_middle, previous_of_live}
use Rattle.world.proofs.lists.Listed.{map_in}
use Rattle.world.proofs.lineage.Put.{put_maps}
use Rattle.world.proofs.removals.Rollbacks.{back_systems, back_loses}
use Rattle.datasets.specs.Table.{IsTable}
use Rattle.datasets.specs.Rollbacks.{Loses}
use Rattle.datasets.proofs.Kept.{numbers_from}
use Rattle.datasets.proofs.Above.{base_at}

-- there is one where they are counted and aren't none
pub has_some : (n k : ℕ) → n ≡ k → (n ≡ 0 → ⊥) → 0 < k
has_some n k e not_none = ⊎_elim (λ l. l) (λ l. absurd (not_none (omega arith))) (cases_lt 0 k)

-- the last of these snapshots
last_of : (ts : List Snap) → 0 < length ts → (older : List Snap) × (u : Snap) × (ts ≡ older ++ u ∷ [])
last_of [] h = absurd (omega arith)
last_of (t ∷ []) h = ([], t, refl)
last_of (t ∷ u ∷ us) h = let r = last_of (u ∷ us) (omega arith) in (t ∷ r.0, r.1, ap (λ l. t ∷ l) r.2)

newest_is : (m : Map) (older : List Snap) (u : Snap) → newest_map m (older ++ u ∷ []) ≡ u.map
newest_is m [] u = refl
newest_is m (v ∷ vs) u = newest_is v.map vs u

module _ (t : Datasets) (sound : IsTable t) (name : Name) (f : FileSystem) (at : get t.file_systems name ≡ Some f) (older : List Snap) (u : Snap) (is : f.snaps ≡ older ++ u ∷ []) where
  abbrev back : FileSystem
  back = record f { live = u.map }

  back_table : IsTable (record t { file_systems = insert t.file_systems name (record f { live = u.map }) })
  back_table = record {
    systems = back_systems t.file_systems t.group sound.systems name f at older u is f.bookmarks (λ k b e. e);
    numbers = numbers_from t (record t { file_systems = insert t.file_systems name back }) sound.systems
        (put_maps t.file_systems name back (λ m h. inr (
          name,
          f,
          at,
          ⊎_elim
              (λ (e : m ≡ u.map). inr (subst (λ x. IsIn (map (λ (v : Snap). v.map) f.snaps) x) (sym e) (map_in (λ (v : Snap). v.map) f.snaps u (subst (λ l. IsIn l u) (sym is) (in_middle older u [])))))
              (λ k. inr k)
              h,
        ))) sound.numbers;
  }

  back_lost : after (newest_group (origin_group f.origin) f.snaps) (blocks f.live) ≡ lost_between t (record t { file_systems = insert t.file_systems name (record f { live = u.map }) })
  back_lost =
      ap (λ n. after n (blocks f.live)) (sym (base_at t sound name f at (Live name) (f, at) f.snaps (λ v k. k) (previous_of_live (world_of t) t.group sound.systems.lines name f at)))
      ∙ sym (back_loses t.file_systems t.group sound.systems name f at older u is f.bookmarks (λ k b e. e) set.empty t.group)

-- the file system of this name, which has a snapshot
module _ (t : Datasets) (sound : IsTable t) (name : Name) (there : 0 < length (snaps_at t.file_systems name)) where
  abbrev rolled : FileSystems
  rolled = with_live t.file_systems name (newest_map (live_of t.file_systems name) (snaps_at t.file_systems name))

  record IsBack : Type 0 where
    table : IsTable (record t { file_systems = with_live t.file_systems name (newest_map (live_of t.file_systems name) (snaps_at t.file_systems name)) })
    lost : after (newest_group (origin_group (origin_at t.file_systems name)) (snaps_at t.file_systems name)) (blocks (live_of t.file_systems name))
        ≡ lost_between t (record t { file_systems = with_live t.file_systems name (newest_map (live_of t.file_systems name) (snaps_at t.file_systems name)) })

  is_back : IsBack
  is_back = by_system (get t.file_systems name) refl
    where
      no_snap : 0 < length (snaps_at t.file_systems name) → get t.file_systems name ≡ None → ⊥
      no_snap h e = let l : length (snaps_at t.file_systems name) ≡ 0 = ap (λ (x : Option FileSystem). length (option_map_or (λ (f : FileSystem). f.snaps) x [])) e in omega arith

      snaps_are : (f : FileSystem) → get t.file_systems name ≡ Some f → snaps_at t.file_systems name ≡ f.snaps
      snaps_are f e = ap (λ (x : Option FileSystem). option_map_or (λ (f : FileSystem). f.snaps) x []) e

      live_is : (f : FileSystem) → get t.file_systems name ≡ Some f → live_of t.file_systems name ≡ f.live
      live_is f e = ap (λ (x : Option FileSystem). option_map_or (λ (f : FileSystem). f.live) x finmap.empty) e

      origin_is : (f : FileSystem) → get t.file_systems name ≡ Some f → origin_at t.file_systems name ≡ f.origin
      origin_is f e = ap (λ (x : Option FileSystem). option_and_then (λ (f : FileSystem). f.origin) x) e

      by_system : (x : Option FileSystem) → get t.file_systems name ≡ x → IsBack
      by_system None e = absurd (no_snap there e)
      by_system (Some f) e =
          let parts = last_of f.snaps (subst (λ l. 0 < length l) (snaps_are f e) there) in
          let to : rolled ≡ insert t.file_systems name (record f { live = parts.1.map }) =
          ap (λ (x : Option FileSystem). option_map_or (λ (f : FileSystem). insert t.file_systems name (record f { live = newest_map (live_of t.file_systems name) (snaps_at t.file_systems name) })) x t.file_systems) e
          ∙ ap (λ m. insert t.file_systems name (record f { live = m }))
          (ap (newest_map (live_of t.file_systems name)) (snaps_are f e ∙ parts.2) ∙ newest_is (live_of t.file_systems name) parts.0 parts.1) in
          record {
            table = subst (λ ss. IsTable (record t { file_systems = ss })) (sym to) (back_table t sound name f e parts.0 parts.1 parts.2);
            lost = (λ i. after (newest_group (origin_group (origin_is f e i)) (snaps_are f e i)) (blocks (live_is f e i))) ∙ back_lost t sound name f e parts.0 parts.1 parts.2
                ∙ ap (λ ss. lost_between t (record t { file_systems = ss })) (sym to);
          }

  -- what the file systems answer
  module _ (r : Result Lost Refusal) (new : FileSystems) (ok : OnOk r (new ≡ with_live t.file_systems name (newest_map (live_of t.file_systems name) (snaps_at t.file_systems name)))) where
    pub rolled_table : OnErr r (new ≡ t.file_systems) → IsTable (record t { file_systems = new })
    rolled_table err = by_result r ok err
      where
        by_result : (x : Result Lost Refusal) → OnOk x (new ≡ with_live t.file_systems name (newest_map (live_of t.file_systems name) (snaps_at t.file_systems name)))
            → OnErr x (new ≡ t.file_systems) → IsTable (record t { file_systems = new })
        by_result (Ok l) to e = subst (λ ss. IsTable (record t { file_systems = ss })) (sym to) is_back.table
        by_result (Err w) to e = subst (λ ss. IsTable (record t { file_systems = ss })) (sym e) sound

    pub rolled_loses : IfOk r (IsLost (blocks (below_at t.file_systems name)) (origin_group (origin_at t.file_systems name)) (live_of t.file_systems name) (snaps_at t.file_systems name)) → IfOk r (Loses t (record t { file_systems = new }))
    rolled_loses = by_result r ok
      where
        by_result : (x : Result Lost Refusal) → OnOk x (new ≡ with_live t.file_systems name (newest_map (live_of t.file_systems name) (snaps_at t.file_systems name)))
            → IfOk x (IsLost (blocks (below_at t.file_systems name)) (origin_group (origin_at t.file_systems name)) (live_of t.file_systems name) (snaps_at t.file_systems name)) → IfOk x (Loses t (record t { file_systems = new }))
        by_result (Ok l) to h =
            let whole : after l.after.0 (blocks l.tree) ≡ lost_between t (record t { file_systems = new }) =
            (λ i. after (h.after_is i) (blocks (h.tree_is i))) ∙ is_back.lost ∙ ap (λ ss. lost_between t (record t { file_systems = ss })) (sym to) in
            record {
              blocks_are = whole;
              counted = h.counted ∙ ap set.len (sym h.blocks_are ∙ ap (λ m. after l.after.0 (blocks m)) (sym h.tree_is) ∙ whole);
            }
        by_result (Err w) to h = tt
