-- A file system back at its newest snapshot.
use Rattle.std.proofs.Common.{◌≡◌, ℕ, List, [], ◌∷◌, Option, Some, None, refl, sym, ap, ◌∙◌, length, arith}
use Rattle.std.specs.List.{last_or}
use Rattle.std.specs.Option.{option_map_or, option_and_then}
use Rattle.std.specs.FinMap.{get, insert}
use Rattle.base.specs.Map.{Map}
use Rattle.base.specs.Surveys.{IsIn}
use Rattle.snapshots.specs.Marks.{without_newer}
use Rattle.model.specs.World.{World, FileSystem, Snap}
use Rattle.model.specs.Edits.{with_file_system, with_losses}
use Rattle.model.specs.requests.Receive.{newest_of, back_to_newest}
use Rattle.datasets.specs.Losses.{newest_map}
use Rattle.datasets.specs.Rows.{live_of, snaps_at, with_live}
use Rattle.world.specs.Tables.{Datasets, world_of}
use Rattle.world.proofs.lists.Maps.{same_value, no_value}
use Rattle.world.proofs.lineage.Put.{put_here}
use Rattle.removals.specs.Requests.{with_marks}
use Rattle.removals.proofs.Marked.{marks_put}
use Rattle.world.proofs.removals.Rollbacks.{insert_twice}
use Rattle.receives.specs.Requests.{back}
use Rattle.receives.proofs.Newest.{newest_there}

later_map : (m : Map) (u : Snap) (ts : List Snap) (s : Snap) → last_or (Some u) ts ≡ Some s → newest_map u.map ts ≡ s.map
later_map m u [] s e = ap (λ (x : Snap). x.map) (same_value u s e)
later_map m u (x ∷ xs) s e = later_map m x xs s e

newest_map_is : (m : Map) (ts : List Snap) (s : Snap) → last_or None ts ≡ Some s → newest_map m ts ≡ s.map
newest_map_is m [] s e = absurd (no_value s e)
newest_map_is m (u ∷ ts) s e = later_map m u ts s e

some_there : (ts : List Snap) (s : Snap) → IsIn ts s → length ts ≡ 0 → ⊥
some_there [] s i e = i
some_there (u ∷ ts) s i e = omega (arith, e)

-- the file system of a receive by its name and its newest snapshot
module _ (t : Datasets) (name : List ℕ) (f : FileSystem) (at : get t.file_systems name ≡ Some f) (s : Snap) (newest : last_or None f.snaps ≡ Some s) where
  abbrev w : World
  w = world_of t

  -- back at it, with all bookmarks and without those that are newer
  abbrev live_back : FileSystem
  live_back = record f { live = s.map }

  abbrev all_back : FileSystem
  all_back = record live_back { bookmarks = without_newer f.bookmarks s.group }

  snaps_are : snaps_at t.file_systems name ≡ f.snaps
  snaps_are = ap (λ x. option_map_or (λ (g : FileSystem). g.snaps) x []) at

  map_is : newest_map (live_of t.file_systems name) (snaps_at t.file_systems name) ≡ s.map
  map_is = ap (newest_map (live_of t.file_systems name)) snaps_are ∙ newest_map_is (live_of t.file_systems name) f.snaps s newest

  live_is : with_live t.file_systems name (newest_map (live_of t.file_systems name) (snaps_at t.file_systems name)) ≡ insert t.file_systems name live_back
  live_is =
      ap (with_live t.file_systems name) map_is
      ∙ ap (λ x. option_map_or (λ (g : FileSystem). insert t.file_systems name (record g { live = s.map })) x t.file_systems) at

  back_is : back t name ≡ record t { file_systems = insert t.file_systems name all_back }
  back_is =
      ap (λ x. record t { file_systems = (option_map_or (λ (u : Snap). with_losses w (with_file_system w name (back_to_newest u))) x w).file_systems })
      (ap (option_and_then (λ (g : FileSystem). last_or None g.snaps)) at ∙ newest)
      ∙ ap (λ x. record t { file_systems = (option_map_or (λ (g : FileSystem). record w { file_systems = insert t.file_systems name (back_to_newest s g) }) x w).file_systems }) at

  forced_at : (u : Datasets) → u ≡ t
      → (length (snaps_at u.file_systems name) ≡ 0 → ⊥)
      × ((v : Datasets) → v ≡ record u { file_systems = with_live u.file_systems name (newest_map (live_of u.file_systems name) (snaps_at u.file_systems name)) }
      → with_marks v name (λ marks. without_newer marks s.group) ≡ back t name)
  forced_at u same = (
    λ none. some_there f.snaps s (newest_there f.snaps s newest) (sym (ap length (ap (λ (x : Datasets). snaps_at x.file_systems name) same ∙ snaps_are)) ∙ none),
    λ v is.
        ap (λ (x : Datasets). with_marks x name (λ marks. without_newer marks s.group))
        (is
        ∙ ap (λ (x : Datasets). record x { file_systems = with_live x.file_systems name (newest_map (live_of x.file_systems name) (snaps_at x.file_systems name)) }) same
        ∙ ap (λ ss. record t { file_systems = ss }) live_is)
        ∙ marks_put (record t { file_systems = insert t.file_systems name live_back }) name (λ marks. without_newer marks s.group) live_back (put_here t.file_systems name live_back)
        ∙ ap (λ ss. record t { file_systems = ss }) (insert_twice t.file_systems name live_back all_back)
        ∙ sym back_is,
  )

-- by what a look for the newest snapshot gave
pub forced : (t : Datasets) (name : List ℕ) (s : Snap) → newest_of (world_of t) name ≡ Some s → (u : Datasets) → u ≡ t
    → (length (snaps_at u.file_systems name) ≡ 0 → ⊥)
    × ((v : Datasets) → v ≡ record u { file_systems = with_live u.file_systems name (newest_map (live_of u.file_systems name) (snaps_at u.file_systems name)) }
    → with_marks v name (λ marks. without_newer marks s.group) ≡ back t name)
forced t name s is u same = by_system (get t.file_systems name) refl is
  where
    by_system : (x : Option FileSystem) → get t.file_systems name ≡ x → option_and_then (λ (g : FileSystem). last_or None g.snaps) x ≡ Some s
        → (length (snaps_at u.file_systems name) ≡ 0 → ⊥)
        × ((v : Datasets) → v ≡ record u { file_systems = with_live u.file_systems name (newest_map (live_of u.file_systems name) (snaps_at u.file_systems name)) }
        → with_marks v name (λ marks. without_newer marks s.group) ≡ back t name)
    by_system None at e = absurd (no_value s e)
    by_system (Some f) at e = forced_at t name f at s e u same
