-- Rows of bookmarks as a map.
use Rattle.std.proofs.Common.{◌≡◌, ℕ, zero, suc, ◌<◌, ◌≤◌, List, [], ◌∷◌, length, get_or, map, Some, sym, ap, ◌∙◌, arith}
use Rattle.std.proofs.lemmas.List.{length-map}
use Rattle.std.proofs.lemmas.List.Edits.{length-insert}
use Rattle.std.proofs.Math.ListN.{get_or-map}
use Rattle.std.specs.Prelude.{remove}
use Rattle.std.specs.List.{insert}
use Rattle.std.specs.FinMap.{get, from_sorted}
use Rattle.std.specs.FinMap as finmap
use Rattle.base.specs.Names.{name_cmp}
use Rattle.model.specs.World.{Bookmark}
use Rattle.snapshots.specs.Marks.{Entry, entry_in, mark_limit}
use Rattle.snapshots.specs.Places.{IsAt, IsGapFor}
use Rattle.snapshots.specs.SoundMarks.{AreSound}
use Rattle.snapshots.proofs.Orders.{by_name}
use Rattle.snapshots.proofs.Ordering.{Owned}
use Rattle.snapshots.proofs.Places.{get_at, map_inserted, map_removed, inserted_sorted, inserted_is, removed_sorted, removed_is}

-- the one at the place of a name is what the map has
pub found_is : (xs : List Owned) → AreSound (map entry_in xs) → (q : List ℕ) (i : ℕ) → IsAt (map entry_in xs) q i → (a : Owned) → a ≡ get_or xs i a
    → get (from_sorted {R = name_cmp} (map entry_in xs)) q ≡ Some (entry_in a).1
found_is xs sound q i at a is =
    get_at by_name (map entry_in xs) sound.sorted q i at (entry_in a)
    ∙ ap (λ (e : Entry). Some e.1) (get_or-map entry_in xs i a)
    ∙ ap (λ (b : Owned). Some (entry_in b).1) (sym is)

fewer : {A : Type 0} (xs : List A) (i : ℕ) → length (remove xs i) ≤ length xs
fewer [] zero = omega arith
fewer [] (suc i) = omega arith
fewer (x ∷ xs) zero = omega arith
fewer (x ∷ xs) (suc i) = let rest = fewer xs i in omega arith

module _ (xs : List Owned) (sound : AreSound (map entry_in xs)) (q : List ℕ) (i : ℕ) where
  -- one more in its gap
  module _ (gap : IsGapFor name_cmp (map entry_in xs) q i) (a : Owned) (v : Bookmark) (made : entry_in a ≡ (q, v)) where
    more : map entry_in (insert xs i a) ≡ insert (map entry_in xs) i (q, v)
    more = map_inserted entry_in xs i a ∙ ap (insert (map entry_in xs) i) made

    pub more_sound : length xs < mark_limit → AreSound (map entry_in (insert xs i a))
    more_sound room = record {
      sorted = rw more (inserted_sorted by_name (map entry_in xs) sound.sorted q v i gap);
      few = let low = gap.within in omega (arith, room, length-map (insert xs i a) entry_in, length-map xs entry_in, length-insert xs i a (omega (arith, low, length-map xs entry_in)));
    }

    pub more_is : from_sorted {R = name_cmp} (map entry_in (insert xs i a)) ≡ finmap.insert (from_sorted {R = name_cmp} (map entry_in xs)) q v
    more_is = ap (from_sorted {R = name_cmp}) more ∙ inserted_is by_name (map entry_in xs) sound.sorted q v i gap

  -- one less from its place
  pub less_sound : AreSound (map entry_in (remove xs i))
  less_sound = record {
    sorted = rw (map_removed entry_in xs i) (removed_sorted by_name (map entry_in xs) sound.sorted i);
    few = let low = sound.few in omega (arith, length-map (remove xs i) entry_in, length-map xs entry_in, fewer xs i);
  }

  pub less_is : IsAt (map entry_in xs) q i → Owned → from_sorted {R = name_cmp} (map entry_in (remove xs i)) ≡ finmap.remove (from_sorted {R = name_cmp} (map entry_in xs)) q
  less_is at a = ap (from_sorted {R = name_cmp}) (map_removed entry_in xs i) ∙ removed_is by_name (map entry_in xs) sound.sorted q i at (entry_in a)
