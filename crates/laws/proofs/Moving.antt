-- A rename of a file system leaves what stands before each dataset, and its map.
use Rattle.std.proofs.Common.{◌≡◌, ℕ, zero, suc, ◌≤◌, List, [], ◌∷◌, Some, refl, sym, ap, subst, ◌∙◌}
use Rattle.std.specs.Option.{option_map_or}
use Rattle.std.specs.FinMap.{get}
use Rattle.std.specs.FinMap as finmap
use Rattle.base.specs.declared.number.Key.{Key}
use Rattle.base.specs.Key.{parent}
use Rattle.base.specs.Map.{Map, Cell}
use Rattle.model.specs.World.{World, FileSystem, Snap, SnapId, Dataset, Live, Snapped, map_of, previous_of}
use Rattle.model.specs.requests.Rename.{with_renamed}
use Rattle.world.specs.Dead.{IsThere, group_of, next_in}
use Rattle.world.specs.Shapes.{Name}
use Rattle.world.proofs.lists.Names.{exchanged}
use Rattle.world.proofs.lineage.Bridge.{map_of_found}
use Rattle.world.proofs.changes.Renames.{CanRename, renamed_at, renamed_back}
use Rattle.world.proofs.views.ViewedRenames.{renamed_safe}
use Rattle.laws.specs.Lineages.{IsBefore, SharesUntil, IsOrdered, HasLineages, HasBirths}
use Rattle.laws.specs.Bookmarks.{IsSource}
use Rattle.laws.proofs.Lineages.{place, cell_there, found, prev_next, prev_there}

module _ (w : World) (o : IsOrdered w) (from to : Name) (can : CanRename w.file_systems from to) where
  abbrev after : World
  after = with_renamed w from to

  abbrev other : Name → Name
  other = exchanged from to

  at : (n : Name) → get (with_renamed w from to).file_systems n ≡ get w.file_systems (exchanged from to n)
  at = renamed_at w.file_systems from to can

  -- a dataset by the name that it had
  abbrev pub named_before : Dataset → Dataset
  named_before (Live n) = Live (exchanged from to n)
  named_before (Snapped id) = Snapped id

  was_there : (d : Dataset) → IsThere (with_renamed w from to) d → IsThere w (named_before d)
  was_there (Live n) (f, is) = (f, sym (at n) ∙ is)
  was_there (Snapped id) (n, f, t, is, i, e) = (exchanged from to n, f, t, sym (at n) ∙ is, i, e)

  is_there : (id : SnapId) → IsThere w (Snapped id) → IsThere (with_renamed w from to) (Snapped id)
  is_there id (n, f, t, is, i, e) = (exchanged from to n, f, t, renamed_back w.file_systems from to can n ∙ is, i, e)

  -- ---- the order

  pub moved_ordered : IsOrdered (with_renamed w from to)
  moved_ordered =
      let safe = renamed_safe finmap.empty w from to can o.once o.closed in
      record {
        once = safe.once;
        closed = safe.closed;
        marks = λ n mark f b is h. o.marks (exchanged from to n) mark f b (sym (at n) ∙ is) h;
        rising = λ n f is. o.rising (exchanged from to n) f (sym (at n) ∙ is);
        origins = λ n f id is i. is_there id (o.origins (exchanged from to n) f id (sym (at n) ∙ is) i);
        begun = o.begun;
      }

  -- ---- what stands before

  next_before : (n : Name) (newer : List Snap) → named_before (next_in n newer) ≡ next_in (exchanged from to n) newer
  next_before n [] = refl
  next_before n (t ∷ ts) = refl

  moved_prev : (d : Dataset) → IsThere (with_renamed w from to) d → previous_of (with_renamed w from to) d ≡ previous_of w (named_before d)
  moved_prev d there =
      let k = place after d there in
      ap (previous_of after) k.is
      ∙ prev_next after moved_ordered k.name k.system k.at k.older k.newer k.snaps_are
      ∙ sym (prev_next w o (exchanged from to k.name) k.system (sym (at k.name) ∙ k.at) k.older k.newer k.snaps_are)
      ∙ ap (previous_of w) (sym (next_before k.name k.newer) ∙ ap named_before (sym k.is))

  moved_chain : (k : ℕ) (d e : Dataset) → IsThere (with_renamed w from to) d → IsBefore (with_renamed w from to) k d e → IsBefore w k (named_before d) (named_before e) × IsThere (with_renamed w from to) e
  moved_chain zero d e there a = (ap named_before a, subst (IsThere after) a there)
  moved_chain (suc k) d e there (id, prev, a) =
      let r = moved_chain k (Snapped id) e (prev_there after moved_ordered d there id prev) a in
      ((id, sym (moved_prev d there) ∙ prev, r.0), r.1)

  -- ---- maps

  moved_map : (d : Dataset) → IsThere (with_renamed w from to) d → map_of (with_renamed w from to) d ≡ map_of w (named_before d)
  unfolding map_of
  moved_map (Live n) there = ap (λ x. option_map_or (λ (f : FileSystem). f.live) x finmap.empty) (at n)
  moved_map (Snapped id) (n, f, t, is, i, e) =
      map_of_found after id (n, t) (found after moved_ordered n f t id is i e)
      ∙ sym (map_of_found w id (exchanged from to n, t) (found w o (exchanged from to n) f t id (sym (at n) ∙ is) i e))

  same_group : (d : Dataset) → group_of (with_renamed w from to) d ≡ group_of w (named_before d)
  same_group (Live n) = refl
  same_group (Snapped id) = refl

  -- what served as a source serves the same file system so under its new name
  pub moved_source : (n : Name) (f : FileSystem) → get (with_renamed w from to).file_systems n ≡ Some f → (group : ℕ) (held : Map)
      → IsSource w (exchanged from to n) group held → IsSource (with_renamed w from to) n group held
  moved_source n f is group held source k d before l =
      let r = moved_chain k (Live n) d (f, is) before in
      subst (SharesUntil group held) (sym (moved_map d r.1)) (source k (named_before d) r.0 (subst (λ y. group ≤ y) (same_group d) l))

  -- lineages go on
  pub moved_lineages : HasLineages w → HasLineages (with_renamed w from to)
  moved_lineages lines = record {
    order = moved_ordered;
    shares = λ d id there e.
        let shares = lines.shares (named_before d) id (was_there d there) (sym (moved_prev d there) ∙ e) in
        subst (λ m. SharesUntil id.group m (map_of after d)) (sym (moved_map (Snapped id) (prev_there after moved_ordered d there id e)))
        (subst (SharesUntil id.group (map_of w (Snapped id))) (sym (moved_map d there)) shares);
  }

  -- so do births
  pub moved_births : HasBirths w → HasBirths (with_renamed w from to)
  moved_births births = record {
    born = λ d k c h. births.born (named_before d) k c (was d k c h);
    rise = λ d k c q h i. births.rise (named_before d) k c q (was d k c h) (was d (parent k) q i);
  }
    where
      was : (d : Dataset) (k : Key) (c : Cell) → get (map_of (with_renamed w from to) d) k ≡ Some c → get (map_of w (named_before d)) k ≡ Some c
      was d k c h = ap (λ m. get m k) (sym (moved_map d (cell_there after d k c h))) ∙ h

  -- each snapshot that is there was there, with its map
  pub moved_kept : (id : SnapId) → IsThere (with_renamed w from to) (Snapped id)
      → IsThere w (Snapped id) × (map_of (with_renamed w from to) (Snapped id) ≡ map_of w (Snapped id))
  moved_kept id there = (was_there (Snapped id) there, moved_map (Snapped id) there)
