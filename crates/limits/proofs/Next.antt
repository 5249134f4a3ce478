-- What comes next after some of a file system's snapshots: a newer one, or its live map.
use Rattle.std.proofs.Common.{◌≡◌, List, [], ◌∷◌, ◌++◌, Option, Some, None, refl, sym, ap, subst, ◌∙◌, inl, inr, ◌⊎◌}
use Rattle.std.specs.List.{last_or}
use Rattle.std.specs.Option.{option_map, option_or}
use Rattle.std.specs.FinMap.{get}
use Rattle.base.specs.Surveys.{IsIn}
use Rattle.model.specs.World.{World, FileSystem, Snap, SnapId, Dataset, Live, Snapped, id_of, map_of, previous_of, newest_or_origin}
use Rattle.world.specs.Shapes.{Name}
use Rattle.world.specs.Worlds.{AreFileSystems}
use Rattle.world.specs.Dead.{IsThere, next_in}
use Rattle.world.proofs.lists.Maps.{same_value}
use Rattle.world.proofs.lists.Finding.{append_none}
use Rattle.world.proofs.changes.Promotions.{split_at}
use Rattle.world.proofs.lineage.Bridge.{in_middle, map_of_live, map_of_kept, previous_of_live, previous_of_kept}
use Rattle.limits.specs.Space.{next_map}

-- ---- the newest of some snapshots, or the origin

pub newest_last : (s : FileSystem) (older : List Snap) (t : Snap) → newest_or_origin s (older ++ t ∷ []) ≡ Some (id_of t)
newest_last s older t = ap (λ x. option_or (option_map id_of x) s.origin) (last None older)
  where
    last : (x : Option Snap) (us : List Snap) → last_or x (us ++ t ∷ []) ≡ Some t
    last x [] = refl
    last x (u ∷ us) = last (Some u) us

-- one is the newest, or there are none and it is the origin
pub from_newest : (s : FileSystem) (us : List Snap) (id : SnapId) → newest_or_origin s us ≡ Some id
    → ((us ≡ []) × (s.origin ≡ Some id)) ⊎ ((older : List Snap) × (t : Snap) × (us ≡ older ++ t ∷ []) × (id_of t ≡ id))
from_newest s [] id e = inl (refl, e)
from_newest s (u ∷ us) id e = inr (last u us e)
  where
    last : (v : Snap) (vs : List Snap) → option_or (option_map id_of (last_or (Some v) vs)) s.origin ≡ Some id
        → (older : List Snap) × (t : Snap) × (v ∷ vs ≡ older ++ t ∷ []) × (id_of t ≡ id)
    last v [] e = ([], v, refl, same_value (id_of v) id e)
    last v (x ∷ xs) e = let r = last x xs e in (v ∷ r.0, r.1, ap (λ l. v ∷ l) r.2, r.3)

module _ (w : World) (good : AreFileSystems w.file_systems w.group) where
  -- ---- what comes next after some of a file system's snapshots

  pub next_there : (name : Name) (s : FileSystem) (older newer : List Snap) → get w.file_systems name ≡ Some s → s.snaps ≡ older ++ newer → IsThere w (next_in name newer)
  next_there name s older [] at is = (s, at)
  next_there name s older (t ∷ ts) at is = (name, s, t, at, subst (λ l. IsIn l t) (sym is) (in_middle older t ts), refl)

  -- the one before it is the newest of them, or the origin
  pub next_previous : (name : Name) (s : FileSystem) (older newer : List Snap) → get w.file_systems name ≡ Some s → s.snaps ≡ older ++ newer
      → previous_of w (next_in name newer) ≡ newest_or_origin s older
  next_previous name s older [] at is = previous_of_live w w.group good.lines name s at ∙ ap (newest_or_origin s) (is ∙ append_none older)
  next_previous name s older (t ∷ ts) at is = previous_of_kept w w.group good.lines name s older t ts at is

  -- each dataset comes next after some of its file system's snapshots
  pub comes_next : (d : Dataset) → IsThere w d
      → (name : Name) × (s : FileSystem) × (older : List Snap) × (newer : List Snap) × (get w.file_systems name ≡ Some s) × (s.snaps ≡ older ++ newer) × (d ≡ next_in name newer)
  comes_next (Live name) (s, at) = (name, s, s.snaps, [], at, sym (append_none s.snaps), refl)
  comes_next (Snapped id) (name, s, t, at, i, is) =
      let r = split_at s.snaps t i in
      (name, s, r.0, t ∷ r.1, at, r.2, ap Snapped (sym is))

  -- its map
  pub next_map_is : (name : Name) (s : FileSystem) (older newer : List Snap) → get w.file_systems name ≡ Some s → s.snaps ≡ older ++ newer
      → map_of w (next_in name newer) ≡ next_map s newer
  next_map_is name s older [] at is = map_of_live w name s at
  next_map_is name s older (t ∷ ts) at is = map_of_kept w w.group good.lines name s t (id_of t) at (subst (λ l. IsIn l t) (sym is) (in_middle older t ts)) refl
