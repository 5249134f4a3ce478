-- The walk down a lineage in search of a snapshot, whatever is counted on the way.
use Rattle.std.proofs.Common.{◌≡◌, ℕ, ◌+◌, ◌<◌, ◌≤◌, List, Bool, true, false, Some, None, refl, sym, ◌∙◌, true≢false, arith}
use Rattle.std.specs.Prelude.{min, nat_lt}
use Rattle.std.specs.List.{sum_by}
use Rattle.std.specs.FinSet.{len}
use Rattle.base.specs.Names.{same_name}
use Rattle.model.specs.World.{Snap, SnapId, Dataset, Snapped, id_of, same_id, snap_at}
use Rattle.world.specs.Blocks.{upto}
use Rattle.world.specs.Dead.{IsThere}
use Rattle.world.specs.Tables.{Datasets, world_of}
use Rattle.world.proofs.lists.Finding.{same_id_is, is_same_id}
use Rattle.datasets.specs.Gone.{Gone, dead_between}
use Rattle.datasets.specs.Rows.{Row}
use Rattle.datasets.specs.Table.{IsTable, AreSnapshotsClosed}
use Rattle.limits.proofs.Older.{older_has}
use Rattle.lookups.specs.Places.{IsPlace, IsHome}
use Rattle.lookups.specs.Since.{is_before, IsDeadSince}
use Rattle.lookups.proofs.Lineages as walk
use Rattle.lookups.proofs.Lineages.{IsAt, top}

-- the walk stands at the snapshot of this group of this file system, whatever it has counted; it reads no dead list
abbrev pub IsOn : Datasets → Dataset → SnapId → Row → ℕ → Type 0
IsOn t from id r until = (gone : ℕ) × IsAt t from id r (Some until) gone 0

-- it begins at the snapshot itself
pub begins : (t : Datasets) (r : Row) (u : Snap) (id : SnapId) → IsPlace t r (Some u) → IsOn t (Snapped (id_of u)) id r u.group
begins t r u id place = (0, walk.begins t r (Some u) id 0 (omega arith) place)

module _ (t : Datasets) (sound : IsTable t) (from : Dataset) (id : SnapId) (owner : List ℕ) (home : IsHome t owner id) (r : Row) (until : ℕ) (on : IsOn t from id r until) where
  is_found : (n : ℕ) → IsDeadSince t from id n → is_before t from id ≡ true
  is_found n has = older_has (world_of t) sound.systems id has.ids from has.path

  -- ---- the snapshot is of another file system

  module _ (other : same_name r.name owner ≡ false) where
    -- there is no origin
    pub ends : r.system.origin ≡ None → is_before t from id ≡ false
    ends none = walk.ends_here t sound from id owner home r (Some until) on.0 0 on.1 other none

    module _ (o : SnapId) (origin : r.system.origin ≡ Some o) where
      abbrev rest : ℕ
      rest = min top (sum_by (λ (g : Gone). len (upto id.group g.blocks)) (dead_between None (Some until) r))

      -- the origin is no newer, so that it is the snapshot or the snapshot isn't older
      pub stops : o.group ≤ id.group → is_before t from id ≡ same_id o id
      stops low = at (same_id o id) refl
        where
          at : (b : Bool) → same_id o id ≡ b → is_before t from id ≡ b
          at true e =
              is_found (min (on.0 + rest) top)
              (walk.found_below t sound from id owner home r (Some until) on.0 0 on.1 other o origin rest refl (same_id_is o id e) (min (on.0 + rest) top) refl 0 (omega arith)).gone
          at false e =
              walk.passed_by t sound from id owner home r (Some until) on.0 0 on.1 other o origin rest refl
              (λ same. true≢false (sym (is_same_id o id same) ∙ e)) low

      pub origin_there : IsThere (world_of t) (Snapped o)
      origin_there = walk.origin_there t sound from id owner home r (Some until) on.0 0 on.1 other o origin rest refl

      pub origin_found : snap_at (world_of t) o ≡ None → ⊥
      origin_found = walk.origin_found t sound from id owner home r (Some until) on.0 0 on.1 other o origin rest refl

      -- the walk goes on from the origin, which is newer
      pub goes_on : id.group < o.group → (next : Row) (u : Snap) → IsPlace t next (Some u) → id_of u ≡ o → IsOn t from id next o.group
      goes_on high next u there is = (
        min (on.0 + rest) top,
        walk.goes_on t sound from id owner home r (Some until) on.0 0 on.1 other o origin rest refl high next u there is
            (min (on.0 + rest) top) refl 0 (omega arith),
      )

      pub falls : AreSnapshotsClosed t → o.group < until
      falls closed = walk.falls t sound from id owner home r (Some until) on.0 0 on.1 other closed o origin origin_there

  -- ---- the snapshot is of this one

  pub compares : same_name r.name owner ≡ true → is_before t from id ≡ nat_lt id.group until
  compares here = at (nat_lt id.group until) refl
    where
      at : (b : Bool) → nat_lt id.group until ≡ b → is_before t from id ≡ b
      at false e = walk.too_new t sound from id owner home r (Some until) on.0 0 on.1 here e
      at true e =
          let rest = min top (sum_by (λ (g : Gone). len (upto id.group g.blocks)) (dead_between (Some id.group) (Some until) r)) in
          is_found (min (on.0 + rest) top) (walk.found_here t sound from id owner home r (Some until) on.0 0 on.1 here e rest refl (min (on.0 + rest) top) refl 0 (omega arith)).gone
