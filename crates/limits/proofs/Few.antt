-- A request that changes few file systems: the others' own numbers stay, and it is enough to ask those few and the ones above them.
use Rattle.std.proofs.Common.{◌≡◌, ℕ, ◌+◌, ◌-◌, List, [], ◌∷◌, Option, Some, None, map, refl, sym, ap, ◌∙◌, ⊎_elim}
use Rattle.std.specs.Prelude.{unwrap_or}
use Rattle.std.specs.FinMap.{get}
use Rattle.std.specs.FinSet.{len, difference}
use Rattle.base.specs.Map.{blocks}
use Rattle.model.specs.World.{World, FileSystem, Snap, SnapId, Live, Snapped, map_of, map_of_snap, previous_of, blocks_of_all}
use Rattle.model.specs.Sums.{written_of}
use Rattle.world.specs.Worlds.{AreFileSystems}
use Rattle.world.specs.Dead.{IsThere}
use Rattle.world.proofs.lineage.Bridge.{map_of_kept, map_of_live, previous_of_live, one_snap}
use Rattle.limits.specs.Levels.{IsSameHere, AreSameBut}
use Rattle.limits.specs.Steps.{AreSnapsOrNew, AreEqualBut}
use Rattle.limits.proofs.Levels.{here_is, reserved_is, nothing_here, no_reservation}
use Rattle.limits.proofs.Older.{origin_there, previous_there}

module _ (old new : World) (good : AreFileSystems old.file_systems old.group) (good' : AreFileSystems new.file_systems new.group) (from : AreSnapsOrNew old new) where
  -- a snapshot that is in both worlds has one map
  snap_same : (id : SnapId) → IsThere old (Snapped id) → IsThere new (Snapped id) → map_of new (Snapped id) ≡ map_of old (Snapped id)
  snap_same id (p, s, u, at, i, ids) (q, t, v, at', i', ids') = ⊎_elim
      (λ (r, x, y, here, j, is, m).
      let one = one_snap old.file_systems old.group good.lines p r s x u y at here i j (ids ∙ sym (is ∙ ids')) in
      map_of_kept new new.group good'.lines q t v id at' i' ids' ∙ sym m ∙ ap (λ (z : Snap). z.map) (sym one.1) ∙ sym (map_of_kept old old.group good.lines p s u id at i ids))
      (λ none. absurd (none p s u at i (ids ∙ sym ids')))
      (from q t v at' i')

  pub map_same : (x : Option SnapId) → ((id : SnapId) → x ≡ Some id → IsThere old (Snapped id)) → ((id : SnapId) → x ≡ Some id → IsThere new (Snapped id)) → map_of_snap new x ≡ map_of_snap old x
  map_same None a b = refl
  map_same (Some id) a b = snap_same id (a id refl) (b id refl)

  module _ (name : List ℕ) (s : FileSystem) (at : get old.file_systems name ≡ Some s) (at' : get new.file_systems name ≡ Some s) where
    same_origin : map_of_snap new s.origin ≡ map_of_snap old s.origin
    same_origin = map_same s.origin (origin_there old good name s at) (origin_there new good' name s at')

    same_previous : map_of_snap new (previous_of new (Live name)) ≡ map_of_snap old (previous_of old (Live name))
    same_previous =
        let e : previous_of new (Live name) ≡ previous_of old (Live name) =
        previous_of_live new new.group good'.lines name s at' ∙ sym (previous_of_live old old.group good.lines name s at) in
        map_same (previous_of new (Live name)) (λ id f. previous_there old good (Live name) id (s, at) (sym e ∙ f)) (λ id f. previous_there new good' (Live name) id (s, at') f)
        ∙ ap (map_of_snap old) e

    same_live : map_of new (Live name) ≡ map_of old (Live name)
    same_live = map_of_live new name s at' ∙ sym (map_of_live old name s at)

    same_written : written_of new (Live name) ≡ written_of old (Live name)
    unfolding written_of
    same_written i = len (difference (blocks (same_live i)) (blocks (same_previous i)))

    own_same : IsSameHere old new name
    own_same = record {
      here = here_is new name s at'
          ∙ (λ i. len (difference (blocks s.live) (blocks (same_origin i)))
          + len (difference (blocks_of_all (map (λ (t : Snap). t.map) s.snaps)) (blocks_of_all (s.live ∷ same_origin i ∷ [])))
          + (unwrap_or s.limits.refreservation 0 - same_written i))
          ∙ sym (here_is old name s at);
      reserved = reserved_is new name s at' ∙ sym (reserved_is old name s at);
    }

  module _ (ms : List (List ℕ)) (others : AreEqualBut old new ms) where
    -- a file system that isn't changed has the same numbers of its own
    pub same_but : AreSameBut old new ms
    same_but name out = by_old (get old.file_systems name) refl
      where
        by_old : (x : Option FileSystem) → get old.file_systems name ≡ x → IsSameHere old new name
        by_old None e =
            let f = others name out ∙ e in
            record {
              here = nothing_here new good'.hierarchy name f ∙ sym (nothing_here old good.hierarchy name e);
              reserved = no_reservation new good'.hierarchy name f ∙ sym (no_reservation old good.hierarchy name e);
            }
        by_old (Some s) e = own_same name s e (others name out ∙ e)
