-- A clone is promoted in a table.
use Rattle.std.proofs.Common.{◌≡◌, ◌++◌, true≢false, Option, Some, None, Result, Ok, Err, refl, sym, ap, subst, ◌∙◌, inl, inr, ⊎_elim, map}
use Rattle.std.specs.Prelude.{IsSome, IfSome, OnOk, OnErr, nat_le, nat_lt}
use Rattle.std.specs.FinMap.{get, insert}
use Rattle.base.specs.declared.refusal.Refusal.{Refusal}
use Rattle.base.specs.Map.{Map}
use Rattle.base.specs.Surveys.{IsIn}
use Rattle.model.specs.World.{FileSystem, Snap, id_of, maps_of}
use Rattle.world.specs.Shapes.{Name}
use Rattle.world.specs.Worlds.{FileSystems, AreMapsFrom}
use Rattle.world.specs.Outcomes.{Promotion, promotion_of, promoted_snaps, snaps_after, promoted, demoted}
use Rattle.world.specs.Tables.{Datasets, world_of, CanPromote}
use Rattle.datasets.specs.Promoted.{IsPromotion, CanPromoteIn, promoted_in}
use Rattle.world.proofs.lists.Maps.{same_value}
use Rattle.world.proofs.lists.Finding.{from_filter, in_either}
use Rattle.world.proofs.lists.Listed.{in_map, map_in}
use Rattle.world.proofs.lineage.Put.{put_cases}
use Rattle.world.proofs.lineage.Bridge.{one_snap, from_snap_at}
use Rattle.world.proofs.changes.Promotions.{promotion_is, promote_systems}
use Rattle.world.proofs.changes.Promotions.{IsPromotion as IsOfWorld}
use Rattle.datasets.specs.Table.{IsTable}
use Rattle.datasets.specs.Clones.{with_promoted}
use Rattle.datasets.proofs.Kept.{numbers_from}
use Rattle.datasets.proofs.Removed.{rising_at, are_above}

module _ (t : Datasets) (sound : IsTable t) (name : Name) (p : Promotion) (can : CanPromote t name p) where
  -- what it is between
  between : IsOfWorld (world_of t) name p
  between = promotion_is (world_of t) name p can.is

  origin_there : IsIn p.system.snaps between.origin × (id_of between.origin ≡ p.origin)
  origin_there =
      let k = from_snap_at (world_of t) p.origin (p.owner, between.origin) between.found in
      (subst (λ (x : FileSystem). IsIn x.snaps between.origin) (same_value k.0 p.system (sym k.1 ∙ between.owner_at)) k.2, k.3)

  is_between : IsPromotion t.file_systems name p
  is_between = record {
    here = between.clone_at;
    is = between.origin_is;
    there = between.owner_at;
    snapshot = between.origin;
    among = origin_there.0;
    named = origin_there.1;
  }

  can_be : CanPromoteIn t.file_systems name
  can_be = record {
    between = p;
    is = is_between;
    once = one_snap t.file_systems t.group sound.systems.lines;
    rising = rising_at t sound;
    own = are_above t sound name p.clone between.clone_at;
    others = are_above t sound p.owner p.system between.owner_at;
    names = can.apart;
  }

  -- ---- each map was there before

  abbrev at_map : Snap → Map
  at_map u = u.map

  in_owner : (u : Snap) (m : Map) → IsIn p.system.snaps u → m ≡ u.map → IsIn (maps_of p.system) m
  in_owner u m h e = inr (subst (λ y. IsIn (map at_map p.system.snaps) y) (sym e) (map_in at_map p.system.snaps u h))

  was_promoted : (u : Snap) → IsIn (promoted_snaps p) u → IsIn p.system.snaps u
  was_promoted u h = (from_filter (λ (u : Snap). nat_le u.group p.origin.group) p.system.snaps u h).0

  was_later : (u : Snap) → IsIn (snaps_after p.system p.origin.group) u → IsIn p.system.snaps u
  was_later u h = (from_filter (λ (u : Snap). nat_lt p.origin.group u.group) p.system.snaps u h).0

  of_owner : (m : Map) → IsIn (maps_of (demoted p)) m → IsIn (maps_of p.system) m
  of_owner m h = ⊎_elim inl (λ k. let u = in_map at_map (snaps_after p.system p.origin.group) m k in in_owner u.0 m (was_later u.0 u.1) u.2) h

  of_clone : (m : Map) → IsIn (maps_of (promoted p)) m → (other : Name) × (u : FileSystem) × (get t.file_systems other ≡ Some u) × IsIn (maps_of u) m
  of_clone m h = ⊎_elim
      (λ k. (name, p.clone, between.clone_at, inl k))
      (λ k.
      let u = in_map at_map (promoted_snaps p ++ p.clone.snaps) m k in
      ⊎_elim
      (λ i. (p.owner, p.system, between.owner_at, in_owner u.0 m (was_promoted u.0 i) u.2))
      (λ i. (name, p.clone, between.clone_at, inr (subst (λ y. IsIn (map at_map p.clone.snaps) y) (sym u.2) (map_in at_map p.clone.snaps u.0 i))))
      (in_either (promoted_snaps p) p.clone.snaps u.0 u.1))
      h

  from : AreMapsFrom t.file_systems (promoted_in t.file_systems name p)
  from q s m at h = ⊎_elim
      (λ k. inr (of_clone m (subst (λ (x : FileSystem). IsIn (maps_of x) m) k.1 h)))
      (λ k. ⊎_elim
      (λ l. inr (p.owner, p.system, between.owner_at, of_owner m (subst (λ (x : FileSystem). IsIn (maps_of x) m) l.1 h)))
      (λ l. inr (q, s, l.1, h))
      (put_cases t.file_systems p.owner (demoted p) q s k.1))
      (put_cases (insert t.file_systems p.owner (demoted p)) name (promoted p) q s at)

  after_table : IsTable (record t { file_systems = promoted_in t.file_systems name p })
  after_table = record {
    systems = promote_systems (world_of t) sound.systems name p can.is can.apart;
    numbers = numbers_from t (record t { file_systems = promoted_in t.file_systems name p }) sound.systems from sound.numbers;
  }

-- ---- what a promote of this name is between, which is there

module _ (t : Datasets) (sound : IsTable t) (name : Name) (there : IsSome (promotion_of (world_of t) name)) (can : IfSome (promotion_of (world_of t) name) (CanPromote t name)) where
  told : (p : Promotion) × (promotion_of (world_of t) name ≡ Some p) × CanPromote t name p
  told = by_promotion (promotion_of (world_of t) name) there can
    where
      by_promotion : (x : Option Promotion) → IsSome x → IfSome x (CanPromote t name) → (p : Promotion) × (x ≡ Some p) × CanPromote t name p
      by_promotion None h c = absurd (true≢false (sym h))
      by_promotion (Some p) h c = (p, refl, c)

  pub can_promote : CanPromoteIn t.file_systems name
  can_promote = can_be t sound name told.0 told.2

  -- what the file systems answer
  module _ {A : Type 0} (r : Result A Refusal) (new : FileSystems) (ok : OnOk r ((p : Promotion) → IsPromotion t.file_systems name p → new ≡ promoted_in t.file_systems name p)) where
    pub promoted_table : OnErr r (new ≡ t.file_systems) → IsTable (record t { file_systems = new })
    promoted_table err = by_result r ok err
      where
        by_result : (x : Result A Refusal) → OnOk x ((p : Promotion) → IsPromotion t.file_systems name p → new ≡ promoted_in t.file_systems name p)
            → OnErr x (new ≡ t.file_systems) → IsTable (record t { file_systems = new })
        by_result (Ok d) to e = subst (λ ss. IsTable (record t { file_systems = ss })) (sym (to told.0 (is_between t sound name told.0 told.2))) (after_table t sound name told.0 told.2)
        by_result (Err w) to e = subst (λ ss. IsTable (record t { file_systems = ss })) (sym e) sound

    pub promoted_is : IfSome (promotion_of (world_of t) name) (λ p. OnOk r (record t { file_systems = new } ≡ with_promoted t name p))
    promoted_is = subst (λ (x : Option Promotion). IfSome x (λ p. OnOk r (record t { file_systems = new } ≡ with_promoted t name p))) (sym told.1) (by_result r ok)
      where
        by_result : (x : Result A Refusal) → OnOk x ((p : Promotion) → IsPromotion t.file_systems name p → new ≡ promoted_in t.file_systems name p)
            → OnOk x (record t { file_systems = new } ≡ with_promoted t name told.0)
        by_result (Ok d) to = ap (λ ss. record t { file_systems = ss }) (to told.0 (is_between t sound name told.0 told.2))
        by_result (Err w) to = tt
