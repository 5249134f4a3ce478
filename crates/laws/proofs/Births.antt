-- Births in a later world: none is later than the open group, and they rise from each block to the one above it.
use Rattle.std.proofs.Common.{◌≡◌, ℕ, ◌+◌, ◌-◌, ◌/◌, ◌^◌, ◌<◌, ◌≤◌, Option, Some, None, refl, sym, ap, subst, ◌∙◌, ⊎_elim, arith}
use Rattle.std.specs.Prelude.{IsTrue, nat_le, ◌==◌}
use Rattle.std.specs.FinMap.{get, get-empty}
use Rattle.std.specs.FinMap as finmap
use Rattle.std.proofs.lemmas.Bool.{eq-eqb, le-leb, and_from}
use Rattle.base.specs.declared.number.Key.{Key}
use Rattle.base.specs.Key.{key_cmp, parent, is_at_or_below}
use Rattle.base.specs.Map.{Map, Cell}
use Rattle.base.specs.Surveys.{IsIn}
use Rattle.model.specs.World.{World, FileSystem, Snap, SnapId, Dataset, Live, Snapped, id_of, snap_at, map_of}
use Rattle.world.specs.Shapes.{Name}
use Rattle.world.proofs.lineage.Bridge.{from_snap_at, map_of_live, map_of_gone, map_of_absent, map_of_found}
use Rattle.world.proofs.lists.Maps.{no_value}
use Rattle.laws.specs.Lineages.{IsOrdered, AreBirthsRising, HasBirths}
use Rattle.laws.proofs.Keys.{IsSameBelow, itself_below}
use Rattle.laws.proofs.Lineages.{kept_map}
use Rattle.laws.proofs.Walking.{WentOn, IsMade, IsLater}

-- a key is below its parent
below_parent : (k : Key) → IsTrue (is_at_or_below (parent k) k)
below_parent k =
    let one : (k.level + 1) - k.level ≡ 1 = omega arith in
    and_from (nat_le k.level (k.level + 1)) (k.index / 16 ^ ((k.level + 1) - k.level) == k.index / 16) (le-leb k.level (k.level + 1) (omega arith))
    (eq-eqb (k.index / 16 ^ ((k.level + 1) - k.level)) (k.index / 16) (ap (λ j. k.index / 16 ^ j) one))

-- what holds of one map's births
record IsAged (g : ℕ) (m : Map) : Type 0 where
  born : (k : Key) (c : Cell) → get m k ≡ Some c → (0 < c.birth) × (c.birth ≤ g)
  rise : AreBirthsRising m

empty_aged : (g : ℕ) → IsAged g finmap.empty
empty_aged g = record { born = λ k c h. absurd (no_value c (sym (get-empty key_cmp k) ∙ h)); rise = λ k c p h. absurd (no_value c (sym (get-empty key_cmp k) ∙ h)) }

module _ (w new : World) (o : IsOrdered w) (later : IsLater w new) (births : HasBirths w) (up : w.group ≤ new.group) where
  was : (d : Dataset) → IsAged w.group (map_of w d)
  was d = record { born = births.born d; rise = births.rise d }

  live_was : (a : Name) (f : FileSystem) → get w.file_systems a ≡ Some f → IsAged w.group f.live
  live_was a f at = subst (IsAged w.group) (map_of_live w a f at) (was (Live a))

  snap_was : (a : Name) (f : FileSystem) (v : Snap) → get w.file_systems a ≡ Some f → IsIn f.snaps v → IsAged w.group v.map
  snap_was a f v at h = subst (IsAged w.group) (kept_map w o a f v (id_of v) at h refl) (was (Snapped (id_of v)))

  -- the live map of a file system that went on
  went_aged : (a : Name) (f f' : FileSystem) → get w.file_systems a ≡ Some f → WentOn w.group f f' → IsAged w.group f'.live
  went_aged a f f' at went = record { born = born; rise = rise }
    where
      same_born : (m : Map) → IsAged w.group m → (k : Key) (c : Cell) → IsSameBelow k m f'.live → get f'.live k ≡ Some c → (0 < c.birth) × (c.birth ≤ w.group)
      same_born m aged k c same h = aged.born k c (same k (itself_below k) ∙ h)

      born : (k : Key) (c : Cell) → get f'.live k ≡ Some c → (0 < c.birth) × (c.birth ≤ w.group)
      born k c h = ⊎_elim
          (λ same. same_born f.live (live_was a f at) k c same h)
          (⊎_elim
          (λ (e : c.birth ≡ w.group). let b = o.begun in (omega arith, omega arith))
          (λ (v, i, newest, same). same_born v.map (snap_was a f v at i) k c same h))
          (went.live k c h)

      same_rise : (m : Map) → IsAged w.group m → (k : Key) (c p : Cell) → IsSameBelow (parent k) m f'.live → get f'.live k ≡ Some c → get f'.live (parent k) ≡ Some p
          → c.birth ≤ p.birth
      same_rise m aged k c p same h i = aged.rise k c p (same k (below_parent k) ∙ h) (same (parent k) (itself_below (parent k)) ∙ i)

      rise : AreBirthsRising f'.live
      rise k c p h i = ⊎_elim
          (λ same. same_rise f.live (live_was a f at) k c p same h i)
          (⊎_elim
          (λ (e : p.birth ≡ w.group). let b = (born k c h).1 in omega arith)
          (λ (v, j, newest, same). same_rise v.map (snap_was a f v at j) k c p same h i))
          (went.live (parent k) p i)

  -- and of one that was made
  made_aged : (f : FileSystem) → IsMade w f → IsAged w.group f.live
  made_aged f made = by_origin f.origin refl
    where
      by_origin : (x : Option SnapId) → f.origin ≡ x → IsAged w.group f.live
      by_origin None e = record {
        born = λ k c h. let b = o.begun in let y = made.young e k c h in (omega arith, omega arith);
        rise = λ k c p h i. let y = made.young e k c h in let z = made.young e (parent k) p i in omega arith;
      }
      by_origin (Some id) e = record { born = born; rise = rise }
        where
          born : (k : Key) (c : Cell) → get f.live k ≡ Some c → (0 < c.birth) × (c.birth ≤ w.group)
          born k c h = ⊎_elim
              (λ same. (was (Snapped id)).born k c (same k (itself_below k) ∙ h))
              (λ (e : c.birth ≡ w.group). let b = o.begun in (omega arith, omega arith))
              ((made.live id e).1 k c h)

          rise : AreBirthsRising f.live
          rise k c p h i = ⊎_elim
              (λ same. (was (Snapped id)).rise k c p (same k (below_parent k) ∙ h) (same (parent k) (itself_below (parent k)) ∙ i))
              (λ (e : p.birth ≡ w.group). let b = (born k c h).1 in omega arith)
              ((made.live id e).1 (parent k) p i)

  live_aged : (a : Name) (f : FileSystem) → get new.file_systems a ≡ Some f → IsAged w.group f.live
  live_aged a f at = ⊎_elim (λ (e, is, went). went_aged a e f is went) (λ (none, made). made_aged f made) (later a f at)

  snap_aged : (a : Name) (f : FileSystem) (u : Snap) → get new.file_systems a ≡ Some f → IsIn f.snaps u → IsAged w.group u.map
  snap_aged a f u at h = ⊎_elim
      (λ (e, is, went). ⊎_elim
      (λ (v, i, ids, maps). subst (IsAged w.group) (sym maps) (snap_was a e v is i))
      (λ k. subst (IsAged w.group) (sym k.1) (live_aged a f at))
      (went.snaps u h))
      (λ (none, made). subst (IsAged w.group) (sym (made.snaps u h).1) (live_aged a f at))
      (later a f at)

  aged : (d : Dataset) → IsAged w.group (map_of new d)
  aged (Live a) = by_system (get new.file_systems a) refl
    where
      by_system : (x : Option FileSystem) → get new.file_systems a ≡ x → IsAged w.group (map_of new (Live a))
      by_system None e = subst (IsAged w.group) (sym (map_of_gone new a e)) (empty_aged w.group)
      by_system (Some f) e = subst (IsAged w.group) (sym (map_of_live new a f e)) (live_aged a f e)
  aged (Snapped id) = by_snap (snap_at new id) refl
    where
      by_snap : (x : Option (Name × Snap)) → snap_at new id ≡ x → IsAged w.group (map_of new (Snapped id))
      by_snap None e = subst (IsAged w.group) (sym (map_of_absent new id e)) (empty_aged w.group)
      by_snap (Some p) e =
          let r = from_snap_at new id p e in
          subst (IsAged w.group) (sym (map_of_found new id p e)) (snap_aged p.0 r.0 p.1 r.1 r.2)

  pub births_go_on : HasBirths new
  births_go_on = record {
    born = λ d k c h. let b = (aged d).born k c h in (b.0, let l = b.1 in omega arith);
    rise = λ d. (aged d).rise;
  }
