-- Maps that were there before are stored as they were.
use Rattle.std.proofs.Common.{◌≡◌, ℕ, List, Option, Some, None, refl, sym, subst, ◌∙◌, ◌⊎◌, inl, inr, ⊎_elim}
use Rattle.std.specs.FinMap.{get, get-empty}
use Rattle.std.specs.FinMap as finmap
use Rattle.base.specs.declared.number.Key.{Key}
use Rattle.base.specs.Key.{key_cmp}
use Rattle.base.specs.Map.{Map, Cell}
use Rattle.model.specs.State.{State}
use Rattle.base.specs.Surveys.{IsIn}
use Rattle.model.specs.World.{World, FileSystem, Snap, Dataset, Live, Snapped, id_of, snap_at, map_of, maps_of}
use Rattle.world.specs.Shapes.{Name, IsGood}
use Rattle.world.specs.Worlds.{IsPoolState, InNow, InLast, maps_of_both, shapes}
use Rattle.world.proofs.lineage.Bridge.{from_snap_at, map_of_live, map_of_gone, map_of_found, map_of_absent, map_of_kept}
use Rattle.world.proofs.lists.Listed.{in_map, map_in}
use Rattle.world.proofs.changes.Drawn.{drawn}
use Rattle.world.proofs.lists.Maps.{no_value}
use Rattle.image.specs.HasBlocks.{HasBlocks, AreBirthsRising}
use Rattle.image.specs.Stored.{AreStored, IsStored, AreDrawn, AreDrawnBeside, AreMapsBeside, AreFromState, MapsStay}

pub no_cell : {X : Type 0} (k : Key) (c : Cell) → get (finmap.empty {R = key_cmp}) k ≡ Some c → X
no_cell k c h = absurd (no_value c (sym (get-empty key_cmp k) ∙ h))

pub empty_has : (image : ℕ → List ℕ) → HasBlocks image finmap.empty
empty_has image k c h = no_cell k c h

pub empty_rises : AreBirthsRising finmap.empty
empty_rises k c p h i = no_cell k c h

pub stored_drawn : {D E : Type 0} (maps : D → Map) (later : E → Map) (image : ℕ → List ℕ) → AreDrawn maps later → AreStored maps image → AreStored later image
stored_drawn maps later image from stored = record {
  blocks = λ e. ⊎_elim (λ none. subst (HasBlocks image) (sym none) (empty_has image)) (λ p. subst (HasBlocks image) (sym p.1) (stored.blocks p.0)) (from e);
  rising = λ e. ⊎_elim (λ none. subst AreBirthsRising (sym none) empty_rises) (λ p. subst AreBirthsRising (sym p.1) (stored.rising p.0)) (from e);
}

module _ (s t : State) (good : IsPoolState s) where
  -- a world of maps of one of both worlds
  pub world_drawn : (w : World) → AreFromState s w.file_systems → AreDrawn (maps_of_both s.now s.last) (map_of w)
  world_drawn w from d = ⊎_elim
      (λ f. ⊎_elim inl (λ p. inr (InNow p.0, p.1)) (drawn s.now w s.now.group good.now.systems.lines f d))
      (λ f. ⊎_elim inl (λ p. inr (InLast p.0, p.1)) (drawn s.last w s.last.group good.last.systems.lines f d))
      from

  pub both_drawn : MapsStay s t → AreDrawn (maps_of_both s.now s.last) (maps_of_both t.now t.last)
  both_drawn stay (InNow d) = world_drawn t.now stay.now d
  both_drawn stay (InLast d) = world_drawn t.last stay.last d

  pub stored_stay : (image : ℕ → List ℕ) → MapsStay s t → IsStored s image → IsStored t image
  stored_stay image stay stored = stored_drawn (maps_of_both s.now s.last) (maps_of_both t.now t.last) image (both_drawn stay) stored

-- a world of maps of another, and of one beside them
module _ (w new : World) (g : ℕ) (good : IsGood (shapes w.file_systems) g) (m : Map) (from : AreMapsBeside m w.file_systems new.file_systems) where
  of_dataset : (x : Map) → ((other : Name) × (t : FileSystem) × (get w.file_systems other ≡ Some t) × IsIn (maps_of t) x) → (d : Dataset) × (x ≡ map_of w d)
  of_dataset x k = ⊎_elim
      (λ (e : x ≡ k.1.live). (Live k.0, e ∙ sym (map_of_live w k.0 k.1 k.2)))
      (λ i.
      let t = in_map (λ (t : Snap). t.map) k.1.snaps x i in
      (Snapped (id_of t.0), t.2 ∙ sym (map_of_kept w g good k.0 k.1 t.0 (id_of t.0) k.2 t.1 refl)))
      k.3

  told : (e : Dataset) (x : Map) → map_of new e ≡ x → (x ≡ finmap.empty) ⊎ (((other : Name) × (t : FileSystem) × (get w.file_systems other ≡ Some t) × IsIn (maps_of t) x) ⊎ (x ≡ m))
      → (map_of new e ≡ finmap.empty) ⊎ (((d : Dataset) × (map_of new e ≡ map_of w d)) ⊎ (map_of new e ≡ m))
  told e x is k = ⊎_elim
      (λ none. inl (is ∙ none))
      (λ r. inr (⊎_elim (λ o. let d = of_dataset x o in inl (d.0, is ∙ d.1)) (λ one. inr (is ∙ one)) r))
      k

  pub drawn_beside : AreDrawnBeside m (map_of w) (map_of new)
  drawn_beside (Live name) = at (get new.file_systems name) refl
    where
      at : (y : Option FileSystem) → get new.file_systems name ≡ y → (map_of new (Live name) ≡ finmap.empty) ⊎ (((d : Dataset) × (map_of new (Live name) ≡ map_of w d)) ⊎ (map_of new (Live name) ≡ m))
      at None e = inl (map_of_gone new name e)
      at (Some f) e = told (Live name) f.live (map_of_live new name f e) (from name f f.live e (inl refl))
  drawn_beside (Snapped id) = at (snap_at new id) refl
    where
      at : (y : Option (Name × Snap)) → snap_at new id ≡ y → (map_of new (Snapped id) ≡ finmap.empty) ⊎ (((d : Dataset) × (map_of new (Snapped id) ≡ map_of w d)) ⊎ (map_of new (Snapped id) ≡ m))
      at None e = inl (map_of_absent new id e)
      at (Some p) e =
          let k = from_snap_at new id p e in
          told (Snapped id) p.1.map (map_of_found new id p e) (from p.0 k.0 p.1.map k.1 (inr (map_in (λ (t : Snap). t.map) k.0.snaps p.1 k.2)))

-- where no file system has anything, each map is empty
pub none_there : (w : World) → ((name : Name) (f : FileSystem) (x : Map) → get w.file_systems name ≡ Some f → IsIn (maps_of f) x → x ≡ finmap.empty) → (d : Dataset) → map_of w d ≡ finmap.empty
none_there w none (Live name) = at (get w.file_systems name) refl
  where
    at : (y : Option FileSystem) → get w.file_systems name ≡ y → map_of w (Live name) ≡ finmap.empty
    at None e = map_of_gone w name e
    at (Some f) e = map_of_live w name f e ∙ none name f f.live e (inl refl)
none_there w none (Snapped id) = at (snap_at w id) refl
  where
    at : (y : Option (Name × Snap)) → snap_at w id ≡ y → map_of w (Snapped id) ≡ finmap.empty
    at None e = map_of_absent w id e
    at (Some p) e =
        let k = from_snap_at w id p e in
        map_of_found w id p e ∙ none p.0 k.0 p.1.map k.1 (inr (map_in (λ (t : Snap). t.map) k.0.snaps p.1 k.2))

pub none_stored : {D : Type 0} (maps : D → Map) (image : ℕ → List ℕ) → ((d : D) → maps d ≡ finmap.empty) → AreStored maps image
none_stored maps image none = record {
  blocks = λ d. subst (HasBlocks image) (sym (none d)) (empty_has image);
  rising = λ d. subst AreBirthsRising (sym (none d)) empty_rises;
}
