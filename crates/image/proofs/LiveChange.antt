-- A change of one live map of the present world: what is written may be written, and then the image has both worlds.
use Rattle.std.proofs.Common.{◌≡◌, ℕ, List, ◌∷◌, ◌++◌, [], length, map, Some, refl, sym, ap, subst, ◌∙◌, inl, inr, ⊎_elim, arith}
use Rattle.std.specs.FinMap.{get, insert}
use Rattle.base.specs.declared.number.Key.{Key}
use Rattle.base.specs.Map.{Map, Cell, block_of}
use Rattle.base.specs.Surveys.{IsIn}
use Rattle.model.specs.State.{State}
use Rattle.model.specs.World.{World, FileSystem, Snap, Live, map_of, maps_of, reach_of}
use Rattle.world.specs.Shapes.{Name}
use Rattle.world.specs.Worlds.{FileSystems, IsPoolState, InNow, InLast, maps_of_both}
use Rattle.world.proofs.lineage.Put.{put_cases}
use Rattle.world.proofs.lists.Finding.{in_either}
use Rattle.world.proofs.lists.Listed.{in_map, map_in}
use Rattle.zalloc.specs.declared.BlockState.{BlockState}
use Rattle.image.specs.HasBlocks.{HasBlocks, AreBirthsRising}
use Rattle.image.specs.Image.{IsOpen}
use Rattle.image.specs.Opened.{KeepsJust}
use Rattle.image.specs.Stored.{AreStored, IsStored, AreDrawnBeside, AreMapsBeside}
use Rattle.image.proofs.Drawing.{drawn_beside}
use Rattle.image.proofs.MadeBlocks.{IsWrittenIn}
use Rattle.image.proofs.Opening.{young_open}
use Rattle.image.proofs.Walking.{cell_reached}
use Rattle.image.proofs.Written.{stored_written}

-- ---- file systems of which one has another live map

pub put_beside : (ss : FileSystems) (name : Name) (f : FileSystem) → get ss name ≡ Some f → (m : Map) → AreMapsBeside m ss (insert ss name (record f { live = m }))
put_beside ss name f at m q g x there i = ⊎_elim
    (λ k. ⊎_elim
    (λ (e : x ≡ m). inr (inr e))
    (λ j. inr (inl (name, f, at, inr j)))
    (subst (λ (y : FileSystem). IsIn (maps_of y) x) k.1 i))
    (λ k. inr (inl (q, g, k.1, i)))
    (put_cases ss name (record f { live = m }) q g there)

-- and then a snapshot of it
pub kept_beside : (ss : FileSystems) (name : Name) (f : FileSystem) (m : Map) (t : Snap) → t.map ≡ m → (later : FileSystems) → AreMapsBeside m ss later → get later name ≡ Some f → f.live ≡ m
    → AreMapsBeside m ss (insert later name (record f { snaps = f.snaps ++ t ∷ [] }))
kept_beside ss name f m t is later beside at live q g x there i = ⊎_elim
    (λ k. ⊎_elim
    (λ (e : x ≡ f.live). inr (inr (e ∙ live)))
    (λ j.
    let u = in_map (λ (v : Snap). v.map) (f.snaps ++ t ∷ []) x j in
    ⊎_elim
    (λ h. beside name f x at (inr (subst (λ y. IsIn (map (λ (v : Snap). v.map) f.snaps) y) (sym u.2) (map_in (λ (v : Snap). v.map) f.snaps u.0 h))))
    (λ h. ⊎_elim (λ (one : u.0 ≡ t). inr (inr (u.2 ∙ ap (λ (v : Snap). v.map) one ∙ is))) (λ none. absurd none) h)
    (in_either f.snaps (t ∷ []) u.0 u.1))
    (subst (λ (y : FileSystem). IsIn (maps_of y) x) k.1 i))
    (λ k. beside q g x k.1 i)
    (put_cases later name (record f { snaps = f.snaps ++ t ∷ [] }) q g there)

-- ---- the step

module _ (s : State) (now : World) (good : IsPoolState s) (good' : IsPoolState (record s { now = now })) (name : Name) (m : Map) (here : map_of now (Live name) ≡ m)
    (beside : AreMapsBeside m s.now.file_systems now.file_systems) where
  both_beside : AreDrawnBeside m (maps_of_both s.now s.last) (maps_of_both now s.last)
  both_beside (InNow d) = ⊎_elim inl (λ r. inr (⊎_elim (λ k. inl (InNow k.0, k.1)) inr r)) (drawn_beside s.now now s.now.group good.now.systems.lines m beside d)
  both_beside (InLast d) = inr (inl (InLast d, refl))

  pub change_stored : (before after : ℕ → List ℕ) → HasBlocks after m → IsWrittenIn m before after → AreBirthsRising m → IsStored s before → AreStored (maps_of_both now s.last) after
  change_stored before after made within rises stored =
      stored_written (maps_of_both s.now s.last) (maps_of_both now s.last) m (InNow (Live name)) here before after both_beside good'.pair.cells made within rises stored

  -- what was born in the open group may be written
  pub number_open : (kept : List BlockState) → KeepsJust (reach_of s.last) kept → length kept ≡ s.size → (k : Key) (x : Cell) → get m k ≡ Some x → x.birth ≡ s.now.group → IsOpen kept x.number
  number_open kept keeps long k x there born =
      let late = good.pair.reached.since.later in
      young_open (reach_of now) (reach_of s.last) s.last.group now.group s.size kept good'.pair.reached keeps long (block_of x)
      (cell_reached s.size now good'.now (Live name) k x (ap (λ y. get y k) here ∙ there)) (omega (arith, late, born))
