-- What a change of a live map by one update leaves to be written.
use Rattle.std.proofs.Common.{◌≡◌, ◌<◌, ℕ, false, List, [], ◌∷◌, length, Option, Some, None, refl, sym, ap, subst, ◌∙◌, inr, arith}
use Rattle.std.specs.Prelude.{◌↔◌, IfSome, slice_get}
use Rattle.std.specs.Option.{option_map_or}
use Rattle.std.specs.FinMap.{get, insert}
use Rattle.std.specs.FinMap as finmap
use Rattle.base.specs.declared.number.Key.{Key}
use Rattle.base.specs.Map.{Map, Cell, Block, IsTree, HasBytes, block_of}
use Rattle.base.specs.Rewrite.{Changes, is_touched}
use Rattle.base.specs.Surveys.{IsIn, IsMadeKey}
use Rattle.base.proofs.Untouched.{rewrite_keeps}
use Rattle.batch.specs.Updates.{changes_of, first_of, IsBatch}
use Rattle.batch.specs.declared.update.Update.{Update}
use Rattle.batch.specs.declared.update.Update.TheVariants.{Write, Punch}
use Rattle.node.specs.Unique.{IsUnique}
use Rattle.node.proofs.Options.{mapped}
use Rattle.tree.specs.Asking.{AreAllocated}
use Rattle.tree.specs.Branch.{child_key}
use Rattle.tree.specs.Change.{IsChange}
use Rattle.tree.specs.Reading.{key_over}
use Rattle.tree.specs.declared.block.Root.{Root}
use Rattle.batch.specs.declared.draft.Draft.{Draft}
use Rattle.zalloc.specs.declared.BlockState.{BlockState}
use Rattle.zalloc.specs.declared.BlockState.TheVariants.{Allocated}
use Rattle.model.specs.State.{State}
use Rattle.model.specs.World.{World, FileSystem, Live, map_of, reach_of}
use Rattle.world.specs.Blocks.{block_order as o}
use Rattle.world.specs.Tables.{Datasets}
use Rattle.world.specs.Worlds.{IsPoolState, InNow, maps_of_both}
use Rattle.world.proofs.lineage.Bridge.{map_of_live}
use Rattle.world.proofs.lineage.Put.{put_here}
use Rattle.world.proofs.lists.SetCounts.{in_union_left}
use Rattle.datasets.specs.Writes.{young_of, HasWritten}
use Rattle.datasets.specs.Rows.{live_of}
use Rattle.image.specs.BlockWrites.{blocks_put}
use Rattle.image.specs.HasBlocks.{HasBlocks, AreBirthsRising}
use Rattle.image.specs.Image.{IsOpen}
use Rattle.image.specs.PathWrites.{block_on, path_writes, IsPathChange, IsPathOpen, AreSourcesApart}
use Rattle.image.proofs.AfterChange.{same_bytes}
use Rattle.image.proofs.PathsApart.{paths_apart}
use Rattle.image.specs.StepWrites.{AreMade}
use Rattle.image.specs.Stored.{IsStored, AreStored, AreMapsBeside}
use Rattle.image.specs.Updates.{ChangesSome, IsWritten}
use Rattle.image.proofs.LiveChange.{put_beside, change_stored, number_open}
use Rattle.image.proofs.MadeBlocks.{path_made, path_within}
use Rattle.image.proofs.OnePath.{path_young, path_change}
use Rattle.image.proofs.StepMade.{none_made, path_all_made}
use Rattle.image.proofs.Standing.{there_some, missing_none}
use Rattle.image.proofs.Touching.{punch_idle}
use Rattle.image.proofs.Walking.{cell_reached}
use Rattle.image.proofs.Written.{unique_in, rewrite_rises}
use Rattle.steps.specs.Edits.{datasets_of, with_datasets}
use Rattle.steps.specs.Steady.{IsSteady}
use Rattle.steps.proofs.numbers.Known.{states_of}
use Rattle.steps.proofs.numbers.States.{state_at-now}
use Rattle.pool.specs.Images.{LeadsTo}
use Rattle.image.specs.Writes.{MayWrite, IsPathOf, IsThere, IsMissing, IsWrittenAs, IsLeftBy}
use Rattle.pool.specs.Numbers.{synced_numbers}
use Rattle.pool.specs.Pools.{IsSound}
use Rattle.image.specs.declared.writes.Writes.{Writes}
use Rattle.image.specs.declared.writes.Writes.TheVariants.{Idle, OnPath, Each}
use Rattle.pool.proofs.Kept.{kept_long, kept_just}

module _ (s : State) (numbers : List BlockState) (sound : IsSound s numbers) (name : List ℕ) (f : FileSystem) (at : get s.now.file_systems name ≡ Some f) (u : Update) (batch : IsBatch (u ∷ []))
    (new : Datasets) (done : Draft) (has : HasWritten (datasets_of s) new name (changes_of (u ∷ [])) s.last.group numbers done) (after : IsSteady (with_datasets s new))
    (path : List (Option Root)) (was : IsPathOf (live_of s.now.file_systems name) (first_of u) (block_on path)) where
  abbrev good : IsPoolState s
  good = sound.steady.good

  abbrev now : World
  now = record s.now { file_systems = new.file_systems; group = new.group }

  abbrev m : Map
  m = has.change.new

  abbrev ch : Changes
  ch = changes_of (u ∷ [])

  live_is : live_of s.now.file_systems name ≡ f.live
  live_is = ap (λ x. option_map_or (λ (f : FileSystem). f.live) x finmap.empty) at

  change : IsChange f.live (changes_of (u ∷ [])) s.now.group (young_of (datasets_of s) name s.last.group) numbers has.change
  change = subst (λ x. IsChange x ch s.now.group (young_of (datasets_of s) name s.last.group) numbers has.change) live_is has.is

  was_live : IsPathOf f.live (first_of u) (block_on path)
  was_live = subst (λ x. IsPathOf x (first_of u) (block_on path)) live_is was

  systems : new.file_systems ≡ insert s.now.file_systems name (record f { live = has.change.new })
  systems = ap (λ (t : Datasets). t.file_systems) has.to_is ∙ ap (λ x. option_map_or (λ (f : FileSystem). insert s.now.file_systems name (record f { live = m })) x s.now.file_systems) at

  here_at : get new.file_systems name ≡ Some (record f { live = has.change.new })
  here_at = ap (λ ss. get ss name) systems ∙ put_here s.now.file_systems name (record f { live = m })

  here : map_of (record s.now { file_systems = new.file_systems; group = new.group }) (Live name) ≡ has.change.new
  here = map_of_live now name (record f { live = m }) here_at

  live_now : live_of new.file_systems name ≡ has.change.new
  live_now = ap (λ x. option_map_or (λ (f : FileSystem). f.live) x finmap.empty) here_at

  beside : AreMapsBeside has.change.new s.now.file_systems new.file_systems
  beside = subst (AreMapsBeside m s.now.file_systems) (sym systems) (put_beside s.now.file_systems name f at m)

  old_map : map_of s.now (Live name) ≡ f.live
  old_map = map_of_live s.now name f at

  tree : IsTree s.size f.live
  tree = subst (IsTree s.size) old_map (good.now.trees (Live name))

  new_tree : IsTree s.size has.change.new
  new_tree = subst (IsTree s.size) here (after.good.now.trees (Live name))

  unique : IsUnique has.change.new
  unique = unique_in (maps_of_both now s.last) (InNow (Live name)) m here after.good.pair.cells

  old_unique : IsUnique f.live
  old_unique = unique_in (maps_of_both s.now s.last) (InNow (Live name)) f.live old_map good.pair.cells

  allocated : AreAllocated f.live numbers
  allocated k = by_cell (get f.live k) refl
    where
      by_cell : (y : Option Cell) → get f.live k ≡ y → IfSome y (λ (c : Cell). slice_get numbers c.number ≡ Some Allocated)
      by_cell None e = tt
      by_cell (Some x) e =
          let h = cell_reached s.size s.now good.now (Live name) k x (ap (λ y. get y k) old_map ∙ e) in
          (states_of s numbers sound.states).each x.number (good.pair.reached.small (block_of x) (in_union_left o (reach_of s.now) (reach_of s.last) (block_of x) h))
          ∙ ap Some (state_at-now (reach_of s.now) (reach_of s.last) (block_of x) h)

  rises : (image : ℕ → List ℕ) → IsStored s image → AreBirthsRising has.change.new
  rises image stored = subst AreBirthsRising (sym change.new_is)
      (rewrite_rises f.live ch s.now.group change.number (subst AreBirthsRising old_map (stored.rising (InNow (Live name))))
      (λ k x there. good.pair.reached.born (block_of x) (cell_reached s.size s.now good.now (Live name) k x (ap (λ y. get y k) old_map ∙ there))))

  had : (image : ℕ → List ℕ) → IsStored s image → HasBlocks image f.live
  had image stored = subst (HasBlocks image) old_map (stored.blocks (InNow (Live name)))

  -- nothing was there to punch
  idle_leads : IsMissing path u → (image : ℕ → List ℕ) → IsStored s image → AreStored (maps_of_both now s.last) image
  idle_leads missing image stored =
      change_stored s now good after.good name m here beside image image (still (untouched u batch was_live missing)) (λ q. inr refl) (rises image stored) stored
    where
      untouched : (v : Update) → IsBatch (v ∷ []) → IsPathOf f.live (first_of v) (block_on path) → IsMissing path v → (k : Key) → is_touched f.live (changes_of (v ∷ [])) k ≡ false
      untouched (Write leaf bytes) b is missing = absurd missing
      untouched (Punch key) b is missing = punch_idle s.size f.live tree key b (missing_none f.live path key b is missing)

      still : ((k : Key) → is_touched f.live (changes_of (u ∷ [])) k ≡ false) → HasBlocks image has.change.new
      still idle k x there =
          let same = λ (q : Key). ap (λ y. get y q) change.new_is ∙ rewrite_keeps f.live ch s.now.group change.number q (idle q) in
          had image stored k x (sym (same k) ∙ there) ∙ same_bytes f.live m k x (λ high i small. same (child_key k i))

  -- one path is written
  module _ (leaf : ℕ) (before after_path : List (Option Root)) (bytes : List ℕ)
      (is : (leaf ≡ first_of u) × (before ≡ path) × IsPathOf has.change.new leaf (block_on after_path) × IsWritten u bytes × (length bytes ≡ 512) × IsThere path u) where
    some : ChangesSome f.live u
    some = there_some f.live path u batch was_live is.5

    from_before : IsPathOf f.live (first_of u) (block_on before)
    from_before = subst (λ p. IsPathOf f.live (first_of u) (block_on p)) (sym is.1) was_live

    to_after : IsPathOf has.change.new (first_of u) (block_on after_path)
    to_after = subst (λ n. IsPathOf m n (block_on after_path)) is.0 is.2

    one_path : IsPathChange f.live has.change.new (first_of u) (block_on before) (block_on after_path) bytes
    one_path = path_change s.size f.live m tree u batch s.now.group change.number change.new_is some bytes is.3 (block_on before) (block_on after_path) from_before to_after

    at_leaf : IsPathChange f.live has.change.new leaf (block_on before) (block_on after_path) bytes
    at_leaf = subst (λ n. IsPathChange f.live m n (block_on before) (block_on after_path) bytes) (sym is.0) one_path

    open_path : IsPathOpen (synced_numbers s.size s.last) (block_on before) (block_on after_path)
    open_path = record {
      open_to = λ l n low e.
          let x = mapped block_of (get m (key_over (first_of u) l)) n (sym (to_after l low) ∙ e) in
          let young = path_young s.size f.live m tree u batch s.now.group change.number change.new_is some l x.0 low x.1 in
          subst (λ (b : Block). IsOpen (synced_numbers s.size s.last) b.number) x.2
          (number_open s now good after.good name m here beside (synced_numbers s.size s.last) (kept_just s good) (kept_long s good) (key_over (first_of u) l) x.0 x.1 young);
      there = λ l n low e.
          let x = mapped block_of (get f.live (key_over (first_of u) l)) n (sym (from_before l low) ∙ e) in
          let small = (subst (λ y. IfSome y (λ (c : Cell). (c.number < s.size) × HasBytes (key_over (first_of u) l) c)) x.1 (tree.cells (key_over (first_of u) l))).0 in
          let number : x.0.number ≡ n.number = ap (λ (b : Block). b.number) x.2 in
          let long = kept_long s good in
          omega (arith, small, number, long);
    }

    pub path_may : IsPathOpen (synced_numbers s.size s.last) (block_on before) (block_on after_path) × AreSourcesApart (block_on before) (block_on after_path) × (length bytes ≡ 512)
    path_may = (
      open_path,
      paths_apart f.live ch s.now.group (young_of (datasets_of s) name s.last.group) numbers has.change change old_unique allocated (first_of u) (block_on before) (block_on after_path) from_before to_after,
      is.4,
    )

    pub path_leads : (image : ℕ → List ℕ) → IsStored s image → AreStored (maps_of_both now s.last) (blocks_put image (path_writes image leaf (block_on before) (block_on after_path) bytes 6))
    path_leads image stored =
        change_stored s now good after.good name m here beside image (blocks_put image (path_writes image leaf (block_on before) (block_on after_path) bytes 6))
        (path_made s.size image f.live m leaf (block_on before) (block_on after_path) bytes tree new_tree unique at_leaf (had image stored))
        (path_within s.size image f.live m leaf (block_on before) (block_on after_path) bytes tree new_tree unique at_leaf (had image stored))
        (rises image stored) stored

    -- and its blocks are new
    pub path_new : (image : ℕ → List ℕ) → AreMade s (with_datasets s new) (path_writes image leaf (block_on before) (block_on after_path) bytes 6)
    path_new image = path_all_made s (with_datasets s new) name m live_now image leaf (block_on before) (block_on after_path) bytes is.2
        (λ l x low there. path_young s.size f.live m tree u batch s.now.group change.number change.new_is some l x low (ap (λ n. get m (key_over n l)) (sym is.0) ∙ there))

  -- so may what is left to be written, and it leads there
  may_write : (writes : Writes) → IsWrittenAs has.change.new u path writes → MayWrite (synced_numbers s.size s.last) writes
  may_write Idle is = tt
  may_write (OnPath p bytes) is = path_may p.value.leaf p.value.before p.value.after bytes (is.0.0, is.1, is.2, is.0.1, is.0.2, is.3)
  may_write (Each blocks) is = absurd is

  leads_to : (writes : Writes) → IsWrittenAs has.change.new u path writes → LeadsTo s (with_datasets s new) writes
  leads_to Idle is = record { stored = idle_leads is; made = λ image. none_made s (with_datasets s new) }
  leads_to (OnPath p bytes) is = record {
    stored = path_leads p.value.leaf p.value.before p.value.after bytes (is.0.0, is.1, is.2, is.0.1, is.0.2, is.3);
    made = path_new p.value.leaf p.value.before p.value.after bytes (is.0.0, is.1, is.2, is.0.1, is.0.2, is.3);
  }
  leads_to (Each blocks) is = absurd is

  module _ (writes : Writes) (left : IsLeftBy u s.now.group done.made.items path writes) where
    written_as : IsWrittenAs has.change.new u path writes
    written_as = left s.size f.live m tree (record { number = change.number; new_is = change.new_is; each = subst (λ xs. (k : Key) (n : ℕ) → IsIn xs (k, n) ↔ (IsMadeKey f.live ch k × (change.number k ≡ n))) (sym has.made) change.made }) was_live

    pub update_may : MayWrite (synced_numbers s.size s.last) writes
    update_may = may_write writes written_as

    pub update_leads : LeadsTo s (with_datasets s new) writes
    update_leads = leads_to writes written_as
