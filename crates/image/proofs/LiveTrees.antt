-- The live tree of a file system that is found.
use Rattle.std.proofs.Common.{◌≡◌, ◌≤◌, zero, suc, Option, Some, None, List, [], ◌∷◌, ℕ, map, refl, sym, ap, ◌∙◌, arith, true≢false}
use Rattle.std.specs.Prelude.{is_some, slice_index_or}
use Rattle.base.specs.Key.{key_cmp}
use Rattle.base.specs.Map.{Map}
use Rattle.batch.specs.declared.numbers.NewBlock.{NewBlock}
use Rattle.image.specs.BlockWrites.{writes_of}
use Rattle.tree.specs.ChangeParts.{made_pair}
use Rattle.tree.specs.declared.block.Root.{Root}
use Rattle.std.specs.Option.{option_map, option_map_or}
use Rattle.std.specs.FinMap.{get, get-empty}
use Rattle.std.specs.FinMap as finmap
use Rattle.model.specs.World.{FileSystem}
use Rattle.datasets.specs.Rows.{FileSystems, Row, live_of}
use Rattle.datasets.specs.Clones.{row_in}
use Rattle.world.proofs.lists.Maps.{same_value, no_value}
use Rattle.image.specs.Writes.{ArePresent}

pub found_live : (ss : FileSystems) (name : List ℕ) (r : Row) → Some r ≡ option_map (λ (f : FileSystem). row_in ss (name, f)) (get ss name) → live_of ss name ≡ r.system.live
found_live ss name r e = by_system (get ss name) refl e
  where
    by_system : (x : Option FileSystem) → get ss name ≡ x → Some r ≡ option_map (λ (f : FileSystem). row_in ss (name, f)) x → live_of ss name ≡ r.system.live
    by_system None at k = absurd (no_value r (sym k))
    by_system (Some f) at k = ap (λ x. option_map_or (λ (g : FileSystem). g.live) x finmap.empty) at ∙ ap (λ (y : Row). y.system.live) (sym (same_value r (row_in ss (name, f)) k))

pub absent_live : (ss : FileSystems) (name : List ℕ) → None ≡ option_map (λ (f : FileSystem). row_in ss (name, f)) (get ss name) → live_of ss name ≡ finmap.empty
absent_live ss name e = by_system (get ss name) refl e
  where
    by_system : (x : Option FileSystem) → get ss name ≡ x → None ≡ option_map (λ (f : FileSystem). row_in ss (name, f)) x → live_of ss name ≡ finmap.empty
    by_system None at k = ap (λ x. option_map_or (λ (g : FileSystem). g.live) x finmap.empty) at
    by_system (Some f) at k = absurd (no_value (row_in ss (name, f)) k)

-- an empty map has no block at any key
pub none_present : (m : Map) (made : List NewBlock) → m ≡ finmap.empty → ArePresent m made → [] ≡ writes_of m (map made_pair made)
none_present m [] e a = refl
none_present m (b ∷ bs) e a = absurd (true≢false (sym (a 0 b (omega arith)) ∙ ap is_some (ap (λ x. get x b.key) e ∙ get-empty key_cmp b.key)))

-- a path of no blocks
pub no_path : (l : ℕ) → l ≤ 5 → slice_index_or {A = Option Root} (None ∷ None ∷ None ∷ None ∷ None ∷ None ∷ []) l None ≡ None
no_path zero h = refl
no_path (suc zero) h = refl
no_path (suc (suc zero)) h = refl
no_path (suc (suc (suc zero))) h = refl
no_path (suc (suc (suc (suc zero)))) h = refl
no_path (suc (suc (suc (suc (suc zero))))) h = refl
no_path (suc (suc (suc (suc (suc (suc l)))))) h = absurd (omega (arith, h))
