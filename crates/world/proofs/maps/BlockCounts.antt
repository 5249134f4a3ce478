-- A map whose numbers are different has as many blocks as cells.
use Rattle.std.proofs.Common.{◌≡◌, List, [], ◌∷◌, Some, sym, ap, ◌∙◌, map, inl, inr, ⊎_elim, refl}
use Rattle.std.specs.FinMap.{get, values, entries, len-entries}
use Rattle.std.specs.FinMap.{len as map_len}
use Rattle.std.specs.FinSet.{len as set_len}
use Rattle.base.specs.declared.number.Key.{Key}
use Rattle.base.specs.Map.{Map, Cell, Block, block_of, blocks}
use Rattle.base.specs.Surveys.{IsIn, AreDifferent}
use Rattle.world.specs.Usage.{IsEntry, AreApart}
use Rattle.world.proofs.lists.Listed.{length-mapped}
use Rattle.world.proofs.lists.Maps.{at_entry, entries_apart}
use Rattle.world.specs.Shapes.{key_order}
use Rattle.world.specs.Blocks.{block_order as o}
use Rattle.world.proofs.lists.Lists.{len-from_list}

module _ (m : Map) (one : (j k : Key) (a b : Cell) → get m j ≡ Some a → get m k ≡ Some b → a.number ≡ b.number → j ≡ k) where
  in_values : (es : List (Key × Cell)) (b : Block) → IsIn (map block_of (map (λ e. e.1) es)) b → (k : Key) × (x : Cell) × IsEntry es k x × (block_of x ≡ b)
  in_values [] b h = absurd h
  in_values (e ∷ es) b h = ⊎_elim (λ is. (e.0, e.1, inl (refl, refl), sym is)) (λ r. let i = in_values es b r in (i.0, i.1, inr i.2, i.3)) h

  values_different : (es : List (Key × Cell)) → AreApart es
      → ((j k : Key) (x y : Cell) → IsEntry es j x → IsEntry es k y → block_of x ≡ block_of y → j ≡ k) → AreDifferent (map block_of (map (λ e. e.1) es))
  values_different [] a inj = tt
  values_different (e ∷ es) a inj = (
    λ h. let i = in_values es (block_of e.1) h in a.0 i.0 i.1 i.2 (inj i.0 e.0 i.1 e.1 (inr i.2) (inl (refl, refl)) i.3),
    values_different es a.1 (λ j k x y h g n. inj j k x y (inr h) (inr g) n),
  )

  pub len-blocks : set_len (blocks m) ≡ map_len m
  unfolding blocks
  len-blocks =
      len-from_list o (map block_of (values m)) (values_different (entries m) (entries_apart key_order m)
      (λ j k x y h g e. one j k x y (at_entry key_order m j x h) (at_entry key_order m k y g) (ap (λ (z : Block). z.number) e)))
      ∙ length-mapped block_of (values m) ∙ length-mapped (λ e. e.1) (entries m) ∙ sym (len-entries m)
