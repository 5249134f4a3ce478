-- Whether what an update punches is there, by the path before it.
use Rattle.std.proofs.Common.{◌≡◌, ◌≤◌, List, [], ◌∷◌, Option, None, Some, refl, sym, ap, ◌∙◌}
use Rattle.std.specs.Prelude.{is_some, slice_index_or}
use Rattle.std.specs.Option.{option_map}
use Rattle.std.specs.FinMap.{get}
use Rattle.std.proofs.lemmas.Bool.{eqb-true}
use Rattle.base.specs.declared.number.Key.{Key}
use Rattle.base.specs.Key.{first_leaf}
use Rattle.base.specs.Map.{Map, block_of}
use Rattle.batch.specs.Updates.{first_of, IsBatch}
use Rattle.batch.specs.declared.update.Update.{Update}
use Rattle.batch.specs.declared.update.Update.TheVariants.{Write, Punch}
use Rattle.tree.specs.Reading.{key_over}
use Rattle.tree.specs.Bytes.{root_block}
use Rattle.tree.specs.declared.block.Root.{Root}
use Rattle.image.specs.PathWrites.{block_on}
use Rattle.image.specs.Updates.{ChangesSome}
use Rattle.image.specs.Writes.{IsPathOf, IsThere}
use Rattle.datasets.proofs.Rows.{none_from}
use Rattle.image.proofs.Touching.{top_covers}

-- the key of a punch stands on the path to its first leaf
over_first : (key : Key) → key_over (first_leaf key) key.level ≡ key
over_first key = λ i. record { level = key.level; index = eqb-true _ _ (top_covers (Punch key)) i }

on_path : (m : Map) (path : List (Option Root)) (key : Key) → key.level ≤ 5 → IsPathOf m (first_leaf key) (block_on path) → option_map root_block (slice_index_or path key.level None) ≡ option_map block_of (get m key)
on_path m path key low is = is key.level low ∙ ap (λ k. option_map block_of (get m k)) (over_first key)

some_either : {A B C : Type 0} (f : A → C) (g : B → C) (x : Option A) (y : Option B) → option_map f x ≡ option_map g y → is_some x ≡ is_some y
some_either f g None None e = refl
some_either f g None (Some y) e = absurd cc
some_either f g (Some x) None e = absurd cc
some_either f g (Some x) (Some y) e = refl

pub there_some : (m : Map) (path : List (Option Root)) (u : Update) → IsBatch (u ∷ []) → IsPathOf m (first_of u) (block_on path) → IsThere path u → ChangesSome m u
there_some m path (Write leaf bytes) b is there = tt
there_some m path (Punch key) b is there = sym (some_either root_block block_of (slice_index_or path key.level None) (get m key) (on_path m path key b.1.level is)) ∙ there

pub missing_none : (m : Map) (path : List (Option Root)) (key : Key) → IsBatch (Punch key ∷ []) → IsPathOf m (first_leaf key) (block_on path) → slice_index_or path key.level None ≡ None → get m key ≡ None
missing_none m path key b is none = none_from (get m key) (sym (some_either root_block block_of (slice_index_or path key.level None) (get m key) (on_path m path key b.1.level is)) ∙ ap is_some none)
