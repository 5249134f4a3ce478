-- What a file system uses with its descendants, as a sum over the rows of a table.
use Rattle.std.proofs.Common.{◌≡◌, ℕ, ◌+◌, ◌≤◌, ◌<◌, Bool, true, false, cond, List, [], ◌∷◌, Some, zero, suc, map, drop, get_or, length, refl, sym, ap, ◌∙◌, arith}
use Rattle.std.specs.Prelude.{IsSome}
use Rattle.std.specs.Option.{option_map_or}
use Rattle.std.specs.FinMap.{get, entries}
use Rattle.std.specs.FinSet.{len}
use Rattle.std.proofs.lemmas.List.{drop-map}
use Rattle.base.specs.Map.{blocks}
use Rattle.model.specs.World.{FileSystem, blocks_of_all, union_of}
use Rattle.model.specs.Sums.{size_without, used_of, used_by_children, used_by_refreservation}
use Rattle.world.specs.Tables.{Datasets, world_of}
use Rattle.world.specs.Trees.{total}
use Rattle.world.specs.Worlds.{AreFileSystems}
use Rattle.datasets.specs.Rows.{Row, Entry}
use Rattle.datasets.specs.Clones.{row_in}
use Rattle.model.specs.Hierarchy.{is_in_family}
use Rattle.snap.proofs.Rests.{next_left}
use Rattle.datasets.proofs.Above.{below_is_map}
use Rattle.limits.specs.Limits.{IsUnlimited}
use Rattle.limits.specs.Space.{own_of}
use Rattle.limits.proofs.Totals.{sum-total}
use Rattle.limits.proofs.Sums.{own_total}
use Rattle.limits.proofs.Family.{used_unlimited, used_by_refreservation_unlimited}
use Rattle.lookups.specs.Used.{own_in, own_within}

-- ---- a sum over a walk

total_rest : {A : Type 0} (f : A → ℕ) (xs : List A) (i : ℕ) → total f (drop i xs) ≤ total f xs
total_rest f [] zero = omega arith
total_rest f [] (suc i) = omega arith
total_rest f (x ∷ xs) zero = omega arith
total_rest f (x ∷ xs) (suc i) = let l = total_rest f xs i in omega (arith, l)

module _ {A B : Type 0} (value : A → B) (f : B → ℕ) (xs : List A) (i : ℕ) (x : A) (lt : i < length xs) (is : x ≡ get_or xs i x) where
  -- the next one, and what is left after it
  pub total_next : total f (map value (drop i xs)) ≡ f (value x) + total f (map value (drop (i + 1) xs))
  total_next = ap (λ l. total f (map value l)) (next_left xs i x lt is)

  -- it has no more than all
  pub total_item : f (value x) ≤ total f (map value xs)
  total_item =
      let n = total_next in
      let l = total_rest f (map value xs) i in
      let d = ap (total f) (drop-map value i xs) in
      omega (arith, n, l, d)

-- those of a family have no more than all
pub within_less : (name : List ℕ) (rows : List Row) → total (own_within name) rows ≤ total own_in rows
within_less name [] = omega arith
within_less name (r ∷ rs) = let h = at (is_in_family name r.name) in let l = within_less name rs in omega (arith, h, l)
  where
    at : (b : Bool) → cond b (own_in r) 0 ≤ own_in r
    at true = omega arith
    at false = omega arith

-- ---- the same by the definitions

module _ (t : Datasets) (good : AreFileSystems t.file_systems t.group) where
  -- what a row has of its own
  pub own_is : (e : Entry) → own_in (row_in t.file_systems e) ≡ own_of (world_of t) e.1
  own_is e =
      ap (λ m. size_without (blocks e.1.live) (blocks m) + size_without (blocks_of_all (map (λ t. t.map) e.1.snaps)) (blocks_of_all (e.1.live ∷ m ∷ []))) (sym (below_is_map (world_of t) e.1.origin))

  rows_own : (es : List Entry) → total own_in (map (row_in t.file_systems) es) ≡ total (λ e. own_of (world_of t) e.1) es
  rows_own [] = refl
  rows_own (e ∷ es) = λ i. own_is e i + rows_own es i

  rows_within : (name : List ℕ) (es : List Entry)
      → total (own_within name) (map (row_in t.file_systems) es) ≡ total (λ (e : Entry). cond (is_in_family name e.0) (own_of (world_of t) e.1) 0) es
  rows_within name [] = refl
  rows_within name (e ∷ es) = λ i. cond (is_in_family name e.0) (own_is e i) 0 + rows_within name es i

  module _ (rows : List Row) (all : rows ≡ map (row_in t.file_systems) (entries t.file_systems)) where
    -- all have together what datasets have
    pub all_own : total own_in rows ≡ len (union_of (world_of t))
    all_own = ap (total own_in) all ∙ rows_own (entries t.file_systems) ∙ own_total (world_of t) t.group good.lines

    -- a family has together what it uses
    pub family_uses : IsUnlimited t.file_systems → (name : List ℕ) → IsSome (get t.file_systems name) → total (own_within name) rows ≡ used_of (world_of t) name
    family_uses unlimited name there =
        ap (total (own_within name)) all ∙ rows_within name (entries t.file_systems)
        ∙ sym (sum-total (λ (e : Entry). cond (is_in_family name e.0) (own_of (world_of t) e.1) 0) (entries t.file_systems))
        ∙ sym (used_unlimited (world_of t) good unlimited name there)

  -- what it uses is what it has of its own, and what its children use
  pub used_parts : IsUnlimited t.file_systems → (name : List ℕ) (f : FileSystem) → get t.file_systems name ≡ Some f
      → used_of (world_of t) name ≡ own_in (row_in t.file_systems (name, f)) + used_by_children (world_of t) name
  unfolding used_of
  used_parts unlimited name f at =
      let here = ap (λ x. option_map_or (λ s. own_of (world_of t) s + used_by_refreservation (world_of t) name s) x 0) at in
      let none = used_by_refreservation_unlimited (world_of t) unlimited name f at in
      let own = own_is (name, f) in
      omega (arith, here, none, own)
