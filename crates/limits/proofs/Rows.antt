-- The account of a row of a table is that of its file system.
use Rattle.std.proofs.Common.{◌≡◌, ℕ, zero, suc, ◌+◌, ◌-◌, ◌<◌, ◌≤◌, List, [], ◌∷◌, length, get_or, Option, Some, None, is_some, map, refl, sym, ap, ◌∙◌, inl, inr, arith}
use Rattle.std.specs.Prelude.{unwrap_or}
use Rattle.std.specs.Option.{option_map}
use Rattle.std.specs.FinMap.{get, entries, keys}
use Rattle.std.specs.FinSet.{len}
use Rattle.std.proofs.lemmas.List.{get_or_default}
use Rattle.base.specs.Map.{blocks}
use Rattle.model.specs.World.{FileSystem, Live, previous_of, map_of_snap, blocks_of_all, union_of}
use Rattle.model.specs.Sums.{size_without, used_by_refreservation, written_of, referenced_of}
use Rattle.world.specs.Shapes.{name_order}
use Rattle.world.specs.Tables.{Datasets, world_of}
use Rattle.world.specs.Trees.{total}
use Rattle.world.specs.Usage.{IsEntry}
use Rattle.world.specs.Worlds.{AreFileSystems}
use Rattle.world.proofs.lineage.Bridge.{map_of_live, previous_of_live}
use Rattle.world.proofs.lists.Maps.{at_entry, same_value, no_value}
use Rattle.datasets.specs.Dead.{newest_blocks}
use Rattle.datasets.specs.Rows.{Row, Entry}
use Rattle.datasets.specs.Clones.{below_in, row_in}
use Rattle.datasets.proofs.Above.{below_is_map, newest_is}
use Rattle.limits.specs.Space.{own_of}
use Rattle.limits.proofs.Levels.{here_is}
use Rattle.limits.proofs.Names.{in_keys}
use Rattle.limits.proofs.Sums.{own_total}
use Rattle.limits.specs.Ledgers.{account_in, accounts_in}
use Rattle.limits.specs.Rows.{IsRowOf, own_in, written_in, unwritten_in, account_at}
use Rattle.limits.proofs.Order.{no_entry, keys_long, entry_at, place_in}

-- the file system that was found
pub found_row : (t : Datasets) (name : List ℕ) (r : Row) → Some r ≡ option_map {T = FileSystem} {U = Row} (λ f. row_in t.file_systems (name, f)) (get t.file_systems name)
    → IsRowOf t r × (r.name ≡ name)
found_row t name r e = at (get t.file_systems name) refl e
  where
    at : (x : Option FileSystem) → get t.file_systems name ≡ x → Some r ≡ option_map {T = FileSystem} {U = Row} (λ f. row_in t.file_systems (name, f)) x → IsRowOf t r × (r.name ≡ name)
    at None g h = absurd (no_value r (sym h))
    at (Some f) g h =
        let is = same_value r (row_in t.file_systems (name, f)) h in
        let named : r.name ≡ name = ap (λ (x : Row). x.name) is in
        let same : r.system ≡ f = ap (λ (x : Row). x.system) is in
        (record { there = ap (get t.file_systems) named ∙ g ∙ ap Some (sym same); is = is ∙ (λ i. row_in t.file_systems (sym named i, sym same i)) }, named)

-- or that none was found
pub not_found : (t : Datasets) (name : List ℕ) → None ≡ option_map {T = FileSystem} {U = Row} (λ f. row_in t.file_systems (name, f)) (get t.file_systems name) → get t.file_systems name ≡ None
not_found t name e = at (get t.file_systems name) refl e
  where
    at : (x : Option FileSystem) → get t.file_systems name ≡ x → None ≡ option_map {T = FileSystem} {U = Row} (λ f. row_in t.file_systems (name, f)) x → get t.file_systems name ≡ None
    at None g h = g
    at (Some f) g h = absurd (no_value (row_in t.file_systems (name, f)) h)

-- what a row has of its own
own_is : (t : Datasets) (e : Entry) → own_in (row_in t.file_systems e) ≡ own_of (world_of t) e.1
own_is t e =
    ap (λ m. size_without (blocks e.1.live) (blocks m) + size_without (blocks_of_all (map (λ u. u.map) e.1.snaps)) (blocks_of_all (e.1.live ∷ m ∷ [])))
    (sym (below_is_map (world_of t) e.1.origin))

module _ (t : Datasets) (good : AreFileSystems t.file_systems t.group) where
  module _ (name : List ℕ) (f : FileSystem) (at : get t.file_systems name ≡ Some f) where
    written_is : written_of (world_of t) (Live name) ≡ written_in (row_in t.file_systems (name, f))
    unfolding written_of
    written_is = λ i. size_without (blocks (map_of_live (world_of t) name f at i)) (below i)
      where
        below : blocks (map_of_snap (world_of t) (previous_of (world_of t) (Live name))) ≡ newest_blocks (blocks (below_in t.file_systems f.origin)) f.snaps
        below =
            ap (λ x. blocks (map_of_snap (world_of t) x)) (previous_of_live (world_of t) t.group good.lines name f at)
            ∙ newest_is (world_of t) t.group good.lines name f at f.snaps (λ u k. k)

    -- usedbyrefreservation, by the row
    pub unwritten_is : unwritten_in (row_in t.file_systems (name, f)) ≡ used_by_refreservation (world_of t) name f
    unwritten_is = ap (λ n. unwrap_or f.limits.refreservation 0 - n) (sym written_is)

    pub account_is : account_at (row_in t.file_systems (name, f)) ≡ account_in (world_of t) name f
    unfolding referenced_of
    account_is = λ i. record {
      here = (sym (here_is (world_of t) name f at ∙ (λ j. sym (own_is t (name, f)) j + sym unwritten_is j))) i;
      referenced = len (blocks (sym (map_of_live (world_of t) name f at) i));
      limits = f.limits;
    }

  each_is : (es : List Entry) → ((name : List ℕ) (f : FileSystem) → IsEntry es name f → get t.file_systems name ≡ Some f)
      → map account_at (map (row_in t.file_systems) es) ≡ map (λ (e : Entry). account_in (world_of t) e.0 e.1) es
  each_is [] all = refl
  each_is (e ∷ es) all = λ i. account_is e.0 e.1 (all e.0 e.1 (inl (refl, refl))) i ∷ each_is es (λ name f k. all name f (inr k)) i

  -- the accounts of all rows are those of the world
  pub accounts_are : (rows : List Row) → rows ≡ map (row_in t.file_systems) (entries t.file_systems) → map account_at rows ≡ accounts_in (world_of t)
  unfolding accounts_in
  accounts_are rows is = ap (map account_at) is ∙ each_is (entries t.file_systems) (at_entry name_order t.file_systems)

  rows_own : (es : List Entry) → total own_in (map (row_in t.file_systems) es) ≡ total (λ (e : Entry). own_of (world_of t) e.1) es
  rows_own [] = refl
  rows_own (e ∷ es) = λ i. own_is t e i + rows_own es i

  -- all rows have together what datasets have
  pub all_own : (rows : List Row) → rows ≡ map (row_in t.file_systems) (entries t.file_systems) → total own_in rows ≡ len (union_of (world_of t))
  all_own rows is = ap (total own_in) is ∙ rows_own (entries t.file_systems) ∙ own_total (world_of t) t.group good.lines

-- one of them has no more than all
pub total_item : {A B : Type 0} (value : A → B) (f : B → ℕ) (xs : List A) (i : ℕ) (x : A) → i < length xs → x ≡ get_or xs i x → f (value x) ≤ total f (map value xs)
total_item value f [] i x lt is = absurd (omega (arith, lt))
total_item value f (y ∷ ys) zero x lt is = let e = ap (λ z. f (value z)) is in omega (arith, e)
total_item value f (y ∷ ys) (suc i) x lt is = let r = total_item value f ys i x (omega (arith, lt)) is in omega (arith, r)

-- by the row of a file system that is found
module _ (t : Datasets) (good : AreFileSystems t.file_systems t.group) (r : Row) (of : IsRowOf t r) where
  pub row_unwritten : unwritten_in r ≡ used_by_refreservation (world_of t) r.name r.system
  row_unwritten = ap unwritten_in of.is ∙ unwritten_is t good r.name r.system of.there

  -- it has no more of its own than all have together
  pub row_own : own_in r ≤ len (union_of (world_of t))
  row_own =
      let ks = keys t.file_systems in
      let p = place_in ks r.name (in_keys t.file_systems r.name (ap is_some of.there)) in
      let e = get_or (entries t.file_systems) p.0 no_entry in
      let long = keys_long t.file_systems in
      let within : p.0 < length (entries t.file_systems) = (let l = p.1 in omega (arith, l, long)) in
      let same : e.1 ≡ r.system = same_value e.1 r.system (sym (entry_at t.file_systems p.0 p.1) ∙ ap (get t.file_systems) p.2 ∙ of.there) in
      let item = total_item (row_in t.file_systems) own_in (entries t.file_systems) p.0 e within (get_or_default (entries t.file_systems) p.0 no_entry e within) in
      let own : own_in r ≡ own_in (row_in t.file_systems e) = ap own_in of.is ∙ ap (λ (s : FileSystem). own_in (row_in t.file_systems (e.0, s))) (sym same) in
      let all = all_own t good (map (row_in t.file_systems) (entries t.file_systems)) refl in
      omega (arith, item, own, all)

  pub row_account : account_at r ≡ account_in (world_of t) r.name r.system
  row_account = ap account_at of.is ∙ account_is t good r.name r.system of.there
