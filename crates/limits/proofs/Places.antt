-- A binary search among the rows of a table finds the place of a name.
use Rattle.std.proofs.Common.{◌≡◌, ℕ, ◌<◌, T, List, [], ◌∷◌, Option, Some, None, is_some, length, get_or, map, refl, sym, ap, subst, ◌∙◌, arith}
use Rattle.std.specs.Prelude.{Result, Ok, Err, IfOk, IfErr, OnErr, IfSome, IfNone, IsTrue}
use Rattle.std.specs.Option.{option_map}
use Rattle.std.specs.Arc.{arc_value}
use Rattle.std.specs.declared.sync.Arc.{Arc}
use Rattle.std.specs.declared.alloc.Global.{Global}
use Rattle.std.specs.Cmp.Lexicographic.{nat_list_cmp_total}
use Rattle.std.specs.FinMap.{get, entries, keys, len, is_sorted, entries_sorted, get-entries, len-entries, find}
use Rattle.std.specs.List.Sorted.{IsSearchInRange, IsBinarySearchResult}
use Rattle.std.proofs.lemmas.List.{length-map, get_or-map}
use Rattle.base.specs.Names.{name_cmp, parent_of}
use Rattle.model.specs.Hierarchy.{FileSystems, IsHierarchy}
use Rattle.world.proofs.lists.Maps.{no_value}
use Rattle.datasets.specs.Rows.{Row, Entry, entry_of, entry_in}
use Rattle.datasets.specs.Clones.{row_in}
use Rattle.datasets.specs.Places.{IsAt, IsGapFor}
use Rattle.datasets.proofs.Rows.{searched, row_of, true_from}
use Rattle.snapshots.proofs.Sorted.{find_at, find_gap}
use Rattle.limits.proofs.Names.{in_keys, from_keys, parent_in}
use Rattle.limits.specs.Places.{IsParentAt}
use Rattle.limits.proofs.Order.{no_entry, keys_long, key_is, entry_at}

shared : (rows : List (Arc Row Global)) → map entry_in rows ≡ map entry_of (map arc_value rows)
shared [] = refl
shared (r ∷ rows) = ap (λ l. entry_in r ∷ l) (shared rows)

back : (m : FileSystems) (es : List Entry) → map entry_of (map (row_in m) es) ≡ es
back m [] = refl
back m (e ∷ es) = ap (λ l. e ∷ l) (back m es)

-- where a name would stand, it isn't there
pub not_there : (m : FileSystems) (name : List ℕ) (r : Result ℕ ℕ) → IfErr r (IsGapFor (entries m) name) → OnErr r (get m name ≡ None)
not_there m name (Ok i) gap = tt
not_there m name (Err i) gap = get-entries m name ∙ find_gap nat_list_cmp_total (entries m) name i gap.below gap.above

module _ (m : FileSystems) (rows : List (Arc Row Global)) (all : map arc_value rows ≡ map (row_in m) (entries m)) where
  pub entries_are : map entry_in rows ≡ entries m
  entries_are = shared rows ∙ ap (map entry_of) all ∙ back m (entries m)

  in_order : IsTrue (is_sorted name_cmp (map entry_in rows))
  in_order = true_from _ (subst (λ es. T (is_sorted name_cmp es)) (sym entries_are) (entries_sorted m))

  pub placed : (name : List ℕ) (r : Result ℕ ℕ) → IsSearchInRange r (length rows) → IsBinarySearchResult (λ (a : Arc Row Global). name_cmp (entry_in a).0 name) rows r
      → IfOk r (IsAt (entries m) name) × IfErr r (IsGapFor (entries m) name)
  placed name r range by_name = subst (λ es. IfOk r (IsAt es name) × IfErr r (IsGapFor es name)) entries_are (searched entry_in rows in_order name r range by_name)

  rows_long : length rows ≡ length (entries m)
  rows_long = sym (length-map rows entry_in) ∙ ap length entries_are

  pub rows_count : length rows ≡ length (keys m)
  rows_count = rows_long ∙ sym (keys_long m)

  pub row_within : (i : ℕ) → i < len m → i < length rows
  row_within i lt = let l = rows_long in let e = len-entries m in omega (arith, l, e, lt)

  -- the name of the row at a place is the key there
  pub name_at : (i : ℕ) (r : Arc Row Global) → i < len m → r ≡ get_or rows i r → (arc_value r).name ≡ get_or (keys m) i []
  name_at i r lt is =
      let e = len-entries m in
      ap (λ (x : Entry). x.0) (row_of entry_in rows i r is ∙ ap (λ es. get_or es i (entry_in r)) entries_are)
      ∙ sym (get_or-map (λ (x : Entry). x.0) (entries m) i (entry_in r) [] (omega (arith, e, lt)))

  -- a row that has the name stands at the name's place
  pub near_at : (name : List ℕ) (i : ℕ) (r : Arc Row Global) → i < length rows → r ≡ get_or rows i r → (arc_value r).name ≡ name → IsAt (entries m) name i
  near_at name i r w is named =
      let l = rows_long in
      let e = len-entries m in
      record {
        within = omega (arith, l, w);
        named = λ d.
            sym (get_or-map (λ (x : Entry). x.0) (entries m) i d [] (omega (arith, l, w)))
            ∙ sym (name_at i r (omega (arith, l, e, w)) is)
            ∙ named;
      }

  -- and is what the map has under it
  pub row_at : (name : List ℕ) (i : ℕ) (r : Arc Row Global) → IsAt (entries m) name i → r ≡ get_or rows i r → (row : Row) → row ≡ arc_value r
      → Some row ≡ option_map (λ f. row_in m (name, f)) (get m name)
  row_at name i r at is row row_is =
      let e : Entry = entry_in r in
      ap Some (row_is ∙ row_of arc_value rows i r is ∙ ap (λ rs. get_or rs i (arc_value r)) all ∙ get_or-map (row_in m) (entries m) i e (arc_value r) at.within)
      ∙ ap (λ n. Some (row_in m (n, (get_or (entries m) i e).1))) (at.named e)
      ∙ sym (ap (option_map (λ f. row_in m (name, f)))
      (get-entries m name ∙ ap (λ k. find name_cmp k (entries m)) (sym (at.named e)) ∙ find_at nat_list_cmp_total (entries m) (entries_sorted m) i e at.within))

-- the place of a name that is the parent of the key at a place
module _ (m : FileSystems) (good : IsHierarchy m) (i : ℕ) (lt : i < len m) (parent : List ℕ) (is : parent_of (get_or (keys m) i []) ≡ Some parent) where
  here : i < length (keys m)
  here = let l = keys_long m in let e = len-entries m in omega (arith, l, e, lt)

  there : (get m parent ≡ None) → ⊥
  there none =
      let k = from_keys m parent (parent_in m good (get_or (keys m) i []) parent (in_keys m (get_or (keys m) i []) (ap is_some (entry_at m i here))) is) in
      no_value k.0 (sym none ∙ k.1)

  pub parent_found : (o : Option ℕ) → IfSome o (IsAt (entries m) parent) → IfNone o (get m parent ≡ None)
      → IfSome o (IsParentAt (keys m) i) × IfNone o (parent_of (get_or (keys m) i []) ≡ None)
  parent_found None some none = (tt, absurd (there none))
  parent_found (Some j) at none =
      let l = keys_long m in
      let w : j < length (keys m) = (let a = at.within in omega (arith, a, l)) in
      (record { within = w; named = is ∙ ap Some (sym (key_is m j w ∙ at.named no_entry)) }, tt)
