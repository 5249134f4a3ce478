-- Maps that have file systems at the same names have the same keys.
use Rattle.std.proofs.Common.{◌≡◌, ℕ, T, List, [], ◌∷◌, Option, Some, None, map, length, is_some, refl, sym, ap, subst, ◌∙◌, arith}
use Rattle.std.specs.Prelude.{◌&&◌}
use Rattle.std.specs.Ordering.{is_lt}
use Rattle.std.specs.Option.{option_map}
use Rattle.std.specs.FinMap.{get, entries, keys, put, is_sorted, from_entries, entries_sorted, entries-insert, len-entries, len-empty, same_map}
use Rattle.std.specs.FinMap.Entries.{below_all, by_order}
use Rattle.base.specs.Names.{name_cmp}
use Rattle.base.specs.Surveys.{IsIn}
use Rattle.model.specs.World.{FileSystem, empty_file_system}
use Rattle.model.specs.Hierarchy.{FileSystems}
use Rattle.model.specs.Edits.{with_file_systems}
use Rattle.world.specs.Shapes.{name_order}
use Rattle.world.specs.Tables.{world_of}
use Rattle.world.proofs.lists.Maps.{no_value}
use Rattle.world.proofs.removals.Sweep.{get-with_file_systems}
use Rattle.snapshots.proofs.Sorted.{less_from, T_left, T_right}
use Rattle.limits.proofs.Names.{in_keys, from_keys}

abbrev Entries : Type 0
Entries = List (List ℕ × FileSystem)

-- a list in order, as a map, has it as its entries
put_first : (k : List ℕ) (v : FileSystem) (es : Entries) → T (below_all name_cmp k es) → put name_cmp k v es ≡ (k, v) ∷ es
put_first k v [] h = refl
put_first k v (e ∷ es) h =
    ap (λ r. by_order r ((k, v) ∷ e ∷ es) ((e.0, v) ∷ es) (e ∷ put name_cmp k v es)) (less_from (name_cmp k e.0) (T_left (is_lt (name_cmp k e.0)) (below_all name_cmp k es) h))

none_in : (es : Entries) → length es ≡ 0 → es ≡ []
none_in [] e = refl
none_in (x ∷ es) e = absurd (omega (arith, e))

entries_of : (es : Entries) → T (is_sorted name_cmp es) → entries (from_entries {R = name_cmp} es) ≡ es
entries_of [] h = none_in (entries (from_entries {R = name_cmp} [])) (sym (len-entries (from_entries {R = name_cmp} [])) ∙ len-empty name_cmp FileSystem)
entries_of (e ∷ es) h =
    entries-insert name_order.total (from_entries {R = name_cmp} es) e.0 e.1
    ∙ ap (put name_cmp e.0 e.1) (entries_of es (T_right (below_all name_cmp e.0 es) (is_sorted name_cmp es) h))
    ∙ put_first e.0 e.1 es (T_left (below_all name_cmp e.0 es) (is_sorted name_cmp es) h)

-- the same names with an empty file system at each
abbrev bare : Entries → Entries
bare es = map (λ (e : List ℕ × FileSystem). (e.0, empty_file_system)) es

bare_below : (k : List ℕ) (es : Entries) → below_all name_cmp k (bare es) ≡ below_all name_cmp k es
bare_below k [] = refl
bare_below k (e ∷ es) = ap (λ b. is_lt (name_cmp k e.0) && b) (bare_below k es)

bare_sorted : (es : Entries) → is_sorted name_cmp (bare es) ≡ is_sorted name_cmp es
bare_sorted [] = refl
bare_sorted (e ∷ es) = λ i. bare_below e.0 es i && bare_sorted es i

bare_names : (es : Entries) → map (λ (e : List ℕ × FileSystem). e.0) (bare es) ≡ map (λ (e : List ℕ × FileSystem). e.0) es
bare_names [] = refl
bare_names (e ∷ es) = ap (λ l. e.0 ∷ l) (bare_names es)

abbrev emptied : FileSystems → FileSystems
emptied m = (with_file_systems (world_of (record { file_systems = m; group = 0 })) (λ _ _. empty_file_system)).file_systems

emptied_keys : (m : FileSystems) → keys (emptied m) ≡ keys m
emptied_keys m =
    ap (λ (es : Entries). map (λ (e : List ℕ × FileSystem). e.0) es) (entries_of (bare (entries m)) (subst T (sym (bare_sorted (entries m))) (entries_sorted m)))
    ∙ bare_names (entries m)

pub same_keys : (m n : FileSystems) → ((q : List ℕ) → is_some (get n q) ≡ is_some (get m q)) → keys n ≡ keys m
same_keys m n same =
    sym (emptied_keys n)
    ∙ ap (λ (x : FileSystems). keys x) (same_map name_order.total name_order.exact (emptied n) (emptied m) (λ q. at n q ∙ by_both (get n q) (get m q) (same q) ∙ sym (at m q)))
    ∙ emptied_keys m
  where
    at : (x : FileSystems) (q : List ℕ) → get (emptied x) q ≡ option_map (λ (_ : FileSystem). empty_file_system) (get x q)
    at x q = get-with_file_systems (world_of (record { file_systems = x; group = 0 })) (λ _ _. empty_file_system) q

    by_both : (x y : Option FileSystem) → is_some x ≡ is_some y → option_map (λ (_ : FileSystem). empty_file_system) x ≡ option_map (λ (_ : FileSystem). empty_file_system) y
    by_both None None e = refl
    by_both (Some f) (Some g) e = refl
    by_both None (Some g) e = absurd (cc)
    by_both (Some f) None e = absurd (cc)

-- what isn't there under one name isn't there in a map with the same keys
pub absent : (m n : FileSystems) → keys n ≡ keys m → (q : List ℕ) → get m q ≡ None → get n q ≡ None
absent m n names q none = at (get n q) refl
  where
    at : (x : Option FileSystem) → get n q ≡ x → get n q ≡ None
    at None e = e
    at (Some f) e = let k = from_keys m q (subst (λ (ks : List (List ℕ)). IsIn ks q) names (in_keys n q (ap is_some e))) in absurd (no_value k.0 (sym none ∙ k.1))
