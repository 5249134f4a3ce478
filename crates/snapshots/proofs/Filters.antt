-- Entries of which some go.
use Rattle.std.proofs.Common.{◌≡◌, ℕ, suc, ◌≤◌, Bool, true, false, cond, T, List, [], ◌∷◌, length, map, refl, sym, ap, ◌∙◌, arith}
use Rattle.std.specs.Prelude.{◌||◌, IsTrue, filter, nat_lt, nat_le}
use Rattle.std.specs.Bool.{passes}
use Rattle.std.specs.List.{list_any}
use Rattle.std.specs.declared.cmp.Ordering.{Ordering}
use Rattle.std.specs.Ordering.{is_lt}
use Rattle.std.specs.declared.alloc.Global.{Global}
use Rattle.std.specs.declared.sync.Arc.{Arc}
use Rattle.std.specs.FinMap.{is_sorted, from_sorted, from_entries}
use Rattle.std.specs.FinMap.Entries.{below_all}
use Rattle.base.specs.Names.{name_cmp}
use Rattle.model.specs.World.{Bookmark}
use Rattle.snapshots.specs.declared.bookmarks.mark.Mark.{Mark}
use Rattle.snapshots.specs.Marks.{Entry, entry_in, has_newer, without_newer}
use Rattle.snapshots.specs.SoundMarks.{AreSound}
use Rattle.snapshots.proofs.Orders.{by_name}
use Rattle.snapshots.proofs.Places.{true_from, entries_are, made_is}
use Rattle.snapshots.proofs.Sorted.{T_left, T_right, T_both}

module _ {K X : Type 0} (R : K → K → Ordering) (p : K × X → Bool) where
  below_filter : (k : K) (es : List (K × X)) → T (below_all R k es) → T (below_all R k (filter p es))
  below_filter k [] h = h
  below_filter k (e ∷ es) h = by (p e) (T_left (is_lt (R k e.0)) (below_all R k es) h) (below_filter k es (T_right (is_lt (R k e.0)) (below_all R k es) h))
    where
      by : (b : Bool) → T (is_lt (R k e.0)) → T (below_all R k (filter p es)) → T (below_all R k (cond b (e ∷ filter p es) (filter p es)))
      by true first rest = T_both (is_lt (R k e.0)) (below_all R k (filter p es)) first rest
      by false first rest = rest

  -- those that stay are in order
  pub filter_sorted : (es : List (K × X)) → T (is_sorted R es) → T (is_sorted R (filter p es))
  filter_sorted [] h = h
  filter_sorted (e ∷ es) h = by (p e) (below_filter e.0 es (T_left (below_all R e.0 es) (is_sorted R es) h)) (filter_sorted es (T_right (below_all R e.0 es) (is_sorted R es) h))
    where
      by : (b : Bool) → T (below_all R e.0 (filter p es)) → T (is_sorted R (filter p es)) → T (is_sorted R (cond b (e ∷ filter p es) (filter p es)))
      by true first rest = T_both (below_all R e.0 (filter p es)) (is_sorted R (filter p es)) first rest
      by false first rest = rest

shorter : {A : Type 0} (p : A → Bool) (xs : List A) → length (filter p xs) ≤ length xs
shorter p [] = omega arith
shorter p (x ∷ xs) = by (p x) (shorter p xs)
  where
    by : (b : Bool) → length (filter p xs) ≤ length xs → length (cond b (x ∷ filter p xs) (filter p xs)) ≤ suc (length xs)
    by true rest = omega arith
    by false rest = omega arith

-- the entries of those that stay
pub map_filter : {A B : Type 0} (f : A → B) (p : B → Bool) (xs : List A) → map f (filter (λ x. p (f x)) xs) ≡ filter p (map f xs)
map_filter f p [] = refl
map_filter f p (x ∷ xs) = by (p (f x)) (map_filter f p xs)
  where
    by : (b : Bool) → map f (filter (λ y. p (f y)) xs) ≡ filter p (map f xs) → map f (cond b (x ∷ filter (λ y. p (f y)) xs) (filter (λ y. p (f y)) xs)) ≡ cond b (f x ∷ filter p (map f xs)) (filter p (map f xs))
    by true rest = ap (λ l. f x ∷ l) rest
    by false rest = rest

-- those of a group and earlier ones
abbrev pub up_to : ℕ → List Entry → List Entry
up_to group es = filter (λ (e : Entry). nat_le e.1.group group) es

module _ (es : List Entry) (sound : AreSound es) (group : ℕ) where
  left_in_order : IsTrue (is_sorted name_cmp (up_to group es))
  left_in_order = true_from (is_sorted name_cmp (up_to group es)) (filter_sorted name_cmp (λ (e : Entry). nat_le e.1.group group) es (passes (is_sorted name_cmp es) sound.sorted))

  pub left_sound : AreSound (up_to group es)
  left_sound = record { sorted = left_in_order; few = omega (arith, shorter (λ (e : Entry). nat_le e.1.group group) es, sound.few) }

  pub left_is : from_sorted {R = name_cmp} (up_to group es) ≡ without_newer (from_sorted {R = name_cmp} es) group
  left_is =
      sym (made_is by_name (up_to group es) left_in_order)
      ∙ ap (λ l. from_entries {R = name_cmp} (up_to group l)) (sym (entries_are by_name es sound.sorted))

any_is : (group : ℕ) (xs : List (Arc Mark Global)) → list_any (λ (a : Arc Mark Global). nat_lt group (entry_in a).1.group) xs ≡ list_any (λ (b : Bookmark). nat_lt group b.group) (map (λ (e : Entry). e.1) (map entry_in xs))
any_is group [] = refl
any_is group (x ∷ xs) = ap (λ b. nat_lt group (entry_in x).1.group || b) (any_is group xs)

-- one has a later group where the map has one
pub newer_is : (group : ℕ) (xs : List (Arc Mark Global)) → AreSound (map entry_in xs) → list_any (λ (a : Arc Mark Global). nat_lt group (entry_in a).1.group) xs ≡ has_newer (from_sorted {R = name_cmp} (map entry_in xs)) group
newer_is group xs sound =
    any_is group xs
    ∙ ap (λ (es : List Entry). list_any (λ (b : Bookmark). nat_lt group b.group) (map (λ e. e.1) es)) (sym (entries_are by_name (map entry_in xs) sound.sorted))
