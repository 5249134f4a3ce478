-- In byte order a parent stands before its children, and the root before all.
use Rattle.std.proofs.Common.{◌≡◌, ℕ, zero, suc, ◌+◌, ◌<◌, ◌≤◌, Bool, true, false, cond, List, [], ◌∷◌, length, get_or, drop, Option, Some, None, is_some, refl, sym, ap, subst, ◌∙◌, inl, inr, ◌⊎◌, ⊎_elim, arith}
use Rattle.std.specs.Prelude.{◌==◌}
use Rattle.std.specs.List.{filter}
use Rattle.std.specs.Ordering.{ordering_then}
use Rattle.std.specs.declared.cmp.Ordering.TheVariants.{Less, Equal}
use Rattle.std.specs.Cmp.{tied_itself, nat_cmp_total}
use Rattle.std.specs.Cmp.Lexicographic.{nat_list_cmp_total}
use Rattle.std.specs.FinMap.{get, entries, keys, len, entries_sorted, get-entries, len-entries}
use Rattle.std.proofs.lemmas.Bool.{cases_lt}
use Rattle.std.proofs.lemmas.List.{length-map, get_or-map}
use Rattle.base.specs.Surveys.{IsIn}
use Rattle.base.specs.Names.{name_cmp, slash, before_slash, parent_of, root_name}
use Rattle.model.specs.World.{FileSystem, empty_file_system}
use Rattle.model.specs.Hierarchy.{FileSystems, IsHierarchy}
use Rattle.world.proofs.lists.Maps.{same_value, no_value}
use Rattle.world.proofs.lineage.Put.{parent_there}
use Rattle.limits.proofs.Names.{is_child, child_is, in_keys}
use Rattle.limits.specs.Charges.{children_from}
use Rattle.snapshots.proofs.Sorted.{sorted_at, find_at}

-- ---- a parent is below its children

one_more : (b : ℕ) (front bs : List ℕ) → name_cmp front bs ≡ Less → name_cmp (b ∷ front) (b ∷ bs) ≡ Less
one_more b front bs e = ap (λ r. ordering_then r (name_cmp front bs)) (tied_itself nat_cmp_total b) ∙ e

pub parent_below : (child parent : List ℕ) → parent_of child ≡ Some parent → name_cmp parent child ≡ Less
parent_below [] parent e = absurd (no_value parent e)
parent_below (b ∷ bs) parent e = at (parent_of bs) refl (b == slash) refl e (parent_below bs)
  where
    at : (p : Option (List ℕ)) → parent_of bs ≡ p → (t : Bool) → (b == slash) ≡ t → before_slash b (parent_of bs) ≡ Some parent
        → ((q : List ℕ) → parent_of bs ≡ Some q → name_cmp q bs ≡ Less) → name_cmp parent (b ∷ bs) ≡ Less
    at None h true t f ih = subst (λ q. name_cmp q (b ∷ bs) ≡ Less) (same_value [] parent (sym (rw (h, t) refl) ∙ f)) refl
    at None h false t f ih = absurd (no_value parent (sym (rw (h, t) refl) ∙ f))
    at (Some front) h true t f ih =
        subst (λ q. name_cmp q (b ∷ bs) ≡ Less) (same_value (b ∷ front) parent (sym (ap (before_slash b) h) ∙ f)) (one_more b front bs (ih front h))
    at (Some front) h false t f ih =
        subst (λ q. name_cmp q (b ∷ bs) ≡ Less) (same_value (b ∷ front) parent (sym (ap (before_slash b) h) ∙ f)) (one_more b front bs (ih front h))

not_below : (k : List ℕ) → name_cmp k k ≡ Less → ⊥
not_below k e = let t : Equal ≡ Less = sym (tied_itself nat_list_cmp_total k) ∙ e in cc

not_both : (j k : List ℕ) → name_cmp j k ≡ Less → name_cmp k j ≡ Less → ⊥
not_both j k e f = not_below j (nat_list_cmp_total.trans j k j e f)

-- ---- keys by their places

-- what a filter keeps of the rest, where it keeps nothing before
filter_rest : {A : Type 0} (p : A → Bool) (d : A) (n : ℕ) (xs : List A) → ((i : ℕ) → i < n → i < length xs → p (get_or xs i d) ≡ false) → filter p (drop n xs) ≡ filter p xs
filter_rest p d zero xs h = refl
filter_rest p d (suc n) [] h = refl
filter_rest p d (suc n) (x ∷ xs) h =
    filter_rest p d n xs (λ i l m. h (suc i) (omega (arith, l)) (omega (arith, m)))
    ∙ sym (ap (λ b. cond b (x ∷ filter p xs) (filter p xs)) (h zero (omega arith) (omega arith)))

pub place_in : (xs : List (List ℕ)) (x : List ℕ) → IsIn xs x → (i : ℕ) × (i < length xs) × (get_or xs i [] ≡ x)
place_in [] x h = absurd h
place_in (y ∷ ys) x h = ⊎_elim (λ is. (zero, omega arith, sym is)) (λ k. let r = place_in ys x k in (suc r.0, (let l = r.1 in omega (arith, l)), r.2)) h

-- an entry that no place past the end has
abbrev pub no_entry : List ℕ × FileSystem
no_entry = ([], empty_file_system)

module _ (m : FileSystems) where
  pub keys_long : length (keys m) ≡ length (entries m)
  keys_long = length-map (entries m) (λ (e : List ℕ × FileSystem). e.0)

  pub keys_count : len m ≡ length (keys m)
  keys_count = len-entries m ∙ sym keys_long

  pub key_is : (i : ℕ) → i < length (keys m) → get_or (keys m) i [] ≡ (get_or (entries m) i no_entry).0
  key_is i lt = let l = keys_long in get_or-map (λ (e : List ℕ × FileSystem). e.0) (entries m) i no_entry [] (omega (arith, l, lt))

  -- an earlier key is below a later one
  keys_rise : (i j : ℕ) → i < j → j < length (keys m) → name_cmp (get_or (keys m) i []) (get_or (keys m) j []) ≡ Less
  keys_rise i j lt within =
      let l = keys_long in
      rw (key_is i (omega (arith, lt, within)), key_is j within) (sorted_at nat_list_cmp_total (entries m) (entries_sorted m) i j no_entry lt (omega (arith, l, within)))

  -- each key has one place
  pub one_place : (i j : ℕ) → i < length (keys m) → j < length (keys m) → get_or (keys m) i [] ≡ get_or (keys m) j [] → i ≡ j
  one_place i j li lj e = ⊎_elim
      (λ lt. absurd (not_below (get_or (keys m) j []) (subst (λ q. name_cmp q (get_or (keys m) j []) ≡ Less) e (keys_rise i j lt lj))))
      (λ ge. ⊎_elim
      (λ lt. absurd (not_below (get_or (keys m) j []) (subst (λ q. name_cmp (get_or (keys m) j []) q ≡ Less) e (keys_rise j i lt li))))
      (λ le. omega (arith, ge, le))
      (cases_lt j i))
      (cases_lt i j)

  -- a child stands after its parent
  pub child_later : (i j : ℕ) → i < length (keys m) → j < length (keys m) → parent_of (get_or (keys m) i []) ≡ Some (get_or (keys m) j []) → j < i
  child_later i j li lj e = ⊎_elim (λ lt. lt) (λ ge. absurd (at (cases_lt i j) ge)) (cases_lt j i)
    where
      below : name_cmp (get_or (keys m) j []) (get_or (keys m) i []) ≡ Less
      below = parent_below (get_or (keys m) i []) (get_or (keys m) j []) e

      at : (i < j) ⊎ (j ≤ i) → i ≤ j → ⊥
      at (inl lt) ge = not_both (get_or (keys m) i []) (get_or (keys m) j []) (keys_rise i j lt lj) below
      at (inr le) ge = let is : i ≡ j = omega (arith, ge, le) in
          not_below (get_or (keys m) j []) (subst (λ n. name_cmp (get_or (keys m) j []) (get_or (keys m) n []) ≡ Less) is below)

  -- so all its children stand from the place after its own on
  pub children_behind : (i j : ℕ) → i ≤ j + 1 → j < length (keys m)
      → children_from (keys m) i (get_or (keys m) j []) ≡ filter (is_child (get_or (keys m) j [])) (keys m)
  children_behind i j le lj = filter_rest (is_child (get_or (keys m) j [])) [] i (keys m) (λ n l within. none n l within (is_child (get_or (keys m) j []) (get_or (keys m) n [])) refl)
    where
      none : (n : ℕ) → n < i → n < length (keys m) → (b : Bool) → is_child (get_or (keys m) j []) (get_or (keys m) n []) ≡ b
          → is_child (get_or (keys m) j []) (get_or (keys m) n []) ≡ false
      none n l within true e =
          let k = child_later n j within lj (child_is (get_or (keys m) j []) (get_or (keys m) n []) e) in
          absurd (omega (arith, k, l, le))
      none n l within false e = e

  -- the entry at a place is found by its key
  pub entry_at : (i : ℕ) → i < length (keys m) → get m (get_or (keys m) i []) ≡ Some (get_or (entries m) i no_entry).1
  entry_at i lt =
      let l = keys_long in
      rw (key_is i lt) (get-entries m (get_or (entries m) i no_entry).0 ∙ find_at nat_list_cmp_total (entries m) (entries_sorted m) i no_entry (omega (arith, l, lt)))

  module _ (good : IsHierarchy m) where
    pub not_empty : zero < length (keys m)
    not_empty = let p = place_in (keys m) root_name (in_keys m root_name good.root) in let l = p.1 in omega (arith, l)

    -- the root stands first
    pub root_first : get_or (keys m) zero [] ≡ root_name
    root_first = ⊎_elim (λ is. is)
        (λ h.
        let p = parent_there m (get_or (keys m) zero []) h in
        let q = place_in (keys m) p.parent (in_keys m p.parent p.there) in
        let l = child_later zero q.0 not_empty q.1 (p.named ∙ ap Some (sym q.2)) in
        absurd (omega (arith, l)))
        (good.parents (get_or (keys m) zero []) (ap is_some (entry_at zero not_empty)))
