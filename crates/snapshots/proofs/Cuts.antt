-- What an edit at a name's place leaves.
use Rattle.std.proofs.Common.{◌≡◌, ℕ, ◌<◌, ◌≤◌, Bool, true, false, List, [], ◌∷◌, ◌++◌, length, set, slice_get, Option, Some, None, cond, refl, sym, ap, subst, ◌∙◌, arith}
use Rattle.std.specs.Prelude.{IfSome, insert, remove}
use Rattle.std.specs.List.{find}
use Rattle.std.specs.List.Sorted.{IsPartitionPoint}
use Rattle.std.specs.Cmp.Lexicographic.{same_text}
use Rattle.std.specs.Option.{IsSome, option_or}
use Rattle.std.proofs.lemmas.List.Edits.{insert_end}
use Rattle.std.proofs.lemmas.Option.{slice_get_within}
use Rattle.base.specs.Names.{same_name}
use Rattle.snapshots.specs.declared.kept.Kept.{Kept}
use Rattle.shared_list.specs.declared.place.Place.{Place}
use Rattle.shared_list.specs.Elements.{flattened}
use Rattle.shared_list.specs.Places.{IsItem, place_index}
use Rattle.shared_list.proofs.Points.{behind_all, inside}
use Rattle.snapshots.specs.Order.{IsPlaceFor, if_named, is_below, is_named, names_rise}
use Rattle.snapshots.proofs.Indexes.{or_none}
use Rattle.snapshots.proofs.Names.{place_at, found, found_none, none_past, rises_after, found_after, rises_with, found_with, removed_rises, found_without, is_inside}

-- a snapshot is there by its name, and the others are as they were
pub record IsPut (ks new : List Kept) (y : Kept) : Type 0 where
  pub rises : names_rise new ≡ true
  pub finds : (n : List ℕ) → find (is_named n) new ≡ cond (is_named n y) (Some y) (find (is_named n) ks)

-- a snapshot is there by its name unless another was, and the others are as they were
pub record IsAdded (ks new : List Kept) (y : Kept) : Type 0 where
  pub rises : names_rise new ≡ true
  pub finds : (n : List ℕ) → find (is_named n) new ≡ option_or (find (is_named n) ks) (cond (is_named n y) (Some y) None)

added_new : (ks new : List Kept) (y : Kept) → find (is_named y.snapshot.name) ks ≡ None → IsPut ks new y → IsAdded ks new y
added_new ks new y none put = record { rises = put.rises; finds = λ n. put.finds n ∙ by n (is_named n y) refl }
  where
    by : (n : List ℕ) (t : Bool) → is_named n y ≡ t → cond t (Some y) (find (is_named n) ks) ≡ option_or (find (is_named n) ks) (cond t (Some y) None)
    by n true e =
        let same : y.snapshot.name ≡ n = same_text y.snapshot.name n (sym e) in
        ap (λ o. option_or o (Some y)) (sym (ap (λ m. find (is_named m) ks) (sym same) ∙ none))
    by n false e = sym (or_none (find (is_named n) ks))

-- another of its name stays
added_none : (ks : List Kept) (x y : Kept) → names_rise ks ≡ true → find (is_named y.snapshot.name) ks ≡ Some x → IsAdded ks ks y
added_none ks x y rises there = record { rises = rises; finds = λ n. by n (is_named n y) refl }
  where
    by : (n : List ℕ) (t : Bool) → is_named n y ≡ t → find (is_named n) ks ≡ option_or (find (is_named n) ks) (cond t (Some y) None)
    by n true e =
        let same : y.snapshot.name ≡ n = same_text y.snapshot.name n (sym e) in
        let is : find (is_named n) ks ≡ Some x = ap (λ m. find (is_named m) ks) (sym same) ∙ there in
        is ∙ ap (λ o. option_or o (Some y)) (sym is)
    by n false e = sym (or_none (find (is_named n) ks))

-- none is there by that name, and the others are as they were
pub record IsTaken (ks new : List Kept) (q : List ℕ) : Type 0 where
  pub rises : names_rise new ≡ true
  pub finds : (n : List ℕ) → find (is_named n) new ≡ cond (same_name q n) None (find (is_named n) ks)

-- what the first that isn't below a name says of it
pub nearest_is : (q : List ℕ) (ks : List Kept) (i : ℕ) (o : Option Kept) → names_rise ks ≡ true → IsPartitionPoint (λ k. is_below q k ≡ true) (λ k. is_below q k ≡ false) ks i → o ≡ slice_get ks i → find (is_named q) ks ≡ if_named q o
nearest_is q ks i None rises point is =
    let past = behind_all ks i (sym is) in
    let end = place_at q ks (length ks) (omega arith) ((λ k d ge lt. point.0 k d ge (omega (arith, past, lt))), (λ k d ge lt. absurd (omega (arith, ge, lt)))) in
    found_none q ks (length ks) end.before (none_past ks (length ks) (omega arith))
nearest_is q ks i (Some k) rises point is =
    let lt = slice_get_within ks i k (sym is) in
    let place = place_at q ks i (omega (arith, lt)) point in
    found q ks i k rises place.before place.after (sym is)

-- a place isn't behind the end
pub within : (xs : List (List Kept)) (o : Option Place) → IfSome o (λ p. IsItem (λ v. v) xs p.k p.at) → place_index (λ v. v) xs o ≤ length (flattened xs)
within xs None item = omega arith
within xs (Some p) item = let lt = inside (λ v. v) xs p.k p.at item.chunk item.within in omega (arith, lt)

-- snapshots in chunks, and what an edit at the place of a name leaves of them
module _ (xs : List (List Kept)) (ks : List Kept) (all : flattened xs ≡ ks) (invariant : names_rise (flattened xs) ≡ true) (q : List ℕ) where
  rises : names_rise ks ≡ true
  rises = ap names_rise (sym all) ∙ invariant

  -- behind them
  module _ (point : IsPlaceFor q (flattened xs) (length (flattened xs))) where
    end : IsPlaceFor q ks (length ks)
    end = subst (λ l. IsPlaceFor q l (length l)) all point

    absent : find (is_named q) ks ≡ None
    absent = found_none q ks (length ks) end.before (none_past ks (length ks) (omega arith))

    pub not_past : IsSome (find (is_named q) ks) → ⊥
    not_past there = is_inside ks q (length ks) rises end there (omega arith)

    pub put_end : (y : Kept) (new : List Kept) → q ≡ y.snapshot.name → new ≡ flattened xs ++ y ∷ [] → IsAdded ks new y
    put_end y new its put =
        let behind : new ≡ insert ks (length ks) y = put ∙ ap (λ l. l ++ y ∷ []) all ∙ sym (insert_end ks y) in
        let none : find (is_named y.snapshot.name) ks ≡ None = ap (λ n. find (is_named n) ks) (sym its) ∙ absent in
        added_new ks new y none record {
          rises = rises_after ks new q y (length ks) rises its end none behind;
          finds = found_after ks new q y (length ks) rises its end none behind;
        }

  -- at the place of one of them
  module _ (p : Place) (item : IsItem (λ v. v) xs p.k p.at) (point : IsPlaceFor q (flattened xs) (place_index (λ v. v) xs (Some p))) where
    abbrev i : ℕ
    i = place_index (λ v. v) xs (Some p)

    lt : i < length ks
    lt = subst (λ l. i < length l) all (inside (λ v. v) xs p.k p.at item.chunk item.within)

    place : IsPlaceFor q ks i
    place = subst (λ l. IsPlaceFor q l i) all point

    got : (x : Kept) → slice_get (flattened xs) i ≡ Some x → find (is_named q) ks ≡ cond (is_named q x) (Some x) None
    got x at = found q ks i x rises place.before place.after (ap (λ l. slice_get l i) (sym all) ∙ at)

    module _ (x y : Kept) (at : slice_get (flattened xs) i ≡ Some x) (its : q ≡ y.snapshot.name) where
      named : find (is_named y.snapshot.name) ks ≡ cond (is_named q x) (Some x) None
      named = ap (λ n. find (is_named n) ks) (sym its) ∙ got x at

      -- one is put in where the one that stands there has another name
      pub put_in : is_named q x ≡ false → (new : List Kept) → new ≡ insert (flattened xs) i y → IsAdded ks new y
      put_in other new put =
          let none : find (is_named y.snapshot.name) ks ≡ None = named ∙ ap (λ b. cond b (Some x) None) other in
          let in_place : new ≡ insert ks i y = put ∙ ap (λ l. insert l i y) all in
          added_new ks new y none record {
            rises = rises_after ks new q y i rises its place none in_place;
            finds = found_after ks new q y i rises its place none in_place;
          }

      -- and stays out where that one has its name
      pub put_none : is_named q x ≡ true → IsAdded ks ks y
      put_none same = added_none ks x y rises (named ∙ ap (λ b. cond b (Some x) None) same)

    pub set_in : (y : Kept) → q ≡ y.snapshot.name → IsSome (find (is_named y.snapshot.name) ks) → (new : List Kept) → new ≡ set (flattened xs) i y → IsPut ks new y
    set_in y its there new put =
        let there_too : IsSome (find (is_named q) ks) = subst (λ n. IsSome (find (is_named n) ks)) (sym its) there in
        let in_place : new ≡ set ks i y = put ∙ ap (λ l. set l i y) all in
        record {
          rises = rises_with ks q i rises place there_too new y its lt in_place;
          finds = found_with ks q i rises place there_too new y its lt in_place;
        }

    pub taken : IsSome (find (is_named q) ks) → (new : List Kept) → new ≡ remove (flattened xs) i → IsTaken ks new q
    taken there new rest =
        let in_place : new ≡ remove ks i = rest ∙ ap (λ l. remove l i) all in
        record {
          rises = ap names_rise in_place ∙ removed_rises ks i rises;
          finds = found_without ks q i rises place there new lt in_place;
        }
