-- The new blocks of a change of a tree are the writes of the change.
use Rattle.std.proofs.Common.{◌≡◌, ℕ, true, List, [], ◌∷◌, Some, map, ⊎_elim, refl, sym, ap, subst, ◌∙◌, true≢false, unwrap_or}
use Rattle.std.specs.Prelude.{is_some}
use Rattle.std.specs.Option.{option_map}
use Rattle.std.specs.Ordering.{is_eq}
use Rattle.std.specs.Cmp.{tied_itself}
use Rattle.std.specs.List.{AllByRecursion}
use Rattle.std.specs.List.Sorted.{IsStrictlySortedBy}
use Rattle.std.specs.declared.cmp.Ordering.TheVariants.{Less}
use Rattle.std.specs.FinMap.{get}
use Rattle.base.specs.declared.number.Key.{Key}
use Rattle.base.specs.Key.{key_cmp, key_cmp_total}
use Rattle.base.specs.Map.{Map, Cell}
use Rattle.base.specs.Rewrite.{Changes, rewrite, is_touched}
use Rattle.base.specs.Surveys.{IsIn, AreDifferent, IsMadeKey}
use Rattle.base.proofs.Presence.{same_presence}
use Rattle.base.proofs.Untouched.{rewrite_makes}
use Rattle.node.proofs.Options.{some_of}
use Rattle.node.specs.Unique.{IsUnique}
use Rattle.zalloc.specs.declared.BlockState.{BlockState}
use Rattle.tree.specs.Change.{Shown, IsChange}
use Rattle.image.specs.ImageBlocks.{bytes_of}
use Rattle.image.specs.BlockWrites.{writes_of, AreWritesOf}
use Rattle.batch.proofs.Listing.{in_map, from_map, different_by}

-- keys that rise differ
rises_once : (ks : List Key) → IsStrictlySortedBy key_cmp ks → AreDifferent ks
unfolding IsStrictlySortedBy
rises_once [] h = tt
rises_once (k ∷ ks) h = (not_later k ks h.0, rises_once ks h.1)
  where
    not_later : (k : Key) (ks : List Key) → AllByRecursion (λ y. key_cmp k y ≡ Less) ks → ¬ (IsIn ks k)
    not_later k [] a i = i
    not_later k (y ∷ ys) a i = ⊎_elim
        (λ (e : k ≡ y). let less : key_cmp k k ≡ Less = ap (key_cmp k) e ∙ a.0 in true≢false (sym (ap is_eq (tied_itself key_cmp_total k)) ∙ ap is_eq less))
        (λ (r : IsIn ys k). not_later k ys a.1 r) i

first_of : (m : Map) (made : List (Key × ℕ)) → map (λ (w : ℕ × List ℕ). w.0) (writes_of m made) ≡ map (λ (e : Key × ℕ). e.1) made
first_of m [] = refl
first_of m (e ∷ es) = ap (λ ns. e.1 ∷ ns) (first_of m es)

module _ (m : Map) (c : Changes) (g young : ℕ) (states : List BlockState) (v : Shown) (is : IsChange m c g young states v) (unique : IsUnique v.new) where
  new_at : (k : Key) → get v.new k ≡ get (rewrite m c g is.number) k
  new_at k = ap (λ n. get n k) is.new_is

  made_at : (k : Key) (x : Cell) → is_touched m c k ≡ true → get v.new k ≡ Some x → IsMadeKey m c k × (is.number k ≡ x.number)
  made_at k x t there =
      let at : get (rewrite m c g is.number) k ≡ Some x = sym (new_at k) ∙ there in
      ((t, same_presence m c 0 g (λ _. 0) is.number k ∙ ap is_some at), sym (rewrite_makes m c g is.number k x t at).0)

  record IsCellOf (k : Key) (n : ℕ) : Type 0 where
    cell : Cell
    touched : is_touched m c k ≡ true
    there : get v.new k ≡ Some cell
    number : n ≡ cell.number

  cell_of_made : (k : Key) (n : ℕ) → IsIn v.made (k, n) → IsCellOf k n
  cell_of_made k n i =
      let a = (is.made k n).0 i in
      let some = some_of (get (rewrite m c g is.number) k) (same_presence m c g 0 is.number (λ _. 0) k ∙ a.0.1) in
      let there = new_at k ∙ some.1 in
      record { cell = some.0; touched = a.0.0; there = there; number = sym a.1 ∙ (made_at k some.0 a.0.0 there).1 }

  pub made_writes : AreWritesOf v.new (is_touched m c) (writes_of v.new v.made)
  made_writes = record {
    each = λ k x t there.
        let a = made_at k x t there in
        let i = in_map (λ (e : Key × ℕ). (e.1, unwrap_or (option_map (bytes_of v.new e.0) (get v.new e.0)) [])) v.made (k, is.number k) ((is.made k (is.number k)).1 (a.0, refl)) in
        let bytes = ap (λ o. unwrap_or (option_map (bytes_of v.new k) o) []) there in
        subst (IsIn (writes_of v.new v.made)) (λ z. (a.1 z, bytes z)) i;
    only = λ w i.
        let e = from_map (λ (e : Key × ℕ). (e.1, unwrap_or (option_map (bytes_of v.new e.0) (get v.new e.0)) [])) v.made w i in
        let x = cell_of_made e.0.0 e.0.1 e.1 in
        (e.0.0, x.cell, x.touched, x.there, sym (ap (λ (w : ℕ × List ℕ). w.0) e.2) ∙ x.number);
    once =
        subst AreDifferent (sym (first_of v.new v.made))
        (different_by (λ (e : Key × ℕ). e.0) (λ (e : Key × ℕ). e.1) v.made (rises_once (map (λ (e : Key × ℕ). e.0) v.made) is.made_order) (λ a b i j same.
        let x = cell_of_made a.0 a.1 i in
        let y = cell_of_made b.0 b.1 j in
        unique.one a.0 b.0 x.cell y.cell x.there y.there (sym x.number ∙ same ∙ y.number)));
  }
