-- Two rows among others that are changed where they stand.
use Rattle.std.proofs.Common.{◌≡◌, ◌<◌, ◌+◌, ◌-◌, ℕ, zero, suc, List, [], ◌∷◌, ◌++◌, length, get_or, set, map, refl, sym, ap, ◌∙◌, arith, length-append}
use Rattle.std.proofs.Math.ListN.{get_or-append}
use Rattle.std.proofs.Math.Seq.{map-set_same}
use Rattle.std.proofs.lemmas.List.{get_or_read, get_or-map, get_or-append_right, length-map, length-set, map-append, map-set, set-append_left, set-append_right}
use Rattle.std.proofs.lemmas.Simd.{map-map}
use Rattle.std.specs.Prelude.{Result, Ok, Err, OnOk, OnErr}
use Rattle.std.specs.Arc.{arc_value}
use Rattle.std.specs.declared.sync.Arc.{Arc}
use Rattle.std.specs.declared.alloc.Global.{Global}
use Rattle.model.specs.World.{SnapId}
use Rattle.file_system.specs.Promotions.{promoted_row, demoted_row}
use Rattle.file_system.specs.Rows.{Row, entry_in, entry_of, new_row}
use Rattle.datasets.specs.Promoted.{row_at, promoted_at}
use Rattle.datasets.proofs.Rows.{row_of}

-- what a look at a place finds owns the row there
pub row_read : (items : List (Arc Row Global)) (i : ℕ) (a : Arc Row Global) → a ≡ get_or items i a → i < length items → row_at (map arc_value items) i ≡ arc_value a
row_read items i a is within =
    sym (get_or_read (map arc_value items) i (arc_value a) (omega (arith, length-map items arc_value)) (row_of arc_value items i a is) (new_row []))

-- what stands at a place is what a look there finds
pub read_itself : {A : Type 0} (xs : List A) (i : ℕ) (d : A) → i < length xs → get_or xs i d ≡ get_or xs i (get_or xs i d)
read_itself [] i d within = absurd (omega arith)
read_itself (x ∷ xs) zero d within = refl
read_itself (x ∷ xs) (suc i) d within = read_itself xs i d (omega arith)

-- names and file systems are those of the rows
entries_of : (items : List (Arc Row Global)) → map entry_in items ≡ map entry_of (map arc_value items)
entries_of items = sym (map-map entry_of arc_value items)

-- equal rows have equal names and file systems
pub same_entries : (items new : List (Arc Row Global)) → map arc_value new ≡ map arc_value items → map entry_in new ≡ map entry_in items
same_entries items new is = entries_of new ∙ ap (map entry_of) is ∙ sym (entries_of items)

-- ---- in two parts, of which the second begins with one of the two

-- what holds of a result in either case
pub both_ok : {T E A B C : Type 0} (r : Result T E) → (A → B → C) → OnOk r A → OnOk r B → OnOk r C
both_ok (Ok v) f a b = f a b
both_ok (Err e) f a b = tt

pub both_err : {T E A B C : Type 0} (r : Result T E) → (A → B → C) → OnErr r A → OnErr r B → OnErr r C
both_err (Ok v) f a b = tt
both_err (Err e) f a b = f a b

module _ (rows low high : List (Arc Row Global)) (n i : ℕ) (is : rows ≡ low ++ high) (long : length low ≡ n) (within : i < n) (n_within : n < length rows) where
  all_long : length rows ≡ length low + length high
  all_long = ap length is ∙ length-append low high

  at_seam : n - n ≡ 0
  at_seam = omega arith

  -- the row in the first part
  pub front_is : (x : Arc Row Global) → row_at (map arc_value rows) i ≡ arc_value (get_or low i x)
  front_is x =
      get_or-map arc_value rows i x (new_row []) (omega (arith, all_long))
      ∙ ap (λ l. arc_value (get_or l i x)) is
      ∙ ap arc_value (get_or-append low high x i (omega (arith, long)))

  -- and that at the head of the second
  pub back_is : (x : Arc Row Global) → row_at (map arc_value rows) n ≡ arc_value (get_or high 0 x)
  back_is x =
      get_or-map arc_value rows n x (new_row []) n_within
      ∙ ap (λ l. arc_value (get_or l n x)) is
      ∙ ap arc_value (get_or-append_right low high n n x long (omega arith))
      ∙ ap (λ z. arc_value (get_or high z x)) at_seam

  -- equal rows there are the same rows
  pub parts_same : (x y u v : Arc Row Global) → arc_value x ≡ arc_value (get_or low i u) → arc_value y ≡ arc_value (get_or high 0 v)
      → map arc_value (set low i x ++ set high 0 y) ≡ map arc_value rows
  parts_same x y u v e f =
      map-append arc_value (set low i x) (set high 0 y)
      ∙ (λ k. map-set_same arc_value low i x u e k ++ map-set_same arc_value high 0 y v f k)
      ∙ sym (map-append arc_value low high)
      ∙ ap (map arc_value) (sym is)

  -- two others there
  module _ (x y : Arc Row Global) (p d : Row) (x_is : arc_value x ≡ p) (y_is : arc_value y ≡ d) where
    parts_are : map arc_value (set low i x ++ set high 0 y) ≡ set (map arc_value low) i p ++ set (map arc_value high) 0 d
    parts_are =
        map-append arc_value (set low i x) (set high 0 y)
        ∙ (λ k. map-set arc_value low i x k ++ map-set arc_value high 0 y k)
        ∙ (λ k. set (map arc_value low) i (x_is k) ++ set (map arc_value high) 0 (y_is k))

    low_long : length (map arc_value low) ≡ n
    low_long = length-map low arc_value ∙ long

    rows_are : map arc_value low ++ map arc_value high ≡ map arc_value rows
    rows_are = sym (map-append arc_value low high) ∙ ap (map arc_value) (sym is)

    -- the later of them is set first
    pub later_first : map arc_value (set low i x ++ set high 0 y) ≡ set (set (map arc_value rows) n d) i p
    later_first =
        parts_are
        ∙ sym (set-append_left (map arc_value low) (set (map arc_value high) 0 d) i p (omega (arith, low_long)))
        ∙ ap (λ z. set (map arc_value low ++ set (map arc_value high) z d) i p) (sym at_seam)
        ∙ ap (λ l. set l i p) (sym (set-append_right (map arc_value low) (map arc_value high) n n d low_long (omega arith)))
        ∙ ap (λ l. set (set l n d) i p) rows_are

    -- or the earlier
    pub earlier_first : map arc_value (set low i x ++ set high 0 y) ≡ set (set (map arc_value rows) i p) n d
    earlier_first =
        parts_are
        ∙ ap (λ z. set (map arc_value low) i p ++ set (map arc_value high) z d) (sym at_seam)
        ∙ sym (set-append_right (set (map arc_value low) i p) (map arc_value high) n n d (length-set (map arc_value low) i p ∙ low_long) (omega arith))
        ∙ ap (λ l. set l n d) (sym (set-append_left (map arc_value low) (map arc_value high) i p (omega (arith, low_long))))
        ∙ ap (λ l. set (set l i p) n d) rows_are

-- ---- after a promote

module _ (items new : List (Arc Row Global)) (i j : ℕ) (a b : Arc Row Global) (a_is : a ≡ get_or items i a) (i_within : i < length items)
    (b_is : b ≡ get_or items j b) (j_within : j < length items) (id : SnapId) (is : map arc_value new ≡ promoted_at (map arc_value items) i j id) where
  first : row_at (map arc_value items) i ≡ arc_value a
  first = row_read items i a a_is i_within

  second : row_at (map arc_value items) j ≡ arc_value b
  second = row_read items j b b_is j_within

  pub rows_after : map arc_value new ≡ set (set (map arc_value items) j (demoted_row (arc_value a) (arc_value b) id)) i (promoted_row (arc_value a) (arc_value b) id)
  rows_after = is ∙ (λ k. set (set (map arc_value items) j (demoted_row (first k) (second k) id)) i (promoted_row (first k) (second k) id))

  pub entries_after :
      map entry_in new ≡ set (set (map entry_in items) j (entry_of (demoted_row (arc_value a) (arc_value b) id))) i (entry_of (promoted_row (arc_value a) (arc_value b) id))
  entries_after =
      entries_of new
      ∙ ap (map entry_of) rows_after
      ∙ map-set entry_of (set (map arc_value items) j (demoted_row (arc_value a) (arc_value b) id)) i (promoted_row (arc_value a) (arc_value b) id)
      ∙ ap (λ l. set l i (entry_of (promoted_row (arc_value a) (arc_value b) id))) (map-set entry_of (map arc_value items) j (demoted_row (arc_value a) (arc_value b) id))
      ∙ ap (λ l. set (set l j (entry_of (demoted_row (arc_value a) (arc_value b) id))) i (entry_of (promoted_row (arc_value a) (arc_value b) id))) (sym (entries_of items))
