-- The children of a file system, among rows.
use Rattle.std.proofs.Common.{◌≡◌, ℕ, Bool, true, false, cond, ◌||◌, List, [], ◌∷◌, refl, sym, ap, ◌∙◌, map, length, arith}
use Rattle.std.specs.Prelude.{nat_lt}
use Rattle.std.specs.List.{list_any, filter}
use Rattle.std.proofs.lemmas.Bool.{lt-ltb}
use Rattle.datasets.specs.Clones.{row_in}
use Rattle.file_system.specs.Rows.{FileSystems, Entry, Row}

-- whether one of some names passes a test
any_name : (p : List ℕ → Bool) (ns : List (List ℕ)) → list_any p ns ≡ nat_lt 0 (length (filter p ns))
any_name p [] = refl
any_name p (n ∷ ns) = by_test (p n) (any_name p ns)
  where
    by_test : (b : Bool) → list_any p ns ≡ nat_lt 0 (length (filter p ns)) → (b || list_any p ns) ≡ nat_lt 0 (length (cond b (n ∷ filter p ns) (filter p ns)))
    by_test true ih = sym (lt-ltb 0 (length (n ∷ filter p ns)) (omega arith))
    by_test false ih = ih

-- the names of some rows
any_row : (p : List ℕ → Bool) (rows : List Row) → list_any (λ r. p r.name) rows ≡ list_any p (map (λ r. r.name) rows)
any_row p [] = refl
any_row p (r ∷ rows) = ap (λ b. p r.name || b) (any_row p rows)

-- they are those of the file systems
pub names_are : (m : FileSystems) (es : List Entry) → map (λ (r : Row). r.name) (map (row_in m) es) ≡ map (λ e. e.0) es
names_are m [] = refl
names_are m (e ∷ es) = ap (λ l. e.0 ∷ l) (names_are m es)

-- those that are shared
any_value : {A : Type 0} (value : A → Row) (p : List ℕ → Bool) (xs : List A) → list_any (λ x. p (value x).name) xs ≡ list_any (λ r. p r.name) (map value xs)
any_value value p [] = refl
any_value value p (x ∷ xs) = ap (λ b. p (value x).name || b) (any_value value p xs)

pub any_child : {A : Type 0} (value : A → Row) (p : List ℕ → Bool) (xs : List A) (m : FileSystems) (es : List Entry) → map value xs ≡ map (row_in m) es
    → list_any (λ x. p (value x).name) xs ≡ nat_lt 0 (length (filter p (map (λ e. e.0) es)))
any_child value p xs m es is =
    any_value value p xs ∙ ap (list_any (λ r. p r.name)) is ∙ any_row p (map (row_in m) es) ∙ ap (list_any p) (names_are m es) ∙ any_name p (map (λ e. e.0) es)
