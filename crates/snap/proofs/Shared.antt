-- Rows of a table that others share, and tests of them.
use Rattle.std.proofs.Common.{◌≡◌, Bool, List, [], ◌∷◌, ◌||◌, map, refl, sym, ap, ◌∙◌}
use Rattle.std.specs.Arc.{arc_value}
use Rattle.std.specs.declared.sync.Arc.{Arc}
use Rattle.std.specs.declared.alloc.Global.{Global}
use Rattle.std.specs.List.{list_any}
use Rattle.std.specs.FinMap.{entries}
use Rattle.datasets.specs.Rows.{Row, Entry, entry_of, entry_in}
use Rattle.datasets.specs.Clones.{row_in}
use Rattle.world.specs.Worlds.{FileSystems}

-- the file systems that shared rows are of
pub shared_are : (m : FileSystems) (xs : List (Arc Row Global)) → map (arc_value {X = Row}) xs ≡ map (row_in m) (entries m) → map entry_in xs ≡ entries m
shared_are m xs e = sym (mapped xs) ∙ ap (map entry_of) e ∙ back (entries m)
  where
    mapped : (ys : List (Arc Row Global)) → map entry_of (map (arc_value {X = Row}) ys) ≡ map entry_in ys
    mapped [] = refl
    mapped (y ∷ ys) = ap (λ l. entry_in y ∷ l) (mapped ys)

    back : (es : List Entry) → map entry_of (map (row_in m) es) ≡ es
    back [] = refl
    back (x ∷ es) = ap (λ l. x ∷ l) (back es)

-- a test of what elements stand for
pub any_value : {A B : Type 0} (value : A → B) (p : B → Bool) (xs : List A) → list_any (λ x. p (value x)) xs ≡ list_any p (map value xs)
any_value value p [] = refl
any_value value p (x ∷ xs) = ap (λ b. p (value x) || b) (any_value value p xs)
