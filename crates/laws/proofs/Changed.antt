-- The contents of a leaf once changes are made.
use Rattle.std.proofs.Common.{◌≡◌, ℕ, Bool, true, false, cond, List, [], ◌∷◌, ◌++◌, Some, None, refl, sym, ap, ◌∙◌}
use Rattle.std.specs.Prelude.{is_some, not}
use Rattle.std.specs.List.{filter}
use Rattle.std.specs.Ordering.{nat_cmp, eq_by_cmp}
use Rattle.std.specs.Cmp.{nat_cmp_total}
use Rattle.std.specs.FinMap.{find, get, entries, get-entries, get-from_entries, get-empty, same_map, nat_cmp-IsAntisymmetric}
use Rattle.std.specs.FinMap as finmap
use Rattle.std.specs.FinMap.Entries.{find-where_key}
use Rattle.base.specs.Key.{key_cmp}
use Rattle.base.specs.Map.{Contents, Cell, contents}
use Rattle.base.specs.Rewrite.{Changes, changed_contents}
use Rattle.base.proofs.Contents.{get-contents, leaf_key}
use Rattle.std.specs.Option.{option_map}

find-append : {X : Type 0} (j : ℕ) (xs ys : List (ℕ × X)) → find nat_cmp j (xs ++ ys) ≡ cond (is_some (find nat_cmp j xs)) (find nat_cmp j xs) (find nat_cmp j ys)
find-append j [] ys = refl
find-append {X} j (x ∷ xs) ys = one (eq_by_cmp nat_cmp j x.0) (find-append j xs ys)
  where
    one : (b : Bool) → find nat_cmp j (xs ++ ys) ≡ cond (is_some (find nat_cmp j xs)) (find nat_cmp j xs) (find nat_cmp j ys)
        → cond b (Some x.1) (find nat_cmp j (xs ++ ys)) ≡ cond (is_some (cond b (Some x.1) (find nat_cmp j xs))) (cond b (Some x.1) (find nat_cmp j xs)) (find nat_cmp j ys)
    one true e = refl
    one false e = e

pub get-changed : (old : Contents) (c : Changes) (j : ℕ) → get (changed_contents old c) j ≡ cond (is_some (get c.writes j)) (get c.writes j) (cond (not (c.punches j)) (get old j) None)
unfolding changed_contents
get-changed old c j =
    get-from_entries nat_cmp_total _ j
    ∙ find-append j (entries c.writes) (filter (λ e. not (c.punches e.0)) (entries old))
    ∙ (λ i. cond (is_some (sym (get-entries c.writes j) i)) (sym (get-entries c.writes j) i) (find-where_key nat_cmp (λ n. not (c.punches n)) j (λ x t. ap (λ n. not (c.punches n)) (sym (nat_cmp-IsAntisymmetric j x t))) (entries old) i))
    ∙ (λ i. cond (is_some (get c.writes j)) (get c.writes j) (cond (not (c.punches j)) (sym (get-entries old j) i) None))

-- a map that has nothing has no contents
pub no_contents : contents finmap.empty ≡ finmap.empty
no_contents = same_map nat_cmp_total nat_cmp-IsAntisymmetric _ _
    (λ x. get-contents finmap.empty x ∙ ap (option_map (λ (c : Cell). c.bytes)) (get-empty key_cmp (leaf_key x)) ∙ sym (get-empty nat_cmp x))
