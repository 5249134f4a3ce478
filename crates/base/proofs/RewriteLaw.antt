-- A rewritten map has at each key the cell that the rule gives it.
use Rattle.std.proofs.Common.{◌≡◌, ℕ, zero, suc, ◌≤◌, ◌/◌, ◌^◌, Bool, true, false, cond, ◌||◌, List, [], ◌∷◌, ◌++◌, Option, Some, None, refl, sym, ap, subst, ◌∙◌, arith, map, ⊎_elim}
use Rattle.std.specs.Prelude.{is_some, ◌==◌}
use mathlib.Core.Bool.{true≢false}
use Rattle.std.specs.Ordering.{eq_by_cmp, is_eq}
use Rattle.std.proofs.lemmas.Bool.{or_cases, or_right, eqb-true, eq-eqb}
use Rattle.std.specs.Option.{option_map}
use Rattle.std.specs.List.{list_any, filter_map, flat_map, cons_option}
use Rattle.std.specs.Cmp.{Equal-is, tied_itself}
use Rattle.std.specs.FinMap.{find, get, keys, get-from_entries, contains_key-keys}
use Rattle.base.specs.declared.number.Key.{Key}
use Rattle.base.specs.Key.{key_cmp, covers, path, key_cmp_total, key_cmp-IsAntisymmetric}
use Rattle.base.specs.Map.{Cell, Map, Contents, contents}
use Rattle.base.specs.Rewrite.{Changes, rewrite, cell_after, new_cell, changed_contents, is_touched}

same : Key → Key → Bool
same = eq_by_cmp key_cmp

-- the entry that the rule makes of a key
entry : (Key → Option Cell) → Key → Option (Key × Cell)
entry rule k = option_map (λ cell. (k, cell)) (rule k)

-- among the entries of a list of keys, a key has what the rule gives it, where it is in the list
find-entries : (rule : Key → Option Cell) (q : Key) (ks : List Key) → find key_cmp q (filter_map (entry rule) ks) ≡ cond (list_any (same q) ks) (rule q) None
unfolding same entry
find-entries rule q [] = refl
find-entries rule q (k ∷ ks) = at (rule k) (same q k) refl refl (find-entries rule q ks)
  where
    tied : same q k ≡ true → q ≡ k
    tied e = key_cmp-IsAntisymmetric q k ((Equal-is (key_cmp q k)).0 e)

    absent : (b : Bool) (v : Option Cell) → v ≡ None → cond b v None ≡ None
    absent true v e = e
    absent false v e = refl

    at : (v : Option Cell) (b : Bool) → rule k ≡ v → same q k ≡ b → find key_cmp q (filter_map (entry rule) ks) ≡ cond (list_any (same q) ks) (rule q) None
        → find key_cmp q (cons_option (option_map (λ cell. (k, cell)) (rule k)) (filter_map (entry rule) ks)) ≡ cond (same q k || list_any (same q) ks) (rule q) None
    at None true v b ih = rw (v, b) (ih ∙ absent (list_any (same q) ks) (rule q) (ap rule (tied b) ∙ v) ∙ sym (ap rule (tied b) ∙ v))
    at None false v b ih = rw (v, b) ih
    at (Some cell) true v b ih = rw (v, b) (sym (ap rule (tied b) ∙ v))
    at (Some cell) false v b ih = rw (v, b) ih

any-append : (p : Key → Bool) (xs ys : List Key) → list_any p (xs ++ ys) ≡ (list_any p xs || list_any p ys)
any-append p [] ys = refl
any-append p (x ∷ xs) ys = ap (λ b. p x || b) (any-append p xs ys) ∙ or_assoc (p x) _ _
  where
    or_assoc : (a b c : Bool) → (a || (b || c)) ≡ ((a || b) || c)
    or_assoc true b c = refl
    or_assoc false b c = refl

six : (P : ℕ → Type 0) → P 0 → P 1 → P 2 → P 3 → P 4 → P 5 → (l : ℕ) → l ≤ 5 → P l
six P a b c d e f zero h = a
six P a b c d e f (suc zero) h = b
six P a b c d e f (suc (suc zero)) h = c
six P a b c d e f (suc (suc (suc zero))) h = d
six P a b c d e f (suc (suc (suc (suc zero)))) h = e
six P a b c d e f (suc (suc (suc (suc (suc zero))))) h = f
six P a b c d e f (suc (suc (suc (suc (suc (suc n)))))) h = absurd (Prim.omega (arith, h))

tied_itself_key : (k : Key) → same k k ≡ true
unfolding same
tied_itself_key k = ap is_eq (tied_itself key_cmp_total k)

-- the key of a level over a leaf
abbrev over : ℕ → ℕ → Key
over leaf l = record { level = l; index = leaf / 16 ^ l }

over_among : (leaf l : ℕ) (ls : List ℕ) → list_any (λ n. n == l) ls ≡ true → list_any (same (over leaf l)) (map (over leaf) ls) ≡ true
over_among leaf l [] e = absurd (true≢false (sym e))
over_among leaf l (n ∷ ns) e = ⊎_elim
    (λ t. ap (λ b. b || list_any (same (over leaf l)) (map (over leaf) ns)) (ap (λ k. same (over leaf l) (over leaf k)) (eqb-true n l t) ∙ tied_itself_key (over leaf l)))
    (λ r. or_right _ _ (over_among leaf l ns r))
    (or_cases _ _ e)

over_on_path : (leaf l : ℕ) → l ≤ 5 → list_any (same (over leaf l)) (path leaf) ≡ true
over_on_path leaf l h = over_among leaf l (0 ∷ 1 ∷ 2 ∷ 3 ∷ 4 ∷ 5 ∷ [])
    (six (λ l. list_any (λ n. n == l) (0 ∷ 1 ∷ 2 ∷ 3 ∷ 4 ∷ 5 ∷ []) ≡ true) refl refl refl refl refl refl l h)

covered : (q : Key) (leaf : ℕ) (ls : List ℕ) → list_any (same q) (map (over leaf) ls) ≡ true → covers q leaf ≡ true
unfolding same
covered q leaf [] e = absurd (true≢false (sym e))
covered q leaf (l ∷ ls) e = ⊎_elim
    (λ t. subst (λ k. covers k leaf ≡ true) (sym (key_cmp-IsAntisymmetric q (over leaf l) ((Equal-is (key_cmp q (over leaf l))).0 t))) (eq-eqb (leaf / 16 ^ l) (leaf / 16 ^ l) refl))
    (covered q leaf ls) (or_cases _ _ e)

both_ways : (a b : Bool) → (a ≡ true → b ≡ true) → (b ≡ true → a ≡ true) → a ≡ b
both_ways true true f g = refl
both_ways true false f g = sym (f refl)
both_ways false true f g = g refl
both_ways false false f g = refl

-- a key is on the path of just those leaves that it covers
on_path : (q : Key) (leaf : ℕ) → q.level ≤ 5 → list_any (same q) (path leaf) ≡ covers q leaf
on_path q leaf h = both_ways _ _ (covered q leaf (0 ∷ 1 ∷ 2 ∷ 3 ∷ 4 ∷ 5 ∷ []))
    (λ e. let at : leaf / 16 ^ q.level ≡ q.index = eqb-true _ _ e in
    let is : over leaf q.level ≡ q = λ i. record { level = q.level; index = at i } in
    subst (λ k. list_any (same k) (path leaf) ≡ true) is (over_on_path leaf q.level h))

-- a key is on the path of some of the leaves where it covers one
on_paths : (q : Key) (leaves : List ℕ) → q.level ≤ 5 → list_any (same q) (flat_map path leaves) ≡ list_any (covers q) leaves
on_paths q [] h = refl
on_paths q (leaf ∷ leaves) h = any-append (same q) (path leaf) _ ∙ (λ i. on_path q leaf h i || on_paths q leaves h i)

both_false : (a b : Bool) → (a || b) ≡ false → (a ≡ false) × (b ≡ false)
both_false true b e = absurd (true≢false e)
both_false false b e = (refl, e)

not_some : {A : Type 0} (o : Option A) → is_some o ≡ false → o ≡ None
not_some None e = refl
not_some (Some x) e = absurd (true≢false e)

no_cell : (after : Contents) (g : ℕ) (number : Key → ℕ) (k : Key) → list_any (covers k) (keys after) ≡ false → new_cell after g number k ≡ None
unfolding new_cell
no_cell after g number k e = rw e refl

pick : {A : Type 0} (b : Bool) (x y : Option A) → x ≡ None → y ≡ None → cond b x y ≡ None
pick true x y e f = e
pick false x y e f = f

-- the rule gives nothing at a key that the map was not made from
nothing : (m : Map) (c : Changes) (g : ℕ) (number : Key → ℕ) (q : Key) → q.level ≤ 5
    → list_any (same q) (keys m ++ flat_map path (keys (changed_contents (contents m) c))) ≡ false → cell_after m c g number q ≡ None
unfolding cell_after same
nothing m c g number q h e =
    let parts = both_false _ _ (sym (any-append (same q) (keys m) _) ∙ e) in
    pick (is_touched m c q) _ _ (no_cell _ g number q (sym (on_paths q _ h) ∙ parts.1)) (not_some (get m q) (contains_key-keys m q ∙ parts.0))

chosen : {A : Type 0} (b : Bool) (x : Option A) → (b ≡ false → x ≡ None) → cond b x None ≡ x
chosen true x e = refl
chosen false x e = sym (e refl)

-- a rewritten map has at each key the cell that the rule gives it
pub get-rewrite : (m : Map) (c : Changes) (g : ℕ) (number : Key → ℕ) (q : Key) → q.level ≤ 5 → get (rewrite m c g number) q ≡ cell_after m c g number q
unfolding rewrite entry
get-rewrite m c g number q h =
    get-from_entries key_cmp_total _ q ∙ find-entries (cell_after m c g number) q _ ∙ chosen _ _ (nothing m c g number q h)

-- the cell at any key
pub get-rewrite_any : (m : Map) (c : Changes) (g : ℕ) (number : Key → ℕ) (q : Key)
    → get (rewrite m c g number) q ≡ cond (list_any (eq_by_cmp key_cmp q) (keys m ++ flat_map path (keys (changed_contents (contents m) c)))) (cell_after m c g number q) None
unfolding rewrite entry same
get-rewrite_any m c g number q = get-from_entries key_cmp_total _ q ∙ find-entries (cell_after m c g number) q _

-- a key of the map is among those that a rewritten map is made from
pub absent_key : (m : Map) (ks : List Key) (q : Key) → list_any (eq_by_cmp key_cmp q) (keys m ++ ks) ≡ false → get m q ≡ None
unfolding same
absent_key m ks q e = not_some (get m q) (contains_key-keys m q ∙ (both_false _ _ (sym (any-append (same q) (keys m) ks) ∙ e)).0)
