-- What the map of a well-shaped forest has at a key.
use Rattle.std.proofs.Common.{◌≡◌, ◌≢◌, ℕ, zero, suc, ◌+◌, ◌*◌, ◌/◌, ◌%◌, ◌-◌, ◌^◌, ◌<◌, ◌≤◌, List, [], ◌∷◌, ◌++◌, length, Option, Some, None, true, false, cond, refl, sym, ap, subst, ◌∙◌, arith, add-one, suc, length-append, ⊎_elim}
use Rattle.std.proofs.lemmas.Bool.{cases_lt}
use Rattle.std.proofs.Math.Nat.{pow-suc, div-eq_of_lt, mod-eq_of_lt, add-div_right, add-mod_right, mul-le-mul_right, mul-lt-mul_of_pos_right}
use Rattle.std.proofs.lemmas.Nat.{pow-add}
use Rattle.std.specs.Ordering.{nat_cmp, is_eq, ordering_then, eq_by_cmp}
use Rattle.std.specs.Cmp.{nat_cmp_is, tied_itself}
use Rattle.std.specs.declared.cmp.Ordering.{Ordering}
use Rattle.std.specs.declared.cmp.Ordering.TheVariants.{Less, Equal, Greater}
use Rattle.std.specs.FinMap as fin
use Rattle.base.specs.declared.number.Key.{Key}
use Rattle.base.specs.Map.{Cell}
use Rattle.node.specs.Shape.{Forest, done, gap, grown, Part, cell_below, forest_of}
use Rattle.base.specs.Key.{first_leaf, key_cmp, key_cmp_total}
use Rattle.node.specs.Entries.{key_at, entries_from, cell_count, IsWell, IsShaped, cell_in, map_of}
use Rattle.node.proofs.Order.{Placed, placed, below_placed, span_positive, entries_sorted}

find : Key → List (Key × Cell) → Option Cell
find = fin.find key_cmp

nat_untied : (a b : ℕ) → a ≢ b → is_eq (nat_cmp a b) ≡ false
nat_untied a b ne =
    ⊎_elim
    (λ lt. let e : Less ≡ nat_cmp a b = nat_cmp_is _ _ Less lt in ap is_eq (sym e))
    (λ le. let gt : b < a = omega arith in let e : Greater ≡ nat_cmp a b = nat_cmp_is _ _ Greater gt in ap is_eq (sym e))
    (cases_lt a b)

untied_left : (r s : Ordering) → is_eq r ≡ false → is_eq (ordering_then r s) ≡ false
untied_left Less s e = refl
untied_left Equal s e = cc
untied_left Greater s e = refl

untied_right : (r s : Ordering) → is_eq s ≡ false → is_eq (ordering_then r s) ≡ false
untied_right Less s e = refl
untied_right Equal s e = e
untied_right Greater s e = refl

untied_leaf : (x y : Key) → first_leaf x ≢ first_leaf y → eq_by_cmp key_cmp x y ≡ false
untied_leaf x y h = untied_left _ _ (nat_untied _ _ h)

untied_level : (x y : Key) → x.level ≢ y.level → eq_by_cmp key_cmp x y ≡ false
untied_level x y h = let ne : y.level ≢ x.level = omega arith in untied_right (nat_cmp (first_leaf x) (first_leaf y)) _ (nat_untied y.level x.level ne)

find_skip : (k : Key) (xs ys : List (Key × Cell)) → fin.find key_cmp k xs ≡ None → fin.find key_cmp k (xs ++ ys) ≡ fin.find key_cmp k ys
find_skip k [] ys e = refl
find_skip k (x ∷ xs) ys e =
    elim (eq_by_cmp key_cmp k x.0) as (λ b. cond b (Some x.1) (fin.find key_cmp k xs) ≡ None → cond b (Some x.1) (fin.find key_cmp k (xs ++ ys)) ≡ fin.find key_cmp k ys) [
      | true ↦ λ h. cc
      | false ↦ λ h. find_skip k xs ys h
    ] e

find_only : (k : Key) (xs ys : List (Key × Cell)) → fin.find key_cmp k ys ≡ None → fin.find key_cmp k (xs ++ ys) ≡ fin.find key_cmp k xs
find_only k [] ys e = e
find_only k (x ∷ xs) ys e =
    elim (eq_by_cmp key_cmp k x.0) as (λ b. cond b (Some x.1) (fin.find key_cmp k (xs ++ ys)) ≡ cond b (Some x.1) (fin.find key_cmp k xs)) [
      | true ↦ refl
      | false ↦ find_only k xs ys e
    ]

-- a key that lies outside is not found
pub not_before : (k : Key) (low high top : ℕ) (es : List (Key × Cell)) → first_leaf k < low → Placed low high top es → fin.find key_cmp k es ≡ None
not_before k low high top [] h p = refl
not_before k low high top (e ∷ es) h p = let ne : first_leaf k ≢ first_leaf e.0 = omega arith in rw (untied_leaf k e.0 ne) (not_before k low high top es h p.3)

not_after : (k : Key) (low high top : ℕ) (es : List (Key × Cell)) → high ≤ first_leaf k → Placed low high top es → fin.find key_cmp k es ≡ None
not_after k low high top [] h p = refl
not_after k low high top (e ∷ es) h p = let ne : first_leaf k ≢ first_leaf e.0 = omega arith in rw (untied_leaf k e.0 ne) (not_after k low high top es h p.3)

pub not_above : (k : Key) (low high top : ℕ) (es : List (Key × Cell)) → top < k.level → Placed low high top es → fin.find key_cmp k es ≡ None
not_above k low high top [] h p = refl
not_above k low high top (e ∷ es) h p = let ne : k.level ≢ e.0.level = omega arith in rw (untied_level k e.0 ne) (not_above k low high top es h p.3)

-- the next place's part of an index
pub later_place : (n s : ℕ) → 0 < s → s ≤ n → n / s ≡ suc ((n - s) / s)
later_place n s h le = let e : n ≡ (n - s) + s = omega arith in let d : ((n - s) + s) / s ≡ (n - s) / s + 1 = add-div_right (n - s) h in ap (λ x. x / s) e ∙ d ∙ add-one _

later_rest : (n s : ℕ) → 0 < s → s ≤ n → n % s ≡ (n - s) % s
later_rest n s h le = let e : n ≡ (n - s) + s = omega arith in ap (λ x. x % s) e ∙ add-mod_right (n - s) s

pub cell_in-gap : (d : ℕ) (r : Forest) (q : ℕ) → 16 ^ d ≤ q → cell_in d (gap r) q ≡ cell_in d r (q - 16 ^ d)
cell_in-gap d r q h = rw (later_place q (16 ^ d) (span_positive d) h, later_rest q (16 ^ d) (span_positive d) h) refl

pub cell_in-gap_here : (d : ℕ) (r : Forest) (q : ℕ) → q < 16 ^ d → cell_in d (gap r) q ≡ None
cell_in-gap_here d r q h = rw (div-eq_of_lt h) refl

pub cell_in-grown : (d : ℕ) (c : Cell) (b r : Forest) (q : ℕ) → 16 ^ d ≤ q → cell_in d (grown c b r) q ≡ cell_in d r (q - 16 ^ d)
cell_in-grown d c b r q h = rw (later_place q (16 ^ d) (span_positive d) h, later_rest q (16 ^ d) (span_positive d) h) refl

pub cell_in-grown_here : (d : ℕ) (c : Cell) (b r : Forest) (q : ℕ) → q < 16 ^ d → cell_in d (grown c b r) q ≡ cell_below d (record { cell = c; below = b }) q
cell_in-grown_here d c b r q h = rw (div-eq_of_lt h, mod-eq_of_lt h) refl

-- an index and the first leaf that it covers
pub scale_lt : (a b l d : ℕ) → a < b * 16 ^ d → a * 16 ^ l < b * 16 ^ (l + d)
scale_lt a b l d h = let e : b * 16 ^ (l + d) ≡ b * (16 ^ l * 16 ^ d) = ap (λ x. b * x) (pow-add 16 l d) in let m = mul-lt-mul_of_pos_right h (span_positive l) in omega (arith, e, m)

scale_le : (a b l d : ℕ) → b * 16 ^ d ≤ a → b * 16 ^ (l + d) ≤ a * 16 ^ l
scale_le a b l d h = let e : b * 16 ^ (l + d) ≡ b * (16 ^ l * 16 ^ d) = ap (λ x. b * x) (pow-add 16 l d) in let m = mul-le-mul_right (16 ^ l) h in omega (arith, e, m)

-- the same at the first place, where it is present
found_here : (l d j idx : ℕ) (c : Cell) (b : Forest) (ys : List (Key × Cell)) → IsShaped (l + d) c b → IsWell (l + d - 1) c.birth b → j * 16 ^ d ≤ idx → idx < (j + 1) * 16 ^ d → ((d' : ℕ) → d ≡ suc d' → fin.find key_cmp (key_at l idx) (entries_from (l + d - 1) (16 * j) b) ≡ cell_in d' b (idx - 16 * j * 16 ^ d')) → fin.find key_cmp (key_at l idx) ys ≡ None → fin.find key_cmp (key_at l idx) ((key_at (l + d) j, c) ∷ (entries_from (l + d - 1) (16 * j) b ++ ys)) ≡ cell_below d (record { cell = c; below = b }) (idx - j * 16 ^ d)
found_here l zero j idx c b ys shape w h lt below none =
    let same : key_at l idx ≡ key_at (l + 0) j = let ei : idx ≡ j = omega arith in let el : l ≡ l + 0 = omega arith in cc in
    let tied : eq_by_cmp key_cmp (key_at l idx) (key_at (l + 0) j) ≡ true = ap (λ x. eq_by_cmp key_cmp (key_at l idx) x) (sym same) ∙ ap is_eq (tied_itself key_cmp_total (key_at l idx)) in
    rw tied refl
found_here l (suc d) j idx c b ys shape w h lt below none =
    let ne : l ≢ l + suc d = omega arith in
    let p : j * 16 ^ suc d ≡ j * (16 ^ d * 16) = ap (λ x. j * x) (pow-suc 16 d) in
    let e : idx - 16 * j * 16 ^ d ≡ idx - j * 16 ^ suc d = omega (arith, p) in
    rw (untied_level (key_at l idx) (key_at (l + suc d) j) ne)
    (find_only (key_at l idx) (entries_from (l + suc d - 1) (16 * j) b) ys none ∙ below d refl ∙ ap (cell_in d b) e)

-- what stands at a key of a level, d below the places
pub found : (l d j g idx : ℕ) (f : Forest) → IsWell (l + d) g f → j * 16 ^ d ≤ idx → fin.find key_cmp (key_at l idx) (entries_from (l + d) j f) ≡ cell_in d f (idx - j * 16 ^ d)
found l d j g idx done w h = refl
found l d j g idx (gap r) w h =
    ⊎_elim
    (λ lt. let here : idx - j * 16 ^ d < 16 ^ d = omega arith in
    not_before (key_at l idx) _ _ _ _ (scale_lt idx (j + 1) l d lt) (placed (l + d) (j + 1) g r w) ∙ sym (cell_in-gap_here d r _ here))
    (λ le. let past : 16 ^ d ≤ idx - j * 16 ^ d = omega arith in
    let e : idx - j * 16 ^ d - 16 ^ d ≡ idx - (j + 1) * 16 ^ d = omega arith in
    found l d (j + 1) g idx r w le ∙ sym (cell_in-gap d r _ past ∙ ap (cell_in d r) e))
    (cases_lt idx ((j + 1) * 16 ^ d))
found l d j g idx (grown c b r) w h =
    ⊎_elim
    (λ lt. let here : idx - j * 16 ^ d < 16 ^ d = omega arith in
    found_here l d j idx c b _ w.1 w.2 h lt
    (λ d' e.
    let lower : l + d - 1 ≡ l + d' = omega (arith, e) in
    let p : j * 16 ^ d ≡ j * (16 ^ d' * 16) = ap (λ x. j * x) (ap (λ x. 16 ^ x) e ∙ pow-suc 16 d') in
    let start : 16 * j * 16 ^ d' ≤ idx = omega (arith, p, h) in
    rw lower (found l d' (16 * j) c.birth idx b (rw lower at w.2) start))
    (not_before (key_at l idx) _ _ _ _ (scale_lt idx (j + 1) l d lt) (placed (l + d) (j + 1) g r w.3)) ∙ sym (cell_in-grown_here d c b r _ here))
    (λ le. let past : 16 ^ d ≤ idx - j * 16 ^ d = omega arith in
    let e : idx - j * 16 ^ d - 16 ^ d ≡ idx - (j + 1) * 16 ^ d = omega arith in
    let after : (j + 1) * 16 ^ (l + d) ≤ idx * 16 ^ l = scale_le idx (j + 1) l d le in
    let positive = span_positive (l + d) in
    let ne : first_leaf (key_at l idx) ≢ first_leaf (key_at (l + d) j) = omega (arith, positive, after) in
    rw (untied_leaf (key_at l idx) (key_at (l + d) j) ne)
    (find_skip (key_at l idx) (entries_from (l + d - 1) (16 * j) b) _ (not_after (key_at l idx) _ _ _ _ after (below_placed (l + d) j c b w.1 (placed (l + d - 1) (16 * j) c.birth b w.2)))
    ∙ found l d (j + 1) g idx r w.3 le ∙ sym (cell_in-grown d c b r _ past ∙ ap (cell_in d r) e)))
    (cases_lt idx ((j + 1) * 16 ^ d))

-- what the map of a whole tree has at a key
pub get-map_of : (d idx g : ℕ) (f : Forest) → d ≤ 5 → IsWell 5 g f → fin.get (map_of f) (key_at (5 - d) idx) ≡ cell_in d f idx
unfolding map_of
get-map_of d idx g f h w =
    let e : 5 ≡ 5 - d + d = omega arith in
    let start : 0 * 16 ^ d ≤ idx = omega arith in
    fin.get-from_sorted key_cmp (entries_from 5 0 f) (key_at (5 - d) idx) (entries_sorted 5 0 g f w)
    ∙ ap (λ n. fin.find key_cmp (key_at (5 - d) idx) (entries_from n 0 f)) e
    ∙ found (5 - d) d 0 g idx f (subst (λ n. IsWell n g f) e w) start
    ∙ ap (cell_in d f) (omega arith)

-- the map of a whole tree has nothing above the root
pub get-map_of_high : (l idx g : ℕ) (f : Forest) → 5 < l → IsWell 5 g f → fin.get (map_of f) (key_at l idx) ≡ None
unfolding map_of
get-map_of_high l idx g f h w =
    fin.get-from_sorted key_cmp (entries_from 5 0 f) (key_at l idx) (entries_sorted 5 0 g f w)
    ∙ not_above (key_at l idx) _ _ _ _ h (placed 5 0 g f w)

-- the map has as many entries as the forest has cells
length-entries : (l j : ℕ) (f : Forest) → length (entries_from l j f) ≡ cell_count f
length-entries l j done = refl
length-entries l j (gap r) = length-entries l (j + 1) r
length-entries l j (grown c b r) =
    let e = length-append (entries_from (l - 1) (16 * j) b) (entries_from l (j + 1) r) in
    let eb = length-entries (l - 1) (16 * j) b in
    let er = length-entries l (j + 1) r in
    omega (arith, e, eb, er)

pub len-map_of : (g : ℕ) (f : Forest) → IsWell 5 g f → fin.len (map_of f) ≡ cell_count f
unfolding map_of
len-map_of g f w = fin.len-entries (map_of f) ∙ ap length (fin.entries-from_sorted key_cmp (entries_from 5 0 f) (entries_sorted 5 0 g f w)) ∙ length-entries 5 0 f

pub get-map_at : (k : Key) (g : ℕ) (f : Forest) → k.level ≤ 5 → IsWell 5 g f → fin.get (map_of f) k ≡ cell_in (5 - k.level) f k.index
get-map_at k g f h w =
    let e : k.level ≡ 5 - (5 - k.level) = omega arith in
    let low : 5 - k.level ≤ 5 = omega arith in
    ap (λ n. fin.get (map_of f) (key_at n k.index)) e ∙ get-map_of (5 - k.level) k.index g f low w

-- a forest of one place has nothing past what that place covers
pub cell_in-past : (d q : ℕ) {A : Type 0} (part : A → Part) (o : Option A) → 16 ^ d ≤ q → cell_in d (forest_of part (o ∷ [])) q ≡ None
cell_in-past d q part None h = rw (later_place q (16 ^ d) (span_positive d) h) refl
cell_in-past d q part (Some a) h = rw (later_place q (16 ^ d) (span_positive d) h) refl

pub cell_in-root : (d q : ℕ) {A : Type 0} (part : A → Part) (a : A) → q < 16 ^ d → cell_in d (forest_of part (Some a ∷ [])) q ≡ cell_below d (part a) q
cell_in-root d q part a h = cell_in-grown_here d (part a).cell (part a).below done q h

pub map_of-empty : map_of (gap done) ≡ fin.empty
unfolding map_of
map_of-empty = fin.empty_of_len (map_of (gap done)) (fin.len-entries (map_of (gap done)) ∙ ap length (fin.entries-from_sorted key_cmp [] tt))
