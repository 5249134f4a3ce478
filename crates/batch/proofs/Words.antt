-- What a batch says of a leaf is what its changes say, and the leaves that they touch and leave.
use Rattle.std.proofs.Common.{◌≡◌, ℕ, zero, suc, ◌+◌, ◌/◌, ◌^◌, ◌<◌, ◌≤◌, Bool, true, false, cond, List, [], ◌∷◌, ◌++◌, filter, Option, Some, None, refl, sym, ap, subst, ◌∙◌, arith, inl, inr}
use Rattle.std.specs.Prelude.{is_some, ◌||◌, ◌&&◌, ◌==◌, not}
use Rattle.std.specs.Option.{option_map}
use Rattle.std.specs.List.{list_any, filter_map}
use Rattle.std.specs.Ordering.{eq_by_cmp, nat_cmp}
use Rattle.std.specs.Cmp.{nat_cmp_total, unsigned_tied}
use Rattle.std.specs.FinMap.{find, get, keys, entries, get-entries, get-from_entries, contains_key-keys, nat_cmp-IsAntisymmetric}
use Rattle.std.specs.FinMap.Entries.{find-where_key}
use Rattle.std.proofs.lemmas.Bool.{eqb-true, eq-eqb}
use Rattle.base.specs.declared.number.Key.{Key}
use Rattle.base.specs.Key.{covers, first_leaf}
use Rattle.base.specs.Map.{Cell, Map, contents}
use Rattle.base.specs.Rewrite.{Changes, is_touched, changed_contents}
use Rattle.batch.specs.declared.update.Update.{Update}
use Rattle.batch.specs.declared.update.Update.TheVariants.{Write, Punch}
use Rattle.batch.specs.Updates.{changes_of, written, punches, first_of, past_of, IsOfTree, IsBatchFrom}
use Rattle.node.specs.Entries.{key_at}
use Rattle.batch.specs.Said.{Said, silent, hole, full, first_said, said, AreInOrder}
use Rattle.batch.proofs.SaidLaws.{silent_apart, key_bound}
use Rattle.base.proofs.Contents.{get-contents, leaf_key}
use Rattle.node.proofs.Digits.{both_ways}
use Rattle.std.specs.Prelude.{slice_get}

-- a batch as updates in order
pub first_past : (u : Update) → first_of u ≤ past_of u
first_past (Write leaf bytes) = omega arith
first_past (Punch key) = omega arith

later_from : (low : ℕ) (us : List Update) → IsBatchFrom low us → (i : ℕ) (u : Update) → slice_get us i ≡ Some u → (low ≤ first_of u) × IsOfTree u
later_from low [] b i u e = cc
later_from low (v ∷ us) b zero u e = subst (λ w. (low ≤ first_of w) × IsOfTree w) (let s : v ≡ u = cc in s) (b.0, b.1)
later_from low (v ∷ us) b (suc i) u e = let r = later_from (past_of v) us b.2 i u e in let f = first_past v in let a = r.0 in let z = b.0 in (omega arith, r.1)

rising_from : (low : ℕ) (us : List Update) → IsBatchFrom low us → (i k : ℕ) (u v : Update) → i < k → slice_get us i ≡ Some u → slice_get us k ≡ Some v → past_of u ≤ first_of v
rising_from low [] b i k u v l e f = cc
rising_from low (x ∷ us) b zero zero u v l e f = absurd (omega arith)
rising_from low (x ∷ us) b zero (suc k) u v l e f = let s : x ≡ u = cc in subst (λ w. past_of w ≤ first_of v) s (later_from (past_of x) us b.2 k v f).0
rising_from low (x ∷ us) b (suc i) zero u v l e f = absurd (omega arith)
rising_from low (x ∷ us) b (suc i) (suc k) u v l e f = rising_from (past_of x) us b.2 i k u v (omega arith) e f

pub batch_in_order : (us : List Update) → IsBatchFrom 0 us → AreInOrder us
batch_in_order us b = record {
  own = λ i u e. (later_from 0 us b i u e).1;
  rising = rising_from 0 us b;
}

-- before its first leaf, and past the tree, a batch says nothing
low_silent : (low n : ℕ) (us : List Update) → IsBatchFrom low us → n < low → said us n ≡ silent
unfolding said
low_silent low n [] b h = refl
low_silent low n (u ∷ us) b h =
    let z = b.0 in let f = first_past u in
    rw (silent_apart u n (inl (omega arith))) (low_silent (past_of u) n us b.2 (omega arith))

past_tree : (u : Update) → IsOfTree u → past_of u ≤ 1048576
past_tree (Write leaf bytes) h = omega arith
past_tree (Punch key) h = key_bound key.level key.index h.level h.index

pub far_silent : (low n : ℕ) (us : List Update) → IsBatchFrom low us → 1048576 ≤ n → said us n ≡ silent
unfolding said
far_silent low n [] b h = refl
far_silent low n (u ∷ us) b h = let p = past_tree u b.1 in rw (silent_apart u n (inr (omega arith))) (far_silent (past_of u) n us b.2 h)

abbrev pub said_bytes : Said → Option (List ℕ)
said_bytes silent = None
said_bytes hole = None
said_bytes (full bytes) = Some bytes

abbrev pub said_hole : Said → Bool
said_hole silent = false
said_hole hole = true
said_hole (full bytes) = false

eqb-sym : (a b : ℕ) → (a == b) ≡ (b == a)
eqb-sym a b = both_ways _ _ (λ t. eq-eqb b a (sym (eqb-true a b t))) (λ t. eq-eqb a b (sym (eqb-true b a t)))

tied_sym : (j leaf : ℕ) → eq_by_cmp nat_cmp j leaf ≡ (leaf == j)
tied_sym j leaf = unsigned_tied j leaf ∙ eqb-sym j leaf

abbrev AreWords : List Update → ℕ → Type 0
AreWords us j = (find nat_cmp j (filter_map written us) ≡ said_bytes (said us j)) × (list_any (λ u. punches u j) us ≡ said_hole (said us j))

write_words : (us : List Update) (leaf j : ℕ) (bytes : List ℕ) (b : Bool) → (leaf == j) ≡ b → AreWords us j → (b ≡ true → said us j ≡ silent)
    → (cond (eq_by_cmp nat_cmp j leaf) (Some bytes) (find nat_cmp j (filter_map written us)) ≡ said_bytes (first_said (cond (leaf == j) (full bytes) silent) (said us j)))
    × (list_any (λ u. punches u j) us ≡ said_hole (first_said (cond (leaf == j) (full bytes) silent) (said us j)))
write_words us leaf j bytes true e w h = (rw (tied_sym j leaf, e) refl, rw e (w.1 ∙ ap said_hole (h refl)))
write_words us leaf j bytes false e w h = (rw (tied_sym j leaf, e) w.0, rw e w.1)

punch_words : (us : List Update) (key : Key) (j : ℕ) (b : Bool) → covers key j ≡ b → AreWords us j → (b ≡ true → said us j ≡ silent)
    → (find nat_cmp j (filter_map written us) ≡ said_bytes (first_said (cond (covers key j) hole silent) (said us j)))
    × ((covers key j || list_any (λ u. punches u j) us) ≡ said_hole (first_said (cond (covers key j) hole silent) (said us j)))
punch_words us key j true e w h = (rw e (w.0 ∙ ap said_bytes (h refl)), rw e refl)
punch_words us key j false e w h = (rw e w.0, rw e w.1)

-- each leaf's word, by the changes
pub words : (low : ℕ) (us : List Update) (j : ℕ) → IsBatchFrom low us → AreWords us j
unfolding said
words low [] j b = (refl, refl)
words low (Write leaf bytes ∷ us) j b =
    write_words us leaf j bytes.now (leaf == j) refl (words (leaf + 1) us j b.2) (λ t. let s : leaf ≡ j = eqb-true leaf j t in low_silent (leaf + 1) j us b.2 (omega arith))
words low (Punch key ∷ us) j b =
    punch_words us key j (covers key j) refl (words (first_leaf key + 16 ^ key.level) us j b.2)
    (λ t. let r = Rattle.batch.proofs.SaidLaws.covers_from key j t in low_silent (first_leaf key + 16 ^ key.level) j us b.2 r.1)

pub written_at : (us : List Update) (j : ℕ) → IsBatchFrom 0 us → get (changes_of us).writes j ≡ said_bytes (said us j)
unfolding changes_of
written_at us j b = get-from_entries nat_cmp_total (filter_map written us) j ∙ (words 0 us j b).0

pub punched_at : (us : List Update) (j : ℕ) → IsBatchFrom 0 us → (changes_of us).punches j ≡ said_hole (said us j)
unfolding changes_of
punched_at us j b = (words 0 us j b).1

-- leaves of lists
any_same : {A : Type 0} (p q : A → Bool) → ((x : A) → p x ≡ q x) → (xs : List A) → list_any p xs ≡ list_any q xs
any_same p q h [] = refl
any_same p q h (x ∷ xs) = λ i. h x i || any_same p q h xs i

covers_leaf : (j n : ℕ) → covers (key_at 0 j) n ≡ eq_by_cmp nat_cmp j n
covers_leaf j n = ap (λ x. x == j) (let e : n / 1 ≡ n = omega arith in e) ∙ sym (tied_sym j n)

pub leaf_of_keys : {X : Type 0} (m : Rattle.std.specs.FinMap.FinMap nat_cmp X) (j : ℕ) → list_any (covers (key_at 0 j)) (keys m) ≡ is_some (get m j)
leaf_of_keys m j = any_same _ _ (covers_leaf j) (keys m) ∙ sym (contains_key-keys m j)

and_same : (j n : ℕ) (p : ℕ → Bool) → (p n && covers (key_at 0 j) n) ≡ (p j && covers (key_at 0 j) n)
and_same j n p = by (covers (key_at 0 j) n) refl
  where
    by : (b : Bool) → covers (key_at 0 j) n ≡ b → (p n && covers (key_at 0 j) n) ≡ (p j && covers (key_at 0 j) n)
    by true e = let s : n / 1 ≡ j = eqb-true _ _ e in ap (λ x. p x && covers (key_at 0 j) n) (let t : n ≡ j = omega arith in t)
    by false e = rw e (no_and (p n) ∙ sym (no_and (p j)))
      where
        no_and : (b : Bool) → (b && false) ≡ false
        no_and true = refl
        no_and false = refl

any_and : (b : Bool) (p : ℕ → Bool) (xs : List ℕ) → list_any (λ n. b && p n) xs ≡ (b && list_any p xs)
any_and true p xs = refl
any_and false p [] = refl
any_and false p (x ∷ xs) = any_and false p xs

-- the leaves that a change touches
abbrev pub touches : Map → Changes → List ℕ
touches m c = keys c.writes ++ filter c.punches (keys (contents m))

any_append : (p : ℕ → Bool) (xs ys : List ℕ) → list_any p (xs ++ ys) ≡ (list_any p xs || list_any p ys)
any_append p [] ys = refl
any_append p (x ∷ xs) ys = ap (λ b. p x || b) (any_append p xs ys) ∙ or_assoc (p x) _ _
  where
    or_assoc : (a b c : Bool) → (a || (b || c)) ≡ ((a || b) || c)
    or_assoc true b c = refl
    or_assoc false b c = refl

any_filter : (p q : ℕ → Bool) (xs : List ℕ) → list_any p (filter q xs) ≡ list_any (λ n. q n && p n) xs
any_filter p q [] = refl
any_filter p q (x ∷ xs) = one (q x) (any_filter p q xs)
  where
    one : (b : Bool) → list_any p (filter q xs) ≡ list_any (λ n. q n && p n) xs → list_any p (cond b (x ∷ filter q xs) (filter q xs)) ≡ ((b && p x) || list_any (λ n. q n && p n) xs)
    one true e = ap (λ b. p x || b) e
    one false e = e

pub touched_by : (m : Map) (c : Changes) (k : Key) → is_touched m c k ≡ list_any (covers k) (touches m c)
unfolding is_touched
touched_by m c k = sym (any_append (covers k) (keys c.writes) (filter c.punches (keys (contents m))) ∙ ap (λ b. list_any (covers k) (keys c.writes) || b) (any_filter (covers k) c.punches (keys (contents m))))

pub leaf_touch : (m : Map) (us : List Update) (j : ℕ) → IsBatchFrom 0 us → list_any (covers (key_at 0 j)) (touches m (changes_of us)) ≡ (is_some (said_bytes (said us j)) || (said_hole (said us j) && is_some (get m (leaf_key j))))
leaf_touch m us j b =
    let c = changes_of us in
    any_append (covers (key_at 0 j)) (keys c.writes) (filter c.punches (keys (contents m)))
    ∙ (λ i. (leaf_of_keys c.writes j ∙ ap is_some (written_at us j b)) i
    || (any_filter (covers (key_at 0 j)) c.punches (keys (contents m))
    ∙ any_same _ _ (λ n. and_same j n c.punches) (keys (contents m))
    ∙ any_and (c.punches j) (covers (key_at 0 j)) (keys (contents m))
    ∙ (λ k. punched_at us j b k && (leaf_of_keys (contents m) j ∙ ap is_some (get-contents m j) ∙ some_map (get m (leaf_key j))) k)) i)
  where
    some_map : (o : Option Cell) → is_some (option_map (λ (x : Cell). x.bytes) o) ≡ is_some o
    some_map None = refl
    some_map (Some x) = refl

-- the leaves that are left
abbrev pub leaf_after : Said → Option (List ℕ) → Option (List ℕ)
leaf_after silent old = old
leaf_after hole old = None
leaf_after (full bytes) old = Some bytes

find-append : (j : ℕ) (xs ys : List (ℕ × List ℕ)) → find nat_cmp j (xs ++ ys) ≡ cond (is_some (find nat_cmp j xs)) (find nat_cmp j xs) (find nat_cmp j ys)
find-append j [] ys = refl
find-append j (x ∷ xs) ys = one (eq_by_cmp nat_cmp j x.0) (find-append j xs ys)
  where
    one : (b : Bool) → find nat_cmp j (xs ++ ys) ≡ cond (is_some (find nat_cmp j xs)) (find nat_cmp j xs) (find nat_cmp j ys)
        → cond b (Some x.1) (find nat_cmp j (xs ++ ys)) ≡ cond (is_some (cond b (Some x.1) (find nat_cmp j xs))) (cond b (Some x.1) (find nat_cmp j xs)) (find nat_cmp j ys)
    one true e = refl
    one false e = e

by_word : (w : Said) (x y : Option (List ℕ)) (b : Bool) → x ≡ said_bytes w → b ≡ said_hole w → cond (is_some x) x (cond (not b) y None) ≡ leaf_after w y
by_word silent x y b e f = λ i. cond (is_some (e i)) (e i) (cond (not (f i)) y None)
by_word hole x y b e f = λ i. cond (is_some (e i)) (e i) (cond (not (f i)) y None)
by_word (full bytes) x y b e f = λ i. cond (is_some (e i)) (e i) (cond (not (f i)) y None)

pub leaf_left : (m : Map) (us : List Update) (j : ℕ) → IsBatchFrom 0 us → get (changed_contents (contents m) (changes_of us)) j ≡ leaf_after (said us j) (get (contents m) j)
unfolding changed_contents
leaf_left m us j b =
    let c = changes_of us in
    get-from_entries nat_cmp_total _ j
    ∙ find-append j (entries c.writes) (filter (λ e. not (c.punches e.0)) (entries (contents m)))
    ∙ (λ i. cond (is_some (sym (get-entries c.writes j) i)) (sym (get-entries c.writes j) i) (find-where_key nat_cmp (λ n. not (c.punches n)) j (λ x t. ap (λ n. not (c.punches n)) (sym (nat_cmp-IsAntisymmetric j x t))) (entries (contents m)) i))
    ∙ by_word (said us j) (get c.writes j) (find nat_cmp j (entries (contents m))) (c.punches j) (written_at us j b) (punched_at us j b)
    ∙ ap (leaf_after (said us j)) (sym (get-entries (contents m) j))
