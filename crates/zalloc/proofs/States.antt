-- The states of the numbers of two sets.
use Rattle.std.proofs.Common.{◌≡◌, ◌≢◌, ℕ, suc, zero, ◌<◌, ◌≤◌, Bool, true, false, ◌||◌, List, [], ◌∷◌, length, map, set, get_or, replicate, Some, None, arith, refl, ap, sym, ◌∙◌, subst, ⊎_elim, length-set}
use Rattle.std.specs.Prelude.{slice_get, slice_set, count_by}
use Rattle.std.proofs.lemmas.Option.{slice_get_within}
use Rattle.std.proofs.lemmas.Bool.{cases_eq, true≢false}
use Rattle.std.proofs.lemmas.List.{get_or-set_same, get_or-set_other, length-replicate, length-map}
use Rattle.std.proofs.lemmas.List.FromFn.{length-map-range_with_len, get_or-map-range_with_len, fill_by_all}
use Rattle.std.proofs.lemmas.List.Folds.{sum_by-replicate}
use Rattle.std.proofs.lemmas.List.Sums.{count_by-le-length}
use Rattle.zalloc.specs.declared.BlockState.{BlockState}
use Rattle.zalloc.specs.declared.BlockState.TheVariants.{Free, Allocated, Waiting}
use Rattle.zalloc.specs.declared.set.NumberSet.{NumberSet}
use Rattle.zalloc.specs.States.{is_free, after_group}
use Rattle.zalloc.specs.Sets.{is_held, IsPut}
use Rattle.zalloc.specs.Allocator.{state_from, states_from}
use Rattle.zalloc.proofs.Counting.{one, count_set}

pub states_len : (x y : NumberSet) → length (states_from x y) ≡ x.numbers
states_len x y = length-map-range_with_len (λ k. state_from (is_held x k) (is_held y k)) 0 x.numbers

read_at : (xs : List BlockState) (k : ℕ) (d : BlockState) → k < length xs → slice_get xs k ≡ Some (get_or xs k d)
read_at [] k d h = absurd (omega arith)
read_at (x ∷ xs) zero d h = refl
read_at (x ∷ xs) (suc k) d h = read_at xs k d (omega arith)

at_state : (x y : NumberSet) (k : ℕ) → k < x.numbers → get_or (states_from x y) k Allocated ≡ state_from (is_held x k) (is_held y k)
at_state x y k h = get_or-map-range_with_len (λ k. state_from (is_held x k) (is_held y k)) 0 x.numbers k k Allocated h (omega arith)

pub state_get : (x y : NumberSet) (k : ℕ) → k < x.numbers → slice_get (states_from x y) k ≡ Some (state_from (is_held x k) (is_held y k))
state_get x y k h = read_at (states_from x y) k Allocated (omega (arith, states_len x y)) ∙ ap Some (at_state x y k h)

past_end : (xs : List BlockState) (k : ℕ) → length xs ≤ k → slice_get xs k ≡ None
past_end [] k h = refl
past_end (x ∷ xs) zero h = absurd (omega arith)
past_end (x ∷ xs) (suc k) h = past_end xs k (omega arith)

pub state_none : (x y : NumberSet) (k : ℕ) → x.numbers ≤ k → slice_get (states_from x y) k ≡ None
state_none x y k h = past_end (states_from x y) k (omega (arith, states_len x y))

pub within_states : (x y : NumberSet) (k : ℕ) (s : BlockState) → slice_get (states_from x y) k ≡ Some s → k < x.numbers
within_states x y k s e = omega (arith, slice_get_within (states_from x y) k s e, states_len x y)

some_same : (a b : BlockState) → Some a ≡ Some b → a ≡ b
some_same a b e = cc

state_read : (x y : NumberSet) (k : ℕ) (s : BlockState) → slice_get (states_from x y) k ≡ Some s → state_from (is_held x k) (is_held y k) ≡ s
state_read x y k s e = some_same (state_from (is_held x k) (is_held y k)) s (sym (state_get x y k (within_states x y k s e)) ∙ e)

free_is : (f w : Bool) → state_from f w ≡ Free → f ≡ true
free_is true w e = refl
free_is false true e = cc
free_is false false e = cc

allocated_is : (f w : Bool) → state_from f w ≡ Allocated → (f ≡ false) × (w ≡ false)
allocated_is true w e = cc
allocated_is false true e = cc
allocated_is false false e = (refl, refl)

pub free_read : (x y : NumberSet) (k : ℕ) → slice_get (states_from x y) k ≡ Some Free → is_held x k ≡ true
free_read x y k e = free_is (is_held x k) (is_held y k) (state_read x y k Free e)

pub allocated_read : (x y : NumberSet) (k : ℕ) → slice_get (states_from x y) k ≡ Some Allocated → (is_held x k ≡ false) × (is_held y k ≡ false)
allocated_read x y k e = allocated_is (is_held x k) (is_held y k) (state_read x y k Allocated e)

pub not_free : (x y : NumberSet) (k : ℕ) → (k < x.numbers → is_held x k ≡ false) → slice_get (states_from x y) k ≡ Some Free → ⊥
not_free x y k h e = true≢false (sym (free_read x y k e) ∙ h (within_states x y k Free e))

pub free_get : (x y : NumberSet) (k : ℕ) → k < x.numbers → is_held x k ≡ true → slice_get (states_from x y) k ≡ Some Free
free_get x y k h e = state_get x y k h ∙ ap (λ b. Some (state_from b (is_held y k))) e

pub same_states : (x y : NumberSet) (xs : List BlockState) → length xs ≡ x.numbers → ((k : ℕ) → k < x.numbers → get_or xs k Allocated ≡ state_from (is_held x k) (is_held y k)) → xs ≡ states_from x y
same_states x y xs n h = fill_by_all (λ k. state_from (is_held x k) (is_held y k)) xs x.numbers Allocated n h

-- one number changes
pub states_change : (x y v w : NumberSet) (b : ℕ) (s : BlockState) → v.numbers ≡ x.numbers → b < x.numbers → state_from (is_held v b) (is_held w b) ≡ s → ((k : ℕ) → k < x.numbers → k ≢ b → (is_held v k ≡ is_held x k) × (is_held w k ≡ is_held y k)) → states_from v w ≡ slice_set (states_from x y) b s
states_change x y v w b s n lt e rest =
    sym (same_states v w (slice_set (states_from x y) b s) (length-set (states_from x y) b s ∙ states_len x y ∙ sym n) (λ k h.
    ⊎_elim
    (λ (p : k ≡ b). subst (λ j. get_or (set (states_from x y) b s) j Allocated ≡ state_from (is_held v j) (is_held w j)) (sym p) (get_or-set_same (states_from x y) b s Allocated (omega (arith, lt, states_len x y)) ∙ sym e))
    (λ (p : k ≡ b → ⊥). let r = rest k (omega (arith, h, n)) p in get_or-set_other (states_from x y) b k s Allocated p ∙ at_state x y k (omega (arith, h, n)) ∙ (λ i. state_from (sym r.0 i) (sym r.1 i)))
    (cases_eq k b)))

pub same_sets : (x y v w : NumberSet) → v.numbers ≡ x.numbers → ((k : ℕ) → k < x.numbers → (is_held v k ≡ is_held x k) × (is_held w k ≡ is_held y k)) → states_from v w ≡ states_from x y
same_sets x y v w n h = sym (same_states v w (states_from x y) (states_len x y ∙ sym n) (λ k p. let r = h k (omega (arith, p, n)) in at_state x y k (omega (arith, p, n)) ∙ (λ i. state_from (sym r.0 i) (sym r.1 i))))

free_at : (n k : ℕ) → k < n → get_or (replicate n Free) k Allocated ≡ Free
free_at zero k h = absurd (omega arith)
free_at (suc n) zero h = refl
free_at (suc n) (suc k) h = free_at n k (omega arith)

pub all_free : (x y : NumberSet) → ((k : ℕ) → k < x.numbers → is_held x k ≡ true) → states_from x y ≡ replicate x.numbers Free
all_free x y h = sym (same_states x y (replicate x.numbers Free) (length-replicate x.numbers Free) (λ k p. free_at x.numbers k p ∙ ap (λ b. state_from b (is_held y k)) (sym (h k p))))

pub count_free : (n : ℕ) → count_by is_free (replicate n Free) ≡ n
count_free n = omega (arith, sum_by-replicate (λ z. one (is_free z)) n Free)

after_from : (f w : Bool) → after_group (state_from f w) ≡ state_from (f || w) false
after_from true w = refl
after_from false true = refl
after_from false false = refl

after_at : (xs : List BlockState) (k : ℕ) → get_or (map after_group xs) k Allocated ≡ after_group (get_or xs k Allocated)
after_at [] k = refl
after_at (x ∷ xs) zero = refl
after_at (x ∷ xs) (suc k) = after_at xs k

pub states_end : (x y v w : NumberSet) → v.numbers ≡ x.numbers → ((k : ℕ) → k < x.numbers → is_held v k ≡ (is_held x k || is_held y k)) → ((k : ℕ) → k < x.numbers → is_held w k ≡ false) → states_from v w ≡ map after_group (states_from x y)
states_end x y v w n f e =
    sym (same_states v w (map after_group (states_from x y)) (length-map (states_from x y) after_group ∙ states_len x y ∙ sym n) (λ k h.
    let p = f k (omega (arith, h, n)) in
    let q = e k (omega (arith, h, n)) in
    after_at (states_from x y) k ∙ ap after_group (at_state x y k (omega (arith, h, n))) ∙ after_from (is_held x k) (is_held y k) ∙ (λ i. state_from (sym p i) (sym q i))))

-- one number is taken out of a set, or added to one
pub taken : (x y v : NumberSet) (b : ℕ) → IsPut b false x v → ((k : ℕ) → k < x.numbers → is_held x k ≡ true → is_held y k ≡ false) → slice_get (states_from x y) b ≡ Some Free → states_from v y ≡ slice_set (states_from x y) b Allocated
taken x y v b a apart e =
    let lt = within_states x y b Free e in
    states_change x y v y b Allocated a.numbers lt
    (λ i. state_from (a.here i) (apart b lt (free_read x y b e) i))
    (λ k h ne. (a.there k ne, refl))

pub still_apart : (x y v : NumberSet) (b : ℕ) → IsPut b false x v → ((k : ℕ) → k < x.numbers → is_held x k ≡ true → is_held y k ≡ false) → (k : ℕ) → k < v.numbers → is_held v k ≡ true → is_held y k ≡ false
still_apart x y v b a apart k h e =
    ⊎_elim
    (λ (p : k ≡ b). absurd (true≢false (sym e ∙ ap (is_held v) p ∙ a.here)))
    (λ (p : k ≡ b → ⊥). apart k (omega (arith, h, a.numbers)) (sym (a.there k p) ∙ e))
    (cases_eq k b)

pub let_wait : (x y w : NumberSet) (b : ℕ) → IsPut b true y w → slice_get (states_from x y) b ≡ Some Allocated → states_from x w ≡ slice_set (states_from x y) b Waiting
let_wait x y w b a e =
    states_change x y x w b Waiting refl (within_states x y b Allocated e)
    (λ i. state_from ((allocated_read x y b e).0 i) (a.here i))
    (λ k h ne. (refl, a.there k ne))

pub wait_apart : (x y w : NumberSet) (b : ℕ) → IsPut b true y w → ((k : ℕ) → k < x.numbers → is_held x k ≡ true → is_held y k ≡ false) → slice_get (states_from x y) b ≡ Some Allocated → (k : ℕ) → k < x.numbers → is_held x k ≡ true → is_held w k ≡ false
wait_apart x y w b a apart e k h f =
    let ne : k ≢ b = λ q. true≢false (sym f ∙ ap (is_held x) q ∙ (allocated_read x y b e).0) in
    a.there k ne ∙ apart k h f

pub let_free : (x y v : NumberSet) (b : ℕ) → IsPut b true x v → slice_get (states_from x y) b ≡ Some Allocated → states_from v y ≡ slice_set (states_from x y) b Free
let_free x y v b a e =
    states_change x y v y b Free a.numbers (within_states x y b Allocated e)
    (λ i. state_from (a.here i) (is_held y b))
    (λ k h ne. (a.there k ne, refl))

pub free_apart : (x y v : NumberSet) (b : ℕ) → IsPut b true x v → ((k : ℕ) → k < x.numbers → is_held x k ≡ true → is_held y k ≡ false) → slice_get (states_from x y) b ≡ Some Allocated → (k : ℕ) → k < v.numbers → is_held v k ≡ true → is_held y k ≡ false
free_apart x y v b a apart e k h f =
    ⊎_elim
    (λ (p : k ≡ b). ap (is_held y) p ∙ (allocated_read x y b e).1)
    (λ (p : k ≡ b → ⊥). apart k (omega (arith, h, a.numbers)) (sym (a.there k p) ∙ f))
    (cases_eq k b)

-- a number that isn't counted leaves room
pub room_for : (p : BlockState → Bool) (xs : List BlockState) (i : ℕ) (s t : BlockState) → slice_get xs i ≡ Some s → p s ≡ false → p t ≡ true → count_by p xs < length xs
room_for p xs i s t e a b =
    let f = ap {B = ℕ} one a in
    let g = ap {B = ℕ} one b in
    omega (arith, count_set p xs i s t e, count_by-le-length p (slice_set xs i t), length-set xs i t, f, g)

-- the sets of two allocators that show the same state
same_parts : (f w g v : Bool) → (f ≡ true → w ≡ false) → (g ≡ true → v ≡ false) → state_from f w ≡ state_from g v → (f ≡ g) × (w ≡ v)
same_parts true w true v a b e = (refl, a refl ∙ sym (b refl))
same_parts true w false true a b e = cc
same_parts true w false false a b e = cc
same_parts false true true v a b e = cc
same_parts false false true v a b e = cc
same_parts false true false true a b e = (refl, refl)
same_parts false true false false a b e = cc
same_parts false false false true a b e = cc
same_parts false false false false a b e = (refl, refl)

pub same_held : (x y v w : NumberSet) (k : ℕ) → v.numbers ≡ x.numbers → ((j : ℕ) → j < x.numbers → is_held x j ≡ true → is_held y j ≡ false) → ((j : ℕ) → j < v.numbers → is_held v j ≡ true → is_held w j ≡ false) → k < x.numbers → slice_get (states_from x y) k ≡ slice_get (states_from v w) k → (is_held x k ≡ is_held v k) × (is_held y k ≡ is_held w k)
same_held x y v w k n a b h e =
    let p : k < v.numbers = omega (arith, h, n) in
    same_parts (is_held x k) (is_held y k) (is_held v k) (is_held w k) (a k h) (b k p)
    (some_same (state_from (is_held x k) (is_held y k)) (state_from (is_held v k) (is_held w k)) (sym (state_get x y k h) ∙ e ∙ state_get v w k p))
