-- What a batch says of a leaf, and what its parts say.
use Rattle.std.proofs.Common.{◌≡◌, ℕ, zero, suc, ◌+◌, ◌*◌, ◌/◌, ◌%◌, ◌-◌, ◌^◌, ◌<◌, ◌≤◌, Bool, Bor, true, false, cond, List, [], ◌∷◌, length, get_or, drop, take, Some, refl, sym, ap, subst, ◌∙◌, arith, inl, inr, ◌⊎◌, ⊎_elim, drop-cons, true≢false}
use Rattle.std.specs.Prelude.{◌==◌, slice_get, slice_index}
use Rattle.std.specs.List.{list_any}
use Rattle.std.proofs.Math.Nat.{div-add-mod, mod-lt}
use Rattle.std.proofs.lemmas.Bool.{eqb-true, cases_lt}
use Rattle.std.proofs.lemmas.Nat.{pow-add}
use Rattle.std.proofs.lemmas.Option.{slice_get-get_or, slice_get_within}
use Rattle.base.specs.declared.number.Key.{Key}
use Rattle.base.specs.Key.{covers, first_leaf}
use Rattle.batch.specs.declared.update.Update.{Update}
use Rattle.batch.specs.declared.update.Update.TheVariants.{Write, Punch}
use Rattle.batch.specs.Updates.{first_of, past_of}
use Rattle.batch.specs.Said.{Said, silent, hole, full, said_by, said, first_said, is_write, AreInOrder, AreSized, IsIdle, IsSized}
use Rattle.node.proofs.Options.{same_value}
use Rattle.batch.proofs.Lists.{at_drop}
use Rattle.node.proofs.Order.{span_positive}
use Rattle.node.proofs.Digits.{eq_not}

-- a key covers the leaves from its first to the next key's
pub covers_from : (k : Key) (n : ℕ) → covers k n ≡ true → (first_leaf k ≤ n) × (n < first_leaf k + 16 ^ k.level)
covers_from k n e =
    let at : n / 16 ^ k.level ≡ k.index = eqb-true _ _ e in
    let d = div-add-mod n (16 ^ k.level) in
    let m : n % 16 ^ k.level < 16 ^ k.level = mod-lt n (span_positive k.level) in
    let w : 16 ^ k.level * (n / 16 ^ k.level) ≡ 16 ^ k.level * k.index = ap (λ x. 16 ^ k.level * x) at in
    (omega (arith, d, m, w), omega (arith, d, m, w))

not_true : (b : Bool) → (b ≡ true → ⊥) → b ≡ false
not_true true h = absurd (h refl)
not_true false h = refl

pub silent_apart : (u : Update) (n : ℕ) → (n < first_of u) ⊎ (past_of u ≤ n) → said_by u n ≡ silent
silent_apart (Write leaf bytes) n h =
    let e : (leaf == n) ≡ false = eq_not leaf n (⊎_elim (λ a. omega arith) (λ a. omega arith) h) in rw e refl
silent_apart (Punch key) n h =
    let e : covers key n ≡ false = not_true (covers key n) (λ t. let r = covers_from key n t in ⊎_elim (λ a. absurd (omega (arith, r.0))) (λ a. absurd (omega (arith, r.1))) h) in rw e refl

-- updates that say nothing of a leaf can be left out at the front and at the back
pub said_drop : (r : ℕ) (us : List Update) (n : ℕ) → ((i : ℕ) (u : Update) → i < r → slice_get us i ≡ Some u → said_by u n ≡ silent) → said (drop r us) n ≡ said us n
unfolding said
said_drop zero us n h = refl
said_drop (suc r) [] n h = refl
said_drop (suc r) (u ∷ us) n h = said_drop r us n (λ i v l e. h (suc i) v (omega arith) e) ∙ ap (λ w. first_said w (said us n)) (sym (h zero u (omega arith) refl))

pub said_take : (r : ℕ) (us : List Update) (n : ℕ) → ((i : ℕ) (u : Update) → r ≤ i → slice_get us i ≡ Some u → said_by u n ≡ silent) → said (take r us) n ≡ said us n
unfolding said
said_take r [] n h = ap (λ xs. said xs n) (none r)
  where
    none : (r : ℕ) → take r (let xs : List Update = [] in xs) ≡ []
    none zero = refl
    none (suc r) = refl
said_take zero (u ∷ us) n h = said_take zero us n (λ i v l e. h (suc i) v (omega arith) e) ∙ ap (λ w. first_said w (said us n)) (sym (h zero u (omega arith) refl))
said_take (suc r) (u ∷ us) n h = ap (first_said (said_by u n)) (said_take r us n (λ i v l e. h (suc i) v (omega arith) e))

pub order_drop : (r : ℕ) (us : List Update) → AreInOrder us → AreInOrder (drop r us)
order_drop r us o = record {
  own = λ i u e. o.own (r + i) u (sym (at_drop r i us) ∙ e);
  rising = λ i k u v l e f. o.rising (r + i) (r + k) u v (omega arith) (sym (at_drop r i us) ∙ e) (sym (at_drop r k us) ∙ f);
}

at_take : {A : Type 0} (r i : ℕ) (xs : List A) (x : A) → slice_get (take r xs) i ≡ Some x → slice_get xs i ≡ Some x
at_take zero i [] x e = cc
at_take zero i (y ∷ xs) x e = cc
at_take (suc r) i [] x e = e
at_take (suc r) zero (y ∷ xs) x e = e
at_take (suc r) (suc i) (y ∷ xs) x e = at_take r i xs x e

pub order_take : (r : ℕ) (us : List Update) → AreInOrder us → AreInOrder (take r us)
order_take r us o = record {
  own = λ i u e. o.own i u (at_take r i us u e);
  rising = λ i k u v l e f. o.rising i k u v l (at_take r i us u e) (at_take r k us v f);
}

-- the updates from a leaf on
pub said_after : (at leaf : ℕ) (us : List Update) → ((i : ℕ) (u : Update) → i < at → slice_get us i ≡ Some u → past_of u ≤ leaf) → (n : ℕ) → leaf ≤ n → said (drop at us) n ≡ said us n
said_after at leaf us h n l = said_drop at us n (λ i u b e. let p = h i u b e in silent_apart u n (inr (omega arith)))

-- and those that begin before it
pub said_before : (end leaf : ℕ) (us : List Update) → ((i : ℕ) (u : Update) → end ≤ i → slice_get us i ≡ Some u → leaf ≤ first_of u) → (n : ℕ) → n < leaf → said (take end us) n ≡ said us n
said_before end leaf us h n l = said_take end us n (λ i u b e. let p = h i u b e in silent_apart u n (inl (omega arith)))

-- where the updates from a place on begin, once one of them reaches past the leaf
pub later_begin : (us : List Update) (at leaf : ℕ) (u : Update) → AreInOrder us → slice_get us at ≡ Some u → leaf < past_of u → (i : ℕ) (v : Update) → at + 1 ≤ i → slice_get us i ≡ Some v → leaf ≤ first_of v
later_begin us at leaf u o e p i v l f = let r = o.rising at i u v (omega arith) e f in omega arith

-- one update more at the front
pub said_next : (us : List Update) (i n : ℕ) (d : Update) → i < length us → said (drop i us) n ≡ first_said (said_by (get_or us i d) n) (said (drop (i + 1) us) n)
unfolding said
said_next us i n d h = let s : i + 1 ≡ suc i = omega arith in ap (λ xs. said xs n) (drop-cons us i d h) ∙ ap (λ k. first_said (said_by (get_or us i d) n) (said (drop k us) n)) (sym s)

pub said_over : (us : List Update) (i n : ℕ) → length us ≤ i → said (drop i us) n ≡ silent
unfolding said
said_over [] zero n h = refl
said_over [] (suc i) n h = refl
said_over (u ∷ us) zero n h = absurd (omega arith)
said_over (u ∷ us) (suc i) n h = said_over us i n (omega arith)

-- without a write nothing is said but that leaves become holes
pub idle_punches : (us : List Update) → list_any is_write us ≡ false → IsIdle (said us) false
unfolding said
idle_punches [] e n = inl refl
idle_punches (Write leaf bytes ∷ us) e n = absurd (true≢false e)
idle_punches (Punch key ∷ us) e n = by (covers key n) (idle_punches us e n)
  where
    by : (b : Bool) → (said us n ≡ silent) ⊎ ((said us n ≡ hole) × (false ≡ false)) → (first_said (cond b hole silent) (said us n) ≡ silent) ⊎ ((first_said (cond b hole silent) (said us n) ≡ hole) × (false ≡ false))
    by true h = inr (refl, refl)
    by false h = h

pub idle_none : (us : List Update) (b : Bool) → length us ≡ 0 → IsIdle (said us) b
unfolding said
idle_none [] b e n = inl refl
idle_none (u ∷ us) b e n = absurd (omega arith)

-- a key's leaves are those of a tree
pub key_bound : (l i : ℕ) → l ≤ 5 → i < 16 ^ (5 - l) → i * 16 ^ l + 16 ^ l ≤ 1048576
key_bound l i h b =
    let s : 5 - l + l ≡ 5 = omega arith in
    let p : 16 ^ (5 - l) * 16 ^ l ≡ 1048576 = sym (pow-add 16 (5 - l) l) ∙ ap (λ n. 16 ^ n) s in
    let m = Rattle.std.proofs.Math.Nat.mul-le-mul_right {m = i + 1} {n = 16 ^ (5 - l)} (16 ^ l) (omega arith) in
    omega (arith, p, m)

-- where the last of some updates ends by a leaf, all of them do
pub ends_by : (us : List Update) (at leaf : ℕ) (d : Update) → AreInOrder us → 0 < at → at ≤ length us → past_of (get_or us (at - 1) d) ≤ leaf → (i : ℕ) (u : Update) → i < at → slice_get us i ≡ Some u → past_of u ≤ leaf
ends_by us at leaf d o p w h i u l e =
    let last = slice_get-get_or us (at - 1) d (omega arith) in
    ⊎_elim
    (λ (b : i < at - 1). let r = o.rising i (at - 1) u (get_or us (at - 1) d) b e last in let f = first_past (get_or us (at - 1) d) in omega arith)
    (λ (b : at - 1 ≤ i). let s : at - 1 ≡ i = omega arith in let same : get_or us (at - 1) d ≡ u = same_value _ _ (sym last ∙ ap (slice_get us) s ∙ e) in let q = ap past_of same in omega arith)
    (cases_lt i (at - 1))
  where
    first_past : (v : Update) → first_of v ≤ past_of v
    first_past (Write leaf bytes) = omega arith
    first_past (Punch key) = omega arith

-- one more that reaches past a leaf
pub past_here : (us : List Update) (at leaf : ℕ) (d : Update) → 0 < at → leaf < past_of (get_or us (at - 1) d) → ((i : ℕ) (u : Update) → at ≤ i → slice_get us i ≡ Some u → leaf < past_of u)
    → (i : ℕ) (u : Update) → at ≤ i + 1 → slice_get us i ≡ Some u → leaf < past_of u
past_here us at leaf d p h inv i u l e = ⊎_elim
    (λ (b : i < at). let s : at - 1 ≡ i = omega arith in
    let w = slice_get_within us i u e in
    let same : get_or us (at - 1) d ≡ u = ap (λ k. get_or us k d) s ∙ same_value _ _ (sym (slice_get-get_or us i d w) ∙ e) in
    let q = ap past_of same in omega arith)
    (λ (b : at ≤ i). inv i u b e)
    (cases_lt i at)

-- what is said from a place on, by what the update there says
pub said_is : (us : List Update) (i n : ℕ) (d u : Update) (w : Said) → i < length us → get_or us i d ≡ u → said_by u n ≡ w → said (drop i us) n ≡ first_said w (said (drop (i + 1) us) n)
said_is us i n d u w h e s = said_next us i n d h ∙ ap (λ v. first_said (said_by v n) (said (drop (i + 1) us) n)) e ∙ ap (λ x. first_said x (said (drop (i + 1) us) n)) s

-- where the updates from a place on begin
pub begins_here : (us : List Update) (at leaf : ℕ) (d : Update) → AreInOrder us → leaf ≤ first_of (get_or us at d) → ((i : ℕ) (u : Update) → at ≤ i → slice_get us i ≡ Some u → leaf < past_of u) → (i : ℕ) (v : Update) → at ≤ i → slice_get us i ≡ Some v → leaf ≤ first_of v
begins_here us at leaf d o b h i v l e =
    let w = slice_get_within us i v e in
    let here = slice_get-get_or us at d (omega arith) in
    ⊎_elim
    (λ (m : at < i). let p = h at (get_or us at d) (omega arith) here in later_begin us at leaf (get_or us at d) o here p i v (omega arith) e)
    (λ (m : i ≤ at). let s : at ≡ i = omega arith in let same : get_or us at d ≡ v = same_value _ _ (sym here ∙ ap (slice_get us) s ∙ e) in let q = ap first_of same in omega arith)
    (cases_lt at i)

-- what is written has its size
pub said_sized : (us : List Update) (n : ℕ) (b : List ℕ) → ((i : ℕ) (u : Update) → slice_get us i ≡ Some u → IsSized u) → said us n ≡ full b → (length b ≡ 512) × ((i : ℕ) → slice_index b i < 256)
unfolding said
said_sized [] n b h e = absurd (silent_full b e)
  where
    silent_full : (b : List ℕ) → silent ≡ full b → ⊥
    silent_full b e = cc
said_sized (u ∷ us) n b h e = first u (h zero u refl) e (said_sized us n b (λ i v f. h (suc i) v f))
  where
    one : (leaf : ℕ) (bytes : Bor (List ℕ)) (w : Said) (v : Bool) → IsSized (Write leaf bytes) → first_said (cond v (full bytes.now) silent) w ≡ full b → (w ≡ full b → (length b ≡ 512) × ((i : ℕ) → slice_index b i < 256)) → (length b ≡ 512) × ((i : ℕ) → slice_index b i < 256)
    one leaf bytes w true k e ih = let same : bytes.now ≡ b = cc in subst (λ xs. (length xs ≡ 512) × ((i : ℕ) → slice_index xs i < 256)) same k
    one leaf bytes w false k e ih = ih e

    two : (w : Said) (v : Bool) → first_said (cond v hole silent) w ≡ full b → (w ≡ full b → (length b ≡ 512) × ((i : ℕ) → slice_index b i < 256)) → (length b ≡ 512) × ((i : ℕ) → slice_index b i < 256)
    two w true e ih = cc
    two w false e ih = ih e

    first : (u : Update) → IsSized u → first_said (said_by u n) (said us n) ≡ full b → (said us n ≡ full b → (length b ≡ 512) × ((i : ℕ) → slice_index b i < 256)) → (length b ≡ 512) × ((i : ℕ) → slice_index b i < 256)
    first (Write leaf bytes) k e ih = one leaf bytes (said us n) (leaf == n) k e ih
    first (Punch key) k e ih = two (said us n) (covers key n) e ih

pub full_size : (us : List Update) → AreSized us → (n : ℕ) (b : List ℕ) → said us n ≡ full b → length b ≡ 512
full_size us z n b e = (said_sized us n b z.each e).0
