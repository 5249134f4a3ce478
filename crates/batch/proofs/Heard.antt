-- In a batch each update is heard at its first leaf.
use Rattle.std.proofs.Common.{◌≡◌, ℕ, zero, suc, ◌+◌, ◌*◌, ◌≤◌, ◌/◌, ◌^◌, ◌<◌, Bool, Bor, true, false, cond, List, [], ◌∷◌, length, get_or, Some, refl, sym, ap, ◌∙◌, arith, inr, ⊎_elim, true≢false}
use Rattle.std.specs.Prelude.{◌==◌, ◌||◌, slice_get}
use Rattle.std.specs.List.{list_any}
use Rattle.std.proofs.Math.Nat.{mul-div_cancel, div-eq_of_lt-le}
use Rattle.std.proofs.lemmas.Bool.{eqb-true, eq-eqb}
use Rattle.std.proofs.lemmas.Option.{slice_get-get_or, slice_get_within}
use Rattle.base.specs.declared.number.Key.{Key}
use Rattle.base.specs.Key.{covers, first_leaf}
use Rattle.node.proofs.Options.{same_value}
use Rattle.node.proofs.Order.{span_positive}
use Rattle.batch.specs.declared.update.Update.{Update}
use Rattle.batch.specs.declared.update.Update.TheVariants.{Write, Punch}
use Rattle.batch.specs.Updates.{first_of, past_of}
use Rattle.batch.specs.Said.{Said, silent, hole, full, said_by, said, first_said, is_write, AreInOrder, IsIdle, IsOneLeaf}
use Rattle.batch.proofs.SaidLaws.{said_drop, said_is, silent_apart}

written_there : (leaf : ℕ) (bytes : Bor (List ℕ)) → said_by (Write leaf bytes) leaf ≡ full bytes.now
written_there leaf bytes = ap (λ b. cond b (full bytes.now) silent) (eq-eqb leaf leaf refl)

covers_first : (k : Key) → covers k (first_leaf k) ≡ true
covers_first k = eq-eqb (first_leaf k / 16 ^ k.level) k.index (mul-div_cancel k.index (span_positive k.level))

-- an update says something of its first leaf
said_there : (u : Update) → said_by u (first_of u) ≡ silent → ⊥
said_there (Write leaf bytes) e = let f : full bytes.now ≡ silent = sym (written_there leaf bytes) ∙ e in cc
said_there (Punch key) e = let f : hole ≡ silent = sym (ap (λ b. cond b hole silent) (covers_first key)) ∙ e in cc

first_past : (u : Update) → first_of u < past_of u
first_past (Write leaf bytes) = omega arith
first_past (Punch key) = let p = span_positive key.level in omega (arith, p)

first_kept : (w v : Said) → (w ≡ silent → ⊥) → first_said w v ≡ w
first_kept silent v h = absurd (h refl)
first_kept hole v h = refl
first_kept (full bytes) v h = refl

heard : (us : List Update) (i : ℕ) (u : Update) → AreInOrder us → slice_get us i ≡ Some u → said us (first_of u) ≡ said_by u (first_of u)
heard us i u o e =
    let w = slice_get_within us i u e in
    let same : get_or us i u ≡ u = same_value _ _ (sym (slice_get-get_or us i u w) ∙ e) in
    sym (said_drop i us (first_of u) (λ k v l f. silent_apart v (first_of u) (inr (o.rising k i v u l f e))))
    ∙ said_is us i (first_of u) u u (said_by u (first_of u)) w same refl ∙ first_kept (said_by u (first_of u)) _ (said_there u)

not_silent : (us : List Update) (i : ℕ) (u : Update) → AreInOrder us → slice_get us i ≡ Some u → said us (first_of u) ≡ silent → ⊥
not_silent us i u o e s = said_there u (sym (heard us i u o e) ∙ s)

-- a batch that does nothing to a part that is present is empty
pub idle_present : (us : List Update) → AreInOrder us → IsIdle (said us) true → length us ≡ 0
idle_present [] o h = refl
idle_present (u ∷ us) o h = ⊎_elim (λ s. absurd (not_silent (u ∷ us) 0 u o refl s)) (λ s. absurd (true≢false s.1)) (h (first_of u))

-- and one that does nothing to an absent part doesn't write
no_write : (us : List Update) (p : Bool) → AreInOrder us → IsIdle (said us) p → (i : ℕ) (u : Update) → slice_get us i ≡ Some u → is_write u ≡ false
no_write us p o h i (Write leaf bytes) e =
    let t = heard us i (Write leaf bytes) o e ∙ written_there leaf bytes in
    ⊎_elim (λ s. let f : full bytes.now ≡ silent = sym t ∙ s in cc) (λ s. let f : full bytes.now ≡ hole = sym t ∙ s.0 in cc) (h leaf)
no_write us p o h i (Punch key) e = refl

none_any : (us : List Update) → ((i : ℕ) (u : Update) → slice_get us i ≡ Some u → is_write u ≡ false) → list_any is_write us ≡ false
none_any [] h = refl
none_any (u ∷ us) h = ap (λ b. b || list_any is_write us) (h 0 u refl) ∙ none_any us (λ i v e. h (suc i) v e)

pub idle_absent : (us : List Update) (p : Bool) → AreInOrder us → IsIdle (said us) p → list_any is_write us ≡ false
idle_absent us p o h = none_any us (no_write us p o h)

wide_span : (l : ℕ) → ¬ (l ≡ 0) → 1 < 16 ^ l
wide_span zero n = absurd (n refl)
wide_span (suc l) n = let p = span_positive l in omega (arith, p)

-- where one leaf alone is spoken of, each update begins there
at_leaf : (us : List Update) (leaf : ℕ) (writes : Bool) → AreInOrder us → IsOneLeaf (said us) leaf writes → (i : ℕ) (u : Update) → slice_get us i ≡ Some u → first_of u ≡ leaf
at_leaf us leaf writes o h i u e = by (first_of u == leaf) refl
  where
    by : (b : Bool) → (first_of u == leaf) ≡ b → first_of u ≡ leaf
    by true t = eqb-true _ _ t
    by false t = absurd (not_silent us i u o e (h.others (first_of u) (λ s. true≢false (sym (eq-eqb _ _ s) ∙ t))))

-- so it is one update
pub one_alone : (us : List Update) (leaf : ℕ) (writes : Bool) → AreInOrder us → (length us ≡ 1 → ⊥) → IsOneLeaf (said us) leaf writes → ⊥
unfolding said
one_alone [] leaf writes o n h = h.spoken refl
one_alone (u ∷ []) leaf writes o n h = n refl
one_alone (u ∷ v ∷ us) leaf writes o n h =
    let a = at_leaf (u ∷ v ∷ us) leaf writes o h 0 u refl in
    let b = at_leaf (u ∷ v ∷ us) leaf writes o h 1 v refl in
    let r = o.rising 0 1 u v (omega arith) refl refl in
    let p = first_past u in
    absurd (omega (arith, a, b, r, p))

-- and no punch of a key above the leaves, which covers two
pub punch_alone : (us : List Update) (d : Update) (key : Key) (leaf : ℕ) (writes : Bool) → length us ≡ 1 → get_or us 0 d ≡ Punch key → ¬ (key.level ≡ 0) → IsOneLeaf (said us) leaf writes → ⊥
unfolding said
punch_alone [] d key leaf writes n e z h = absurd (omega arith)
punch_alone (u ∷ []) d key leaf writes n e z h =
    let wide : 1 < 16 ^ key.level = wide_span key.level z in
    let first : key.index * 16 ^ key.level ≡ leaf = only (key.index * 16 ^ key.level) (omega (arith, wide)) (omega (arith, wide)) in
    let second : key.index * 16 ^ key.level + 1 ≡ leaf = only (key.index * 16 ^ key.level + 1) (omega (arith, wide)) (omega (arith, wide)) in
    absurd (omega (arith, first, second))
  where
    hole_silent : hole ≡ silent → ⊥
    hole_silent f = cc

    only : (k : ℕ) → key.index * 16 ^ key.level ≤ k → k < (key.index + 1) * 16 ^ key.level → k ≡ leaf
    only k low high = by (k == leaf) refl
      where
        here : first_said (said_by u k) silent ≡ hole
        here = ap (λ v. first_said (said_by v k) silent) e ∙ ap (λ b. first_said (cond b hole silent) silent) (eq-eqb _ _ (div-eq_of_lt-le (16 ^ key.level) low high))

        by : (b : Bool) → (k == leaf) ≡ b → k ≡ leaf
        by true t = eqb-true _ _ t
        by false t = absurd (hole_silent (sym here ∙ h.others k (λ x. true≢false (sym (eq-eqb _ _ x) ∙ t))))
punch_alone (u ∷ v ∷ us) d key leaf writes n e z h = absurd (omega arith)
