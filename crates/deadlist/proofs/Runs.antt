-- Entries in order of birth, by a cut and after it; and runs of them.
use Rattle.std.proofs.Common.{◌≡◌, ℕ, zero, suc, ◌+◌, ◌-◌, ◌≤◌, ◌<◌, inl, inr, true, false, List, [], ◌∷◌, ◌++◌, length, get_or, filter, take, drop, arith, refl, ap, sym, ◌∙◌}
use Rattle.std.proofs.lemmas.Bool.{lt-ltb, le-ltb, lt-leb, le-leb, true≢false}
use Rattle.std.proofs.lemmas.Bool.Decides.{leb_tells}
use Rattle.std.proofs.lemmas.List.{append_assoc, append-nil, drop-drop, drop-take, take-take, length-drop, length-take-le}
use Rattle.std.proofs.lemmas.List.Concat.{flat_map-append}
use Rattle.std.proofs.lemmas.List.Sorted.{IsPermutation-append_right}
use Rattle.std.specs.List.{AllWithin}
use Rattle.std.specs.List.Sorted.{IsPermutation, IsNonDecreasingBy}
use Rattle.base.specs.declared.number.Dead.{Dead}
use Rattle.deadlist.specs.Entries.{birth_of, is_after, is_upto, run_items, run_entries}

-- a stretch of a stretch
pub part_is : (xs : List Dead) (from to a b : ℕ) → from ≤ to → a ≤ b → b ≤ to - from → take ((from + b) - (from + a)) (drop (from + a) xs) ≡ take (b - a) (drop a (take (to - from) (drop from xs)))
part_is xs from to a b le low high =
    let ys = drop from xs in
    let m = (to - from) - a in
    let count : (from + b) - (from + a) ≡ b - a = omega arith in
    let all : to - from ≡ a + m = omega arith in
    let few : b - a ≤ m = omega arith in
    ap (λ n. take n (drop (from + a) xs)) count
    ∙ ap (take (b - a)) (sym (drop-drop a from xs))
    ∙ sym (take-take (b - a) m (drop a ys) few)
    ∙ ap (take (b - a)) (sym (drop-take a m ys))
    ∙ ap (λ n. take (b - a) (drop a (take n ys))) (sym all)

pub part_length : (xs : List Dead) (from to : ℕ) → from ≤ to → to ≤ length xs → length (take (to - from) (drop from xs)) ≡ to - from
part_length xs from to le within = length-take-le (to - from) (drop from xs) (let l = length-drop from xs in omega arith)

-- an entry that wasn't born by the cut was born after it, and the other way round
upto_false : (cut : ℕ) (d : Dead) → is_upto cut d ≡ false → is_after cut d ≡ true
upto_false cut d e =
    elim (leb_tells d.birth.0 cut) [
      | inl h ↦ absurd (true≢false (sym h.0 ∙ e))
      | inr h ↦ lt-ltb cut d.birth.0 h.1
    ]

upto_true : (cut : ℕ) (d : Dead) → is_upto cut d ≡ true → is_after cut d ≡ false
upto_true cut d e =
    elim (leb_tells d.birth.0 cut) [
      | inl h ↦ le-ltb cut d.birth.0 h.1
      | inr h ↦ absurd (true≢false (sym e ∙ h.0))
    ]

-- where those born by the cut come first, they and the others are what the cut divides
pub split_filters : (cut : ℕ) (xs : List Dead) (i : ℕ) → i ≤ length xs → AllWithin (λ (d : Dead). is_upto cut d ≡ true) xs 0 i → AllWithin (λ (d : Dead). is_upto cut d ≡ false) xs i (length xs) → (take i xs ≡ filter (is_upto cut) xs) × (drop i xs ≡ filter (is_after cut) xs)
split_filters cut [] zero le pass fail = (refl, refl)
split_filters cut [] (suc i) le pass fail = absurd (omega arith)
split_filters cut (x ∷ xs) zero le pass fail =
    let no : is_upto cut x ≡ false = fail 0 x (omega arith) (omega arith) in
    let yes = upto_false cut x no in
    let ih = split_filters cut xs zero (omega arith) (λ k d l h. absurd (omega arith)) (λ k d l h. fail (suc k) d (omega arith) (omega arith)) in
    (rw no ih.0, rw yes (ap (λ (ds : List Dead). x ∷ ds) ih.1))
split_filters cut (x ∷ xs) (suc i) le pass fail =
    let yes : is_upto cut x ≡ true = pass 0 x (omega arith) (omega arith) in
    let no = upto_true cut x yes in
    let ih = split_filters cut xs i (omega arith) (λ k d l h. pass (suc k) d (omega arith) (omega arith)) (λ k d l h. fail (suc k) d (omega arith) (omega arith)) in
    (rw yes (ap (λ (ds : List Dead). x ∷ ds) ih.0), rw no ih.1)

-- where an entry was born by the cut, so were those before it; and where one was born after it, those behind it
pub upto_within : (cut : ℕ) (xs : List Dead) (at birth : ℕ) → IsNonDecreasingBy birth_of xs → at < length xs → ((d : Dead) → birth ≡ birth_of (get_or xs at d)) → birth ≤ cut → AllWithin (λ (d : Dead). is_upto cut d ≡ true) xs 0 (at + 1)
upto_within cut xs at birth rising lt is le k d l h =
    let r = rising k at d (omega arith) lt in
    let e = is d in
    le-leb (birth_of (get_or xs k d)) cut (omega (arith, r, e))

pub after_within : (cut : ℕ) (xs : List Dead) (at birth : ℕ) → IsNonDecreasingBy birth_of xs → ((d : Dead) → birth ≡ birth_of (get_or xs at d)) → cut < birth → AllWithin (λ (d : Dead). is_upto cut d ≡ false) xs at (length xs)
after_within cut xs at birth rising is lt k d l h =
    let r = rising at k d l h in
    let e = is d in
    lt-leb (birth_of (get_or xs k d)) cut (omega (arith, r, e))

-- ---- runs

pub run_pushed : (rs : List (List Dead)) (r : List Dead) → run_entries (rs ++ r ∷ []) ≡ run_entries rs ++ r
run_pushed rs r = flat_map-append run_items rs (r ∷ []) ∙ ap (λ (ds : List Dead). run_entries rs ++ ds) (append-nil r)

-- the last run, taken out, became one with another
pub run_merged : (rs us : List (List Dead)) (last run new : List Dead) → rs ≡ us ++ last ∷ [] → IsPermutation (last ++ run) new → IsPermutation (run_entries rs ++ run) (run_entries us ++ new)
run_merged rs us last run new e h =
    let all : run_entries rs ≡ run_entries us ++ last = ap run_entries e ∙ run_pushed us last in
    rw (all, append_assoc) (IsPermutation-append_right (run_entries us) (last ++ run) new h)
