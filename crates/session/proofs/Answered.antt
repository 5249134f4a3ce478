-- Where seats have the receipts of a whole history, each receipt stands at its number, and the numbers are those of the history.
use Rattle.std.proofs.Common.{◌≡◌, ◌+◌, ◌-◌, ◌<◌, ◌≤◌, ◌∷◌, ◌++◌, [], ℕ, zero, suc, List, length, refl, sym, ap, ◌∙◌, subst, arith, Bool, true, false, cond, Some, get_or, ◌==◌, length-append, append_assoc, zero-add}
use Rattle.std.proofs.lemmas.Bool.{eqb-true, eq-eqb}
use Rattle.std.specs.Prelude.{All, count_by, sum_by, slice_get}
use Rattle.std.proofs.lemmas.List.Elements.{All-cons}
use Rattle.std.proofs.lemmas.List.Sums.{sum_by-cons}
use Rattle.model.specs.declared.entry.Entry.{Entry}
use Rattle.session.specs.Receipts.{Placed, Kept}
use Rattle.session.specs.Whole.{of_seat, IsWhole, IsAnswered, RisesFrom, times}
use Rattle.session.proofs.Alls.{all_none}

abbrev IsAt : List Entry → ℕ → Placed → Type 0
IsAt history n r = (slice_get history r.number ≡ Some r.entry) × (r.entry.seat ≡ n)

abbrev placed_at : ℕ → Entry → Placed
placed_at k e = record { number = k; entry = e }

-- the entry after a beginning
get_after : (front : List Entry) (e : Entry) (es : List Entry) → slice_get (front ++ e ∷ es) (length front) ≡ Some e
get_after [] e es = refl
get_after (x ∷ front) e es = get_after front e es

-- the receipts of a seat, with the first one or without it
of_seat_cases : (P : List Placed → Type 0) (n k : ℕ) (e : Entry) (es : List Entry) → (e.seat ≡ n → P (placed_at k e ∷ of_seat n (k + 1) es)) → P (of_seat n (k + 1) es) → P (of_seat n k (e ∷ es))
of_seat_cases P n k e es own other =
    let go : (b : Bool) → (e.seat == n) ≡ b → P (cond b (placed_at k e ∷ of_seat n (k + 1) es) (of_seat n (k + 1) es)) =
    elim [ true ↦ (λ is. own (eqb-true e.seat n is)) | false ↦ (λ is. other) ] in
    go (e.seat == n) refl

placed_from : (front es : List Entry) (n : ℕ) → All (IsAt (front ++ es) n) (of_seat n (length front) es)
placed_from front [] n = all_none (IsAt (front ++ []) n)
placed_from front (e ∷ es) n =
    let all : List Entry = front ++ e ∷ es in
    let longer : length (front ++ e ∷ []) ≡ length front + 1 = length-append front (e ∷ []) in
    let rest : All (IsAt all n) (of_seat n (length front + 1) es) =
    subst (λ (k : ℕ). All (IsAt all n) (of_seat n k es)) longer
    (subst (λ (h : List Entry). All (IsAt h n) (of_seat n (length (front ++ e ∷ [])) es)) (append_assoc front (e ∷ []) es) (placed_from (front ++ e ∷ []) es n)) in
    of_seat_cases (All (IsAt all n)) n (length front) e es (λ own. All-cons (IsAt all n) (placed_at (length front) e) (of_seat n (length front + 1) es) (get_after front e es, own) rest) rest

rises_from : (es : List Entry) (n j k : ℕ) → j ≤ k → RisesFrom j (of_seat n k es)
rises_from [] n j k h = tt
rises_from (e ∷ es) n j k h = of_seat_cases (RisesFrom j) n k e es (λ own. (h, rises_from es n (k + 1) (k + 1) (omega arith))) (rises_from es n j (k + 1) (omega arith))

abbrev one : Bool → ℕ
one b = cond b 1 0

same_number : (a b : ℕ) → a ≡ b → one (a == b) ≡ 1
same_number a b e = ap one (eq-eqb a b e)

other_number : (a b : ℕ) → (a ≡ b → ⊥) → one (a == b) ≡ 0
other_number a b apart =
    let go : (t : Bool) → (a == b) ≡ t → one t ≡ 0 = elim [ true ↦ (λ is. absurd (apart (eqb-true a b is))) | false ↦ (λ is. refl) ] in
    let e : one (a == b) ≡ 0 = go (a == b) refl in
    e

turned : (a b : ℕ) → one (a == b) ≡ one (b == a)
turned a b =
    let go : (t : Bool) → (a == b) ≡ t → one t ≡ one (b == a) =
    elim [ true ↦ (λ is. sym (same_number b a (sym (eqb-true a b is)))) | false ↦ (λ is. sym (other_number b a (λ e. let both : true ≡ false = sym (eq-eqb a b (sym e)) ∙ is in cc))) ] in
    go (a == b) refl

times_cons : (i : ℕ) (r : Placed) (rs : List Placed) → times i (r ∷ rs) ≡ one (r.number == i) + times i rs
times_cons i r rs = sum_by-cons (λ (x : Placed). cond (x.number == i) 1 0) r rs

-- no receipt has a smaller number than the first
none_below : (es : List Entry) (n i k : ℕ) → i < k → times i (of_seat n k es) ≡ 0
none_below [] n i k h = refl
none_below (e ∷ es) n i k h =
    let rest : times i (of_seat n (k + 1) es) ≡ 0 = none_below es n i (k + 1) (omega arith) in
    let head : one (k == i) ≡ 0 = other_number k i (λ same. omega arith) in
    of_seat_cases (λ rs. times i rs ≡ 0) n k e es (λ own. times_cons i (placed_at k e) (of_seat n (k + 1) es) ∙ (omega (arith, rest, head))) rest

-- the entry at a place, and how often its number is among the receipts of a seat
once_at : (P : Entry → Type 0) (es : List Entry) (j : ℕ) → j < length es → All P es
    → (e : Entry) × (P e × ((n k : ℕ) → times (k + j) (of_seat n k es) ≡ cond (e.seat == n) 1 0))
once_at P [] j h all = absurd (omega arith)
once_at P (e ∷ es) zero h all =
    let here : (n k : ℕ) → times (k + 0) (of_seat n k (e ∷ es)) ≡ one (e.seat == n) =
    λ (n : ℕ) (k : ℕ).
    let none : times (k + 0) (of_seat n (k + 1) es) ≡ 0 = none_below es n (k + 0) (k + 1) (omega arith) in
    let it : one (k == k + 0) ≡ 1 = same_number k (k + 0) (omega arith) in
    let go : (b : Bool) → (e.seat == n) ≡ b → times (k + 0) (cond b (placed_at k e ∷ of_seat n (k + 1) es) (of_seat n (k + 1) es)) ≡ one b =
    elim [ true ↦ (λ is. times_cons (k + 0) (placed_at k e) (of_seat n (k + 1) es) ∙ (omega (arith, none, it))) | false ↦ (λ is. none) ] in
    go (e.seat == n) refl in
    (e, (all 0 e (omega arith), here))
once_at P (e ∷ es) (suc j) h all =
    let o : (x : Entry) × (P x × ((n k : ℕ) → times (k + j) (of_seat n k es) ≡ one (x.seat == n))) = once_at P es j (omega arith) (λ q d lt. all (suc q) d (omega arith)) in
    let here : (n k : ℕ) → times (k + suc j) (of_seat n k (e ∷ es)) ≡ one (o.0.seat == n) =
    λ (n : ℕ) (k : ℕ).
    let it : one (k == k + suc j) ≡ 0 = other_number k (k + suc j) (λ same. omega arith) in
    let skip : times (k + suc j) (of_seat n k (e ∷ es)) ≡ times (k + suc j) (of_seat n (k + 1) es) =
    of_seat_cases (λ rs. times (k + suc j) rs ≡ times (k + suc j) (of_seat n (k + 1) es)) n k e es
    (λ own. times_cons (k + suc j) (placed_at k e) (of_seat n (k + 1) es) ∙ (omega (arith, it))) refl in
    let number : k + suc j ≡ (k + 1) + j = omega arith in
    skip ∙ ap (λ i. times i (of_seat n (k + 1) es)) number ∙ o.1.1 n (k + 1) in
    (o.0, (o.1.0, here))

sum_same : (f g : Kept → ℕ) (seats : List Kept) → All (λ s. f s ≡ g s) seats → sum_by f seats ≡ sum_by g seats
sum_same f g [] all = refl
sum_same f g (s ∷ seats) all =
    let rest : sum_by f seats ≡ sum_by g seats = sum_same f g seats (λ q d lt. all (suc q) d (omega arith)) in
    let head : f s ≡ g s = all 0 s (omega arith) in
    sum_by-cons f s seats ∙ ap (λ n. n + sum_by f seats) head ∙ ap (λ n. g s + n) rest ∙ sym (sum_by-cons g s seats)

each : (given : ℕ) (history : List Entry) (seats : List Kept) → IsWhole given history seats → (i : ℕ) → i < length history → sum_by (λ s. times i s.receipts) seats ≡ 1
each given history seats w i h =
    let o = once_at (λ (e : Entry). (0 < e.seat) × (e.seat ≤ given)) history i h w.named in
    let m : ℕ = o.0.seat in
    let one_less : m - 1 < given = let low = o.1.0 in omega arith in
    let back : m - 1 + 1 ≡ m = let low = o.1.0 in omega arith in
    let same : All (λ (s : Kept). times i s.receipts ≡ one (s.number == m)) seats =
    λ (k : ℕ) (d : Kept) (lt : k < length seats).
    let s : Kept = get_or seats k d in
    ap (times i) (w.own k d lt) ∙ ap (λ q. times q (of_seat s.number 0 history)) (sym (zero-add i)) ∙ o.1.1 s.number 0 ∙ turned m s.number in
    sum_same (λ s. times i s.receipts) (λ s. one (s.number == m)) seats same ∙ ap (λ n. count_by (λ (s : Kept). s.number == n) seats) (sym back) ∙ w.there (m - 1) one_less

-- over all seats
pub whole_answered : (given : ℕ) (history : List Entry) (seats : List Kept) → IsWhole given history seats → IsAnswered history seats
whole_answered given history seats w =
    record {
      placed = (λ k d h. subst (λ (rs : List Placed). All (IsAt history (get_or seats k d).number) rs) (sym (w.own k d h)) (placed_from [] history (get_or seats k d).number));
      rising = (λ k d h. subst (λ (rs : List Placed). RisesFrom 0 rs) (sym (w.own k d h)) (rises_from history (get_or seats k d).number 0 0 (omega arith)));
      each_once = each given history seats w;
    }
