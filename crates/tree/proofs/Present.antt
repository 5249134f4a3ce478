-- How many present keys a walk to a key reaches.
use Rattle.std.proofs.Common.{◌≡◌, ℕ, zero, suc, ◌+◌, ◌*◌, ◌/◌, ◌%◌, ◌-◌, ◌^◌, ◌<◌, ◌≤◌, Bool, true, false, Option, Some, None, cond, refl, sym, ap, ◌∙◌, arith}
use Rattle.std.specs.Prelude.{is_some, nat_le}
use Rattle.std.specs.Option.{option_and_then}
use Rattle.std.proofs.lemmas.Bool.{le-leb, leb-true}
use Rattle.std.proofs.Math.Nat.{pow-suc, div-div-eq-div-mul}
use Rattle.std.proofs.Math.Arith.{mod-mul}
use Rattle.std.specs.FinMap.{get, empty, get-empty}
use Rattle.base.specs.declared.number.Key.{Key}
use Rattle.base.specs.Key.{key_cmp, parent}
use Rattle.base.specs.Map.{Cell, Map}
use Rattle.tree.specs.Reading.{present_up, present_on_path}
use Rattle.node.specs.Shape.{Part, part_at, cell_below, steps_below, steps_in}
use Rattle.node.proofs.Order.{span_positive}

abbrev one_if : Option Cell → ℕ
one_if o = cond (is_some o) 1 0

-- nothing is present where each key on the way is absent
none_up : (n : ℕ) (m : Map) (k : Key) → ((j : Key) → get m j ≡ None) → present_up n m k ≡ 0
none_up zero m k h = ap one_if (h k)
none_up (suc n) m k h = let a = ap one_if (h k) in let b = none_up n m (parent k) h in omega (arith, a, b)

low_or_not : (b : Bool) (n : ℕ) → (b ≡ true → n ≡ 0) → cond b n 0 ≡ 0
low_or_not true n h = h refl
low_or_not false n h = refl

pub present-empty : (k : Key) → present_on_path empty k ≡ 0
unfolding present_on_path
present-empty k = low_or_not (nat_le k.level 5) _ (λ _. none_up (5 - k.level) empty k (λ j. get-empty key_cmp j))

pub present-high : (m : Map) (k : Key) → 5 < k.level → present_on_path m k ≡ 0
unfolding present_on_path
present-high m k h = low_or_not (nat_le k.level 5) _ (λ e. let le = leb-true k.level 5 e in absurd (omega (arith, le)))

-- a key past those of its level is absent, and so are all above it
past_up : (n : ℕ) (m : Map) (k : Key) → k.level + n ≡ 5 → 16 ^ n ≤ k.index → ((j : Key) → j.level ≤ 5 → 16 ^ (5 - j.level) ≤ j.index → get m j ≡ None) → present_up n m k ≡ 0
past_up zero m k e p h = ap one_if (h k (omega arith) (let z : 5 - k.level ≡ 0 = omega arith in rw z p))
past_up (suc n) m k e p h =
    let z : 5 - k.level ≡ suc n = omega arith in
    let a = ap one_if (h k (omega arith) (rw z p)) in
    let w : 16 ^ suc n ≡ 16 ^ n * 16 = pow-suc 16 n in
    let up : 16 ^ n ≤ k.index / 16 = omega (arith, w) in
    let b = past_up n m (parent k) (omega arith) up h in
    omega (arith, a, b)

pub present-past : (m : Map) (k : Key) → 16 ^ (5 - k.level) ≤ k.index → ((j : Key) → j.level ≤ 5 → 16 ^ (5 - j.level) ≤ j.index → get m j ≡ None) → present_on_path m k ≡ 0
unfolding present_on_path
present-past m k p h = low_or_not (nat_le k.level 5) _ (λ e. let le = leb-true k.level 5 e in past_up (5 - k.level) m k (omega (arith, le)) p h)

-- the index a level up, among those that a place covers
mod_up : (q s : ℕ) → 0 < s → (q % (s * 16)) / 16 ≡ (q / 16) % s
mod_up q s p = let t : 0 < 16 = omega arith in let e = mod-mul q {m = s} {c = 16} p t in omega (arith, e)

div_up : (q s : ℕ) → (q / 16) / s ≡ q / (s * 16)
div_up q s = div-div-eq-div-mul q 16 s ∙ ap (λ x. q / x) (let e : 16 * s ≡ s * 16 = omega arith in e)

steps_at : (d : ℕ) → (o : Option Part) (r r' : ℕ) → r / 16 ≡ r' → ((p : Part) → steps_below (suc d) p r ≡ steps_below d p (r / 16) + cond (is_some (cell_below (suc d) p r)) 1 0)
    → 1 + steps_in o (λ k. steps_below (suc d) k r) ≡ (1 + steps_in o (λ k. steps_below d k r')) + cond (is_some (option_and_then (λ k. cell_below (suc d) k r) o)) 1 0
steps_at d None r r' e h = refl
steps_at d (Some p) r r' e h = let x = h p in let y = ap (steps_below d p) e in omega (arith, x, y)

steps_first : (o : Option Part) (q : ℕ) → 1 + steps_in o (λ k. steps_below 0 k q) ≡ 1 + cond (is_some (option_and_then (λ k. cell_below 0 k q) o)) 1 0
steps_first None q = refl
steps_first (Some p) q = refl

-- one more step reaches one more present key
steps_up : (d : ℕ) (p : Part) (q : ℕ) → steps_below (suc d) p q ≡ steps_below d p (q / 16) + cond (is_some (cell_below (suc d) p q)) 1 0
steps_up zero p q = steps_first (part_at p.below (q / 16 ^ 0)) (q % 16 ^ 0)
steps_up (suc d) p q =
    let w : 16 ^ suc d ≡ 16 ^ d * 16 = pow-suc 16 d in
    let m : (q % 16 ^ suc d) / 16 ≡ (q / 16) % 16 ^ d = ap (λ x. (q % x) / 16) w ∙ mod_up q (16 ^ d) (span_positive d) in
    let n : (q / 16) / 16 ^ d ≡ q / 16 ^ suc d = div_up q (16 ^ d) ∙ ap (λ x. q / x) (sym w) in
    steps_at d (part_at p.below (q / 16 ^ suc d)) (q % 16 ^ suc d) ((q / 16) % 16 ^ d) m (λ k. steps_up d k (q % 16 ^ suc d))
    ∙ ap (λ x. (1 + steps_in (part_at p.below x) (λ k. steps_below d k ((q / 16) % 16 ^ d))) + cond (is_some (cell_below (suc (suc d)) p q)) 1 0) (sym n)

-- the steps of a walk in the root's part are the keys on the way
up_root : (d : ℕ) (m : Map) (p : Part) (k : Key) → k.level + d ≡ 5 → k.index < 16 ^ d → ((j : Key) → j.level ≤ 5 → j.index < 16 ^ (5 - j.level) → get m j ≡ cell_below (5 - j.level) p j.index) → present_up d m k ≡ steps_below d p k.index
up_root zero m p k e b h =
    let z : 5 - k.level ≡ 0 = omega arith in
    ap one_if (h k (omega arith) (rw z b) ∙ ap (λ n. cell_below n p k.index) z)
up_root (suc d) m p k e b h =
    let z : 5 - k.level ≡ suc d = omega arith in
    let w : 16 ^ suc d ≡ 16 ^ d * 16 = pow-suc 16 d in
    let up : k.index / 16 < 16 ^ d = omega (arith, w) in
    let rest = up_root d m p (parent k) (omega arith) up h in
    let own = ap one_if (h k (omega arith) (rw z b) ∙ ap (λ n. cell_below n p k.index) z) in
    let s = steps_up d p k.index in
    omega (arith, rest, own, s)

pub present-root : (m : Map) (p : Part) (k : Key) → k.level ≤ 5 → k.index < 16 ^ (5 - k.level) → ((j : Key) → j.level ≤ 5 → j.index < 16 ^ (5 - j.level) → get m j ≡ cell_below (5 - j.level) p j.index) → present_on_path m k ≡ steps_below (5 - k.level) p k.index
unfolding present_on_path
present-root m p k l b h = rw (le-leb k.level 5 l) (up_root (5 - k.level) m p k (omega arith) b h)
