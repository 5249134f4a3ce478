-- A part that was absent, where a batch writes one leaf of it: one of its places has a part afterwards.
use Rattle.std.proofs.Common.{◌≡◌, ℕ, zero, suc, ◌+◌, ◌*◌, ◌/◌, ◌^◌, ◌<◌, ◌≤◌, Bool, true, false, cond, List, [], ◌∷◌, length, get_or, set, map, Option, Some, None, refl, sym, ap, ◌∙◌, arith}
use Rattle.std.specs.Option.{option_map}
use Rattle.std.specs.Prelude.{is_some, replicate}
use Rattle.std.proofs.lemmas.List.{map-set}
use Rattle.std.proofs.Math.Nat.{div-eq_of_lt-le}
use Rattle.base.specs.declared.number.Key.{Key}
use Rattle.node.specs.Entries.{key_at}
use Rattle.node.specs.Kid.{IsKid, places_of}
use Rattle.node.specs.Shape.{Part, forest_of}
use Rattle.node.proofs.Places.{AreKids, kids_of, no_place}
use Rattle.batch.specs.Said.{Said, silent, IsOneLeaf, IsWay}
use Rattle.batch.specs.Touch.{any_kid, touched, stays}
use Rattle.batch.specs.Build.{parts, rebuilt}
use Rattle.batch.proofs.TouchLaws.{stays_down, touched_same, silent_touched, untouched_rebuilt}
use Rattle.batch.proofs.MadeLaws.{rebuilt_anew}
use Rattle.batch.proofs.OneLeaf.{stays_written}

pub none_there : {A B : Type 0} (f : A → B) (x : Option A) → is_some x ≡ false → option_map f x ≡ None
none_there f None e = refl
none_there f (Some x) e = cc

-- what stands at a place of a part that is absent
pub nothing_at : (o : Option Part) (p : ℕ) → o ≡ None → get_or (places_of o) p None ≡ None
nothing_at o p e = ap (λ x. get_or (places_of x) p None) e ∙ no_place 16 p

true_if : (t x : Bool) → cond t x false ≡ true → t ≡ true
true_if true x e = refl
true_if false x e = e

-- it is touched
pub touched_written : (s : ℕ → Said) (l g j p : ℕ) (way : IsWay s l j p true) (o : Option Part) → IsKid (suc l) g o → o ≡ None → touched s (suc l) j o ≡ true
touched_written s l g j p way o k e =
    let t = touched s (suc l) j o in
    let a = any_kid (stays s l) (16 * j) (places_of o) in
    true_if t a (ap (λ (x : Option Part). cond t a (is_some x)) (sym e) ∙ sym (stays_down s l j o) ∙ stays_written s l g j p way o k)

-- a key beside the way to the leaf
beside : (s : ℕ → Said) (leaf : ℕ) (writes : Bool) → IsOneLeaf s leaf writes → (l g j : ℕ) (o : Option Part) → (j ≡ leaf / 16 ^ l → ⊥) → IsKid l g o → touched s l j o ≡ false
beside s leaf writes one l g j o h k =
    touched_same s (λ n. silent) l j g o k (λ n low high. one.others n (λ e. h (sym (ap (λ x. x / 16 ^ l) (sym e) ∙ div-eq_of_lt-le (16 ^ l) low high))))
    ∙ silent_touched (λ n. silent) (λ n. refl) l j o

-- a list of places of which one alone changes
all_same : (f : ℕ → Option Part → Option Part) (l g j : ℕ) (os : List (Option Part)) → AreKids l g os → ((k : ℕ) (o : Option Part) → j ≤ k → IsKid l g o → f k o ≡ o) → parts f j os ≡ os
all_same f l g j [] a h = refl
all_same f l g j (o ∷ os) a h = λ i. h j o (omega arith) a.0 i ∷ all_same f l g (j + 1) os a.1 (λ k q b w. h k q (omega arith) w) i

one_changed : (f : ℕ → Option Part → Option Part) (l g j i : ℕ) (os : List (Option Part)) → i < length os → AreKids l g os → ((k : ℕ) (o : Option Part) → (k ≡ j + i → ⊥) → IsKid l g o → f k o ≡ o) → parts f j os ≡ set os i (f (j + i) (get_or os i None))
one_changed f l g j i [] b a h = absurd (omega arith)
one_changed f l g j zero (o ∷ os) b a h =
    let e : j ≡ j + 0 = omega arith in
    λ i. f (e i) o ∷ all_same f l g (j + 1) os a.1 (λ k q c w. h k q (λ x. omega arith) w) i
one_changed f l g j (suc i) (o ∷ os) b a h =
    let e : j + 1 + i ≡ j + suc i = omega arith in
    λ x. h j o (λ y. omega arith) a.0 x ∷ (one_changed f l g (j + 1) i os (omega arith) a.1 (λ k q c w. h k q (λ y. c (omega arith)) w) ∙ ap (λ n. set os i (f n (get_or os i None))) e) x

-- a node with that one place
pub node_grown : {A : Type 0} (s : ℕ → Said) (l g j p : ℕ) (writes : Bool) (way : IsWay s l j p writes) (b n : ℕ) (number : Key → ℕ) (f : A → Part) (o : Option Part) (new : Option A) → IsKid (suc l) g o → touched s (suc l) j o ≡ true → stays s (suc l) j o ≡ true
    → o ≡ None → option_map f new ≡ rebuilt s number b l (16 * j + p) None → n ≡ number (key_at (suc l) j)
    → Some (record { cell = record { number = n; birth = b; bytes = [] }; below = forest_of f (set (replicate 16 None) p new) }) ≡ rebuilt s number b (suc l) j o
node_grown s l g j p writes way b n number f o new k t u e h m =
    let kids = kids_of l g o k in
    let few = way.few in
    let os : map (option_map f) (replicate 16 None) ≡ places_of o = sym (ap places_of e) in
    rebuilt_anew s number b l j o t u f (set (replicate 16 None) p new) n m
    (map-set (option_map f) (replicate 16 None) p new
    ∙ (λ i. set (os i) p ((h ∙ ap (rebuilt s number b l (16 * j + p)) (sym (nothing_at o p e))) i))
    ∙ sym (one_changed (rebuilt s number b l) l g (16 * j) p (places_of o) (let w = kids.0 in omega (arith, few, w)) kids.1
    (λ q x c w. untouched_rebuilt s number b l q x (beside s way.leaf writes way.one l g q x (λ y. c (y ∙ sym way.at)) w))))
