-- Where a batch speaks of one leaf, it touches keys over that leaf and no others.
use Rattle.std.proofs.Common.{◌≡◌, ℕ, zero, suc, ◌+◌, ◌*◌, ◌/◌, ◌%◌, ◌^◌, ◌<◌, ◌≤◌, Bool, Bor, true, false, cond, List, [], ◌∷◌, ◌++◌, length, get_or, set, map, Option, Some, None, refl, sym, ap, subst, ◌∙◌, arith, append-nil, length-append, true≢false}
use Rattle.std.specs.Option.{option_map}
use Rattle.std.specs.Prelude.{is_some, ◌||◌, ◌==◌}
use Rattle.std.proofs.lemmas.Bool.{eq-eqb}
use Rattle.std.proofs.lemmas.List.{map-set}
use Rattle.std.proofs.Math.Nat.{div-eq_of_lt-le}
use Rattle.std.proofs.Math.Seq.{map-set_same}
use Rattle.base.specs.declared.number.Key.{Key}
use Rattle.batch.specs.declared.numbers.NewBlock.{NewBlock}
use Rattle.batch.specs.declared.update.Update.{Update}
use Rattle.batch.specs.declared.update.Update.TheVariants.{Write, Punch}
use Rattle.base.specs.Key.{covers}
use Rattle.node.specs.Entries.{key_at}
use Rattle.node.specs.Kid.{IsKid, places, places_of}
use Rattle.batch.specs.Others.{HasOther}
use Rattle.batch.specs.Said.{Said, silent, hole, full, said, said_by, first_said, IsOneLeaf, IsWay}
use Rattle.node.specs.Shape.{Part, Forest, forest_of}
use Rattle.batch.specs.Touch.{any_kid, later_first, touched, stays, leaf_touched, leaf_stays, claims, released, dropped}
use Rattle.batch.specs.Build.{made_keys, parts, rebuilt, HasKeys}
use Rattle.node.proofs.Digits.{high_digits, eq_not}
use Rattle.node.proofs.Places.{AreKids, AreKids-at, kids_of, forest_of-map}
use Rattle.batch.proofs.TouchLaws.{touched_same, silent_touched, touched_down, touched_at_leaf, stays_down, stays_at_leaf, untouched_stays, untouched_made, untouched_claims, untouched_released, untouched_dropped, untouched_rebuilt}
use Rattle.batch.proofs.MadeLaws.{made_stays, keys_of_kids, key_of_own, rebuilt_anew}
use Rattle.batch.proofs.Heres.{any_false}

full_silent : (bytes : List ℕ) → full bytes ≡ silent → ⊥
full_silent bytes e = cc

hole_silent : hole ≡ silent → ⊥
hole_silent e = cc

-- a batch that is one write
pub write_said : (us : List Update) (d : Update) (leaf : ℕ) (bytes : Bor (List ℕ)) → length us ≡ 1 → get_or us 0 d ≡ Write leaf bytes → IsOneLeaf (said us) leaf true
unfolding said
write_said [] d leaf bytes n e = absurd (omega arith)
write_said (u ∷ []) d leaf bytes n e =
    let here : first_said (said_by u leaf) silent ≡ full bytes.now = ap (λ v. first_said (said_by v leaf) silent) e ∙ ap (λ b. first_said (cond b (full bytes.now) silent) silent) (eq-eqb leaf leaf refl) in
    record {
      spoken = λ s. full_silent bytes.now (sym here ∙ s);
      others = λ k h. ap (λ v. first_said (said_by v k) silent) e ∙ ap (λ b. first_said (cond b (full bytes.now) silent) silent) (eq_not leaf k (λ x. h (sym x)));
      written = λ t. (bytes.now, here);
      punched = λ t. absurd (t refl);
    }
write_said (u ∷ v ∷ us) d leaf bytes n e = absurd (omega arith)

-- a batch that is one punch of a leaf
leaf_covers : (key : Key) (k : ℕ) → key.level ≡ 0 → covers key k ≡ (k == key.index)
leaf_covers key k z = let e : k / 16 ^ key.level ≡ k = ap (λ l. k / 16 ^ l) z ∙ (let d : k / 16 ^ 0 ≡ k = omega arith in d) in ap (λ m. m == key.index) e

pub punch_said : (us : List Update) (d : Update) (key : Key) → length us ≡ 1 → get_or us 0 d ≡ Punch key → key.level ≡ 0 → IsOneLeaf (said us) key.index false
unfolding said
punch_said [] d key n e z = absurd (omega arith)
punch_said (u ∷ []) d key n e z =
    let here : first_said (said_by u key.index) silent ≡ hole =
    ap (λ v. first_said (said_by v key.index) silent) e ∙ ap (λ b. first_said (cond b hole silent) silent) (leaf_covers key key.index z ∙ eq-eqb key.index key.index refl) in
    record {
      spoken = λ s. hole_silent (sym here ∙ s);
      others = λ k h. ap (λ v. first_said (said_by v k) silent) e ∙ ap (λ b. first_said (cond b hole silent) silent) (leaf_covers key k z ∙ eq_not k key.index h);
      written = λ t. absurd (true≢false (sym t));
      punched = λ t. here;
    }
punch_said (u ∷ v ∷ us) d key n e z = absurd (omega arith)

-- a list of places of which one alone changes
parts_none : (f : ℕ → Option Part → Option Part) (l g j : ℕ) (os : List (Option Part)) → AreKids l g os → ((k : ℕ) (o : Option Part) → j ≤ k → IsKid l g o → f k o ≡ o) → parts f j os ≡ os
parts_none f l g j [] a h = refl
parts_none f l g j (o ∷ os) a h = λ i. h j o (omega arith) a.0 i ∷ parts_none f l g (j + 1) os a.1 (λ k q b w. h k q (omega arith) w) i

parts_one : (f : ℕ → Option Part → Option Part) (l g j i : ℕ) (os : List (Option Part)) → i < length os → AreKids l g os → ((k : ℕ) (o : Option Part) → (k ≡ j + i → ⊥) → IsKid l g o → f k o ≡ o) → parts f j os ≡ set os i (f (j + i) (get_or os i None))
parts_one f l g j i [] b a h = absurd (omega arith)
parts_one f l g j zero (o ∷ os) b a h =
    let e : j ≡ j + 0 = omega arith in
    λ i. f (e i) o ∷ parts_none f l g (j + 1) os a.1 (λ k q c w. h k q (λ x. omega arith) w) i
parts_one f l g j (suc i) (o ∷ os) b a h =
    let e : j + 1 + i ≡ j + suc i = omega arith in
    λ x. h j o (λ y. omega arith) a.0 x ∷ (parts_one f l g (j + 1) i os (omega arith) a.1 (λ k q c w. h k q (λ y. c (omega arith)) w) ∙ ap (λ n. set os i (f n (get_or os i None))) e) x

-- lists of places of which one alone gives something
later_none : {A : Type 0} (f : ℕ → Option Part → List A) (l g j : ℕ) (os : List (Option Part)) → AreKids l g os → ((k : ℕ) (o : Option Part) → j ≤ k → IsKid l g o → f k o ≡ []) → later_first f j os ≡ []
later_none f l g j [] a h = refl
later_none f l g j (o ∷ os) a h = λ i. later_none f l g (j + 1) os a.1 (λ k q b w. h k q (omega arith) w) i ++ h j o (omega arith) a.0 i

later_one : {A : Type 0} (f : ℕ → Option Part → List A) (l g j i : ℕ) (os : List (Option Part)) → i < length os → AreKids l g os → ((k : ℕ) (o : Option Part) → (k ≡ j + i → ⊥) → IsKid l g o → f k o ≡ []) → later_first f j os ≡ f (j + i) (get_or os i None)
later_one f l g j i [] b a h = absurd (omega arith)
later_one f l g j zero (o ∷ os) b a h =
    let e : j ≡ j + 0 = omega arith in
    λ i. later_none f l g (j + 1) os a.1 (λ k q c w. h k q (λ x. omega arith) w) i ++ f (e i) o
later_one f l g j (suc i) (o ∷ os) b a h =
    let e : j + 1 + i ≡ j + suc i = omega arith in
    (λ x. later_one f l g (j + 1) i os (omega arith) a.1 (λ k q c w. h k q (λ y. c (omega arith)) w) x ++ h j o (λ y. omega arith) a.0 x)
    ∙ append-nil (f (j + 1 + i) (get_or os i None)) ∙ ap (λ n. f n (get_or os i None)) e

-- places of which one alone may have it
none_any : (f : ℕ → Option Part → Bool) (l g j : ℕ) (os : List (Option Part)) → AreKids l g os → ((k : ℕ) (o : Option Part) → j ≤ k → IsKid l g o → f k o ≡ false) → any_kid f j os ≡ false
none_any f l g j [] a h = refl
none_any f l g j (o ∷ os) a h = rw (h j o (omega arith) a.0) (none_any f l g (j + 1) os a.1 (λ k q b w. h k q (omega arith) w))

nowhere : (f : ℕ → Option Part → Bool) (j : ℕ) (os : List (Option Part)) → ((q : ℕ) → q < length os → f (j + q) (get_or os q None) ≡ false) → any_kid f j os ≡ false
nowhere f j [] h = refl
nowhere f j (o ∷ os) h =
    let z : j ≡ j + 0 = omega arith in
    rw (ap (λ n. f n o) z ∙ h 0 (omega arith)) (nowhere f (j + 1) os (λ q w. let d : j + 1 + q ≡ j + suc q = omega arith in ap (λ n. f n (get_or os q None)) d ∙ h (suc q) (omega arith)))

or_none : (b c : Bool) → c ≡ false → (b || c) ≡ b
or_none true c e = refl
or_none false c e = e

one_any : (f : ℕ → Option Part → Bool) (l g j i : ℕ) (os : List (Option Part)) → i < length os → AreKids l g os → ((k : ℕ) (o : Option Part) → (k ≡ j + i → ⊥) → IsKid l g o → f k o ≡ false) → any_kid f j os ≡ f (j + i) (get_or os i None)
one_any f l g j i [] b a h = absurd (omega arith)
one_any f l g j zero (o ∷ os) b a h =
    let e : j ≡ j + 0 = omega arith in
    or_none (f j o) (any_kid f (j + 1) os) (none_any f l g (j + 1) os a.1 (λ k q c w. h k q (λ x. omega arith) w)) ∙ ap (λ n. f n o) e
one_any f l g j (suc i) (o ∷ os) b a h =
    let e : j + 1 + i ≡ j + suc i = omega arith in
    ap (λ c. c || any_kid f (j + 1) os) (h j o (λ y. omega arith) a.0)
    ∙ one_any f l g (j + 1) i os (omega arith) a.1 (λ k q c w. h k q (λ y. c (omega arith)) w) ∙ ap (λ n. f n (get_or os i None)) e

any_at : (f : ℕ → Option Part → Bool) (j i : ℕ) (os : List (Option Part)) → i < length os → f (j + i) (get_or os i None) ≡ true → any_kid f j os ≡ true
any_at f j i os h e = elim (any_kid f j os) as (λ b. any_kid f j os ≡ b → b ≡ true) [ true ↦ λ t. refl | false ↦ λ t. absurd (true≢false (sym e ∙ any_false f j i os h t)) ] refl

any_alone : (f : ℕ → Option Part → Bool) (j i : ℕ) (os : List (Option Part)) → i < length os → ((q : ℕ) → ¬ (q ≡ i) → q < length os → f (j + q) (get_or os q None) ≡ false) → any_kid f j os ≡ f (j + i) (get_or os i None)
any_alone f j i [] b h = absurd (omega arith)
any_alone f j zero (o ∷ os) b h =
    let e : j ≡ j + 0 = omega arith in
    or_none (f j o) (any_kid f (j + 1) os) (nowhere f (j + 1) os (λ q n. let d : j + 1 + q ≡ j + suc q = omega arith in ap (λ n. f n (get_or os q None)) d ∙ h (suc q) (λ x. omega arith) (omega arith))) ∙ ap (λ n. f n o) e
any_alone f j (suc i) (o ∷ os) b h =
    let e : j + 1 + i ≡ j + suc i = omega arith in
    let z : j ≡ j + 0 = omega arith in
    ap (λ c. c || any_kid f (j + 1) os) (ap (λ n. f n o) z ∙ h 0 (λ x. omega arith) (omega arith))
    ∙ any_alone f (j + 1) i os (omega arith) (λ q n w. let d : j + 1 + q ≡ j + suc q = omega arith in ap (λ n. f n (get_or os q None)) d ∙ h (suc q) (λ x. n (omega arith)) (omega arith)) ∙ ap (λ n. f n (get_or os i None)) e

pub places_of_forest : {A : Type 0} (f : A → Part) (xs : List (Option A)) → places (forest_of f xs) ≡ map (option_map f) xs
places_of_forest f [] = refl
places_of_forest f (None ∷ xs) = ap (λ os. None ∷ os) (places_of_forest f xs)
places_of_forest f (Some x ∷ xs) = ap (λ os. Some (f x) ∷ os) (places_of_forest f xs)

-- what stands at a place, by what its owner holds
pub place_at : {A : Type 0} (f : A → Part) (xs : List (Option A)) (i : ℕ) (d : Option A) → i < length xs → get_or (places (forest_of f xs)) i None ≡ option_map f (get_or xs i d)
place_at f [] i d h = absurd (omega arith)
place_at f (None ∷ xs) zero d h = refl
place_at f (None ∷ xs) (suc i) d h = place_at f xs i d (omega arith)
place_at f (Some x ∷ xs) zero d h = refl
place_at f (Some x ∷ xs) (suc i) d h = place_at f xs i d (omega arith)

-- a node whose place has a part like the one before
pub node_same : {A : Type 0} (f : A → Part) (xs : List (Option A)) (i : ℕ) (x d : Option A) → option_map f x ≡ option_map f (get_or xs i d) → forest_of f (set xs i x) ≡ forest_of f xs
node_same f xs i x d e = sym (forest_of-map f (set xs i x)) ∙ ap (forest_of (λ p. p)) (map-set_same (option_map f) xs i x d e) ∙ forest_of-map f xs

module _ (s : ℕ → Said) (leaf : ℕ) (writes : Bool) (one : IsOneLeaf s leaf writes) where
  -- a key beside the way to the leaf
  beside : (l g j : ℕ) (o : Option Part) → (j ≡ leaf / 16 ^ l → ⊥) → IsKid l g o → touched s l j o ≡ false
  beside l g j o h k =
      touched_same s (λ n. silent) l j g o k (λ n low high. one.others n (λ e. h (sym (ap (λ x. x / 16 ^ l) (sym e) ∙ div-eq_of_lt-le (16 ^ l) low high))))
      ∙ silent_touched (λ n. silent) (λ n. refl) l j o

-- a key on the way to a leaf that is written
module _ (s : ℕ → Said) (leaf : ℕ) (one : IsOneLeaf s leaf true) where
  on_leaf : (j : ℕ) → j ≡ leaf / 16 ^ 0 → s j ≡ full (one.written refl).0
  on_leaf j e = let d : leaf / 16 ^ 0 ≡ leaf = omega arith in ap s (e ∙ d) ∙ (one.written refl).1

  -- the place below
  pub next_index : (l j : ℕ) → j ≡ leaf / 16 ^ suc l → 16 * j + (leaf / 16 ^ l) % 16 ≡ leaf / 16 ^ l
  next_index l j e =
      let up : (leaf / 16 ^ l) / 16 ≡ leaf / 16 ^ suc l = high_digits leaf l 1 (suc l) (let s : l + 1 ≡ suc l = omega arith in s) in
      omega (arith, e, up)

  pub on_touched : (l g j : ℕ) (o : Option Part) → j ≡ leaf / 16 ^ l → IsKid l g o → touched s l j o ≡ true
  on_touched zero g j o e k = touched_at_leaf s j o ∙ ap (λ w. leaf_touched w o) (on_leaf j e)
  on_touched (suc l) g j o e k =
      let kids = kids_of l g o k in
      let i = (leaf / 16 ^ l) % 16 in
      touched_down s l j o
      ∙ any_at (touched s l) (16 * j) i (places_of o) (let n = kids.0 in omega arith)
      (on_touched l g (16 * j + i) (get_or (places_of o) i None) (next_index l j e) (AreKids-at l g (places_of o) i kids.1))

  pub on_stays : (l g j : ℕ) (o : Option Part) → j ≡ leaf / 16 ^ l → IsKid l g o → stays s l j o ≡ true
  on_stays zero g j o e k = stays_at_leaf s j o ∙ ap (λ w. leaf_stays w o) (on_leaf j e)
  on_stays (suc l) g j o e k =
      let kids = kids_of l g o k in
      let i = (leaf / 16 ^ l) % 16 in
      stays_down s l j o
      ∙ ap (λ b. cond b (any_kid (stays s l) (16 * j) (places_of o)) (is_some o)) (on_touched (suc l) g j o e k)
      ∙ any_at (stays s l) (16 * j) i (places_of o) (let n = kids.0 in omega arith)
      (on_stays l g (16 * j + i) (get_or (places_of o) i None) (next_index l j e) (AreKids-at l g (places_of o) i kids.1))

-- one place of a part is on the way to the leaf
module _ (s : ℕ → Said) (l g j p : ℕ) (writes : Bool) (way : IsWay s l j p writes) (o : Option Part) (k : IsKid (suc l) g o) where
  abbrev os : List (Option Part)
  os = places_of o

  kids : (length os ≡ 16) × AreKids l g os
  kids = kids_of l g o k

  within : p < length os
  within = let n = kids.0 in let f = way.few in omega (arith, n, f)

  own : j ≡ way.leaf / 16 ^ suc l
  own = let up : (way.leaf / 16 ^ l) / 16 ≡ way.leaf / 16 ^ suc l = high_digits way.leaf l 1 (suc l) (let e : l + 1 ≡ suc l = omega arith in e) in let f = way.few in let a = way.at in omega (arith, f, a, up)

  -- the places beside the way are not touched
  idle : (q : ℕ) (x : Option Part) → (q ≡ 16 * j + p → ⊥) → IsKid l g x → touched s l q x ≡ false
  idle q x h w = beside s way.leaf writes way.one l g q x (λ e. h (e ∙ sym way.at)) w

  -- so what the places give together is what that one gives
  pub touched_below : any_kid (touched s l) (16 * j) os ≡ touched s l (16 * j + p) (get_or os p None)
  touched_below = one_any (touched s l) l g (16 * j) p os within kids.1 (λ q x n w. idle q x n w)

  -- a part whose leaf is changed changes the one on the way
  pub kid_touched : touched s (suc l) j o ≡ true → touched s l (16 * j + p) (get_or os p None) ≡ true
  kid_touched t = sym touched_below ∙ sym (touched_down s l j o) ∙ t

  below : {A : Type 0} (f : ℕ → Option Part → List A) → ((q : ℕ) (x : Option Part) → touched s l q x ≡ false → f q x ≡ []) → later_first f (16 * j) os ≡ f (16 * j + p) (get_or os p None)
  below f h = later_one f l g (16 * j) p os within kids.1 (λ q x n w. h q x (idle q x n w))

  -- and stays where that one does or another place has a part, and nowhere else
  beside_way : (q : ℕ) → ¬ (q ≡ p) → q < length os → stays s l (16 * j + q) (get_or os q None) ≡ is_some (get_or os q None)
  beside_way q n h = untouched_stays s l (16 * j + q) (get_or os q None) (idle (16 * j + q) (get_or os q None) (λ e. n (omega arith)) (AreKids-at l g os q kids.1))

  pub stays_by_way : stays s l (16 * j + p) (get_or os p None) ≡ true → any_kid (stays s l) (16 * j) os ≡ true
  stays_by_way e = any_at (stays s l) (16 * j) p os within e

  pub stays_by_other : HasOther p os → any_kid (stays s l) (16 * j) os ≡ true
  stays_by_other other = any_at (stays s l) (16 * j) other.at os other.within (beside_way other.at other.other other.within ∙ other.there)

  pub stays_beside : (q : ℕ) → touched s (suc l) j o ≡ true → ¬ (q ≡ p) → q < length os → is_some (get_or os q None) ≡ true → stays s (suc l) j o ≡ true
  stays_beside q t n h there =
      stays_down s l j o ∙ ap (λ b. cond b (any_kid (stays s l) (16 * j) os) (is_some o)) t
      ∙ stays_by_other (record { at = q; other = n; within = h; there = there })

  pub stays_alone : ((q : ℕ) → ¬ (q ≡ p) → get_or os q None ≡ None) → any_kid (stays s l) (16 * j) os ≡ stays s l (16 * j + p) (get_or os p None)
  stays_alone none = any_alone (stays s l) (16 * j) p os within (λ q n h. beside_way q n h ∙ ap is_some (none q n))

  pub claims_below : (y : ℕ) → later_first (claims s y l) (16 * j) os ≡ claims s y l (16 * j + p) (get_or os p None)
  claims_below y = below (claims s y l) (λ q x e. untouched_claims s y l q x e)

  pub released_below : (y : ℕ) → later_first (released s y l) (16 * j) os ≡ released s y l (16 * j + p) (get_or os p None)
  released_below y = below (released s y l) (λ q x e. untouched_released s y l q x e)

  pub dropped_below : (y : ℕ) → later_first (dropped s y l) (16 * j) os ≡ dropped s y l (16 * j + p) (get_or os p None)
  dropped_below y = below (dropped s y l) (λ q x e. untouched_dropped s y l q x e)

  made_below : later_first (made_keys s l) (16 * j) os ≡ made_keys s l (16 * j + p) (get_or os p None)
  made_below = below (made_keys s l) (λ q x e. untouched_made s l q x e)

  parts_below : (number : Key → ℕ) (b : ℕ) → parts (rebuilt s number b l) (16 * j) os ≡ set os p (rebuilt s number b l (16 * j + p) (get_or os p None))
  parts_below number b = parts_one (rebuilt s number b l) l g (16 * j) p os within kids.1 (λ q x h w. untouched_rebuilt s number b l q x (idle q x h w))

  pub keys_below : (bs : List NewBlock) (i : ℕ) → HasKeys bs i (made_keys s (suc l) j o) → HasKeys bs i (made_keys s l (16 * j + p) (get_or os p None))
  keys_below bs i h = subst (HasKeys bs i) made_below (keys_of_kids s l j o bs i h)

  -- once those of the place are passed, the own key is left, if the part stays
  module _ (t : touched s (suc l) j o ≡ true) (u : stays s (suc l) j o ≡ true) (bs : List NewBlock) (i to : ℕ) (x : Option Part) (same : get_or os p None ≡ x) (passed : to ≡ i + length (made_keys s l (16 * j + p) x)) where
    count : length (later_first (made_keys s l) (16 * j) os) ≡ length (made_keys s l (16 * j + p) x)
    count = ap length (made_below ∙ ap (made_keys s l (16 * j + p)) same)

    pub own_key : HasKeys bs i (made_keys s (suc l) j o) → HasKeys bs to (key_at (suc l) j ∷ [])
    own_key h = let e : i + length (later_first (made_keys s l) (16 * j) os) ≡ to = ap (λ n. i + n) count ∙ sym passed in subst (λ n. HasKeys bs n (key_at (suc l) j ∷ [])) e (key_of_own s l j o bs i t u h)

    pub all_passed : to + 1 ≡ i + length (made_keys s (suc l) j o)
    all_passed =
        let m = ap length (made_stays s l j o t u) in
        let a = length-append (later_first (made_keys s l) (16 * j) os) (key_at (suc l) j ∷ []) in
        omega (arith, m, a, count, passed)

-- a part on the way to a leaf that is written is touched, and stays
module _ (s : ℕ → Said) (l g j p : ℕ) (way : IsWay s l j p true) (o : Option Part) (k : IsKid (suc l) g o) where
  pub stays_written : stays s (suc l) j o ≡ true
  stays_written = on_stays s way.leaf way.one (suc l) g j o (own s l g j p true way o k) k

-- a node of which one place is changed
pub node_renewed : {A : Type 0} (s : ℕ → Said) (l g j p : ℕ) (writes : Bool) (way : IsWay s l j p writes) (b n : ℕ) (number : Key → ℕ) (f : A → Part) (o : Part) (kids : List (Option A)) (new d : Option A) → IsKid (suc l) g (Some o) → touched s (suc l) j (Some o) ≡ true → stays s (suc l) j (Some o) ≡ true
    → o.below ≡ forest_of f kids → length kids ≡ 16 → option_map f new ≡ rebuilt s number b l (16 * j + p) (option_map f (get_or kids p d)) → n ≡ number (key_at (suc l) j)
    → Some (record { cell = record { number = n; birth = b; bytes = [] }; below = forest_of f (set kids p new) }) ≡ rebuilt s number b (suc l) j (Some o)
node_renewed s l g j p writes way b n number f o kids new d k t u e w h m =
    let few = way.few in
    let os : places_of (Some o) ≡ map (option_map f) kids = ap places e ∙ places_of_forest f kids in
    let here : get_or (places_of (Some o)) p None ≡ option_map f (get_or kids p d) = ap (λ (x : Forest). get_or (places x) p None) e ∙ place_at f kids p d (omega (arith, few, w)) in
    rebuilt_anew s number b l j (Some o) t u f (set kids p new) n m
    (map-set (option_map f) kids p new
    ∙ (λ i. set (sym os i) p ((h ∙ ap (rebuilt s number b l (16 * j + p)) (sym here)) i))
    ∙ sym (parts_below s l g j p writes way (Some o) k number b))
