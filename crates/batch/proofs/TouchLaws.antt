-- What a batch touches hangs only on what it says of the leaves below.
use Rattle.std.proofs.Common.{◌≡◌, ℕ, zero, suc, ◌+◌, ◌*◌, ◌-◌, ◌^◌, ◌<◌, ◌≤◌, Bool, true, false, cond, List, [], ◌∷◌, ◌++◌, length, get_or, take, replicate, Option, Some, None, refl, sym, ap, ◌∙◌, arith, ◌⊎◌, inl, inr, ⊎_elim, true≢false}
use Rattle.std.specs.Prelude.{◌||◌, ◌&&◌, is_some}
use Rattle.std.proofs.Math.Nat.{mul-le-mul_right}
use Rattle.base.specs.declared.number.Key.{Key}
use Rattle.base.specs.declared.number.Dead.{Dead}
use Rattle.batch.specs.declared.update.Update.{Update}
use Rattle.node.specs.Entries.{key_at}
use Rattle.node.specs.Kid.{IsKid, places_of}
use Rattle.node.specs.Shape.{Part}
use Rattle.batch.specs.Said.{Said, silent, hole, full, said, IsIdle}
use Rattle.batch.specs.Touch.{any_kid, later_first, leaf_touched, leaf_stays, touched, stays, listing, claims, released, dropped, claim_of, let_go, own_block}
use Rattle.batch.specs.Build.{made_keys, leaf_rebuilt, remade, rebuilt}
use Rattle.node.proofs.Places.{kids_of}
use Rattle.batch.proofs.KidLaws.{AgreeOn, kid_agrees, kids_same, any_step, later_step}

-- what is true of a leaf is true of the leaves of its key
leaf_agrees : (s t : ℕ → Said) (j : ℕ) → AgreeOn s t 0 j → s j ≡ t j
leaf_agrees s t j h = h j (omega arith) (omega arith)

module _ (s t : ℕ → Said) where
  pub touched_same : (l j g : ℕ) (o : Option Part) → IsKid l g o → AgreeOn s t l j → touched s l j o ≡ touched t l j o
  unfolding touched
  touched_same zero j g o k h = ap (λ w. leaf_touched w o) (leaf_agrees s t j h)
  touched_same (suc l) j g o k h =
      let kids = kids_of l g o k in
      kids_same (λ a b. a || b) false l g (touched s l) (touched t l) (16 * j) (places_of o) kids.1
      (λ q p a b w. touched_same l q g p w (kid_agrees s t l j q a (let n = kids.0 in omega arith) h))

  pub stays_same : (l j g : ℕ) (o : Option Part) → IsKid l g o → AgreeOn s t l j → stays s l j o ≡ stays t l j o
  unfolding stays
  stays_same zero j g o k h = ap (λ w. leaf_stays w o) (leaf_agrees s t j h)
  stays_same (suc l) j g o k h =
      let kids = kids_of l g o k in
      let below = kids_same (λ a b. a || b) false l g (stays s l) (stays t l) (16 * j) (places_of o) kids.1
      (λ q p a b w. stays_same l q g p w (kid_agrees s t l j q a (let n = kids.0 in omega arith) h)) in
      λ i. cond (touched_same (suc l) j g o k h i) (below i) (is_some o)

  pub listing_same : {A : Type 0} (own own' : ℕ → ℕ → Option Part → List A) → ((l j g : ℕ) (o : Option Part) → IsKid l g o → AgreeOn s t l j → own l j o ≡ own' l j o)
      → (l j g : ℕ) (o : Option Part) → IsKid l g o → AgreeOn s t l j → listing own l j o ≡ listing own' l j o
  unfolding listing
  listing_same own own' e zero j g o k h = e zero j g o k h
  listing_same own own' e (suc l) j g o k h =
      let kids = kids_of l g o k in
      let below = kids_same (λ a b. b ++ a) [] l g (listing own l) (listing own' l) (16 * j) (places_of o) kids.1
      (λ q p a b w. listing_same own own' e l q g p w (kid_agrees s t l j q a (let n = kids.0 in omega arith) h)) in
      λ i. below i ++ e (suc l) j g o k h i

  pub claims_same : (y l j g : ℕ) (o : Option Part) → IsKid l g o → AgreeOn s t l j → claims s y l j o ≡ claims t y l j o
  claims_same y = listing_same (λ l j o. claim_of (touched s l j o) (stays s l j o) (key_at l j) y (own_block o)) (λ l j o. claim_of (touched t l j o) (stays t l j o) (key_at l j) y (own_block o))
      (λ l j g o k h i. claim_of (touched_same l j g o k h i) (stays_same l j g o k h i) (key_at l j) y (own_block o))

  pub released_same : (y l j g : ℕ) (o : Option Part) → IsKid l g o → AgreeOn s t l j → released s y l j o ≡ released t y l j o
  released_same y = listing_same (λ l j o. let_go (touched s l j o) (stays s l j o) y (own_block o)) (λ l j o. let_go (touched t l j o) (stays t l j o) y (own_block o))
      (λ l j g o k h i. let_go (touched_same l j g o k h i) (stays_same l j g o k h i) y (own_block o))

  pub dropped_same : (y l j g : ℕ) (o : Option Part) → IsKid l g o → AgreeOn s t l j → dropped s y l j o ≡ dropped t y l j o
  dropped_same y = listing_same (λ l j o. let_go (touched s l j o) false y (own_block o)) (λ l j o. let_go (touched t l j o) false y (own_block o))
      (λ l j g o k h i. let_go (touched_same l j g o k h i) false y (own_block o))

  pub made_same : (l j g : ℕ) (o : Option Part) → IsKid l g o → AgreeOn s t l j → made_keys s l j o ≡ made_keys t l j o
  made_same = listing_same (λ l j o. cond (touched s l j o && stays s l j o) (key_at l j ∷ []) []) (λ l j o. cond (touched t l j o && stays t l j o) (key_at l j ∷ []) [])
      (λ l j g o k h i. cond (touched_same l j g o k h i && stays_same l j g o k h i) (key_at l j ∷ []) [])

  pub rebuilt_same : (number : Key → ℕ) (b l j g : ℕ) (o : Option Part) → IsKid l g o → AgreeOn s t l j → rebuilt s number b l j o ≡ rebuilt t number b l j o
  unfolding rebuilt
  rebuilt_same number b zero j g o k h = ap (λ w. leaf_rebuilt w (number (key_at 0 j)) b o) (leaf_agrees s t j h)
  rebuilt_same number b (suc l) j g o k h =
      let kids = kids_of l g o k in
      let below = kids_same (λ x y. x ++ y) [] l g (λ q p. rebuilt s number b l q p ∷ []) (λ q p. rebuilt t number b l q p ∷ []) (16 * j) (places_of o) kids.1
      (λ q p x y w. ap (λ r. r ∷ []) (rebuilt_same number b l q g p w (kid_agrees s t l j q x (let n = kids.0 in omega arith) h))) in
      λ i. remade (touched_same (suc l) j g o k h i) (stays_same (suc l) j g o k h i) (number (key_at (suc l) j)) b (below i) o

-- no place of them
pub any_none : (f : ℕ → Option Part → Bool) (j : ℕ) (os : List (Option Part)) → ((k : ℕ) (o : Option Part) → f k o ≡ false) → any_kid f j os ≡ false
any_none f j [] h = refl
any_none f j (o ∷ os) h = rw (h j o) (any_none f (j + 1) os h)

pub any_absent : (f : ℕ → Option Part → Bool) (j n : ℕ) → ((k : ℕ) → f k None ≡ false) → any_kid f j (replicate n None) ≡ false
any_absent f j zero h = refl
any_absent f j (suc n) h = rw (h j) (any_absent f (j + 1) n h)

pub silent_touched : (s : ℕ → Said) → ((n : ℕ) → s n ≡ silent) → (l j : ℕ) (o : Option Part) → touched s l j o ≡ false
unfolding touched
silent_touched s h zero j o = ap (λ w. leaf_touched w o) (h j)
silent_touched s h (suc l) j o = any_none (touched s l) (16 * j) (places_of o) (λ k q. silent_touched s h l k q)

no_write : (w : Said) → (w ≡ silent) ⊎ (w ≡ hole) → leaf_touched w None ≡ false
no_write w h = ⊎_elim (λ e. ap (λ x. leaf_touched x None) e) (λ e. ap (λ x. leaf_touched x None) e) h

absent_touched : (s : ℕ → Said) → ((n : ℕ) → (s n ≡ silent) ⊎ (s n ≡ hole)) → (l j : ℕ) → touched s l j None ≡ false
unfolding touched
absent_touched s h zero j = no_write (s j) (h j)
absent_touched s h (suc l) j = any_absent (touched s l) (16 * j) 16 (λ k. absent_touched s h l k)

-- where a batch is idle nothing is touched
pub idle_touched : (s : ℕ → Said) (l j : ℕ) (o : Option Part) (b : Bool) → b ≡ is_some o → IsIdle s b → touched s l j o ≡ false
idle_touched s l j None b e h = absent_touched s (λ n. ⊎_elim (λ x. inl x) (λ x. inr x.0) (h n)) l j
idle_touched s l j (Some p) b e h = silent_touched s (λ n. ⊎_elim (λ x. x) (λ x. absurd (true≢false (sym e ∙ x.1))) (h n)) l j (Some p)

or_both : (a b : Bool) → (a || b) ≡ false → (a ≡ false) × (b ≡ false)
or_both true b e = absurd (true≢false e)
or_both false b e = (refl, e)

leaf_untouched : (w : Said) (o : Option Part) → leaf_touched w o ≡ false → leaf_stays w o ≡ is_some o
leaf_untouched silent o e = refl
leaf_untouched hole o e = sym e
leaf_untouched (full bytes) o e = absurd (true≢false e)

pub touched_leaf : (s : ℕ → Said) (j : ℕ) (o : Option Part) → touched s 0 j o ≡ false → leaf_touched (s j) o ≡ false
unfolding touched
touched_leaf s j o e = e

-- what isn't touched stays as it is
pub untouched_stays : (s : ℕ → Said) (l j : ℕ) (o : Option Part) → touched s l j o ≡ false → stays s l j o ≡ is_some o
unfolding stays
untouched_stays s zero j o e = leaf_untouched (s j) o (touched_leaf s j o e)
untouched_stays s (suc l) j o e = rw e refl

no_later : {A : Type 0} (s : ℕ → Said) (l : ℕ) (f : ℕ → Option Part → List A) → ((j : ℕ) (o : Option Part) → touched s l j o ≡ false → f j o ≡ []) → (j : ℕ) (os : List (Option Part)) → any_kid (touched s l) j os ≡ false → later_first f j os ≡ []
no_later s l f h j [] e = refl
no_later s l f h j (o ∷ os) e = let p = or_both (touched s l j o) (any_kid (touched s l) (j + 1) os) e in rw (no_later s l f h (j + 1) os p.1) (h j o p.0)

pub untouched_listing : {A : Type 0} (s : ℕ → Said) (own : ℕ → ℕ → Option Part → List A) → ((l j : ℕ) (o : Option Part) → touched s l j o ≡ false → own l j o ≡ []) → (l j : ℕ) (o : Option Part) → touched s l j o ≡ false → listing own l j o ≡ []
unfolding listing touched
untouched_listing s own h zero j o e = h zero j o e
untouched_listing s own h (suc l) j o e = rw (no_later s l (listing own l) (λ q p f. untouched_listing s own h l q p f) (16 * j) (places_of o) e) (h (suc l) j o e)

leaf_same : (w : Said) (n g : ℕ) (o : Option Part) → leaf_touched w o ≡ false → leaf_rebuilt w n g o ≡ o
leaf_same silent n g o e = refl
leaf_same hole n g None e = refl
leaf_same hole n g (Some p) e = absurd (true≢false e)
leaf_same (full bytes) n g o e = absurd (true≢false e)

pub untouched_rebuilt : (s : ℕ → Said) (number : Key → ℕ) (g l j : ℕ) (o : Option Part) → touched s l j o ≡ false → rebuilt s number g l j o ≡ o
unfolding rebuilt
untouched_rebuilt s number g zero j o e = leaf_same (s j) (number (key_at 0 j)) g o (touched_leaf s j o e)
untouched_rebuilt s number g (suc l) j o e = rw e refl

untouched_own : {A : Type 0} (t p : Bool) (x : A) → t ≡ false → cond (t && p) (x ∷ []) [] ≡ []
untouched_own true p x e = absurd (true≢false e)
untouched_own false p x e = refl

untouched_goes : (t p : Bool) (y : ℕ) (d : Option Dead) → t ≡ false → let_go t p y d ≡ []
untouched_goes t p y None e = refl
untouched_goes true p y (Some d) e = absurd (true≢false e)
untouched_goes false p y (Some d) e = refl

pub untouched_claims : (s : ℕ → Said) (y l j : ℕ) (o : Option Part) → touched s l j o ≡ false → claims s y l j o ≡ []
untouched_claims s y = untouched_listing s _ (λ l j o e. untouched_own (touched s l j o) (stays s l j o) _ e)

pub untouched_released : (s : ℕ → Said) (y l j : ℕ) (o : Option Part) → touched s l j o ≡ false → released s y l j o ≡ []
untouched_released s y = untouched_listing s _ (λ l j o e. untouched_goes (touched s l j o) (stays s l j o) y (own_block o) e)

pub untouched_dropped : (s : ℕ → Said) (y l j : ℕ) (o : Option Part) → touched s l j o ≡ false → dropped s y l j o ≡ []
untouched_dropped s y = untouched_listing s _ (λ l j o e. untouched_goes (touched s l j o) false y (own_block o) e)

pub untouched_made : (s : ℕ → Said) (l j : ℕ) (o : Option Part) → touched s l j o ≡ false → made_keys s l j o ≡ []
untouched_made s = untouched_listing s _ (λ l j o e. untouched_own (touched s l j o) (stays s l j o) _ e)

-- one level of each
pub touched_down : (s : ℕ → Said) (l j : ℕ) (o : Option Part) → touched s (suc l) j o ≡ any_kid (touched s l) (16 * j) (places_of o)
unfolding touched
touched_down s l j o = refl

pub touched_at_leaf : (s : ℕ → Said) (j : ℕ) (o : Option Part) → touched s 0 j o ≡ leaf_touched (s j) o
unfolding touched
touched_at_leaf s j o = refl

pub stays_down : (s : ℕ → Said) (l j : ℕ) (o : Option Part) → stays s (suc l) j o ≡ cond (touched s (suc l) j o) (any_kid (stays s l) (16 * j) (places_of o)) (is_some o)
unfolding stays
stays_down s l j o = refl

pub stays_at_leaf : (s : ℕ → Said) (j : ℕ) (o : Option Part) → stays s 0 j o ≡ leaf_stays (s j) o
unfolding stays
stays_at_leaf s j o = refl

pub listing_down : {A : Type 0} (own : ℕ → ℕ → Option Part → List A) (l j : ℕ) (o : Option Part) → listing own (suc l) j o ≡ later_first (listing own l) (16 * j) (places_of o) ++ own (suc l) j o
unfolding listing
listing_down own l j o = refl

pub listing_at_leaf : {A : Type 0} (own : ℕ → ℕ → Option Part → List A) (j : ℕ) (o : Option Part) → listing own 0 j o ≡ own 0 j o
unfolding listing
listing_at_leaf own j o = refl

-- what the updates for a place say, and those for the places before it
pub kid_words : (rest mine earlier us : List Update) (first back span h : ℕ) → back < 16 → span ≡ 16 ^ h
    → ((n : ℕ) → (first + (15 - back)) * span ≤ n → said mine n ≡ said rest n) → ((n : ℕ) → n < (first + (15 - back)) * span → said earlier n ≡ said rest n)
    → ((n : ℕ) → n < (first + (16 - back)) * 16 ^ h → said rest n ≡ said us n)
    → AgreeOn (said mine) (said us) h (first + (15 - back)) × ((n : ℕ) → n < (first + (16 - (back + 1))) * 16 ^ h → said earlier n ≡ said us n)
kid_words rest mine earlier us first back span h b e after before same =
    let place : first + (15 - back) + 1 ≡ first + (16 - back) = omega arith in
    let next : first + (16 - (back + 1)) ≡ first + (15 - back) = omega arith in
    let w : (first + (15 - back)) * span ≡ (first + (15 - back)) * 16 ^ h = ap (λ x. (first + (15 - back)) * x) e in
    let p : (first + (15 - back) + 1) * 16 ^ h ≡ (first + (16 - back)) * 16 ^ h = ap (λ x. x * 16 ^ h) place in
    let q : (first + (16 - (back + 1))) * 16 ^ h ≡ (first + (15 - back)) * 16 ^ h = ap (λ x. x * 16 ^ h) next in
    let m = mul-le-mul_right {m = first + (15 - back)} {n = first + (16 - back)} (16 ^ h) (omega arith) in
    ((λ n low high. after n (omega arith) ∙ same n (omega arith)), (λ n l. before n (omega arith) ∙ same n (omega arith)))

-- a step over the places, by how many were passed, where two batches give the same at the place
pub any_back : (f f' : ℕ → Option Part → Bool) (j back : ℕ) (os : List (Option Part)) (kid : Option Part) (a b all : Bool) → back < 16 → length os ≡ 16 → kid ≡ get_or os (15 - back) None
    → (a || any_kid f j (take (16 - back) os)) ≡ all → b ≡ f' (j + (15 - back)) kid → f' (j + (15 - back)) kid ≡ f (j + (15 - back)) kid → ((a || b) || any_kid f j (take (16 - (back + 1)) os)) ≡ all
any_back f f' j back os kid a b all h n at e given same =
    let now : 15 - back + 1 ≡ 16 - back = omega arith in
    let next : 15 - back ≡ 16 - (back + 1) = omega arith in
    ap (λ k. (a || b) || any_kid f j (take k os)) (sym next)
    ∙ any_step f j (15 - back) os a b all (omega arith) (ap (λ k. a || any_kid f j (take k os)) now ∙ e) (given ∙ same ∙ ap (f (j + (15 - back))) at)

pub later_back : {A : Type 0} (f f' : ℕ → Option Part → List A) (j back : ℕ) (os : List (Option Part)) (kid : Option Part) (xs ys all : List A) → back < 16 → length os ≡ 16 → kid ≡ get_or os (15 - back) None
    → xs ++ later_first f j (take (16 - back) os) ≡ all → ys ≡ xs ++ f' (j + (15 - back)) kid → f' (j + (15 - back)) kid ≡ f (j + (15 - back)) kid → ys ++ later_first f j (take (16 - (back + 1)) os) ≡ all
later_back f f' j back os kid xs ys all h n at e given same =
    let now : 15 - back + 1 ≡ 16 - back = omega arith in
    let next : 15 - back ≡ 16 - (back + 1) = omega arith in
    ap (λ k. ys ++ later_first f j (take k os)) (sym next)
    ∙ later_step f j (15 - back) os xs ys (f' (j + (15 - back)) kid) all (omega arith) (ap (λ k. xs ++ later_first f j (take k os)) now ∙ e) given (same ∙ ap (f (j + (15 - back))) at)

-- what a key itself gives
pub own_claims : (s : ℕ → Said) (y l j level : ℕ) (o : Option Part) (t p : Bool) (d : Option Dead) → level ≡ l → t ≡ touched s l j o → p ≡ stays s l j o → d ≡ own_block o
    → claim_of t p (record { level = level; index = j }) y d ≡ claim_of (touched s l j o) (stays s l j o) (key_at l j) y (own_block o)
own_claims s y l j level o t p d e a b f = λ i. claim_of (a i) (b i) (record { level = e i; index = j }) y (f i)

pub own_released : (s : ℕ → Said) (y l j : ℕ) (o : Option Part) (t p : Bool) (d : Option Dead) → t ≡ touched s l j o → p ≡ stays s l j o → d ≡ own_block o
    → let_go t p y d ≡ let_go (touched s l j o) (stays s l j o) y (own_block o)
own_released s y l j o t p d a b f = λ i. let_go (a i) (b i) y (f i)

pub claims_at_leaf : (s : ℕ → Said) (y j : ℕ) (o : Option Part) → claims s y 0 j o ≡ claim_of (touched s 0 j o) (stays s 0 j o) (key_at 0 j) y (own_block o)
claims_at_leaf s y j o = listing_at_leaf _ j o

pub released_at_leaf : (s : ℕ → Said) (y j : ℕ) (o : Option Part) → released s y 0 j o ≡ let_go (touched s 0 j o) (stays s 0 j o) y (own_block o)
released_at_leaf s y j o = listing_at_leaf _ j o

pub claims_down : (s : ℕ → Said) (y l j : ℕ) (o : Option Part) → claims s y (suc l) j o ≡ later_first (claims s y l) (16 * j) (places_of o) ++ claim_of (touched s (suc l) j o) (stays s (suc l) j o) (key_at (suc l) j) y (own_block o)
claims_down s y l j o = listing_down _ l j o

pub released_down : (s : ℕ → Said) (y l j : ℕ) (o : Option Part) → released s y (suc l) j o ≡ later_first (released s y l) (16 * j) (places_of o) ++ let_go (touched s (suc l) j o) (stays s (suc l) j o) y (own_block o)
released_down s y l j o = listing_down _ l j o

pub dropped_at_leaf : (s : ℕ → Said) (y j : ℕ) (o : Option Part) → dropped s y 0 j o ≡ let_go (touched s 0 j o) false y (own_block o)
dropped_at_leaf s y j o = listing_at_leaf _ j o

pub dropped_down : (s : ℕ → Said) (y l j : ℕ) (o : Option Part) → dropped s y (suc l) j o ≡ later_first (dropped s y l) (16 * j) (places_of o) ++ let_go (touched s (suc l) j o) false y (own_block o)
dropped_down s y l j o = listing_down _ l j o

-- a key's fate, by that of its places
pub fate_touched : (s : ℕ → Said) (l j : ℕ) (o : Option Part) (t : Bool) → t ≡ any_kid (touched s l) (16 * j) (places_of o) → t ≡ touched s (suc l) j o
fate_touched s l j o t e = e ∙ sym (touched_down s l j o)

pub fate_stays : (s : ℕ → Said) (l j : ℕ) (o : Option Part) (t p b : Bool) → t ≡ any_kid (touched s l) (16 * j) (places_of o) → p ≡ any_kid (stays s l) (16 * j) (places_of o) → b ≡ is_some o → cond t p b ≡ stays s (suc l) j o
fate_stays s l j o t p b e f h = (λ i. cond (fate_touched s l j o t e i) (f i) (h i)) ∙ sym (stays_down s l j o)

-- indices fit
pub key_fits : (l j : ℕ) → (j + 1) * 16 ^ l ≤ 1048576 → j + 1 ≤ 1048576
key_fits l j h = let p = Rattle.node.proofs.Order.span_positive l in let m = Rattle.std.proofs.Math.Nat.mul-le-mul_left {m = 1} {n = 16 ^ l} (j + 1) p in omega (arith, m, h)

pub kid_span : (level h j : ℕ) → level ≡ suc h → (j + 1) * 16 ^ level ≤ 1048576 → (16 * j + 16) * 16 ^ (level - 1) ≤ 1048576
kid_span level h j e b =
    let d : level - 1 ≡ h = omega arith in
    let p : 16 ^ level ≡ 16 ^ h * 16 = ap (λ n. 16 ^ n) e ∙ Rattle.std.proofs.Math.Nat.pow-suc 16 h in
    let q : (j + 1) * 16 ^ level ≡ (j + 1) * (16 ^ h * 16) = ap (λ x. (j + 1) * x) p in
    let r : (16 * j + 16) * 16 ^ (level - 1) ≡ (16 * j + 16) * 16 ^ h = ap (λ n. (16 * j + 16) * 16 ^ n) d in
    omega (arith, q, r, b)
